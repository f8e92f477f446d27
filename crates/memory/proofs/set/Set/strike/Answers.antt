use Rattle.std.proofs.Common.{not, ◌&&◌, arith, rules}
use Rattle.memory.specs.Bits.{bit}
use Rattle.memory.proofs.Links.{changed_more, strike_word, struck}
use Rattle.memory.proofs.set.Set.strike.Goals as goal

pub loop-k-preserved : goal.loop-k-preserved
loop-k-preserved c =
    changed_more c.args.row.now c.loop-k.row (λ j b. b && not (bit c.args.self.now.words j)) c.loop-k.k _ (omega arith) c.loop-k.invariant
    (λ j e. strike_word c.loop-k.row c.args.self.now.words c.loop-k.k j (search rules) e)

pub returns : goal.returns
returns c = struck c.args.row.now c.loop-k.row c.args.self.now.words c.loop-k.k (omega arith) c.loop-k.invariant
