use Rattle.std.proofs.Common.{◌||◌, arith}
use Rattle.memory.specs.Bits.{bit}
use Rattle.memory.proofs.Links.{changed_more, add_word, added}
use Rattle.memory.proofs.set.Set.add.Goals as goal

pub loop-k-preserved : goal.loop-k-preserved
loop-k-preserved c =
    changed_more c.args.self.now.words c.loop-k.self.words (λ j b. b || bit c.args.row.now j) c.loop-k.k _ (omega arith) c.loop-k.invariant
    (add_word c.loop-k.self.words c.args.row.now c.loop-k.k)

pub returns : goal.returns
returns c = added c.args.self.now.words c.loop-k.self.words c.args.row.now c.loop-k.k (omega arith) c.loop-k.invariant
