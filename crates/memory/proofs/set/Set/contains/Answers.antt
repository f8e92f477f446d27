use Rattle.std.proofs.Common.{sym, ◌∙◌, arith}
use Rattle.std.proofs.lemmas.Bool.{le-ltb}
use Rattle.lattice.specs.Words.{tested}
use Rattle.memory.proofs.Words.{bit_is}
use Rattle.memory.proofs.Links.{bit_past}
use Rattle.memory.proofs.set.Set.contains.Goals as goal

pub returns-then-i-lt512 : goal.returns-then-i-lt512
returns-then-i-lt512 c = tested _ _ ∙ sym (bit_is c.args.self.now.words c.args.i)

pub returns-else-i-lt512 : goal.returns-else-i-lt512
returns-else-i-lt512 c = le-ltb c.args.i 512 (omega arith) ∙ sym (bit_past c.args.self.now.words c.args.i (omega arith))
