use Rattle.std.proofs.Common.{◌||◌}
use Rattle.memory.specs.Bits.{bit}
use Rattle.memory.proofs.Links.{Changed}
use Rattle.memory.proofs.set.Set.add.Given as goal

abbrev pub invariant-loop-k : goal.invariant-loop-k
invariant-loop-k l = Changed l.initial.self.words l.self.words (λ j b. b || bit l.row j) l.k
