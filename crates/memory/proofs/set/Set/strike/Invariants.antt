use Rattle.std.proofs.Common.{not, ◌&&◌}
use Rattle.memory.specs.Bits.{bit}
use Rattle.memory.proofs.Links.{Changed}
use Rattle.memory.proofs.set.Set.strike.Given as goal

abbrev pub invariant-loop-k : goal.invariant-loop-k
invariant-loop-k l = Changed l.initial.row l.row (λ j b. b && not (bit l.self.words j)) l.k
