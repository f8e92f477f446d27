use Rattle.memory.proofs.Removing.{Closing}
use Rattle.memory.proofs.parts.drop_from.Given as goal

abbrev pub invariant-loop-k : goal.invariant-loop-k
invariant-loop-k g l = Closing l.initial.cells l.cells l.gone.words l.left l.k
