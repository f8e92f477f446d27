use Rattle.std.proofs.Common.{◌-◌}
use Rattle.equations.specs.Systems.{system}
use Rattle.equations.proofs.Evaluating.{Going}
use Rattle.equations.proofs.evaluation.evaluate.Given as goal

abbrev pub invariant-loop-value : goal.invariant-loop-value
invariant-loop-value g l = Going (system g.V.Lattice.kind (g.E.Equations.meaning l.equations)) l.values (g.E.Equations.stands l.equations l.run) l.x l.asks

abbrev pub decreases-loop-value : goal.decreases-loop-value
decreases-loop-value g l = 1024 - l.asks
