use Rattle.std.proofs.Common.{◌-◌, length}
use Rattle.equations.specs.Systems.{system}
use Rattle.memory.specs.Layout.{stored}
use Rattle.memory.proofs.Going.{Going}
use Rattle.memory.proofs.entries.Entries.evaluate.Given as goal

abbrev pub invariant-loop-value : goal.invariant-loop-value
invariant-loop-value g l = Going (system g.V.Lattice.kind (g.E.Equations.meaning l.equations)) (stored l.self.cells.now) (g.E.Equations.stands l.equations l.run) l.x l.trail.items

abbrev pub decreases-loop-value : goal.decreases-loop-value
decreases-loop-value g l = 1024 - length l.trail.items
