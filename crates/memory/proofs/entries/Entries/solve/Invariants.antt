use Rattle.std.proofs.Common.{◌≡◌, length}
use Rattle.equations.specs.Systems.{system}
use Rattle.equations.specs.Steps.{Steps}
use Rattle.equations.specs.Measure.{measure}
use Rattle.memory.specs.Solving.{reached}
use Rattle.memory.proofs.entries.Entries.solve.Given as goal

abbrev pub invariant-loop-p : goal.invariant-loop-p
invariant-loop-p g l =
    Steps (system g.V.Lattice.kind (g.E.Equations.meaning l.fn.equations)) (reached l.initial.solving) (reached l.solving)
    × (length l.solving.entries.now.cells.now ≡ length l.initial.solving.entries.now.cells.now)
    × (l.solving.size ≡ l.initial.solving.size)
    × (l.solving.equations ≡ l.initial.solving.equations)
    × (l.solving.entries.ghost_name ≡ l.initial.solving.entries.ghost_name)

abbrev pub decreases-loop-p : goal.decreases-loop-p
decreases-loop-p g l = measure (system g.V.Lattice.kind (g.E.Equations.meaning l.fn.equations)) (reached l.solving)
