use Rattle.std.proofs.Common.{◌≡◌, drop}
use Rattle.equations.specs.Systems.{system}
use Rattle.equations.specs.Semantics.{Semantics, semantics}
use Rattle.equations.specs.Invariant.{Valid}
use Rattle.memory.specs.Notebooks.{held, room_of}
use Rattle.solver.specs.Claim.{ClaimOn}
use Rattle.solver.proofs.replays.perform_all.Given as goal

abbrev pub invariant-loop-k : goal.invariant-loop-k
invariant-loop-k g l =
    let sem : Semantics g.row.E.Denot g.row.E-Change.Denot g.row.V.Denot g.row.E-Fault.Denot = semantics g.V.Lattice.kind g.E.Equations.meaning g.E.Equations.refusal g.E.Equations.touched in
    Valid (system g.V.Lattice.kind (g.E.Equations.meaning l.equations)) (held l.notebook)
    × ClaimOn sem g.E.Equations.changed (room_of l.fn.notebook) l.k l.fn.equations l.calls l.answers l.equations (held l.notebook)
    × (room_of l.notebook ≡ room_of l.fn.notebook)
    × (drop l.k l.answers ≡ drop l.k l.fn.answers)
