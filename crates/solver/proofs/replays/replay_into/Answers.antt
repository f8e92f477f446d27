use Rattle.std.proofs.Common.{rules, ℕ, subst}
use Rattle.equations.specs.Semantics.{Semantics, semantics}
use Rattle.memory.specs.Notebooks.{held}
use Rattle.solver.specs.Claim.{ClaimOn}
use Rattle.solver.proofs.replays.replay_into.Goals as goal

pub returns-clause-claim : goal.returns-clause-claim
returns-clause-claim g c =
    let sem : Semantics g.row.E.Denot g.row.E-Change.Denot g.row.V.Denot g.row.E-Fault.Denot = semantics g.V.Lattice.kind g.E.Equations.meaning g.E.Equations.refusal g.E.Equations.touched in
    subst (λ (n : ℕ). ClaimOn sem g.E.Equations.changed n c.perform_all.result c.args.equations.now c.args.calls.now c.perform_all.new.answers c.perform_all.new.equations (held c.perform_all.new.notebook))
    (search rules) c.perform_all.ensures.claim
