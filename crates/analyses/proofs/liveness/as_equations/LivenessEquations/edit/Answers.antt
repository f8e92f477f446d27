use Rattle.std.proofs.Common.{refl}
use Rattle.analyses.proofs.LivenessSteps.{edited}
use Rattle.analyses.proofs.liveness.as_equations.LivenessEquations.edit.Goals as goal

pub returns-clause-outcome : goal.returns-clause-outcome
returns-clause-outcome c =
    edited c.args.self.now (record { program = c.edit.new.self }) c.args.change.p c.args.change.line _ _ refl c.edit.ensures
