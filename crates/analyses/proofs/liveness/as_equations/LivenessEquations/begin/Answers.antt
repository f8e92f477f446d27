use Rattle.drive.proofs.Programs.{sound}
use Rattle.analyses.specs.LivenessPlans.{liveness_lawful}
use Rattle.analyses.proofs.liveness.as_equations.LivenessEquations.begin.Goals as goal

pub returns-clause-lawful : goal.returns-clause-lawful
returns-clause-lawful c = search (liveness_lawful, sound)
