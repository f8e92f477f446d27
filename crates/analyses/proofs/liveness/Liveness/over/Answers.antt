use Rattle.drive.proofs.Programs.{sound}
use Rattle.analyses.specs.LivenessPlans.{liveness_answers}
use Rattle.analyses.proofs.liveness.Liveness.over.Goals as goal

pub returns-clause-equation : goal.returns-clause-equation
returns-clause-equation c = search (liveness_answers, sound)
