use Rattle.drive.proofs.Programs.{sound}
use Rattle.analyses.specs.ConstantPlans.{constants_answer}
use Rattle.analyses.proofs.constants.Constants.over.Goals as goal

pub returns-clause-equation : goal.returns-clause-equation
returns-clause-equation c = search (constants_answer, sound)
