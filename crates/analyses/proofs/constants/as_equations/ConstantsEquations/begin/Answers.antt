use Rattle.drive.proofs.Programs.{sound}
use Rattle.analyses.specs.ConstantPlans.{constants_lawful}
use Rattle.analyses.proofs.constants.as_equations.ConstantsEquations.begin.Goals as goal

pub returns-clause-lawful : goal.returns-clause-lawful
returns-clause-lawful c = search (constants_lawful, sound)
