use Rattle.toys.specs.Reaching.{lawful}
use Rattle.toys.proofs.reach.GraphEquations.begin.Goals as goal

pub returns-in-Some-clause-lawful : goal.returns-in-Some-clause-lawful
returns-in-Some-clause-lawful c = lawful c.args.self.now

pub returns-in-None-clause-lawful : goal.returns-in-None-clause-lawful
returns-in-None-clause-lawful c = lawful c.args.self.now
