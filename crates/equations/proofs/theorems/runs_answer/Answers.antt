use Rattle.equations.proofs.Histories.{runs_answer}
use Rattle.equations.proofs.theorems.runs_answer.Goals as goal

pub returns : goal.returns
returns g c = runs_answer _ g.met.E.Equations.lawful
