use Rattle.equations.proofs.Histories.{answers_are_as_new}
use Rattle.equations.proofs.theorems.answers_are_as_new.Goals as goal

pub returns : goal.returns
returns g c = answers_are_as_new _ g.met.E.Equations.lawful
