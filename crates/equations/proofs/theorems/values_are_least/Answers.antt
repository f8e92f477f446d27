use Rattle.equations.proofs.Histories.{values_are_least}
use Rattle.equations.proofs.theorems.values_are_least.Goals as goal

pub returns : goal.returns
returns g c = values_are_least _ g.met.E.Equations.lawful
