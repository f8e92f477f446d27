use Rattle.equations.proofs.Histories.{asks_end}
use Rattle.equations.proofs.theorems.asks_end.Goals as goal

pub returns : goal.returns
returns g c = asks_end _ g.met.E.Equations.lawful
