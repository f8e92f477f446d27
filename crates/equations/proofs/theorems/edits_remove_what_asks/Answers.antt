use Rattle.equations.proofs.Histories.{edits_remove_what_asks}
use Rattle.equations.proofs.theorems.edits_remove_what_asks.Goals as goal

pub returns : goal.returns
returns g c = edits_remove_what_asks _ g.met.E.Equations.lawful
