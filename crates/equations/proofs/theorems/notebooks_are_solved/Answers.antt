use Rattle.equations.proofs.Histories.{notebooks_are_solved}
use Rattle.equations.proofs.theorems.notebooks_are_solved.Goals as goal

pub returns : goal.returns
returns g c = notebooks_are_solved _ g.met.E.Equations.lawful
