use Rattle.lattice.specs.SetLaws.{sets_are_their_members}
use Rattle.lattice.proofs.sets.sets_are_their_members.Goals as goal

pub returns : goal.returns
returns c = sets_are_their_members
