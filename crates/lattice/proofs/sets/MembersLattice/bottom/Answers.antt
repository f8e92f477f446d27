use Rattle.std.proofs.Common.{rules}
use Rattle.lattice.specs.SetLaws.{is_none}
use Rattle.lattice.proofs.sets.MembersLattice.bottom.Goals as goal

pub returns : goal.returns
returns c = let h = is_none in search rules
