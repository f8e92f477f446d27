use lib.Count.{ones-le}
use Rattle.std.proofs.Common.{rules}
use Rattle.lattice.specs.SetLaws.{ones_members}
use Rattle.lattice.proofs.sets.MembersLattice.rank.Goals as goal

pub overflow_cast-result : goal.overflow_cast-result
overflow_cast-result c = let h = ones-le 64 c.args.self.bits c.args.self.word in search rules

pub returns : goal.returns
returns c = let h = ones_members c.args.self in search rules
