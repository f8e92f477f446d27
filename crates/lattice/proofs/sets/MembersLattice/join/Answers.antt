use lib.Bits.{or_lt}
use Rattle.std.proofs.Common.{rules}
use Rattle.lattice.specs.SetLaws.{is_union}
use Rattle.lattice.proofs.sets.MembersLattice.join.Goals as goal

pub invariant_of-result : goal.invariant_of-result
invariant_of-result c = let h = or_lt 64 c.args.self.bits c.args.other.bits in search rules

pub returns : goal.returns
returns c = let h = is_union c.args.self c.args.other in search rules
