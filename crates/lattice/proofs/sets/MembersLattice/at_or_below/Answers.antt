use Rattle.std.proofs.Common.{rules}
use Rattle.lattice.specs.SetLaws.{within_union, union_within}
use Rattle.lattice.proofs.sets.MembersLattice.at_or_below.Goals as goal

pub returns : goal.returns
returns c =
    let h = within_union c.args.self c.args.other in
    let k = union_within c.args.self c.args.other in
    search rules
