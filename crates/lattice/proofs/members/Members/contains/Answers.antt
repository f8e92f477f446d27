use Rattle.std.proofs.Common.{rules}
use Rattle.lattice.specs.SetLaws.{has_tested, has_past}
use Rattle.lattice.proofs.members.Members.contains.Goals as goal

pub returns-then-m-lt64 : goal.returns-then-m-lt64
returns-then-m-lt64 c = let h = has_tested c.args.self c.args.m in search rules

pub returns-else-m-lt64 : goal.returns-else-m-lt64
returns-else-m-lt64 c = let h = has_past c.args.self c.args.m in search rules
