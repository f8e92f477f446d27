use Rattle.std.proofs.Common.{rules}
use Rattle.lattice.specs.SetLaws.{has_cut}
use Rattle.lattice.proofs.members.Members.remove.Goals as goal

pub returns-then-m-lt64 : goal.returns-then-m-lt64
returns-then-m-lt64 c = let h = has_cut c.args.self.now in search rules
