use Rattle.std.proofs.Common.{rules}
use Rattle.lattice.specs.SetLaws.{put_fits, has_put}
use Rattle.lattice.proofs.members.Members.insert.Goals as goal

pub invariant_of-self : goal.invariant_of-self
invariant_of-self c = let h = put_fits c.args.self.now in search rules

pub returns-then-m-lt64 : goal.returns-then-m-lt64
returns-then-m-lt64 c = let h = has_put c.args.self.now in search rules
