use Rattle.std.proofs.Common.{rules}
use Rattle.std.specs.Prelude.{false}
use Rattle.lattice.specs.SetLaws.{has_none, sets_are_their_members}
use Rattle.lattice.proofs.members.Members.empty.Goals as goal

-- The word 0 has no member, however the body comes by it: so what refuses another word is the word.
pub returns : goal.returns
returns c = let h = has_none in let k = sets_are_their_members.made (λ k. false) in search rules
