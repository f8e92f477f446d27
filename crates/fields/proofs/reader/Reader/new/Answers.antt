use Rattle.std.proofs.Common.{◌≡◌, ℕ, true, List, refl, arith}
use Rattle.std.proofs.lemmas.Bool.{or_right}
use Rattle.fields.specs.Lines.{lines, begins_line}
use Rattle.fields.proofs.reader.Reader.new.Goals as goal

at_front : (t : List ℕ) → begins_line t 0 ≡ true
at_front t = or_right _ _ refl

pub invariant_of-result : goal.invariant_of-result
unfolding lines
invariant_of-result c = record { within = omega arith; begins = at_front c.args.text.now; counted = refl; few = omega arith }
