use Rattle.std.proofs.Common.{arith}
use Rattle.fields.specs.Readers.{said, next_of, text_of, place_of}
use Rattle.fields.proofs.Parts.{fields_few, next_few}
use Rattle.text.proofs.Marks.{at_first, none_bad, this_bad, next_good}
use Rattle.text.proofs.names.bad_name.Goals as goal

pub loop-n-init : goal.loop-n-init
loop-n-init c =
    let off = c.default-had.ensures in
    rw c.into_iter-n-iterator.ensures.into_iter_gives (at_first _ _ (record { op_had = off.0; a_had = off.1.0; b_had = off.1.1 }))

pub returns-in_default-with : goal.returns-in_default-with
returns-in_default-with c = this_bad _ _ c.in-Some.ensures.steps.0 _ _ c.loop-n.invariant (said c.in-Some-field.name) c.in-Some-field.ensures.value c.in_default-with.ensures

pub loop-n-preserved : goal.loop-n-preserved
loop-n-preserved c =
    let (is_n, next) = c.in-Some.ensures.steps in
    rw next (next_good _ _ is_n _ _ c.loop-n.invariant (said c.in-Some-field.name) c.in-Some-field.ensures.value c.in-Some-with.more c.in-Some-with.ensures)

-- A line has far fewer fields than there are numbers.
pub returns-in-None : goal.returns-in-None
returns-in-None c =
    let reader = c.args.reader.now in
    let high = c.loop-n.invariant.high in
    let few = fields_few (next_of reader) in
    let short = next_few (text_of reader) (place_of reader) in
    let top = c.in-None.ensures.steps.0 in
    absurd (omega arith)

pub returns-in_default : goal.returns-in_default
returns-in_default c = none_bad _ _ c.in-Some.ensures.steps.0 _ _ c.loop-n.invariant c.in_default.ensures.value
