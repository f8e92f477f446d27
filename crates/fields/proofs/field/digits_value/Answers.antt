use Rattle.std.proofs.Common.{rules, ◌≡◌, take, Some, pos, ap, ◌∙◌, subst, arith}
use Rattle.std.specs.Str.Parse.{digits_value as value, AllDigits}
use Rattle.std.proofs.lemmas.Int.{ints}
use Rattle.std.proofs.lemmas.List.{take_all}
use Rattle.std.proofs.lemmas.Str.Parse.{digit_at}
use Rattle.fields.proofs.Numbers.{number_none, number_zero, digits_plain, digits_step, value_room, number_read}
use Rattle.fields.proofs.field.digits_value.Goals as goal

pub returns-in-48 : goal.returns-in-48
returns-in-48 c = number_zero c.args.digits.now (omega arith) (omega arith)

pub returns-then-not-is_ascii_digit : goal.returns-then-not-is_ascii_digit
returns-then-not-is_ascii_digit c =
    number_none c.args.digits.now (λ p.
    let d = digit_at c.args.digits.now c.loop-digit.digit-index (digits_plain c.args.digits.now p) c.loop-digit-test.true in
    omega (arith, c.if-not-is_ascii_digit.ensures.cases))

pub overflow_mul-value : goal.overflow_mul-value
overflow_mul-value c =
    let room = value_room c.args.digits.now c.loop-digit.digit-index c.if-digits-le5.true c.loop-digit-test.true c.loop-digit.invariant.digits in
    omega (arith, ints, c.loop-digit.invariant.is)

pub overflow_add-value : goal.overflow_add-value
overflow_add-value c =
    let room = value_room c.args.digits.now c.loop-digit.digit-index c.if-digits-le5.true c.loop-digit-test.true c.loop-digit.invariant.digits in
    omega (arith, ints, c.loop-digit.invariant.is, c.from.ensures, c.if-not-is_ascii_digit.ensures.cases)

pub loop-digit-preserved : goal.loop-digit-preserved
loop-digit-preserved c =
    let (low, high) = c.if-not-is_ascii_digit.ensures.cases in
    let room = value_room c.args.digits.now c.loop-digit.digit-index c.if-digits-le5.true c.loop-digit-test.true c.loop-digit.invariant.digits in
    let (more, is) = digits_step c.args.digits.now c.loop-digit.digit-index c.loop-digit-test.true low high c.loop-digit.invariant.digits in
    record { digits = more; is = omega (arith, ints, is, c.loop-digit.invariant.is, c.from.ensures) }

pub returns-after-loop-digit : goal.returns-after-loop-digit
returns-after-loop-digit c =
    let ds = c.args.digits.now in
    let all : take c.loop-digit.digit-index ds ≡ ds = take_all c.loop-digit.digit-index ds c.loop-digit-test.false in
    let digits : AllDigits 10 ds = subst (AllDigits 10) all c.loop-digit.invariant.digits in
    ap Some (c.loop-digit.invariant.is ∙ ap (λ t. pos (value 10 t)) all) ∙ number_read ds digits (search rules) c.if-digits-le5.true
