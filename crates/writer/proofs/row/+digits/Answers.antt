use Rattle.std.proofs.Common.{length, ap, arith, append_assoc, length-append}
use Rattle.std.proofs.lemmas.Fmt.{decimal_digit, decimal_step, decimal_nonempty}
use Rattle.std.proofs.lemmas.Str.{encode_ascii}
use Rattle.writer.proofs.row.+digits.Goals as goal

pub push-requires : goal.push-requires
push-requires t c =
    let one = ap length (encode_ascii c.digit.result (omega arith)) in
    let some = decimal_nonempty c.args.n (omega (arith, c.ranges.n.fits)) in
    (omega arith, omega (arith, c.requires))

pub returns-then-n-lt10 : goal.returns-then-n-lt10
returns-then-n-lt10 t c = rw (decimal_digit c.args.n c.if-n-lt10.true, ← c.digit.ensures) (c.push.ensures.ascii (omega arith))

pub digits-requires : goal.digits-requires
digits-requires t c =
    let step = ap length (decimal_step c.args.n c.if-n-lt10.false (omega (arith, c.ranges.n.fits))) in
    (omega (arith, c.decreases), omega (arith, c.requires, simp length-append at step))

pub push-requires-2 : goal.push-requires-2
push-requires-2 t c =
    let one = ap length (encode_ascii c.digit-2.result (omega arith)) in
    let step = ap length (decimal_step c.args.n c.if-n-lt10.false (omega (arith, c.ranges.n.fits))) in
    let more = ap length c.digits.ensures in
    (omega arith, omega (arith, c.requires, simp length-append at step, simp length-append at more))

pub returns : goal.returns
returns t c =
    rw (decimal_step c.args.n c.if-n-lt10.false (omega (arith, c.ranges.n.fits)))
    (simp (c.push-2.ensures.ascii (omega arith), c.digit-2.ensures, c.digits.ensures, append_assoc))
