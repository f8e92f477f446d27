use Rattle.std.proofs.Common.{length, ap, arith}
use Rattle.std.proofs.lemmas.Fmt.{decimal_digit, decimal_nonempty}
use Rattle.std.proofs.lemmas.Str.{encode_ascii}
use Rattle.writer.proofs.row.number.Goals as goal

pub push-requires : goal.push-requires
push-requires c =
    let one = ap length (encode_ascii c.digit.result (omega arith)) in
    let some = decimal_nonempty c.args.n (omega (arith, c.ranges.n.fits)) in
    (omega arith, omega (arith, c.requires))

pub returns-then-n-lt10 : goal.returns-then-n-lt10
returns-then-n-lt10 c = rw (decimal_digit c.args.n c.if-n-lt10.true, ← c.digit.ensures) (c.push.ensures.ascii (omega arith))
