use Rattle.std.proofs.Common.{◌≤◌, length, decimal, arith}
use Rattle.std.proofs.lemmas.Fmt.{length-decimal-le}
use Rattle.std.proofs.lemmas.Grind.{common_steps}
use Rattle.writer.proofs.row.operand.Goals as goal

-- At most 32768: five digits.
pub number-requires : goal.number-requires
number-requires c =
    let few : length (decimal c.unsigned_abs.result) ≤ 5 = length-decimal-le 5 _ (omega arith) (omega arith) (omega arith) in
    grind (arith, common_steps)

pub returns-after-z-lt0-clause-fits : goal.returns-after-z-lt0-clause-fits
returns-after-z-lt0-clause-fits c =
    let few : length (decimal c.unsigned_abs.result) ≤ 5 = length-decimal-le 5 _ (omega arith) (omega arith) (omega arith) in
    grind (arith, common_steps)
