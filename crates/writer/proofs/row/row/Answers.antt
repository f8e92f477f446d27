use Rattle.std.proofs.Common.{ap, append_assoc, arith}
use Rattle.fields.specs.Fields.{spaced}
use Rattle.fields.specs.Kinds.{text}
use Rattle.writer.proofs.row.row.Goals as goal

-- The parts of the row, one after another.
pub returns-clause-value : goal.returns-clause-value
unfolding spaced
returns-clause-value c =
    simp (
      c.push-3.ensures.ascii (omega arith),
      c.operand-2.ensures.value,
      ap text c.columns-a.ensures.b,
      c.push-2.ensures.ascii (omega arith),
      c.operand.ensures.value,
      ap text c.columns-a.ensures.a,
      c.push.ensures.ascii (omega arith),
      c.push_str.ensures.bytes,
      c.columns-a.ensures.op,
      append_assoc,
    )
