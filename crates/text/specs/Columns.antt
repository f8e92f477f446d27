-- The columns of a table, and the field that a refusal names.
use Rattle.std.specs.Prelude.{ℕ, ◌+◌, List, [], ◌∷◌}
use Rattle.drive.specs.declared.line.Operand.{Operand}
use Rattle.drive.specs.declared.line.Operand.TheVariants.{A, B}
use Rattle.drive.specs.declared.fault.Fault.{Fault}
use Rattle.drive.specs.declared.fault.Fault.TheVariants.{TooManyLines, Register, Target, NoLines, LastLine, NoSuchLine}
use Rattle.text.specs.declared.fault.InputFault.TheVariants.{Names, Count, Op as NoOp, Operand as BadOperand}
use Rattle.text.specs.declared.fault.Cause.{Cause}
use Rattle.text.specs.declared.fault.Cause.TheVariants.{Input, Program}
use Rattle.text.specs.declared.order.Column.{Column}
use Rattle.text.specs.declared.order.Column.TheVariants.{Op as op, A as a, B as b}
use Rattle.text.specs.declared.order.Order.{Order}
use Rattle.text.specs.declared.order.Order.TheVariants.{OpAB, OpBA, AOpB, BOpA, ABOp, BAOp}

-- Three things in the order of the columns.
abbrev pub arrange : {T : Type 0} → Order → T → T → T → List T
arrange OpAB x y z = x ∷ (y ∷ (z ∷ []))
arrange OpBA x y z = x ∷ (z ∷ (y ∷ []))
arrange AOpB x y z = y ∷ (x ∷ (z ∷ []))
arrange BOpA x y z = z ∷ (x ∷ (y ∷ []))
arrange ABOp x y z = y ∷ (z ∷ (x ∷ []))
arrange BAOp x y z = z ∷ (y ∷ (x ∷ []))

-- The place of a column in a line, from 0.
abbrev pub place : Order → Column → ℕ
place OpAB op = 0
place OpAB a = 1
place OpAB b = 2
place OpBA op = 0
place OpBA a = 2
place OpBA b = 1
place AOpB op = 1
place AOpB a = 0
place AOpB b = 2
place BOpA op = 1
place BOpA a = 2
place BOpA b = 0
place ABOp op = 2
place ABOp a = 0
place ABOp b = 1
place BAOp op = 2
place BAOp a = 1
place BAOp b = 0

-- The field of a column, from 1.
abbrev pub field : Order → Column → ℕ
field o c = place o c + 1

abbrev pub column_of : Operand → Column
column_of A = a
column_of B = b

-- The field that a cause is told of: the column that it blames, and 0 where no single field is at fault.
abbrev pub fault_field : Order → Fault → ℕ
fault_field o TooManyLines = 0
fault_field o (Register p operand) = field o (column_of operand)
fault_field o (Target p operand) = field o (column_of operand)
fault_field o NoLines = 0
fault_field o LastLine = field o op
fault_field o NoSuchLine = 0

abbrev pub field_of : Order → Cause → ℕ
field_of o (Input Names) = 0
field_of o (Input Count) = 0
field_of o (Input NoOp) = field o op
field_of o (Input (BadOperand operand)) = field o (column_of operand)
field_of o (Program fault) = fault_field o fault
