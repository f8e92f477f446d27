-- A value line by layers: the line that the text makes of its fields, and then the program layer's checks of it.
use Rattle.std.specs.Prelude.{◌≡◌, ℕ, min, cond, List, length, ℤ, pos, negsuc, Some, None, Ok, Err, Option, Result, ◌==◌, nat_lt}
use Rattle.drive.specs.declared.line.Line.{Line}
use Rattle.drive.specs.declared.line.Line.TheVariants.{Set, Copy, Add, Sub, Neg, In, Out, Jmp, Jz, Jneg, Halt}
use Rattle.drive.specs.declared.line.Operand.TheVariants.{A, B}
use Rattle.drive.specs.declared.fault.Fault.{Fault}
use Rattle.drive.specs.declared.fault.Fault.TheVariants.{TooManyLines}
use Rattle.drive.specs.Faults.{line_fault}
use Rattle.fields.specs.Fields.{fields}
use Rattle.fields.specs.Kinds.{Kind, kind}
use Rattle.fields.specs.Readers.{said}
use Rattle.text.specs.declared.fault.InputFault.{InputFault}
use Rattle.text.specs.declared.fault.InputFault.TheVariants.{Count, Op as NoOp, Operand as BadOperand}
use Rattle.text.specs.declared.fault.Refusal.{Refusal}
use Rattle.text.specs.declared.fault.Cause.{Cause}
use Rattle.text.specs.declared.fault.Cause.TheVariants.{Input, Program}
use Rattle.text.specs.declared.op.Op.{Op}
use Rattle.text.specs.declared.op.Op.TheVariants.{SET, COPY, ADD, SUB, NEG, IN, OUT, JMP, JZ, JNEG, HALT}
use Rattle.text.specs.declared.order.Column.TheVariants.{Op as op, A as a, B as b}
use Rattle.text.specs.declared.order.Order.{Order}
use Rattle.text.specs.Ops.{op_named, role_a, role_b}
use Rattle.text.specs.declared.row.Cells.{Cells}
use Rattle.text.specs.Reading.{told, cell, fits, signed_of}

-- A register or target as a byte: what does not fit one is 255, which no check passes.
abbrev pub byte : ℤ → ℕ
byte (pos n) = min n 255
byte (negsuc n) = 255

abbrev pub byte_of : Kind → ℕ
byte_of x = byte (signed_of x)

abbrev pub byte_line : Op → Kind → Kind → Line
byte_line SET x y = Set (byte_of x) (signed_of y)
byte_line COPY x y = Copy (byte_of x) (byte_of y)
byte_line ADD x y = Add (byte_of x) (byte_of y)
byte_line SUB x y = Sub (byte_of x) (byte_of y)
byte_line NEG x y = Neg (byte_of x)
byte_line IN x y = In (byte_of x)
byte_line OUT x y = Out (byte_of x)
byte_line JMP x y = Jmp (byte_of x)
byte_line JZ x y = Jz (byte_of x) (byte_of y)
byte_line JNEG x y = Jneg (byte_of x) (byte_of y)
byte_line HALT x y = Halt

-- Checks 2, 3 and 4.
abbrev pub made : Op → Kind → Kind → Result Line InputFault
made p x y = cond (fits (role_a p) x) (cond (fits (role_b p) y) (Ok (byte_line p x y)) (Err (BadOperand B))) (Err (BadOperand A))

abbrev pub converted_op : Kind → Kind → Option Op → Result Line InputFault
converted_op x y None = Err NoOp
converted_op x y (Some p) = made p x y

abbrev pub converted : Order → List ℕ → Result Line InputFault
converted o l = cond (length (fields l) == 3) (converted_op (kind (cell o a l)) (kind (cell o b l)) (op_named (cell o op l))) (Err Count)

-- Checks 6 and 8, where n rows are there already.
abbrev pub passed : Option Fault → Line → Result Line Cause
passed None line = Ok line
passed (Some fault) line = Err (Program fault)

abbrev pub layered : ℕ → Result Line InputFault → Result Line Cause
layered n (Ok line) = passed (line_fault 64 n line) line
layered n (Err fault) = Err (Input fault)

-- A value line after n rows: 5, then the text's checks, then those of the program layer.
abbrev pub row_cause : Order → ℕ → List ℕ → Result Line Cause
row_cause o n l = cond (nat_lt n 64) (layered n (converted o l)) (Err (Program TooManyLines))

-- A row's cause, told with text line and field.
abbrev pub located : Order → ℕ → Result Line Cause → Result Line Refusal
located o k (Ok line) = Ok line
located o k (Err cause) = told o k cause

-- The cells of a line that has three fields.
abbrev pub InCells : Order → List ℕ → Option Cells → Type 0
InCells o l None = length (fields l) ≡ 3 → ⊥
InCells o l (Some cells) =
    (length (fields l) ≡ 3) × (said cells.op ≡ kind (cell o op l)) × (said cells.a ≡ kind (cell o a l)) × (said cells.b ≡ kind (cell o b l))
