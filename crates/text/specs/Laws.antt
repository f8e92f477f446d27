-- Which refusal comes first, in the words of tables and rows.
use Rattle.std.specs.Prelude.{◌≡◌, ℕ, ◌+◌, ◌<◌, true, false, List, [], ◌∷◌, ◌++◌, map, length, drop, Some, Err, Result}
use Rattle.drive.specs.declared.line.Line.{Line}
use Rattle.drive.specs.declared.line.Operand.{Operand}
use Rattle.drive.specs.declared.line.Operand.TheVariants.{A, B}
use Rattle.drive.specs.declared.fault.Fault.{Fault}
use Rattle.drive.specs.declared.fault.Fault.TheVariants.{Register as BadRegister}
use Rattle.drive.specs.Lines as line
use Rattle.drive.specs.Programs.{at}
use Rattle.drive.specs.Drafts.{finish_fault}
use Rattle.fields.specs.Lines.{lines, line_at}
use Rattle.fields.specs.Fields.{fields}
use Rattle.fields.specs.Kinds.{kind}
use Rattle.text.specs.declared.fault.Cause.TheVariants.{Program}
use Rattle.text.specs.declared.fault.Refusal.{Refusal}
use Rattle.text.specs.declared.op.Op.{Op}
use Rattle.text.specs.declared.op.Role.{Role}
use Rattle.text.specs.declared.op.Role.TheVariants.{Register}
use Rattle.text.specs.declared.order.Column.TheVariants.{Op as op, A as a, B as b}
use Rattle.text.specs.declared.order.Order.{Order}
use Rattle.text.specs.Columns.{field, column_of}
use Rattle.text.specs.Ops.{op_named, role_a, role_b}
use Rattle.text.specs.Rendering.{names, value_line}
use Rattle.text.specs.Reading.{told, fault_line, cell, fits, is_below, row, reading}
use Rattle.text.specs.Names.{names_read}

-- A table ends at the end of the text or at an empty line.
abbrev pub Stops : List (List ℕ) → Type 0
Stops [] = Unit {0}
Stops ([] ∷ ls) = Unit {0}
Stops ((c ∷ cs) ∷ ls) = ⊥

-- The table that begins at byte p has the columns in the order o, and begins with rows that are the lines P, each good by itself.
pub record GoodRows (t : List ℕ) (p : ℕ) (o : Order) (P : List Line) (rest : List (List ℕ)) : Type 0 where
  pub are : lines (drop p t) ≡ names o ∷ (map (value_line o) P ++ rest)
  pub good : (i : ℕ) → line.fits 64 (at P i) ≡ true

-- The refusal is of the names line; or of a row, and the names and all rows before it are good; or of the end, and all rows are good.
pub data FirstWrong (t : List ℕ) (p : ℕ) (r : Refusal) : Type 0 where
  at_names : names_read (line_at t p) (lines (drop p t)) ≡ Err r → FirstWrong t p r
  at_row : (o : Order) (P : List Line) (l : List ℕ) (rest : List (List ℕ)) → GoodRows t p o P (l ∷ rest)
      → row o (line_at t p + 1 + length P) (length P) l ≡ Err r → FirstWrong t p r
  at_end : (o : Order) (P : List Line) (rest : List (List ℕ)) → GoodRows t p o P rest → Stops rest
      → (fault : Fault) → finish_fault P ≡ Some fault → ◌≡◌ {A = Result Line Refusal} (Err r) (told o (fault_line (line_at t p + 1) (length P) fault) (Program fault)) → FirstWrong t p r

abbrev pub FirstRefusal : Type 0
FirstRefusal = (t : List ℕ) (p : ℕ) (r : Refusal) → reading t p ≡ Err r → FirstWrong t p r

abbrev pub role_of : Operand → Op → Role
role_of A = role_a
role_of B = role_b

-- Row l, after n rows, has room, three fields, an op word and operands of the kinds that it needs; one of them is a register and is
-- above 7 or negative, and it is that field which is told.
pub record WrongRegister (o : Order) (k n : ℕ) (l : List ℕ) (r : Refusal) (operand : Operand) : Type 0 where
  pub room : n < 64
  pub three : length (fields l) ≡ 3
  pub operation : Op
  pub named : op_named (cell o op l) ≡ Some operation
  pub fits_a : fits (role_a operation) (kind (cell o a l)) ≡ true
  pub fits_b : fits (role_b operation) (kind (cell o b l)) ≡ true
  pub register : role_of operand operation ≡ Register
  pub wrong : is_below 8 (kind (cell o (column_of operand) l)) ≡ false
  pub line : r.line ≡ k
  pub field_is : r.field ≡ field o (column_of operand)

-- Refusal 6.
abbrev pub RegisterRule : Type 0
RegisterRule = (o : Order) (k n : ℕ) (l : List ℕ) (r : Refusal) (m : ℕ) (operand : Operand)
    → row o k n l ≡ Err r → r.cause ≡ Program (BadRegister m operand) → WrongRegister o k n l r operand
