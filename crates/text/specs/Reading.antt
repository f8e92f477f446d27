-- What reading a table gives: a program, or the first refusal.
use Rattle.std.specs.Prelude.{ℕ, ◌+◌, ◌-◌, ◌^◌, Bool, true, false, cond, not, ◌&&◌, ◌||◌, List, [], ◌∷◌, length, drop, ℤ, pos, negsuc, Some, None, Ok, Err, codes, Option, Result, ◌==◌, nat_lt, slice_index_or}
use Rattle.std.specs.Int.Signed.{mag}
use Rattle.std.specs.Str.{bytes_eq}
use Rattle.drive.specs.declared.line.Line.{Line}
use Rattle.drive.specs.declared.line.Line.TheVariants.{Set, Copy, Add, Sub, Neg, In, Out, Jmp, Jz, Jneg, Halt}
use Rattle.drive.specs.declared.line.Operand.TheVariants.{A, B}
use Rattle.drive.specs.declared.fault.Fault.{Fault}
use Rattle.drive.specs.declared.fault.Fault.TheVariants.{TooManyLines, Register as BadRegister, Target as BadTarget, NoLines, LastLine, NoSuchLine}
use Rattle.drive.specs.Drafts.{finish_fault}
use Rattle.fields.specs.Lines.{lines, after, line_at}
use Rattle.fields.specs.Fields.{fields}
use Rattle.fields.specs.Kinds.{Kind, Kind.Word, Kind.Number, Kind.Dash, kind}
use Rattle.text.specs.declared.fault.InputFault.TheVariants.{Names, Count, Op as NoOp, Operand as BadOperand}
use Rattle.text.specs.declared.fault.Cause.{Cause}
use Rattle.text.specs.declared.fault.Cause.TheVariants.{Input, Program}
use Rattle.text.specs.declared.fault.Refusal.{Refusal}
use Rattle.text.specs.declared.op.Op.{Op}
use Rattle.text.specs.declared.op.Op.TheVariants.{SET, COPY, ADD, SUB, NEG, IN, OUT, JMP, JZ, JNEG, HALT}
use Rattle.text.specs.declared.op.Role.{Role}
use Rattle.text.specs.declared.op.Role.TheVariants.{Register, Target, Value, Nothing}
use Rattle.text.specs.declared.order.Column.{Column}
use Rattle.text.specs.declared.order.Column.TheVariants.{Op as op, A as a, B as b}
use Rattle.text.specs.declared.order.Order.{Order}
use Rattle.text.specs.declared.order.Order.TheVariants.{OpAB, OpBA, AOpB, BOpA, ABOp, BAOp}
use Rattle.text.specs.Columns.{place, field_of}
use Rattle.text.specs.Ops.{find, word, ops, role_a, role_b}
use Rattle.text.specs.Rendering.{names}

-- A refusal of text line k, with the field that the cause blames.
abbrev pub refusal : Order → ℕ → Cause → Refusal
refusal o k cause = record { cause = cause; line = k; field = field_of o cause }

abbrev pub told : {T : Type 0} → Order → ℕ → Cause → Result T Refusal
told o k cause = Err (refusal o k cause)

-- A check, and what comes after it; and what comes after a part that may be refused.
unfoldable pub need : {T : Type 0} → Bool → Cause → Order → ℕ → Result T Refusal → Result T Refusal
need true cause o k next = next
need false cause o k next = told o k cause

unfoldable pub and_then : {T U : Type 0} → Result T Refusal → (T → Result U Refusal) → Result U Refusal
and_then (Ok x) next = next x
and_then (Err r) next = Err r

-- THE NAMES LINE. It is one of six.
abbrev pub order_of : List ℕ → Option Order
order_of l = find names l (OpAB ∷ (OpBA ∷ (AOpB ∷ (BOpA ∷ (ABOp ∷ (BAOp ∷ []))))))

abbrev pub has : List (List ℕ) → List ℕ → Bool
has [] w = false
has (x ∷ xs) w = bytes_eq x w || has xs w

abbrev pub known : List ℕ → Bool
known w = has (codes "op" ∷ (codes "a" ∷ (codes "b" ∷ []))) w

-- The field of the first name that is unknown or had before, and 0 if there is none. Had so far: `had`, and k of them.
unfoldable pub bad_name : ℕ → List (List ℕ) → List (List ℕ) → ℕ
bad_name k had [] = 0
bad_name k had (w ∷ ws) = cond (known w && not (has had w)) (bad_name (k + 1) (w ∷ had) ws) (k + 1)

abbrev pub bad_names : {T : Type 0} → ℕ → List (List ℕ) → Result T Refusal
bad_names k ws = Err (record { cause = Input Names; line = k; field = bad_name 0 [] ws })

-- A VALUE LINE. What stands in a column.
abbrev pub cell : Order → Column → List ℕ → List ℕ
cell o c l = slice_index_or (fields l) (place o c) []

abbrev pub is_number : Kind → Bool
is_number (Word w) = false
is_number (Number z) = true
is_number Dash = false

abbrev pub is_dash : Kind → Bool
is_dash (Word w) = false
is_dash (Number z) = false
is_dash Dash = true

-- From -32768 to 32767.
abbrev pub is_value : Kind → Bool
is_value (Word w) = false
is_value (Number z) = nat_lt (mag z) (2 ^ 15)
is_value Dash = false

-- From 0 to n - 1.
abbrev pub is_below : ℕ → Kind → Bool
is_below n (Word w) = false
is_below n (Number (pos m)) = nat_lt m n
is_below n (Number (negsuc m)) = false
is_below n Dash = false

-- Check 4: a number or a dash, as is needed, and SET's number from -32768 to 32767.
abbrev pub fits : Role → Kind → Bool
fits Register x = is_number x
fits Target x = is_number x
fits Value x = is_value x
fits Nothing x = is_dash x

-- Check 6: a register is 0 to 7. Check 8: a target is 0 to 63.
abbrev pub register_fits : Role → Kind → Bool
register_fits Register x = is_below 8 x
register_fits Target x = true
register_fits Value x = true
register_fits Nothing x = true

abbrev pub target_fits : Role → Kind → Bool
target_fits Register x = true
target_fits Target x = is_below 64 x
target_fits Value x = true
target_fits Nothing x = true

abbrev pub signed_of : Kind → ℤ
signed_of (Word w) = pos 0
signed_of (Number z) = z
signed_of Dash = pos 0

abbrev pub size_of : Kind → ℕ
size_of x = mag (signed_of x)

-- The line with this operation and these operands.
abbrev pub line_of : Op → Kind → Kind → Line
line_of SET x y = Set (size_of x) (signed_of y)
line_of COPY x y = Copy (size_of x) (size_of y)
line_of ADD x y = Add (size_of x) (size_of y)
line_of SUB x y = Sub (size_of x) (size_of y)
line_of NEG x y = Neg (size_of x)
line_of IN x y = In (size_of x)
line_of OUT x y = Out (size_of x)
line_of JMP x y = Jmp (size_of x)
line_of JZ x y = Jz (size_of x) (size_of y)
line_of JNEG x y = Jneg (size_of x) (size_of y)
line_of HALT x y = Halt

-- The checks of the operands x and y of an operation, in text line k, after n rows.
unfoldable pub operands : Order → ℕ → ℕ → Op → Kind → Kind → Result Line Refusal
operands o k n p x y =
    need (fits (role_a p) x) (Input (BadOperand A)) o k
    (need (fits (role_b p) y) (Input (BadOperand B)) o k
    (need (register_fits (role_a p) x) (Program (BadRegister n A)) o k
    (need (register_fits (role_b p) y) (Program (BadRegister n B)) o k
    (need (target_fits (role_a p) x) (Program (BadTarget n A)) o k
    (need (target_fits (role_b p) y) (Program (BadTarget n B)) o k
    (Ok (line_of p x y)))))))

unfoldable pub with_op : Order → ℕ → ℕ → List ℕ → Option Op → Result Line Refusal
with_op o k n l None = told o k (Input NoOp)
with_op o k n l (Some p) = operands o k n p (kind (cell o a l)) (kind (cell o b l))

-- Text line k, after n rows.
unfoldable pub row : Order → ℕ → ℕ → List ℕ → Result Line Refusal
row o k n l =
    need (nat_lt n 64) (Program TooManyLines) o k
    (need (length (fields l) == 3) (Input Count) o k
    (with_op o k n l (find word (cell o op l) ops)))

-- All value lines, up to the end or an empty line.
unfoldable pub rows : Order → ℕ → ℕ → List (List ℕ) → Result (List Line) Refusal
rows o k n [] = Ok []
rows o k n ([] ∷ ls) = Ok []
rows o k n ((c ∷ cs) ∷ ls) = and_then (row o k n (c ∷ cs)) (λ l. and_then (rows o (k + 1) (n + 1) ls) (λ P. Ok (l ∷ P)))

-- THE END OF THE TABLE. The text line that a fault of finishing is told of, where n rows begin in text line k.
abbrev pub fault_line : ℕ → ℕ → Fault → ℕ
fault_line k n TooManyLines = k
fault_line k n (BadRegister p operand) = k + p
fault_line k n (BadTarget p operand) = k + p
fault_line k n NoLines = k
fault_line k n LastLine = k + (n - 1)
fault_line k n NoSuchLine = k

-- What the program layer finds at the end: 7, then 8 at the lowest line, then 9.
unfoldable pub ended : {T : Type 0} → Order → ℕ → ℕ → Option Fault → Result T Refusal → Result T Refusal
ended o k n None next = next
ended o k n (Some fault) next = told o (fault_line k n fault) (Program fault)

abbrev pub finish : {T : Type 0} → Order → ℕ → List Line → Result T Refusal → Result T Refusal
finish o k P next = ended o k (length P) (finish_fault P) next

-- READING. The number of rows, the place after the table and its empty line, and the program.
pub record Table : Type 0 where
  pub rows : ℕ
  pub place : ℕ
  pub program : List Line

-- The program P, read from the text t that begins at byte p: it takes the names line, the rows and, if there is one, the empty line.
abbrev pub table : ℕ → List ℕ → List Line → Table
table p t P = record { rows = length P; place = p + (length t - length (after (length P + 2) t)); program = P }

unfoldable pub after_names : ℕ → ℕ → List ℕ → List ℕ → List (List ℕ) → Option Order → Result Table Refusal
after_names k p t l ls None = bad_names k (fields l)
after_names k p t l ls (Some o) = and_then (rows o (k + 1) 0 ls) (λ P. finish o (k + 1) P (Ok (table p t P)))

unfoldable pub read_lines : ℕ → ℕ → List ℕ → List (List ℕ) → Result Table Refusal
read_lines k p t [] = bad_names k []
read_lines k p t (l ∷ ls) = after_names k p t l ls (order_of l)

-- Reading the text t, which begins at byte p and with text line k.
unfoldable pub read : ℕ → ℕ → List ℕ → Result Table Refusal
read k p t = read_lines k p t (lines t)

-- Reading a text from byte p on. Lines and places count in the whole text.
abbrev pub reading : List ℕ → ℕ → Result Table Refusal
reading t p = read (line_at t p) p (drop p t)
