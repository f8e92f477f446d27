-- The operations: their words, and what their operands are.
use Rattle.std.specs.Prelude.{ℕ, cond, List, [], ◌∷◌, pos, Some, None, codes, Option}
use Rattle.std.specs.Str.{bytes_eq}
use Rattle.drive.specs.declared.line.Line.{Line}
use Rattle.drive.specs.declared.line.Line.TheVariants.{Set, Copy, Add, Sub, Neg, In, Out, Jmp, Jz, Jneg, Halt}
use Rattle.fields.specs.Kinds.{Kind, Kind.Number, Kind.Dash}
use Rattle.text.specs.declared.op.Op.{Op}
use Rattle.text.specs.declared.op.Op.TheVariants.{SET, COPY, ADD, SUB, NEG, IN, OUT, JMP, JZ, JNEG, HALT}
use Rattle.text.specs.declared.op.Role.{Role}
use Rattle.text.specs.declared.op.Role.TheVariants.{Register, Target, Value, Nothing}

abbrev pub word : Op → List ℕ
word SET = codes "SET"
word COPY = codes "COPY"
word ADD = codes "ADD"
word SUB = codes "SUB"
word NEG = codes "NEG"
word IN = codes "IN"
word OUT = codes "OUT"
word JMP = codes "JMP"
word JZ = codes "JZ"
word JNEG = codes "JNEG"
word HALT = codes "HALT"

abbrev pub ops : List Op
ops = SET ∷ (COPY ∷ (ADD ∷ (SUB ∷ (NEG ∷ (IN ∷ (OUT ∷ (JMP ∷ (JZ ∷ (JNEG ∷ (HALT ∷ []))))))))))

-- The first of some things that is written w.
unfoldable pub find : {T : Type 0} → (T → List ℕ) → List ℕ → List T → Option T
find f w [] = None
find f w (x ∷ xs) = cond (bytes_eq (f x) w) (Some x) (find f w xs)

-- The operation that a word names, byte by byte.
abbrev pub op_named : List ℕ → Option Op
op_named w = find word w ops

-- A register, a line to go to, a number, or no operand at all.
abbrev pub role_a : Op → Role
role_a SET = Register
role_a COPY = Register
role_a ADD = Register
role_a SUB = Register
role_a NEG = Register
role_a IN = Register
role_a OUT = Register
role_a JMP = Target
role_a JZ = Register
role_a JNEG = Register
role_a HALT = Nothing

abbrev pub role_b : Op → Role
role_b SET = Value
role_b COPY = Register
role_b ADD = Register
role_b SUB = Register
role_b NEG = Nothing
role_b IN = Nothing
role_b OUT = Nothing
role_b JMP = Nothing
role_b JZ = Target
role_b JNEG = Target
role_b HALT = Nothing

-- The operation of a line and its operands; a dash where it has none.
abbrev pub op_of : Line → Op
op_of (Set a b) = SET
op_of (Copy a b) = COPY
op_of (Add a b) = ADD
op_of (Sub a b) = SUB
op_of (Neg a) = NEG
op_of (In a) = IN
op_of (Out a) = OUT
op_of (Jmp a) = JMP
op_of (Jz a b) = JZ
op_of (Jneg a b) = JNEG
op_of Halt = HALT

abbrev pub a_of : Line → Kind
a_of (Set a b) = Number (pos a)
a_of (Copy a b) = Number (pos a)
a_of (Add a b) = Number (pos a)
a_of (Sub a b) = Number (pos a)
a_of (Neg a) = Number (pos a)
a_of (In a) = Number (pos a)
a_of (Out a) = Number (pos a)
a_of (Jmp a) = Number (pos a)
a_of (Jz a b) = Number (pos a)
a_of (Jneg a b) = Number (pos a)
a_of Halt = Dash

abbrev pub b_of : Line → Kind
b_of (Set a b) = Number b
b_of (Copy a b) = Number (pos b)
b_of (Add a b) = Number (pos b)
b_of (Sub a b) = Number (pos b)
b_of (Neg a) = Dash
b_of (In a) = Dash
b_of (Out a) = Dash
b_of (Jmp a) = Dash
b_of (Jz a b) = Number (pos b)
b_of (Jneg a b) = Number (pos b)
b_of Halt = Dash
