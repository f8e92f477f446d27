-- How lines and faults are shown to a person, as bytes.
use Rattle.std.specs.Prelude.{ℕ, List, ◌++◌, codes, decimal}
use Rattle.std.specs.Fmt.{signed_decimal}
use Rattle.drive.specs.declared.line.Line.{Line}
use Rattle.drive.specs.declared.line.Line.TheVariants.{Set, Copy, Add, Sub, Neg, In, Out, Jmp, Jz, Jneg, Halt}
use Rattle.drive.specs.declared.line.Operand.{Operand}
use Rattle.drive.specs.declared.line.Operand.TheVariants.{A, B}
use Rattle.drive.specs.declared.fault.Fault.{Fault}
use Rattle.drive.specs.declared.fault.Fault.TheVariants.{TooManyLines, Register, Target, NoLines, LastLine, NoSuchLine}

-- An operation with its operands, one space before each.
abbrev pub two : List ℕ → ℕ → ℕ → List ℕ
two op a b = op ++ (decimal a ++ (codes " " ++ decimal b))

abbrev pub shown_line : Line → List ℕ
shown_line (Set a b) = codes "SET " ++ (decimal a ++ (codes " " ++ signed_decimal b))
shown_line (Copy a b) = two (codes "COPY ") a b
shown_line (Add a b) = two (codes "ADD ") a b
shown_line (Sub a b) = two (codes "SUB ") a b
shown_line (Neg a) = codes "NEG " ++ decimal a
shown_line (In a) = codes "IN " ++ decimal a
shown_line (Out a) = codes "OUT " ++ decimal a
shown_line (Jmp a) = codes "JMP " ++ decimal a
shown_line (Jz a b) = two (codes "JZ ") a b
shown_line (Jneg a b) = two (codes "JNEG ") a b
shown_line Halt = codes "HALT"

abbrev pub shown_operand : Operand → List ℕ
shown_operand A = codes "a"
shown_operand B = codes "b"

-- An operand of a line, and what is wrong with it.
abbrev pub blaming : Operand → ℕ → List ℕ → List ℕ
blaming operand line wrong = codes "operand " ++ (shown_operand operand ++ (codes " of program line " ++ (decimal line ++ wrong)))

abbrev pub shown_fault : Fault → List ℕ
shown_fault TooManyLines = codes "a program has at most 64 lines"
shown_fault (Register line operand) = blaming operand line (codes " is not a register 0 to 7")
shown_fault (Target line operand) = blaming operand line (codes " is no line to go to")
shown_fault NoLines = codes "a program has at least one line"
shown_fault LastLine = codes "the last line is neither JMP nor HALT"
shown_fault NoSuchLine = codes "there is no line with this number"
