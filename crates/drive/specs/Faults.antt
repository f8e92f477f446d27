-- The number and the layer of each fault of programs, and the faults of a line by itself.
use Rattle.std.specs.Prelude.{ℕ, Bool, cond, Some, None, Option}
use Rattle.refusal.specs.declared.Layer.{Layer}
use Rattle.refusal.specs.declared.Layer.TheVariants.{Program}
use Rattle.drive.specs.declared.line.Line.{Line}
use Rattle.drive.specs.declared.line.Operand.{Operand}
use Rattle.drive.specs.Lines.{either, bad_register, bad_target}
use Rattle.drive.specs.declared.fault.Fault.{Fault}
use Rattle.drive.specs.declared.fault.Fault.TheVariants.{TooManyLines, Register, Target, NoLines, LastLine, NoSuchLine}

abbrev pub number : Fault → ℕ
number TooManyLines = 5
number (Register line operand) = 6
number NoLines = 7
number (Target line operand) = 8
number LastLine = 9
number NoSuchLine = 12

abbrev pub layer : Fault → Layer
layer fault = Program

-- A fault where a test fails, and where an operand is to blame.
abbrev pub unless : Bool → Fault → Option Fault
unless test fault = cond test None (Some fault)

abbrev pub blamed : (Operand → Fault) → Option Operand → Option Fault
blamed fault None = None
blamed fault (Some operand) = Some (fault operand)

-- The faults of a line that stands at p in a program of n lines.
abbrev pub target_fault : ℕ → ℕ → Line → Option Fault
target_fault n p line = blamed (Target p) (bad_target n line)

abbrev pub line_fault : ℕ → ℕ → Line → Option Fault
line_fault n p line = either (blamed (Register p) (bad_register line)) (target_fault n p line)
