-- What a program is: a list of lines that keeps the rules. What its calls answer is said of that list.
use Rattle.std.specs.Prelude.{◌≡◌, ℕ, ◌+◌, cond, not, ◌||◌, List, length, Some, None, Ok, Err, Option, Result, ◌==◌, nat_lt, slice_set}
use Rattle.drive.specs.declared.line.Line.{Line}
use Rattle.drive.specs.declared.fault.Fault.{Fault}
use Rattle.drive.specs.declared.fault.Fault.TheVariants.{LastLine, NoSuchLine}
use Rattle.drive.specs.declared.program.Program.{Program}
use Rattle.drive.specs.Lines.{either, closes}
pub use Rattle.drive.specs.Rules.{at, Sound}
use Rattle.drive.specs.Faults.{unless, line_fault}
use Rattle.drive.specs.Rows.{in_use}

-- The lines of a program, in order.
abbrev pub lines_of : Program → List Line
lines_of program = in_use program.rows

-- Line p of a list, if there is one.
abbrev pub line_at : List Line → ℕ → Option Line
line_at P p = cond (nat_lt p (length P)) (Some (at P p)) None

-- Why line p may not be replaced by another line: 12, then 6, then 8, then 9.
abbrev pub edit_fault : List Line → ℕ → Line → Option Fault
edit_fault P p line =
    either (unless (nat_lt p (length P)) NoSuchLine)
    (either (line_fault (length P) p line)
    (unless (not (p + 1 == length P) || closes line) LastLine))

-- An edit is refused and leaves the program, or replaces line p and no other.
abbrev pub Edited : {U : Type 0} → Program → Program → ℕ → Line → Option Fault → Result U Fault → Type 0
Edited before after p line (Some fault) r = (r ≡ Err fault) × (after ≡ before)
Edited {U} before after p line None r = ((u : U) × (r ≡ Ok u)) × (lines_of after ≡ slice_set (lines_of before) p line)

-- Programs with the same lines are the same value.
abbrev pub KnownByLines : Type 0
KnownByLines = (p q : Program) → lines_of p ≡ lines_of q → p ≡ q
