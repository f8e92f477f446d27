-- Edits of the program of a set of equations: which unknowns they touch, and what they make. A refused edit touches none.
use Rattle.std.specs.Prelude.{◌≡◌, ℕ, ◌/◌, Bool, ◌&&◌, ◌||◌, List, ◌==◌, slice_set}
use Rattle.equations.specs.Runs.{has}
use Rattle.drive.specs.declared.line.Line.{Line}
use Rattle.drive.specs.Lines.{none, successors}
use Rattle.drive.specs.declared.program.Program.{Program}
use Rattle.drive.specs.Programs.{at, lines_of, edit_fault}

-- Whether line p of a program may be replaced by this line.
abbrev pub accepted : List Line → ℕ → Line → Bool
accepted P p line = none (edit_fault P p line)

-- Constants: every register at the successors of line p, as it is and as it will be.
abbrev pub touched_constants : List Line → ℕ → Line → ℕ → Bool
touched_constants P p line x = accepted P p line && (has (successors (at P p) p) (x / 8) || has (successors line p) (x / 8))

-- Liveness: line p alone.
abbrev pub touched_liveness : List Line → ℕ → Line → ℕ → Bool
touched_liveness P p line x = accepted P p line && x == p

-- What an accepted edit makes of a program: line p is the new one, and every other is as it was.
abbrev pub Replaced : Program → ℕ → Line → Program → Type 0
Replaced before p line after = lines_of after ≡ slice_set (lines_of before) p line
