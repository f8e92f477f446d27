-- The rules that every program keeps, said of its lines.
use Rattle.std.specs.Prelude.{◌≡◌, ℕ, ◌-◌, ◌≤◌, true, List, length, slice_index_or}
use Rattle.drive.specs.declared.line.Line.{Line}
use Rattle.drive.specs.declared.line.Line.TheVariants.{Halt}
use Rattle.drive.specs.Lines.{fits, closes}

-- The line at p; HALT where there is none.
abbrev pub at : List Line → ℕ → Line
at P p = slice_index_or P p Halt

pub record Sound (P : List Line) : Type 0 where
  pub some : 1 ≤ length P
  pub few : length P ≤ 64
  -- every register is at most 7, and every target is a line of the program
  pub fitting : (p : ℕ) → fits (length P) (at P p) ≡ true
  -- the last line is JMP or HALT
  pub closed : closes (at P (length P - 1)) ≡ true
