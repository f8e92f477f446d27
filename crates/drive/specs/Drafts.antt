-- What a draft is: a list of lines. What adding and finishing answer is said of that list.
use Rattle.std.specs.Prelude.{◌≡◌, ℕ, ◌+◌, ◌-◌, List, [], ◌∷◌, ◌++◌, length, Some, None, Ok, Err, Option, Result, nat_lt}
use Rattle.drive.specs.declared.line.Line.{Line}
use Rattle.drive.specs.declared.fault.Fault.{Fault}
use Rattle.drive.specs.declared.fault.Fault.TheVariants.{TooManyLines, NoLines, LastLine}
use Rattle.drive.specs.declared.draft.Draft.{Draft}
use Rattle.drive.specs.declared.program.Program.{Program}
use Rattle.drive.specs.Lines.{either, closes}
use Rattle.drive.specs.Faults.{unless, target_fault, line_fault}
use Rattle.drive.specs.Programs.{at, lines_of}
use Rattle.drive.specs.Rows.{in_use}

-- The lines typed so far, in order.
abbrev pub typed : Draft → List Line
typed draft = in_use draft.rows

-- Why no line may be added.
abbrev pub room_fault : List Line → Option Fault
room_fault P = unless (nat_lt (length P) 64) TooManyLines

-- Why a line may not be added: 5, then 6, then 8, where the program may yet grow to 64 lines.
abbrev pub add_fault : List Line → Line → Option Fault
add_fault P line = either (room_fault P) (line_fault 64 (length P) line)

-- What a check answers: the fault, or nothing.
abbrev pub Checked : {U : Type 0} → Option Fault → Result U Fault → Type 0
Checked (Some fault) r = r ≡ Err fault
Checked {U} None r = (u : U) × (r ≡ Ok u)

-- A line is refused and leaves the draft, or comes after the lines that are there.
abbrev pub Added : {U : Type 0} → Draft → Draft → Line → Option Fault → Result U Fault → Type 0
Added before after line (Some fault) r = (r ≡ Err fault) × (after ≡ before)
Added {U} before after line None r = ((u : U) × (r ≡ Ok u)) × (typed after ≡ typed before ++ (line ∷ []))

-- The first target, in the order of the lines, that is not below n; the list begins with line p.
abbrev pub stray_target : ℕ → ℕ → List Line → Option Fault
stray_target n p [] = None
stray_target n p (line ∷ P) = either (target_fault n p line) (stray_target n (p + 1) P)

-- Why lines may not become a program: 7, then 8 at the lowest line, then 9.
abbrev pub finish_fault : List Line → Option Fault
finish_fault P =
    either (unless (nat_lt 0 (length P)) NoLines)
    (either (stray_target (length P) 0 P)
    (unless (closes (at P (length P - 1))) LastLine))

-- Finishing is refused and leaves the program, or makes it the lines that were typed, and nothing else.
abbrev pub Finished : {U : Type 0} → List Line → Program → Program → Option Fault → Result U Fault → Type 0
Finished P before after (Some fault) r = (r ≡ Err fault) × (after ≡ before)
Finished {U} P before after None r = ((u : U) × (r ≡ Ok u)) × (lines_of after ≡ P)
