-- Reading a table step by step: the names, a row at a time, and the end.
use Rattle.std.specs.Prelude.{◌≡◌, ℕ, ◌+◌, ◌<◌, ◌≤◌, List, [], ◌∷◌, ◌++◌, length, Some, None, Ok, Err, Option, Result}
use Rattle.drive.specs.declared.line.Line.{Line}
use Rattle.drive.specs.declared.fault.Fault.{Fault}
use Rattle.drive.specs.declared.fault.Fault.TheVariants.{TooManyLines, Register, Target, NoLines, LastLine, NoSuchLine}
use Rattle.drive.specs.declared.program.Program.{Program}
use Rattle.drive.specs.Programs.{lines_of}
use Rattle.drive.specs.Drafts.{typed}
use Rattle.fields.specs.declared.reader.Reader.{Reader}
use Rattle.fields.specs.Readers.{place_of, number_of}
use Rattle.text.specs.declared.fault.Cause.{Cause}
use Rattle.text.specs.declared.fault.Refusal.{Refusal}
use Rattle.text.specs.declared.order.Order.{Order}
use Rattle.text.specs.declared.table.TableReader.{TableReader}
use Rattle.text.specs.Reading.{and_then, row, finish, Table}
use Rattle.text.specs.Names.{ahead, Past}

-- A table has no rows at first.
pub record Begun (o : Order) (reader : Reader) (table : TableReader) : Type 0 where
  pub order : table.order ≡ o
  pub none : typed table.draft ≡ []
  pub first : table.first ≡ reader
  pub reader_is : table.reader ≡ reader

-- A ROW in text line k after n rows; none at the end of the text and at an empty line.
abbrev pub next_row : Order → ℕ → ℕ → List (List ℕ) → Result (Option Line) Refusal
next_row o k n [] = Ok None
next_row o k n ([] ∷ ls) = Ok None
next_row o k n ((c ∷ cs) ∷ ls) = and_then (row o k n (c ∷ cs)) (λ l. Ok (Some l))

-- What a row leaves. A refused row leaves all as it was.
pub record Went (before now : TableReader) (P : List Line) : Type 0 where
  pub order : now.order ≡ before.order
  pub first : now.first ≡ before.first
  pub rows : typed now.draft ≡ P
  pub past : Past 1 before.reader now.reader

abbrev pub Goes : TableReader → TableReader → Result (Option Line) Refusal → Type 0
Goes before now (Ok None) = Went before now (typed before.draft)
Goes before now (Ok (Some line)) =
    Went before now (typed before.draft ++ line ∷ []) × ((l : List ℕ) × (ahead before.reader ≡ l ∷ ahead now.reader))
    × (number_of now.reader ≡ number_of before.reader + 1)
Goes before now (Err refusal) = now ≡ before

-- A line that is taken comes after the others in the draft, and nothing else moves yet.
pub record Took (before now : TableReader) (line : Line) : Type 0 where
  pub order : now.order ≡ before.order
  pub first : now.first ≡ before.first
  pub reader : now.reader ≡ before.reader
  pub rows : typed now.draft ≡ typed before.draft ++ line ∷ []

abbrev pub Takes : TableReader → TableReader → Result Line Cause → Type 0
Takes before now (Ok line) = Took before now line
Takes before now (Err cause) = now ≡ before

-- A fault that blames one of n rows.
abbrev pub Within : ℕ → Fault → Type 0
Within n TooManyLines = Unit {0}
Within n (Register p operand) = p < n
Within n (Target p operand) = p < n
Within n NoLines = Unit {0}
Within n LastLine = 1 ≤ n
Within n NoSuchLine = Unit {0}

-- THE END: what finishing answers, and what it leaves in the caller's reader and program.
abbrev pub Ends : TableReader → Reader → Reader → Program → Program → Result (ℕ × ℕ) Refusal → Result (ℕ × ℕ) Refusal → Type 0
Ends table before now old new (Ok answer) r = (r ≡ Ok answer) × (now ≡ table.reader) × (lines_of new ≡ typed table.draft)
Ends table before now old new (Err refusal) r = (r ≡ Err refusal) × (now ≡ before) × (new ≡ old)

abbrev pub ending : TableReader → Result (ℕ × ℕ) Refusal
ending table = finish table.order (number_of table.first) (typed table.draft) (Ok (length (typed table.draft), place_of table.reader))

-- THE WHOLE: a reading answers rows and place, moves the reader there and fills the program, or is refused and leaves both.
abbrev pub Reads : Reader → Reader → Program → Program → Result Table Refusal → Result (ℕ × ℕ) Refusal → Type 0
Reads before now old new (Ok T) r =
    (r ≡ Ok (T.rows, T.place)) × (now.text ≡ before.text) × (place_of now ≡ T.place) × (lines_of new ≡ T.program)
Reads before now old new (Err refusal) r = (r ≡ Err refusal) × (now ≡ before) × (new ≡ old)
