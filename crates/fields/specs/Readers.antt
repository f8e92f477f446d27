-- What a reader's calls answer.
use Rattle.std.specs.Prelude.{◌≡◌, ℕ, ◌+◌, ◌-◌, cond, ◌&&◌, List, [], ◌∷◌, length, take, drop, Some, None, Option, nat_le, slice_index_or}
use Rattle.std.specs.Borrow.{Bor}
use Rattle.std.specs.Str.Parse.{digits_value as value}
use Rattle.fields.specs.declared.field.Field.{Field}
use Rattle.fields.specs.declared.field.Field.TheVariants.{Word, Number, Dash}
use Rattle.fields.specs.declared.reader.Reader.{Reader}
use Rattle.fields.specs.Lines.{lines, after, line_at}
use Rattle.fields.specs.Kinds.{Kind, plain, text}

-- The line that begins at byte p; empty at the end of the text.
abbrev pub next_line : List ℕ → ℕ → List ℕ
next_line t p = slice_index_or (lines (drop p t)) 0 []

-- The text that a reader stands over, and the byte at which the next line begins.
abbrev pub text_of : Reader → List ℕ
text_of reader = reader.text.now

abbrev pub place_of : Reader → ℕ
place_of reader = reader.at

-- The number of the next line, from 1, in the whole text.
abbrev pub number_of : Reader → ℕ
number_of reader = line_at (text_of reader) (place_of reader)

-- The next line; empty at the end of the text.
abbrev pub next_of : Reader → List ℕ
next_of reader = next_line (text_of reader) (place_of reader)

-- What a field of the code says.
abbrev pub said : Field → Kind
said (Word w) = Kind.Word w.now
said (Number z) = Kind.Number z
said Dash = Kind.Dash

-- The number that digits spell, if they may stand for one.
abbrev pub digits_value : List ℕ → Option ℕ
digits_value ds = cond (plain ds) (Some (value 10 ds)) None

-- The next line is taken from p and leaves the reader at q; at the end of the text there is none, and it stays.
abbrev pub Taken : List ℕ → ℕ → ℕ → Option (Bor (List ℕ)) → Type 0
Taken t p q None = (lines (drop p t) ≡ []) × (q ≡ p)
Taken t p q (Some l) = (lines (drop p t) ≡ l.now ∷ lines (drop q t)) × (drop q t ≡ after 1 (drop p t)) × (line_at t q ≡ line_at t p + 1)

-- Field n, from 1, of a line with the fields ws.
abbrev pub field_at : List (List ℕ) → ℕ → Option (List ℕ)
field_at ws n = cond (nat_le 1 n && nat_le n (length ws)) (Some (slice_index_or ws (n - 1) [])) None

-- The field's bytes stand at s in the text.
abbrev pub Stands : List ℕ → ℕ → Option Field → Type 0
Stands t s None = Unit {0}
Stands t s (Some f) = take (length (text (said f))) (drop s t) ≡ text (said f)
