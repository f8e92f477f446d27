-- Reading the names line: the order of the columns, or refusal 1.
use Rattle.std.specs.Prelude.{◌≡◌, ℕ, ◌+◌, true, false, not, ◌&&◌, List, [], ◌∷◌, drop, Some, None, Ok, Err, codes, Option, Result}
use Rattle.fields.specs.declared.reader.Reader.{Reader}
use Rattle.fields.specs.Lines.{lines, after}
use Rattle.fields.specs.Fields.{fields}
use Rattle.fields.specs.Readers.{text_of, place_of, number_of}
use Rattle.text.specs.declared.fault.Refusal.{Refusal}
use Rattle.text.specs.declared.names.Had.{Had}
use Rattle.text.specs.declared.order.Order.{Order}
use Rattle.text.specs.Reading.{order_of, has, known, bad_names}

-- The lines that a reader has before it.
abbrev pub ahead : Reader → List (List ℕ)
ahead reader = lines (drop (place_of reader) (text_of reader))

-- A reader that has taken n lines more of the same text.
pub record Past (n : ℕ) (before now : Reader) : Type 0 where
  pub over : now.text ≡ before.text
  pub left : drop (place_of now) (text_of before) ≡ after n (drop (place_of before) (text_of before))

abbrev pub named : ℕ → List ℕ → Option Order → Result Order Refusal
named k l None = bad_names k (fields l)
named k l (Some o) = Ok o

-- The names line is text line k, and the first of these lines.
abbrev pub names_read : ℕ → List (List ℕ) → Result Order Refusal
names_read k [] = bad_names k []
names_read k (l ∷ ls) = named k l (order_of l)

-- The reader is past the names line.
pub record PastNames (before now : Reader) : Type 0 where
  pub past : Past 1 before now
  pub numbered : number_of now ≡ number_of before + 1
  pub names : (l : List ℕ) × (ahead before ≡ l ∷ ahead now)

abbrev pub NamesTaken : Reader → Reader → Result Order Refusal → Type 0
NamesTaken before now (Ok o) = PastNames before now
NamesTaken before now (Err refusal) = now ≡ before

-- Three marks stand for the names in a list.
pub record Marks (had : Had) (ws : List (List ℕ)) : Type 0 where
  pub op_had : had.op ≡ has ws (codes "op")
  pub a_had : had.a ≡ has ws (codes "a")
  pub b_had : had.b ≡ has ws (codes "b")

-- The name w is added where it is known and new.
abbrev pub Adds : Had → List ℕ → Option Had → Type 0
Adds had w None = (ws : List (List ℕ)) → Marks had ws → (known w && not (has ws w)) ≡ false
Adds had w (Some more) = (ws : List (List ℕ)) → Marks had ws → ((known w && not (has ws w)) ≡ true) × Marks more (w ∷ ws)
