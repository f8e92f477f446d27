-- What is proved of reading and writing.
use Rattle.std.specs.Prelude.{◌≡◌, ℕ, ◌+◌, ◌^◌, ◌<◌, min, ◌⊎◌, ◌↔◌, List, [], ◌∷◌, ◌++◌, length, drop, None, Ok}
use Rattle.std.specs.Int.Signed.{mag}
use Rattle.drive.specs.declared.line.Line.{Line}
use Rattle.drive.specs.declared.line.Line.TheVariants.{Set, Copy, Add, Sub, Neg, In, Out, Jmp, Jz, Jneg, Halt}
use Rattle.drive.specs.Programs.{Sound, at}
use Rattle.fields.specs.Fields.{fields}
use Rattle.text.specs.declared.order.Order.{Order}
use Rattle.text.specs.Rendering.{render}
use Rattle.text.specs.Reading.{Table, order_of, bad_name, reading}

-- SET's number is one of 16 bits, as the type of lines has it.
abbrev pub Sixteen : Line → Type 0
Sixteen (Set a b) = mag b < 2 ^ 15
Sixteen (Copy a b) = Unit {0}
Sixteen (Add a b) = Unit {0}
Sixteen (Sub a b) = Unit {0}
Sixteen (Neg a) = Unit {0}
Sixteen (In a) = Unit {0}
Sixteen (Out a) = Unit {0}
Sixteen (Jmp a) = Unit {0}
Sixteen (Jz a b) = Unit {0}
Sixteen (Jneg a b) = Unit {0}
Sixteen Halt = Unit {0}

-- Lines that a program can have.
pub record Valid (P : List Line) : Type 0 where
  pub sound : Sound P
  pub numbers : (p : ℕ) → Sixteen (at P p)

-- The text begins with the program P as a table in the order o: its rendering, without the last byte 10 or with it at the end of the text, or with an empty line and anything after it.
pub data Spells (o : Order) (P : List Line) (t : List ℕ) : Type 0 where
  unended : t ++ 10 ∷ [] ≡ render o P → Spells o P t
  ended : t ≡ render o P → Spells o P t
  followed : (rest : List ℕ) → t ≡ render o P ++ 10 ∷ rest → Spells o P t

-- What reading such a text from byte p on gives: the place is the text's end, or after the empty line.
abbrev pub spelled : Order → List Line → ℕ → List ℕ → Table
spelled o P p t = record { rows = length P; place = p + min (length t) (length (render o P) + 1); program = P }

-- The text from byte p on spells some program in some order.
abbrev pub Spelled : List ℕ → ℕ → List Line → Type 0
Spelled t p P = Valid P × ((o : Order) × Spells o P (drop p t))

-- A text is accepted exactly if it spells a program, and that program is read.
pub record Accepting : Type 0 where
  pub accepts : (t : List ℕ) (p : ℕ) (o : Order) (P : List Line) → Valid P → Spells o P (drop p t) → reading t p ≡ Ok (spelled o P p (drop p t))
  pub accepted : (t : List ℕ) (p : ℕ) (T : Table) → reading t p ≡ Ok T → Spelled t p T.program
  pub exactly : (t : List ℕ) (p : ℕ) (P : List Line) → ((T : Table) × (reading t p ≡ Ok T) × (T.program ≡ P)) ↔ Spelled t p P
  -- no text spells two programs, nor one in two orders
  pub unique : (t : List ℕ) (o o' : Order) (P P' : List Line) → Valid P → Valid P' → Spells o P t → Spells o' P' t → (o ≡ o') × (P ≡ P')

-- A written program reads back, in every order, and all bytes are used.
abbrev pub RoundTrip : Type 0
RoundTrip = (o : Order) (P : List Line) → Valid P → reading (render o P) 0 ≡ Ok (record { rows = length P; place = length (render o P); program = P })

-- The names line is refused exactly if a name is unknown or had before, or one is missing.
abbrev pub NamesRule : Type 0
NamesRule = (l : List ℕ) → (order_of l ≡ None) ↔ ((0 < bad_name 0 [] (fields l)) ⊎ (length (fields l) < 3))
