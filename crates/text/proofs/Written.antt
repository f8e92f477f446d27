-- The cells of a value line: what is written reads back, and holds no space and no line's end.
use Rattle.std.proofs.Common.{◌≡◌, ℕ, suc, ◌^◌, ◌<◌, ◌≤◌, Bool, true, ◌&&◌, leb, List, [], ◌∷◌, ◌++◌, length, ℤ, pos, negsuc, nat_abs, codes, decimal, refl, ap, ◌∙◌, arith}
use lib.Signed.{mag}
use Rattle.std.specs.Fmt.{signed_decimal}
use Rattle.std.specs.Str.{all_ascii_digits}
use Rattle.std.proofs.lemmas.Bool.{and_parts, leb-true, ne_eqb}
use Rattle.std.proofs.lemmas.Str.Parse.{tells_all_ascii_digits}
use Rattle.drive.specs.declared.line.Line.{Line}
use Rattle.drive.specs.declared.line.Line.TheVariants.{Set, Copy, Add, Sub, Neg, In, Out, Jmp, Jz, Jneg, Halt}
use Rattle.text.specs.declared.op.Op.{Op}
use Rattle.text.specs.declared.op.Op.TheVariants.{SET, COPY, ADD, SUB, NEG, IN, OUT, JMP, JZ, JNEG, HALT}
use Rattle.text.specs.declared.order.Order.{Order}
use Rattle.text.specs.declared.order.Order.TheVariants.{OpAB, OpBA, AOpB, BOpA, ABOp, BAOp}
use Rattle.fields.specs.Fields.{fields, spaced}
use Rattle.fields.specs.Kinds.{Kind, Kind.Word, Kind.Number, Kind.Dash, minus, kind, text}
use Rattle.text.specs.Columns.{arrange}
use Rattle.text.specs.Ops.{word, op_of, a_of, b_of}
use Rattle.text.specs.Rendering.{names, value_line}
use Rattle.text.proofs.Fits.{Fit}
use Rattle.fields.proofs.Numbers.{plain_decimal, kind_signed}
use Rattle.fields.proofs.Splits.{Lacks, lacks_append, split_field, split_last, fields_split}

-- every byte is a minus or above it
abbrev pub Above : List ℕ → Type 0
Above [] = Unit {0}
Above (c ∷ cs) = (45 ≤ c) × Above cs

abbrev above : List ℕ → Bool
above [] = true
above (c ∷ cs) = leb 45 c && above cs

above_says : (l : List ℕ) → above l ≡ true → Above l
above_says [] h = tt
above_says (c ∷ cs) h = let (p, q) = and_parts (leb 45 c) (above cs) h in (leb-true 45 c p, above_says cs q)

above_digits : (ds : List ℕ) → all_ascii_digits ds ≡ true → Above ds
above_digits [] h = tt
above_digits (c ∷ cs) h = let (p, q) = tells_all_ascii_digits.parts c cs h in (omega (arith, p.0), above_digits cs q)

pub lacks_above : (b : ℕ) (l : List ℕ) → b < 45 → Above l → Lacks b l
lacks_above b [] h p = tt
lacks_above b (c ∷ cs) h (i, p) = (ne_eqb c b (λ e. omega arith), lacks_above b cs h p)

pub above_word : (p : Op) → Above (word p)
above_word SET = above_says (word SET) refl
above_word COPY = above_says (word COPY) refl
above_word ADD = above_says (word ADD) refl
above_word SUB = above_says (word SUB) refl
above_word NEG = above_says (word NEG) refl
above_word IN = above_says (word IN) refl
above_word OUT = above_says (word OUT) refl
above_word JMP = above_says (word JMP) refl
above_word JZ = above_says (word JZ) refl
above_word JNEG = above_says (word JNEG) refl
above_word HALT = above_says (word HALT) refl

-- a number of at most five digits, or a dash
abbrev pub Written : Kind → Type 0
Written (Word w) = ⊥
Written (Number z) = nat_abs z ≤ 99999
Written Dash = Unit {0}

above_signed : (z : ℤ) → nat_abs z ≤ 99999 → Above (signed_decimal z)
above_signed (pos n) h = above_digits (decimal n) (plain_decimal n h).digits
above_signed (negsuc n) h = (omega arith, above_digits (decimal (suc n)) (plain_decimal (suc n) h).digits)

pub above_text : (f : Kind) → Written f → Above (text f)
above_text (Word w) h = absurd h
above_text (Number z) h = above_signed z h
above_text Dash h = above_says (codes "-") refl

kind_dash : kind (codes "-") ≡ Dash
unfolding kind minus
kind_dash = refl

pub kind_text : (f : Kind) → Written f → kind (text f) ≡ f
kind_text (Word w) h = absurd h
kind_text (Number z) h = kind_signed z h
kind_text Dash h = kind_dash

short_abs : (z : ℤ) → mag z < 2 ^ 15 → nat_abs z ≤ 99999
short_abs (pos n) h = omega arith
short_abs (negsuc n) h = omega arith

pub a_written : (l : Line) → Fit 64 l → Written (a_of l)
a_written (Set a b) h = omega arith
a_written (Copy a b) h = omega arith
a_written (Add a b) h = omega arith
a_written (Sub a b) h = omega arith
a_written (Neg a) h = omega arith
a_written (In a) h = omega arith
a_written (Out a) h = omega arith
a_written (Jmp a) h = omega arith
a_written (Jz a b) h = omega arith
a_written (Jneg a b) h = omega arith
a_written Halt h = tt

pub b_written : (l : Line) → Fit 64 l → Written (b_of l)
b_written (Set a b) h = short_abs b h.1
b_written (Copy a b) h = omega arith
b_written (Add a b) h = omega arith
b_written (Sub a b) h = omega arith
b_written (Neg a) h = tt
b_written (In a) h = tt
b_written (Out a) h = tt
b_written (Jmp a) h = tt
b_written (Jz a b) h = omega arith
b_written (Jneg a b) h = omega arith
b_written Halt h = tt

-- three fields, and in any order
fields_three : (x y z : List ℕ) → Above x → Above y → Above z → fields (spaced (x ∷ (y ∷ (z ∷ [])))) ≡ x ∷ (y ∷ (z ∷ []))
unfolding spaced
fields_three x y z p q r =
    fields_split (x ++ 32 ∷ (y ++ 32 ∷ z)) (simp lib.ListN.length-append (omega arith))
    ∙ split_field x (y ++ 32 ∷ z) (lacks_above 32 x (omega arith) p)
    ∙ ap (λ ws. x ∷ ws) (split_field y z (lacks_above 32 y (omega arith) q) ∙ ap (λ ws. y ∷ ws) (split_last z (lacks_above 32 z (omega arith) r)))

lacks_three : (x y z : List ℕ) → Above x → Above y → Above z → Lacks 10 (spaced (x ∷ (y ∷ (z ∷ []))))
unfolding spaced
lacks_three x y z p q r =
    lacks_append 10 x (32 ∷ (y ++ 32 ∷ z)) (lacks_above 10 x (omega arith) p)
    (refl, lacks_append 10 y (32 ∷ z) (lacks_above 10 y (omega arith) q) (refl, lacks_above 10 z (omega arith) r))

length_three : (x y z : List ℕ) → 0 < length (spaced (x ∷ (y ∷ (z ∷ []))))
unfolding spaced
length_three x y z = simp lib.ListN.length-append (omega arith)

pub fields_arranged : (o : Order) (w x y : List ℕ) → Above w → Above x → Above y → fields (spaced (arrange o w x y)) ≡ arrange o w x y
fields_arranged OpAB w x y p q r = fields_three w x y p q r
fields_arranged OpBA w x y p q r = fields_three w y x p r q
fields_arranged AOpB w x y p q r = fields_three x w y q p r
fields_arranged BOpA w x y p q r = fields_three y w x r p q
fields_arranged ABOp w x y p q r = fields_three x y w q r p
fields_arranged BAOp w x y p q r = fields_three y x w r q p

pub lacks_arranged : (o : Order) (w x y : List ℕ) → Above w → Above x → Above y → Lacks 10 (spaced (arrange o w x y))
lacks_arranged OpAB w x y p q r = lacks_three w x y p q r
lacks_arranged OpBA w x y p q r = lacks_three w y x p r q
lacks_arranged AOpB w x y p q r = lacks_three x w y q p r
lacks_arranged BOpA w x y p q r = lacks_three y w x r p q
lacks_arranged ABOp w x y p q r = lacks_three x y w q r p
lacks_arranged BAOp w x y p q r = lacks_three y x w r q p

pub length_arranged : (o : Order) (w x y : List ℕ) → 0 < length (spaced (arrange o w x y))
length_arranged OpAB w x y = length_three w x y
length_arranged OpBA w x y = length_three w y x
length_arranged AOpB w x y = length_three x w y
length_arranged BOpA w x y = length_three y w x
length_arranged ABOp w x y = length_three x y w
length_arranged BAOp w x y = length_three y x w

pub lacks_names : (o : Order) → Lacks 10 (names o)
lacks_names o = lacks_arranged o (codes "op") (codes "a") (codes "b") (above_says (codes "op") refl) (above_says (codes "a") refl) (above_says (codes "b") refl)

pub lacks_line : (o : Order) (l : Line) → Fit 64 l → Lacks 10 (value_line o l)
lacks_line o l h = lacks_arranged o _ _ _ (above_word (op_of l)) (above_text (a_of l) (a_written l h)) (above_text (b_of l) (b_written l h))

pub line_fields : (o : Order) (l : Line) → Fit 64 l → fields (value_line o l) ≡ arrange o (word (op_of l)) (text (a_of l)) (text (b_of l))
line_fields o l h = fields_arranged o _ _ _ (above_word (op_of l)) (above_text (a_of l) (a_written l h)) (above_text (b_of l) (b_written l h))
