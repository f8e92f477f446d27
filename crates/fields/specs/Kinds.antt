-- What a field is: a word, a number or a dash.
use Rattle.std.specs.Prelude.{ℕ, Bool, cond, not, ◌&&◌, ◌||◌, List, [], ◌∷◌, length, ℤ, pos, neg_ℤ, codes, ◌==◌, nat_le, slice_index}
use Rattle.std.specs.Str.Parse.{digits_value}
use Rattle.std.specs.Fmt.{signed_decimal}
use Rattle.std.specs.Str.{all_ascii_digits}

pub data Kind : Type 0 where
  Word : List ℕ → Kind
  Number : ℤ → Kind
  Dash : Kind

-- One to five digits, without a leading zero.
unfoldable pub plain : List ℕ → Bool
plain ds = all_ascii_digits ds && (nat_le 1 (length ds) && (nat_le (length ds) 5 && (length ds == 1 || not (slice_index ds 0 == 48))))

-- What a field is that begins with a minus, by what follows it: there is no -0.
unfoldable pub minus : List ℕ → Kind
minus [] = Dash
minus (d ∷ ds) = cond (plain (d ∷ ds) && not (d == 48)) (Number (neg_ℤ (pos (digits_value 10 (d ∷ ds))))) (Word (45 ∷ (d ∷ ds)))

unfoldable pub kind : List ℕ → Kind
kind [] = Word []
kind (c ∷ cs) = cond (c == 45) (minus cs) (cond (plain (c ∷ cs)) (Number (pos (digits_value 10 (c ∷ cs)))) (Word (c ∷ cs)))

-- How a field is written.
abbrev pub text : Kind → List ℕ
text (Word w) = w
text (Number z) = signed_decimal z
text Dash = codes "-"
