-- The digits of a number and the number that they spell.
use Rattle.std.proofs.Common.{◌≡◌, ℕ, zero, suc, ◌+◌, ◌-◌, ◌*◌, ◌^◌, ◌<◌, ◌≤◌, ◌≢◌, Bool, true, false, cond, not, ◌&&◌, ◌||◌, eqb, leb, ◌⊎◌, List, [], ◌∷◌, length, get_or, take, ℤ, pos, negsuc, neg_ℤ, nat_abs, decimal, sym, refl, ap, ◌∙◌, inl, inr, ⊎_elim, subst, Some, None, Option, arith}
use Rattle.std.specs.Str.Parse.{digits_value, AllDigits}
use Rattle.std.specs.Char.{digit_value}
use Rattle.std.specs.Fmt.{signed_decimal}
use Rattle.std.specs.Option.{option_map, MatchOption, IsSomeAnd}
use Rattle.std.specs.Str.{all_ascii_digits}
use Rattle.std.proofs.lemmas.Int.Digits.{digits_more, digits_value_more}
use Rattle.std.proofs.lemmas.List.{length-take-le}
use Rattle.std.proofs.lemmas.Str.{digit_value_digit}
use Rattle.std.proofs.lemmas.Bool.{and_right, not_from_true, and_parts, and_from, or_left, or_right, or_cases, not-true, not_from_false, le-leb, leb-true, eq-eqb, ne_eqb, eqb-true, eqb-false, cases_Bool, cond-true, cond-false}
use Rattle.std.proofs.lemmas.Str.Parse.{IsNumeralModel, digit_at, tells_all_ascii_digits, numerals_by_value, digits_value_short}
use Rattle.std.proofs.lemmas.Fmt.{digits_decimal, digits_value-decimal, decimal-digits_value, length-decimal-le, decimal_nonempty, first_decimal, decimal_digit}
use Rattle.fields.specs.Readers.{digits_value as value}
use Rattle.fields.specs.Kinds.{Kind.Word, Kind.Number, Kind.Dash, plain, minus, kind, text}

own : IsNumeralModel (λ ds. all_ascii_digits ds ≡ true) (digits_value 10)
own = numerals_by_value _ tells_all_ascii_digits

-- what `plain` says
pub record Plain (ds : List ℕ) : Type 0 where
  pub digits : all_ascii_digits ds ≡ true
  pub some : 1 ≤ length ds
  pub short : length ds ≤ 5
  pub lead : get_or ds 0 0 ≡ 48 → length ds ≡ 1

pub plain_says : (ds : List ℕ) → plain ds ≡ true → Plain ds
unfolding plain
plain_says ds h =
    let (p, q) = and_parts (all_ascii_digits ds) _ h in
    let (r, s) = and_parts (leb 1 (length ds)) _ q in
    let (t, u) = and_parts (leb (length ds) 5) _ s in
    record {
      digits = p;
      some = leb-true 1 (length ds) r;
      short = leb-true (length ds) 5 t;
      lead = λ e. ⊎_elim (λ v. eqb-true (length ds) 1 v) (λ v. absurd (eqb-false (get_or ds 0 0) 48 (not-true _ v) e)) (or_cases (eqb (length ds) 1) _ u);
    }

pub plain_from : (ds : List ℕ) → Plain ds → plain ds ≡ true
unfolding plain
plain_from ds p =
    and_from (all_ascii_digits ds) _ p.digits (and_from (leb 1 (length ds)) _ (le-leb 1 (length ds) p.some) (and_from (leb (length ds) 5) _ (le-leb (length ds) 5 p.short) (lead (cases_Bool (eqb (get_or ds 0 0) 48)))))
  where
    lead : (eqb (get_or ds 0 0) 48 ≡ true) ⊎ (eqb (get_or ds 0 0) 48 ≡ false) → (eqb (length ds) 1 || not (eqb (get_or ds 0 0) 48)) ≡ true
    lead (inl e) = or_left (eqb (length ds) 1) _ (eq-eqb (length ds) 1 (p.lead (eqb-true (get_or ds 0 0) 48 e)))
    lead (inr e) = or_right (eqb (length ds) 1) _ (not_from_false _ e)

-- such digits are those of the number that they spell
pub decimal_plain : (ds : List ℕ) → Plain ds → decimal (digits_value 10 ds) ≡ ds
decimal_plain ds p =
    let small : digits_value 10 ds < 10 ^ 5 = digits_value_short own ds 5 p.digits p.short in
    decimal-digits_value own ds p.digits (omega (arith, p.some)) p.lead (omega arith)

pub plain_decimal : (n : ℕ) → n ≤ 99999 → Plain (decimal n)
plain_decimal n h = record {
  digits = digits_decimal own n (omega arith);
  some = decimal_nonempty n (omega arith);
  short = length-decimal-le 5 n (omega arith) (omega arith) (omega arith);
  lead = lead n h;
}
  where
    lead : (n : ℕ) → n ≤ 99999 → get_or (decimal n) 0 0 ≡ 48 → length (decimal n) ≡ 1
    lead zero h e = ap length (decimal_digit 0 (omega arith))
    lead (suc m) h e = absurd (omega (arith, first_decimal (suc m) (omega arith) (omega arith)))

pub first_digit : (c : ℕ) (cs : List ℕ) → all_ascii_digits (c ∷ cs) ≡ true → (48 ≤ c) × (c ≤ 57)
first_digit c cs h = (tells_all_ascii_digits.parts c cs h).0

text_minus : (cs : List ℕ) → text (minus cs) ≡ 45 ∷ cs
unfolding minus
text_minus [] = refl
text_minus (d ∷ ds) = go (plain (d ∷ ds) && not (eqb d 48)) refl
  where
    signs : (n : ℕ) → decimal n ≡ d ∷ ds → eqb d 48 ≡ false → signed_decimal (neg_ℤ (pos n)) ≡ 45 ∷ (d ∷ ds)
    signs zero e f = let g = decimal_digit 0 (omega arith) in let same : d ≡ 48 = cc in absurd (eqb-false d 48 f same)
    signs (suc m) e f = ap (λ x. 45 ∷ x) e

    go : (b : Bool) → (plain (d ∷ ds) && not (eqb d 48)) ≡ b → text (cond b (Number (neg_ℤ (pos (digits_value 10 (d ∷ ds))))) (Word (45 ∷ (d ∷ ds)))) ≡ 45 ∷ (d ∷ ds)
    go false e = refl
    go true e =
        let (p, q) = and_parts (plain (d ∷ ds)) _ e in
        signs (digits_value 10 (d ∷ ds)) (decimal_plain (d ∷ ds) (plain_says (d ∷ ds) p)) (not-true _ q)

pub text_kind : (bs : List ℕ) → text (kind bs) ≡ bs
unfolding kind
text_kind [] = refl
text_kind (c ∷ cs) = go (eqb c 45) refl (plain (c ∷ cs)) refl
  where
    go : (b : Bool) → eqb c 45 ≡ b → (d : Bool) → plain (c ∷ cs) ≡ d → text (cond b (minus cs) (cond d (Number (pos (digits_value 10 (c ∷ cs)))) (Word (c ∷ cs)))) ≡ c ∷ cs
    go true e d f = text_minus cs ∙ ap (λ x. x ∷ cs) (sym (eqb-true c 45 e))
    go false e true f = decimal_plain (c ∷ cs) (plain_says (c ∷ cs) f)
    go false e false f = refl

-- a number that is not negative, and one that is
kind_plain : (ds : List ℕ) → Plain ds → kind ds ≡ Number (pos (digits_value 10 ds))
unfolding kind
kind_plain [] p = absurd (omega (arith, p.some))
kind_plain (c ∷ cs) p =
    let d = first_digit c cs p.digits in
    cond-false (eqb c 45) _ _ (ne_eqb c 45 (λ e. omega arith)) ∙ cond-true (plain (c ∷ cs)) _ _ (plain_from (c ∷ cs) p)

minus_plain : (ds : List ℕ) → Plain ds → 48 < get_or ds 0 0 → minus ds ≡ Number (neg_ℤ (pos (digits_value 10 ds)))
unfolding minus
minus_plain [] p h = absurd (omega (arith, p.some))
minus_plain (d ∷ ds) p h =
    cond-true (plain (d ∷ ds) && not (eqb d 48)) _ _ (and_from (plain (d ∷ ds)) _ (plain_from (d ∷ ds) p) (not_from_false _ (ne_eqb d 48 (λ e. omega arith))))

kind_minus : (ds : List ℕ) → kind (45 ∷ ds) ≡ minus ds
unfolding kind
kind_minus ds = refl

pub kind_signed : (z : ℤ) → nat_abs z ≤ 99999 → kind (signed_decimal z) ≡ Number z
kind_signed (pos n) h = kind_plain (decimal n) (plain_decimal n h) ∙ ap (λ x. Number (pos x)) (digits_value-decimal own n (omega arith))
kind_signed (negsuc n) h =
    kind_minus (decimal (suc n)) ∙ minus_plain (decimal (suc n)) (plain_decimal (suc n) h) (first_decimal (suc n) (omega arith) (omega arith))
    ∙ ap (λ x. Number (neg_ℤ (pos x))) (digits_value-decimal own (suc n) (omega arith))

-- for code that looks at the first digit before it reads them all
pub not_plain : (ds : List ℕ) → (Plain ds → ⊥) → plain ds ≡ false
not_plain ds h = go (plain ds) refl
  where
    go : (b : Bool) → plain ds ≡ b → b ≡ false
    go true e = absurd (h (plain_says ds e))
    go false e = refl

-- the number, as the code has it
pub number_is : (ds : List ℕ) → Plain ds → Some (pos (digits_value 10 ds)) ≡ option_map pos (value ds)
number_is ds p = sym (ap (option_map pos) (cond-true (plain ds) _ _ (plain_from ds p)))

pub number_none : (ds : List ℕ) → (Plain ds → ⊥) → None ≡ option_map pos (value ds)
number_none ds h = sym (ap (option_map pos) (cond-false (plain ds) _ _ (not_plain ds h)))

plain_first : (ds : List ℕ) → Plain ds → (48 ≤ get_or ds 0 0) × (get_or ds 0 0 ≤ 57)
plain_first ds p = digit_at ds 0 (own.to ds p.digits) p.some

pub number_none_at : (ds : List ℕ) → (1 ≤ length ds → length ds ≤ 5 → 48 ≤ get_or ds 0 0 → get_or ds 0 0 ≤ 57 → (get_or ds 0 0 ≡ 48 → length ds ≡ 1) → ⊥) → None ≡ option_map pos (value ds)
number_none_at ds h = number_none ds (λ p. let (low, high) = plain_first ds p in h p.some p.short low high p.lead)

pub number_zero : (ds : List ℕ) → length ds ≡ 1 → get_or ds 0 0 ≡ 48 → Some (pos 0) ≡ option_map pos (value ds)
number_zero [] h e = absurd (omega arith)
number_zero (c ∷ []) h e = subst (λ (d : ℕ). Some (pos 0) ≡ option_map pos (value (d ∷ []))) (sym e) (number_is (48 ∷ []) (record { digits = refl; some = omega arith; short = omega arith; lead = λ z. refl }))
number_zero (c ∷ (d ∷ ds)) h e = absurd (omega arith)

-- digits that were read one by one
pub digits_plain : (ds : List ℕ) → Plain ds → AllDigits 10 ds
digits_plain ds p = own.to ds p.digits

pub digits_step : (ds : List ℕ) (i : ℕ) → i < length ds → 48 ≤ get_or ds i 0 → get_or ds i 0 ≤ 57 → AllDigits 10 (take i ds)
    → AllDigits 10 (take (i + 1) ds) × (digits_value 10 (take (i + 1) ds) ≡ digits_value 10 (take i ds) * 10 + (get_or ds i 0 - 48))
digits_step ds i h low high d =
    let e = digit_value_digit (get_or ds i 0) (low, high) in
    let small : digit_value (get_or ds i 0) < 10 = omega arith in
    (digits_more 10 ds i h d small, omega (arith, digits_value_more 10 ds i h))

pub value_small : (ds : List ℕ) → AllDigits 10 ds → length ds ≤ 4 → digits_value 10 ds < 10000
value_small ds d h = digits_value_short own ds 4 (own.from ds d) h

-- there is room for one more
pub value_room : (ds : List ℕ) (i : ℕ) → length ds ≤ 5 → i < length ds → AllDigits 10 (take i ds) → digits_value 10 (take i ds) < 10000
value_room ds i h below d = let l = length-take-le i ds (omega arith) in value_small (take i ds) d (omega arith)

pub number_read : (ds : List ℕ) → AllDigits 10 ds → 49 ≤ get_or ds 0 0 → length ds ≤ 5 → Some (pos (digits_value 10 ds)) ≡ option_map pos (value ds)
number_read [] d low short = absurd (omega arith)
number_read (c ∷ cs) d low short = number_is (c ∷ cs) (record { digits = own.from (c ∷ cs) d; some = omega arith; short = short; lead = λ z. absurd (omega arith) })

-- what a field is, by its first bytes
and_true : (b : Bool) → (b && true) ≡ b
and_true true = refl
and_true false = refl

pub kind_dash : kind (45 ∷ []) ≡ Dash
unfolding kind minus
kind_dash = refl

-- bs spell the number in o, or are a word
abbrev pub Spells : List ℕ → Option ℤ → Type 0
Spells bs o = MatchOption o (Word bs ≡ kind bs) (λ z. Number z ≡ kind bs)

spells_from : (bs : List ℕ) (f : ℕ → ℤ) (b : Bool) (n : ℕ) → kind bs ≡ cond b (Number (f n)) (Word bs) → Spells bs (option_map f (cond b (Some n) None))
spells_from bs f true n e = sym e
spells_from bs f false n e = sym e

spells_unsigned : (bs : List ℕ) → ((ds : List ℕ) → bs ≢ 45 ∷ ds) → Spells bs (option_map pos (value bs))
unfolding kind plain
spells_unsigned [] h = refl
spells_unsigned (c ∷ cs) h = spells_from (c ∷ cs) pos (plain (c ∷ cs)) (digits_value 10 (c ∷ cs)) (cond-false (eqb c 45) _ _ (ne_eqb c 45 (λ e. h cs (ap (λ x. x ∷ cs) e))))

spells_zero : (ds : List ℕ) → 0 < length ds → get_or ds 0 0 ≡ 48 → Spells (45 ∷ ds) None
unfolding kind minus
spells_zero [] h z = absurd (omega arith)
spells_zero (d ∷ ds) h z = sym (cond-false (plain (d ∷ ds) && not (eqb d 48)) _ _ (and_right (plain (d ∷ ds)) _ (not_from_true _ (eq-eqb d 48 z))))

spells_minus : (ds : List ℕ) → 0 < length ds → (get_or ds 0 0 ≡ 48 → ⊥) → Spells (45 ∷ ds) (option_map (λ n. neg_ℤ (pos n)) (value ds))
unfolding kind minus
spells_minus [] h z = absurd (omega arith)
spells_minus (d ∷ ds) h z = spells_from (45 ∷ (d ∷ ds)) (λ n. neg_ℤ (pos n)) (plain (d ∷ ds)) (digits_value 10 (d ∷ ds))
    (ap (λ b. cond b (Number (neg_ℤ (pos (digits_value 10 (d ∷ ds))))) (Word (45 ∷ (d ∷ ds)))) (ap (λ b. plain (d ∷ ds) && not b) (ne_eqb d 48 z) ∙ and_true (plain (d ∷ ds))))

-- the minus, as `map` puts it on; D is what is known of the closure
pub negated : (D : ℤ → ℤ → Type 0) (ds : List ℕ) (r s : Option ℤ) → ((n : ℕ) (z : ℤ) → n < 100000 → D (pos n) z → z ≡ neg_ℤ (pos n))
    → r ≡ option_map pos (value ds) → MatchOption r (s ≡ None) (λ x. IsSomeAnd s (D x)) → s ≡ option_map (λ n. neg_ℤ (pos n)) (value ds)
negated D ds r s says e h = go (plain ds) refl (subst (λ (o : Option ℤ). MatchOption o (s ≡ None) (λ x. IsSomeAnd s (D x))) e h)
  where
    go : (b : Bool) → plain ds ≡ b → MatchOption (option_map pos (cond b (Some (digits_value 10 ds)) None)) (s ≡ None) (λ x. IsSomeAnd s (D x))
        → s ≡ option_map (λ n. neg_ℤ (pos n)) (cond b (Some (digits_value 10 ds)) None)
    go true f h = is s h
      where
        is : (s : Option ℤ) → IsSomeAnd s (D (pos (digits_value 10 ds))) → s ≡ Some (neg_ℤ (pos (digits_value 10 ds)))
        is (Some z) h = let p = plain_says ds f in ap Some (says (digits_value 10 ds) z (digits_value_short own ds 5 p.digits p.short) h)
        is None h = absurd h
    go false f h = h

-- the same of what code has: o is the number that it found in bs
pub number_unsigned : (bs : List ℕ) (o : Option ℤ) → ((ds : List ℕ) → bs ≢ 45 ∷ ds) → o ≡ option_map pos (value bs) → Spells bs o
number_unsigned bs o h e = subst (Spells bs) (sym e) (spells_unsigned bs h)

pub number_zero_minus : (bs ds : List ℕ) (o : Option ℤ) → bs ≡ 45 ∷ ds → 0 < length ds → get_or ds 0 0 ≡ 48 → o ≡ None → Spells bs o
number_zero_minus bs ds o f h z e = subst (λ (p : List ℕ × Option ℤ). Spells p.0 p.1) (λ i. (sym f i, sym e i)) (spells_zero ds h z)

pub number_minus : (bs ds : List ℕ) (o : Option ℤ) → bs ≡ 45 ∷ ds → 0 < length ds → (get_or ds 0 0 ≡ 48 → ⊥) → o ≡ option_map (λ n. neg_ℤ (pos n)) (value ds) → Spells bs o
number_minus bs ds o f h z e = subst (λ (p : List ℕ × Option ℤ). Spells p.0 p.1) (λ i. (sym f i, sym e i)) (spells_minus ds h z)
