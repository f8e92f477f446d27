-- A line's fields by their place.
use Rattle.std.proofs.Common.{◌≡◌, ℕ, zero, suc, ◌+◌, ◌-◌, ◌<◌, ◌≤◌, Bool, true, false, cond, ◌&&◌, eqb, leb, List, [], ◌∷◌, ◌++◌, length, get_or, take, drop, Some, None, sym, refl, ap, ◌∙◌, ⊎_elim, arith}
use Rattle.std.proofs.lemmas.List.{take_all, drop-drop, length-drop, length-take, take-append-le, drop-append-le}
use Rattle.std.specs.List.{slice_get, slice_split, onto_first}
use Rattle.std.proofs.lemmas.Option.{slice_get-get_or, slice_get_past, none-some, same_Some}
use Rattle.std.proofs.lemmas.Bool.{and_from, and_parts, and_right, leb-true, cond-true, cond-false, le-leb, lt-leb, cases_lt}
use Rattle.fields.specs.Lines.{onto, lines}
use Rattle.fields.specs.Fields.{split, fields, spaced, start}
use Rattle.fields.specs.Readers.{field_at, next_line}
use Rattle.fields.proofs.Splits.{fields_split, spaced_fields}

pub field_none : (ws : List (List ℕ)) (n : ℕ) → length ws < n → None ≡ field_at ws n
field_none ws n h = sym (cond-false (leb 1 n && leb n (length ws)) _ _ (and_right (leb 1 n) _ (lt-leb n (length ws) h)))

pub field_some : (ws : List (List ℕ)) (n : ℕ) → 1 ≤ n → n ≤ length ws → Some (get_or ws (n - 1) []) ≡ field_at ws n
field_some ws n low high = sym (cond-true (leb 1 n && leb n (length ws)) _ _ (and_from (leb 1 n) _ (le-leb 1 n low) (le-leb n (length ws) high)))

pub field_get : (ws : List (List ℕ)) (n : ℕ) → 1 ≤ n → slice_get ws (n - 1) ≡ field_at ws n
field_get ws n low = ⊎_elim
    (λ (h : n - 1 < length ws). slice_get-get_or ws (n - 1) [] h ∙ field_some ws n low (omega arith))
    (λ (h : length ws ≤ n - 1). slice_get_past ws (n - 1) h ∙ field_none ws n (omega arith))
    (cases_lt (n - 1) (length ws))

-- The fields of a line are its parts at the spaces, but an empty line has none.
pub field_empty : (l : List ℕ) (n : ℕ) → length l ≡ 0 → field_at (fields l) n ≡ None
unfolding fields
field_empty [] zero h = refl
field_empty [] (suc n) h = sym (field_none [] (suc n) (omega arith))
field_empty (c ∷ cs) n h = absurd (omega arith)

pub field_split : (l : List ℕ) (n : ℕ) → 0 < length l → 1 ≤ n → field_at (fields l) n ≡ slice_get (split l) (n - 1)
field_split l n some low = sym (field_get (fields l) n low) ∙ ap (λ ws. slice_get ws (n - 1)) (fields_split l some)

-- Where a field stands in its line.
pub standing : (ws : List (List ℕ)) (i : ℕ) → i < length ws → take (length (get_or ws i [])) (drop (start i ws) (spaced ws)) ≡ get_or ws i []
unfolding spaced
standing [] i h = absurd (omega arith)
standing (w ∷ []) zero h = take_all (length w) w (omega arith)
standing (w ∷ []) (suc i) h = absurd (omega arith)
standing (w ∷ (v ∷ vs)) zero h = take-append-le (length w) w (32 ∷ spaced (v ∷ vs)) (omega arith) ∙ take_all (length w) w (omega arith)
standing (w ∷ (v ∷ vs)) (suc i) h =
    ap (take (length (get_or (v ∷ vs) i []))) (past w (start i (v ∷ vs)) (spaced (v ∷ vs))) ∙ standing (v ∷ vs) i (omega arith)
  where
    past : (w : List ℕ) (n : ℕ) (u : List ℕ) → drop (length w + 1 + n) (w ++ 32 ∷ u) ≡ drop n u
    past [] n u = ap (λ k. drop k (32 ∷ u)) (let e : 0 + 1 + n ≡ suc n = omega arith in e)
    past (c ∷ cs) n u = ap (λ k. drop k (c ∷ (cs ++ 32 ∷ u))) (let e : suc (length cs) + 1 + n ≡ suc (length cs + 1 + n) = omega arith in e) ∙ past cs n u

-- What stands at s in the front of a text stands there in the text.
pub in_front : (w u line rest : List ℕ) (s : ℕ) → u ≡ line ++ rest → take (length w) (drop s line) ≡ w → take (length w) (drop s u) ≡ w
in_front [] u line rest s e h = refl
in_front (c ∷ cs) u line rest s e h =
    let long = ap length h in
    let room : length (c ∷ cs) ≤ length (drop s line) = omega (arith, length-take (length (c ∷ cs)) (drop s line)) in
    let inside : s ≤ length line = omega (arith, length-drop s line) in
    ap (λ x. take (length (c ∷ cs)) (drop s x)) e
    ∙ ap (take (length (c ∷ cs))) (drop-append-le s line rest inside)
    ∙ take-append-le (length (c ∷ cs)) (drop s line) rest room
    ∙ h

-- The first part of a text that is split at its bytes 10 is its first line.
pub first_is : (t : List ℕ) → slice_get (slice_split (λ b. eqb b 10) t) 0 ≡ Some (get_or (lines t) 0 [])
unfolding lines onto
first_is [] = refl
first_is (c ∷ cs) = go (eqb c 10) (slice_split (λ b. eqb b 10) cs) (lines cs) (first_is cs)
  where
    go : (b : Bool) (ws ls : List (List ℕ)) → slice_get ws 0 ≡ Some (get_or ls 0 []) → slice_get (cond b ([] ∷ ws) (onto_first c ws)) 0 ≡ Some (get_or (cond b ([] ∷ ls) (onto c ls)) 0 [])
    go true ws ls h = refl
    go false [] ls h = absurd (none-some _ h)
    go false (w ∷ ws) [] h = ap (λ x. Some (c ∷ x)) (same_Some _ _ h)
    go false (w ∷ ws) (l ∷ ls) h = ap (λ x. Some (c ∷ x)) (same_Some _ _ h)

-- A text begins with its first line.
pub first_front : (t : List ℕ) → (rest : List ℕ) × (t ≡ get_or (lines t) 0 [] ++ rest)
unfolding lines onto
first_front [] = ([], refl)
first_front (c ∷ cs) = go (eqb c 10) (lines cs) (first_front cs)
  where
    go : (b : Bool) (ls : List (List ℕ)) → (rest : List ℕ) × (cs ≡ get_or ls 0 [] ++ rest) → (rest : List ℕ) × (c ∷ cs ≡ get_or (cond b ([] ∷ ls) (onto c ls)) 0 [] ++ rest)
    go true ls h = (c ∷ cs, refl)
    go false [] h = (cs, refl)
    go false (l ∷ ls) (rest, h) = (rest, ap (λ x. c ∷ x) h)

-- A field that is there has its place.
pub some_field : (ws : List (List ℕ)) (n : ℕ) (w : List ℕ) → Some w ≡ field_at ws n → (n - 1 < length ws) × (w ≡ get_or ws (n - 1) [])
some_field ws n w e = go (leb 1 n && leb n (length ws)) refl e
  where
    go : (b : Bool) → (leb 1 n && leb n (length ws)) ≡ b → Some w ≡ cond b (Some (get_or ws (n - 1) [])) None → (n - 1 < length ws) × (w ≡ get_or ws (n - 1) [])
    go true f e = let (low, high) = and_parts (leb 1 n) _ f in let h = leb-true 1 n low in let i = leb-true n (length ws) high in (omega arith, cc)
    go false f e = let z : ◌≡◌ {A = ℕ} 0 1 = cc in absurd (omega arith)

pub field_stands : (t : List ℕ) (p n : ℕ) (w : List ℕ) → Some w ≡ field_at (fields (next_line t p)) n
    → take (length w) (drop (p + start (n - 1) (fields (next_line t p))) t) ≡ w
field_stands t p n w h =
    let line = next_line t p in
    let s = start (n - 1) (fields line) in
    let (inside, is) = some_field (fields line) n w h in
    let there : take (length w) (drop s line) ≡ w = rw is (ap (λ x. take (length (get_or (fields line) (n - 1) [])) (drop s x)) (sym (spaced_fields line)) ∙ standing (fields line) (n - 1) inside) in
    let (rest, front) = first_front (drop p t) in
    ap (take (length w)) (sym (drop-drop s p t)) ∙ in_front w (drop p t) line rest s front there

-- A line has at most one field more than bytes, and no more bytes than the text.
split_few : (l : List ℕ) → length (split l) ≤ length l + 1
unfolding split onto
split_few [] = omega arith
split_few (c ∷ cs) = go (eqb c 32) (split cs) (split_few cs)
  where
    go : (b : Bool) (ws : List (List ℕ)) → length ws ≤ length cs + 1 → length (cond b ([] ∷ ws) (onto c ws)) ≤ suc (length cs) + 1
    go true ws h = omega arith
    go false [] h = omega arith
    go false (w ∷ ws) h = omega arith

pub fields_few : (l : List ℕ) → length (fields l) ≤ length l + 1
unfolding fields
fields_few [] = omega arith
fields_few (c ∷ cs) = split_few (c ∷ cs)

first_few : (t : List ℕ) → length (get_or (lines t) 0 []) ≤ length t
unfolding lines onto
first_few [] = omega arith
first_few (c ∷ cs) = go (eqb c 10) (lines cs) (first_few cs)
  where
    go : (b : Bool) (ls : List (List ℕ)) → length (get_or ls 0 []) ≤ length cs → length (get_or (cond b ([] ∷ ls) (onto c ls)) 0 []) ≤ suc (length cs)
    go true ls h = omega arith
    go false [] h = omega arith
    go false (l ∷ ls) h = omega arith

pub next_few : (t : List ℕ) (p : ℕ) → length (next_line t p) ≤ length t
next_few t p = omega (arith, first_few (drop p t), length-drop p t)
