-- What taking a line keeps: where lines begin, and their count.
use Rattle.std.proofs.Common.{◌≡◌, ℕ, suc, ◌+◌, ◌-◌, ◌<◌, ◌≤◌, ◌≢◌, min, Bool, true, false, cond, eqb, leb, ◌⊎◌, List, [], ◌∷◌, ◌++◌, length, get_or, take, drop, sym, ap, ◌∙◌, inl, inr, ⊎_elim, arith, subst, refl, length-append, take-add, Option, Some, None, Bor}
use denote.Param.Members.{Mut}
use Rattle.std.specs.Fn.{ComputesKey}
use Rattle.std.specs.Option.{MatchOption, unwrap_or}
use Rattle.std.proofs.lemmas.List.{take_at, get_or_at, append_assoc, take_more, get_or-drop, length-drop, length-take-le}
use Rattle.std.proofs.lemmas.Bool.{or_left, or_right, or_cases, leb-true, le-leb, cases_lt}
use Rattle.std.specs.List.{IsFirstMatchOrLen}
use Rattle.fields.specs.Lines.{onto, lines, closed, begins_line, line_at}
use Rattle.fields.specs.Fields.{Cut}
use Rattle.fields.specs.Readers.{Taken}
use Rattle.fields.proofs.Splits.{lines_line}
use Rattle.fields.proofs.Positions.{lines_append, lines_alone, lines_end, front_lacks, closed_push, cut_first, lines_step, next_place, after_step, after_zero}

-- A text has at most as many lines as bytes.
pub lines_few : (t : List ℕ) → length (lines t) ≤ length t
unfolding lines onto
lines_few [] = omega arith
lines_few (c ∷ cs) = go (eqb c 10) (lines cs) (lines_few cs)
  where
    go : (b : Bool) (ls : List (List ℕ)) → length ls ≤ length cs → length (cond b ([] ∷ ls) (onto c ls)) ≤ suc (length cs)
    go true ls h = omega arith
    go false [] h = omega arith
    go false (l ∷ ls) h = omega arith

pub number_few : (t : List ℕ) (p : ℕ) → p ≤ length t → line_at t p ≤ p + 1
number_few t p h = omega (arith, lines_few (take p t), length-take-le p t h)

-- The line that is taken ends at e, and the next begins at q.
module _ (t : List ℕ) (p e q : ℕ) (inside : p < length t) (low : p ≤ e) (cut : Cut 10 (drop p t) (e - p))
    (way : ((q ≡ e + 1) × (e < length t)) ⊎ ((q ≡ e) × (length t ≤ e))) where
  here : e < length t → get_or t e 0 ≡ 10
  here h = ⊎_elim
      (λ (f : e - p ≡ length (drop p t)). absurd (omega (arith, length-drop p t)))
      (λ f. ap (λ n. get_or t n 0) (let same : e ≡ p + (e - p) = omega arith in same) ∙ sym (get_or-drop p t (e - p) 0) ∙ f)
      cut.found

  pub begins_next : begins_line t q ≡ true
  begins_next = go way
    where
      go : ((q ≡ e + 1) × (e < length t)) ⊎ ((q ≡ e) × (length t ≤ e)) → begins_line t q ≡ true
      go (inl (f, h)) = or_right (leb (length t) q) _
          (ap (λ n. closed (take n t)) f ∙ ap closed (take_more t e 0 h ∙ ap (λ b. take e t ++ b ∷ []) (here h)) ∙ closed_push (take e t))
      go (inr (f, h)) = or_left (leb (length t) q) _ (le-leb (length t) q (omega arith))

  -- what lies between is one line
  one : length (lines (take (q - p) (drop p t))) ≡ 1
  one = go way
    where
      size : length (drop p t) ≡ length t - p
      size = length-drop p t

      go : ((q ≡ e + 1) × (e < length t)) ⊎ ((q ≡ e) × (length t ≤ e)) → length (lines (take (q - p) (drop p t))) ≡ 1
      go (inl (f, h)) =
          let same : q - p ≡ e - p + 1 = omega arith in
          let far : e - p < length (drop p t) = omega (arith, size) in
          let ten : get_or (drop p t) (e - p) 0 ≡ 10 = get_or-drop p t (e - p) 0 ∙ ap (λ n. get_or t n 0) (let i : p + (e - p) ≡ e = omega arith in i) ∙ here h in
          ap (λ n. length (lines (take n (drop p t)))) same
          ∙ ap (λ l. length (lines l)) (take_more (drop p t) (e - p) 0 far ∙ ap (λ b. take (e - p) (drop p t) ++ b ∷ []) ten)
          ∙ ap length (lines_line (take (e - p) (drop p t)) [] (front_lacks 10 (drop p t) (e - p) cut) ∙ ap (λ ls. take (e - p) (drop p t) ∷ ls) lines_end)
      go (inr (f, h)) =
          let same : q - p ≡ e - p = omega arith in
          let inside-cut = cut.inside in
          let some : 0 < length (take (e - p) (drop p t)) = let k = length-take-le (e - p) (drop p t) inside-cut in omega (arith, size) in
          ap (λ n. length (lines (take n (drop p t)))) same
          ∙ ap length (lines_alone (take (e - p) (drop p t)) some (front_lacks 10 (drop p t) (e - p) cut))

  pub next_number : begins_line t p ≡ true → line_at t p + 1 ≡ line_at t q
  next_number b =
      let shut : closed (take p t) ≡ true = ⊎_elim (λ (f : leb (length t) p ≡ true). absurd (omega (arith, leb-true (length t) p f))) (λ f. f) (or_cases (leb (length t) p) (closed (take p t)) b) in
      let far : p + (q - p) ≡ q = ⊎_elim (λ (f : (q ≡ e + 1) × (e < length t)). omega arith) (λ (f : (q ≡ e) × (length t ≤ e)). omega arith) way in
      let parts : lines (take q t) ≡ lines (take p t) ++ lines (take (q - p) (drop p t)) = ap lines (ap (λ n. take n t) (sym far) ∙ take-add p (q - p) t) ∙ lines_append (take p t) (take (q - p) (drop p t)) shut in
      omega (arith, ap length parts, length-append (lines (take p t)) (lines (take (q - p) (drop p t))), one)

-- x is what `split_inclusive` at the bytes 10 gives first of u: a line and its byte 10, which the last may lack. The line ends at n.
pub record Piece (u x : List ℕ) : Type 0 where
  pub rest : List ℕ
  pub whole : u ≡ x ++ rest
  pub n : ℕ
  pub cut : Cut 10 u n
  pub size : ((length x ≡ n + 1) × (n < length u)) ⊎ ((length x ≡ n) × (length u ≤ n))
  pub some : 0 < length u

-- from the clause of its `next`; s is what it was called on
pub piece_from : {F : Type 0} (g : Mut F (Bor ℕ × Unit {0}) Bool) (f h : F) (u s x rest : List ℕ) → s ≡ u → ComputesKey g (λ y. eqb y 10) f
    → (s ≡ x ++ rest) × ((i : ℕ) × (length x ≡ min (i + 1) (length s)) × ((k : ℕ → Bool) → ComputesKey g k f → ComputesKey g k h × IsFirstMatchOrLen k s i)) × (0 < length s) → Piece u x
piece_from g f h u s x rest same key (whole, (i, size, first), some) = subst (λ (w : List ℕ). Piece w x) same record {
  rest = rest;
  whole = whole;
  n = min i (length s);
  cut = cut_first 10 s i (first (λ y. eqb y 10) key).1;
  size = ⊎_elim (λ (h : i < length s). inl (omega arith, omega arith)) (λ (h : length s ≤ i). inr (omega arith, omega arith)) (cases_lt i (length s));
  some = some;
}

module _ (u x : List ℕ) (piece : Piece u x) where
  front : take (length x) u ≡ x
  front = ap (take (length x)) piece.whole ∙ take_at x piece.rest (length x) refl

  -- The line is what stands in front of the byte 10, or all of it.
  ended : (y : List ℕ) → x ≡ y ++ 10 ∷ [] → y ≡ take piece.n u
  ended y e =
      let whole : u ≡ y ++ 10 ∷ piece.rest = piece.whole ∙ ap (λ w. w ++ piece.rest) e ∙ append_assoc y (10 ∷ []) piece.rest in
      let size : length x ≡ length y + 1 = ap length e ∙ length-append y (10 ∷ []) in
      let ten : get_or u (length y) 0 ≡ 10 = ap (λ w. get_or w (length y) 0) whole ∙ get_or_at y 10 piece.rest 0 (length y) refl in
      let low : piece.n ≤ length y = ⊎_elim (λ (h : length y < piece.n). absurd (piece.cut.before (length y) h ten)) (λ (h : piece.n ≤ length y). h) (cases_lt (length y) piece.n) in
      let same : length y ≡ piece.n = ⊎_elim (λ (h : (length x ≡ piece.n + 1) × (piece.n < length u)). omega arith) (λ (h : (length x ≡ piece.n) × (length u ≤ piece.n)). absurd (omega arith)) piece.size in
      sym (ap (take piece.n) whole ∙ take_at y (10 ∷ piece.rest) piece.n same)

  unended : ((y : List ℕ) → x ≢ y ++ 10 ∷ []) → x ≡ take piece.n u
  unended h = ⊎_elim
      (λ (k : (length x ≡ piece.n + 1) × (piece.n < length u)).
      let ten : get_or u piece.n 0 ≡ 10 = ⊎_elim (λ (f : piece.n ≡ length u). absurd (omega arith)) (λ f. f) piece.cut.found in
      absurd (h (take piece.n u) (sym front ∙ ap (λ n. take n u) k.0 ∙ take_more u piece.n 0 k.1 ∙ ap (λ b. take piece.n u ++ b ∷ []) ten)))
      (λ (k : (length x ≡ piece.n) × (length u ≤ piece.n)). sym front ∙ ap (λ n. take n u) k.0)
      piece.size

  pub bare : (line : Bor (List ℕ)) (r : Option (Bor (List ℕ))) → line.now ≡ x → MatchOption r ((y : List ℕ) → x ≢ y ++ 10 ∷ []) (λ l. x ≡ l.now ++ 10 ∷ []) → (unwrap_or r line).now ≡ take piece.n u
  bare line None e h = e ∙ unended h
  bare line (Some l) e h = ended l.now h

module _ (t : List ℕ) (p : ℕ) (x : List ℕ) (b : begins_line t p ≡ true) (piece : Piece (drop p t) x) where
  inside : p < length t
  inside = let k = piece.some in omega (arith, length-drop p t)

  same : piece.n ≡ p + piece.n - p
  same = omega arith

  cut : Cut 10 (drop p t) (p + piece.n - p)
  cut = subst (λ (n : ℕ). Cut 10 (drop p t) n) same piece.cut

  way : ((p + length x ≡ p + piece.n + 1) × (p + piece.n < length t)) ⊎ ((p + length x ≡ p + piece.n) × (length t ≤ p + piece.n))
  way = ⊎_elim
      (λ (h : (length x ≡ piece.n + 1) × (piece.n < length (drop p t))). inl (omega arith, omega (arith, length-drop p t)))
      (λ (h : (length x ≡ piece.n) × (length (drop p t) ≤ piece.n)). inr (omega arith, omega (arith, length-drop p t)))
      piece.size

  within : p + length x ≤ length t
  within =
      let all : length (drop p t) ≡ length x + length piece.rest = ap length piece.whole ∙ length-append x piece.rest in
      let i = inside in
      omega (arith, length-drop p t)

  pub kept : (p + length x ≤ length t) × (begins_line t (p + length x) ≡ true) × (line_at t p + 1 ≡ line_at t (p + length x))
  kept = (within, begins_next t p _ _ inside (omega arith) cut way, next_number t p _ _ inside (omega arith) cut way b)

  pub taken : (l : Bor (List ℕ)) → l.now ≡ take piece.n (drop p t) → Taken t p (p + length x) (Some l)
  taken l is =
      let place : drop (p + length x) t ≡ drop (p + piece.n + 1) t = next_place t (p + piece.n) (p + length x) (⊎_elim (λ f. inl f.0) (λ f. inr f) way) in (
        lines_step t p (p + piece.n) inside (omega arith) cut ∙ ap (λ n. take n (drop p t) ∷ lines (drop (p + piece.n + 1) t)) (sym same) ∙ ap (λ w. w ∷ lines (drop (p + piece.n + 1) t)) (sym is) ∙ ap (λ w. l.now ∷ lines w) (sym place),
        place ∙ after_step t p 0 p (p + piece.n) (omega arith) (sym (after_zero (drop p t))) cut,
        sym (kept.2),
      )
