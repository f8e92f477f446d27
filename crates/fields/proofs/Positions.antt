-- For code that goes through a text by positions.
use Rattle.std.proofs.Common.{◌≡◌, ℕ, zero, suc, ◌+◌, ◌-◌, ◌<◌, ◌≤◌, min, Bool, true, false, cond, eqb, ◌⊎◌, List, [], ◌∷◌, ◌++◌, length, get_or, take, drop, sym, refl, ap, ◌∙◌, subst, inl, inr, ⊎_elim, arith}
use Rattle.std.proofs.lemmas.List.{take_all, drop_all, take-append-drop, drop_more, get_or-take, drop-drop, length-take-le, length-drop}
use Rattle.std.proofs.lemmas.Bool.{ne_eqb, eqb-true, eqb-false, cases_lt}
use Rattle.std.specs.List.{IsFirstMatchOrLen}
use Rattle.fields.specs.Lines.{onto, lines, after, closed}
use Rattle.fields.specs.Fields.{Cut}
use Rattle.fields.proofs.Splits.{Lacks, lines_line, lines_last, after_line, after_last}

pub lacks_from : (b : ℕ) (l : List ℕ) → ((j : ℕ) → j < length l → get_or l j 0 ≡ b → ⊥) → Lacks b l
lacks_from b [] h = tt
lacks_from b (c ∷ cs) h = (ne_eqb c b (h 0 (omega arith)), lacks_from b cs (λ j d. h (suc j) (omega arith)))

-- the same, as the library's `split_inclusive` has it
pub cut_first : (b : ℕ) (u : List ℕ) (i : ℕ) → IsFirstMatchOrLen (λ y. eqb y b) u i → Cut b u (min i (length u))
cut_first b u i (before, found) = record {
  inside = omega arith;
  before = λ j h. eqb-false (get_or u j 0) b (before j 0 (omega arith) (omega arith));
  found = ⊎_elim
      (λ (h : i < length u). let same : i ≡ min i (length u) = omega arith in inr (subst (λ (n : ℕ). get_or u n 0 ≡ b) same (eqb-true (get_or u i 0) b (found h 0))))
      (λ (h : length u ≤ i). inl (omega arith))
      (cases_lt i (length u));
}

module _ (b : ℕ) (u : List ℕ) (n : ℕ) (c : Cut b u n) where
  pub front_lacks : Lacks b (take n u)
  front_lacks = lacks_from b (take n u) (λ j d e.
      let k : length (take n u) ≡ n = length-take-le n u c.inside in
      let i : j < n = omega arith in
      c.before j i (sym (get_or-take n u j 0 i) ∙ e))

  -- either the front is all, or b follows it
  pub cut_parts : ((u ≡ take n u) × (drop (n + 1) u ≡ [])) ⊎ (u ≡ take n u ++ b ∷ drop (n + 1) u)
  cut_parts = go c.found (cases_lt n (length u))
    where
      all : n ≡ length u → ((u ≡ take n u) × (drop (n + 1) u ≡ [])) ⊎ (u ≡ take n u ++ b ∷ drop (n + 1) u)
      all e = inl (sym (take_all n u (omega arith)), drop_all (n + 1) u (omega arith))

      go : (n ≡ length u) ⊎ (get_or u n 0 ≡ b) → (n < length u) ⊎ (length u ≤ n) → ((u ≡ take n u) × (drop (n + 1) u ≡ [])) ⊎ (u ≡ take n u ++ b ∷ drop (n + 1) u)
      go (inl e) s = all e
      go (inr e) (inr s) = let i = c.inside in all (omega arith)
      go (inr e) (inl s) = inr (sym (take-append-drop n u) ∙ ap (λ x. take n u ++ x) (drop_more u n 0 s ∙ ap (λ x. x ∷ drop (n + 1) u) e))

pub lines_alone : (l : List ℕ) → 0 < length l → Lacks 10 l → lines l ≡ l ∷ []
lines_alone [] h p = absurd (omega arith)
lines_alone (c ∷ cs) h p = lines_last c cs p

pub lines_end : lines [] ≡ []
unfolding lines
lines_end = refl

pub after_zero : (t : List ℕ) → after 0 t ≡ t
unfolding after
after_zero t = refl

-- A LINE: its bytes, and the lines after it
pub lines_cut : (u : List ℕ) (n : ℕ) → 0 < length u → Cut 10 u n → lines u ≡ take n u ∷ lines (drop (n + 1) u)
lines_cut u n some c = go (cut_parts 10 u n c)
  where
    go : ((u ≡ take n u) × (drop (n + 1) u ≡ [])) ⊎ (u ≡ take n u ++ 10 ∷ drop (n + 1) u) → lines u ≡ take n u ∷ lines (drop (n + 1) u)
    go (inl (e, f)) =
        ap lines e ∙ lines_alone (take n u) (subst (λ (x : List ℕ). 0 < length x) e some) (front_lacks 10 u n c) ∙ ap (λ x. take n u ∷ x) (sym (ap lines f ∙ lines_end))
    go (inr e) = ap lines e ∙ lines_line (take n u) (drop (n + 1) u) (front_lacks 10 u n c)

pub after_cut : (u : List ℕ) (n : ℕ) → Cut 10 u n → after 1 u ≡ drop (n + 1) u
after_cut u n c = go (cut_parts 10 u n c)
  where
    go : ((u ≡ take n u) × (drop (n + 1) u ≡ [])) ⊎ (u ≡ take n u ++ 10 ∷ drop (n + 1) u) → after 1 u ≡ drop (n + 1) u
    go (inl (e, f)) = ap (after 1) e ∙ after_last 0 (take n u) (front_lacks 10 u n c) ∙ sym f
    go (inr e) = ap (after 1) e ∙ after_line 0 (take n u) (drop (n + 1) u) (front_lacks 10 u n c) ∙ after_zero (drop (n + 1) u)

pub after_more : (k : ℕ) (t : List ℕ) → after (suc k) t ≡ after 1 (after k t)
unfolding after
after_more zero t = refl
after_more (suc k) [] = refl
after_more (suc k) (c ∷ cs) = go (eqb c 10) (after_more k cs) (after_more (suc k) cs)
  where
    go : (b : Bool) → after (suc k) cs ≡ after 1 (after k cs) → after (suc (suc k)) cs ≡ after 1 (after (suc k) cs) → cond b (after (suc k) cs) (after (suc (suc k)) cs) ≡ after 1 (cond b (after k cs) (after (suc k) cs))
    go true p q = p
    go false p q = q

-- the reader stands at p after k lines from q on; a line that ends at e was read
pub after_step : (t : List ℕ) (q k p e : ℕ) → p ≤ e → drop p t ≡ after k (drop q t) → Cut 10 (drop p t) (e - p) → drop (e + 1) t ≡ after (suc k) (drop q t)
after_step t q k p e d h c =
    let same : p + (e - p + 1) ≡ e + 1 = omega arith in
    sym (after_more k (drop q t) ∙ ap (after 1) (sym h) ∙ after_cut (drop p t) (e - p) c ∙ drop-drop (e - p + 1) p t ∙ ap (λ n. drop n t) same)

pub lines_step : (t : List ℕ) (p e : ℕ) → p < length t → p ≤ e → Cut 10 (drop p t) (e - p) → lines (drop p t) ≡ take (e - p) (drop p t) ∷ lines (drop (e + 1) t)
lines_step t p e some d c =
    let same : p + (e - p + 1) ≡ e + 1 = omega arith in
    lines_cut (drop p t) (e - p) (simp length-drop (omega arith)) c
    ∙ ap (λ x. take (e - p) (drop p t) ∷ lines x) (drop-drop (e - p + 1) p t ∙ ap (λ n. drop n t) same)

-- THE TEXT LINE of a reader: t is read up to p, where a line begins

pub closed_push : (t : List ℕ) → closed (t ++ 10 ∷ []) ≡ true
closed_push [] = refl
closed_push (c ∷ []) = refl
closed_push (c ∷ (d ∷ ds)) = closed_push (d ∷ ds)

onto_append : (c : ℕ) (ls ms : List (List ℕ)) → 0 < length ls → onto c (ls ++ ms) ≡ onto c ls ++ ms
unfolding onto
onto_append c [] ms h = absurd (omega arith)
onto_append c (l ∷ ls) ms h = refl

lines_some : (c : ℕ) (cs : List ℕ) → 0 < length (lines (c ∷ cs))
unfolding lines onto
lines_some c cs = go (eqb c 10) (lines cs)
  where
    go : (b : Bool) (ls : List (List ℕ)) → 0 < length (cond b ([] ∷ ls) (onto c ls))
    go true ls = omega arith
    go false [] = omega arith
    go false (l ∷ ls) = omega arith

pub lines_append : (t u : List ℕ) → closed t ≡ true → lines (t ++ u) ≡ lines t ++ lines u
unfolding lines
lines_append [] u h = refl
lines_append (c ∷ []) u h = rw h
lines_append (c ∷ (d ∷ ds)) u h = go (eqb c 10) (lines_append (d ∷ ds) u h)
  where
    go : (b : Bool) → lines ((d ∷ ds) ++ u) ≡ lines (d ∷ ds) ++ lines u
        → cond b ([] ∷ lines ((d ∷ ds) ++ u)) (onto c (lines ((d ∷ ds) ++ u))) ≡ cond b ([] ∷ lines (d ∷ ds)) (onto c (lines (d ∷ ds))) ++ lines u
    go true ih = ap (λ x. [] ∷ x) ih
    go false ih = ap (onto c) ih ∙ onto_append c (lines (d ∷ ds)) (lines u) (lines_some d ds)

-- where a reader goes after the line that ends at e: past its byte 10, or to the end of the text
pub next_place : (t : List ℕ) (e q : ℕ) → (q ≡ e + 1) ⊎ ((q ≡ e) × (length t ≤ e)) → drop q t ≡ drop (e + 1) t
next_place t e q (inl h) = ap (λ n. drop n t) h
next_place t e q (inr (h, d)) = drop_all q t (omega arith) ∙ sym (drop_all (e + 1) t (omega arith))
