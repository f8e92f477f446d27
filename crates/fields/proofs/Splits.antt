-- A text and its lines, a line and its fields.
use Rattle.std.proofs.Common.{◌≡◌, ℕ, zero, suc, ◌<◌, Bool, true, false, cond, eqb, List, [], ◌∷◌, ◌++◌, length, sym, refl, ap, ◌∙◌, arith}
use Rattle.std.specs.List.{slice_split, onto_first}
use Rattle.std.proofs.lemmas.Bool.{eqb-true}
use Rattle.fields.specs.Lines.{onto, lines, after}
use Rattle.fields.specs.Fields.{split, fields, spaced}

-- no byte is b
abbrev pub Lacks : ℕ → List ℕ → Type 0
Lacks b [] = Unit {0}
Lacks b (c ∷ cs) = (eqb c b ≡ false) × Lacks b cs

pub lacks_append : (b : ℕ) (xs ys : List ℕ) → Lacks b xs → Lacks b ys → Lacks b (xs ++ ys)
lacks_append b [] ys p q = q
lacks_append b (x ∷ xs) ys (e, p) q = (e, lacks_append b xs ys p q)

-- LINES
pub lines_line : (l rest : List ℕ) → Lacks 10 l → lines (l ++ 10 ∷ rest) ≡ l ∷ lines rest
unfolding lines onto
lines_line [] rest p = refl
lines_line (c ∷ cs) rest (e, p) = rw (e, lines_line cs rest p)

pub lines_last : (c : ℕ) (cs : List ℕ) → Lacks 10 (c ∷ cs) → lines (c ∷ cs) ≡ (c ∷ cs) ∷ []
unfolding lines onto
lines_last c [] (e, p) = rw e
lines_last c (d ∷ ds) (e, p) = rw (e, lines_last d ds p)

pub lines_none : (t : List ℕ) → lines t ≡ [] → t ≡ []
unfolding lines onto
lines_none [] e = refl
lines_none (c ∷ cs) e = go (eqb c 10) (lines cs) e
  where
    go : (b : Bool) (ls : List (List ℕ)) → cond b ([] ∷ ls) (onto c ls) ≡ [] → c ∷ cs ≡ []
    go true ls e = let z : ◌≡◌ {A = ℕ} 0 1 = cc in absurd (omega arith)
    go false [] e = let z : ◌≡◌ {A = ℕ} 0 1 = cc in absurd (omega arith)
    go false (w ∷ ws) e = let z : ◌≡◌ {A = ℕ} 0 1 = cc in absurd (omega arith)

-- t has the first line l and the other lines ls
pub data Begins (t l : List ℕ) (ls : List (List ℕ)) : Type 0 where
  whole : t ≡ l → 0 < length l → ls ≡ [] → Begins t l ls
  part : (rest : List ℕ) → t ≡ l ++ 10 ∷ rest → ls ≡ lines rest → Begins t l ls

pub begins : (t l : List ℕ) (ls : List (List ℕ)) → lines t ≡ l ∷ ls → Begins t l ls
unfolding lines onto
begins [] l ls e = let z : ◌≡◌ {A = ℕ} 0 1 = cc in absurd (omega arith)
begins (c ∷ cs) l ls e = go (eqb c 10) refl (lines cs) refl (λ w ws. begins cs w ws) e
  where
    go : (b : Bool) → eqb c 10 ≡ b → (ms : List (List ℕ)) → lines cs ≡ ms → ((w : List ℕ) (ws : List (List ℕ)) → lines cs ≡ w ∷ ws → Begins cs w ws) → cond b ([] ∷ ms) (onto c ms) ≡ l ∷ ls → Begins (c ∷ cs) l ls
    go true d ms m ih e =
        let p : l ≡ [] = cc in let q : ls ≡ ms = cc in let r : c ≡ 10 = eqb-true c 10 d in
        part cs (rw (p, r)) (q ∙ sym m)
    go false d [] m ih e =
        let p : l ≡ c ∷ [] = cc in let q : ls ≡ [] = cc in
        whole (ap (λ x. c ∷ x) (lines_none cs m) ∙ sym p) (rw p (omega arith)) q
    go false d (w ∷ ws) m ih e =
        let p : l ≡ c ∷ w = cc in let q : ls ≡ ws = cc in more (ih w ws m) p q
      where
        more : Begins cs w ws → l ≡ c ∷ w → ls ≡ ws → Begins (c ∷ cs) l ls
        more (whole f g h) p q = whole (ap (λ x. c ∷ x) f ∙ sym p) (rw p (omega arith)) (q ∙ h)
        more (part rest f g) p q = part rest (ap (λ x. c ∷ x) f ∙ rw p) (q ∙ g)

-- what follows some lines
pub after_line : (n : ℕ) (l rest : List ℕ) → Lacks 10 l → after (suc n) (l ++ 10 ∷ rest) ≡ after n rest
unfolding after
after_line n [] rest p = refl
after_line n (c ∷ cs) rest (e, p) = rw (e, after_line n cs rest p)

pub after_last : (n : ℕ) (l : List ℕ) → Lacks 10 l → after (suc n) l ≡ []
unfolding after
after_last n [] p = refl
after_last n (c ∷ cs) (e, p) = rw (e, after_last n cs p)

pub after_nothing : (n : ℕ) → after n [] ≡ []
unfolding after
after_nothing zero = refl
after_nothing (suc n) = refl

-- FIELDS

onto_is : (c : ℕ) (ws : List (List ℕ)) → onto_first c ws ≡ onto c ws
unfolding onto
onto_is c [] = refl
onto_is c (w ∷ ws) = refl

-- the library's word for it
pub split_is : (l : List ℕ) → slice_split (λ b. eqb b 32) l ≡ split l
unfolding split
split_is [] = refl
split_is (c ∷ cs) = ap (λ ws. cond (eqb c 32) ([] ∷ ws) (onto_first c ws)) (split_is cs) ∙ ap (λ ws. cond (eqb c 32) ([] ∷ split cs) ws) (onto_is c (split cs))

pub split_field : (w rest : List ℕ) → Lacks 32 w → split (w ++ 32 ∷ rest) ≡ w ∷ split rest
unfolding split onto
split_field [] rest p = refl
split_field (c ∷ cs) rest (e, p) = rw (e, split_field cs rest p)

pub split_last : (w : List ℕ) → Lacks 32 w → split w ≡ w ∷ []
unfolding split onto
split_last [] p = refl
split_last (c ∷ cs) (e, p) = rw (e, split_last cs p)

pub fields_split : (l : List ℕ) → 0 < length l → fields l ≡ split l
unfolding fields
fields_split [] h = absurd (omega arith)
fields_split (c ∷ cs) h = refl

spaced_onto : (c : ℕ) (ws : List (List ℕ)) → 0 < length ws → spaced (onto c ws) ≡ c ∷ spaced ws
unfolding onto spaced
spaced_onto c [] h = absurd (omega arith)
spaced_onto c (w ∷ []) h = refl
spaced_onto c (w ∷ (v ∷ vs)) h = refl

onto_some : (c : ℕ) (ws : List (List ℕ)) → 0 < length (onto c ws)
unfolding onto
onto_some c [] = omega arith
onto_some c (w ∷ ws) = omega arith

pub split_some : (l : List ℕ) → 0 < length (split l)
unfolding split
split_some [] = omega arith
split_some (c ∷ cs) = go (eqb c 32)
  where
    go : (b : Bool) → 0 < length (cond b ([] ∷ split cs) (onto c (split cs)))
    go true = omega arith
    go false = onto_some c (split cs)

spaced_next : (ws : List (List ℕ)) → 0 < length ws → spaced ([] ∷ ws) ≡ 32 ∷ spaced ws
unfolding spaced
spaced_next [] h = absurd (omega arith)
spaced_next (w ∷ ws) h = refl

pub spaced_split : (l : List ℕ) → spaced (split l) ≡ l
unfolding spaced split
spaced_split [] = refl
spaced_split (c ∷ cs) = go (eqb c 32) refl (spaced_split cs)
  where
    go : (b : Bool) → eqb c 32 ≡ b → spaced (split cs) ≡ cs → spaced (cond b ([] ∷ split cs) (onto c (split cs))) ≡ c ∷ cs
    go true e ih = spaced_next (split cs) (split_some cs) ∙ ap (λ x. 32 ∷ x) ih ∙ ap (λ x. x ∷ cs) (sym (eqb-true c 32 e))
    go false e ih = spaced_onto c (split cs) (split_some cs) ∙ ap (λ x. c ∷ x) ih

pub spaced_fields : (l : List ℕ) → spaced (fields l) ≡ l
unfolding spaced fields
spaced_fields [] = refl
spaced_fields (c ∷ cs) = spaced_split (c ∷ cs)
