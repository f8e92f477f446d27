-- Lists of numbers.
use Rattle.std.proofs.Common.{◌≡◌, ℕ, zero, suc, ◌+◌, ◌<◌, ◌≤◌, Bool, true, false, cond, not, ◌&&◌, ◌||◌, eqb, ◌⊎◌, List, [], ◌∷◌, ◌++◌, reverse, length, get_or, take, filter, sym, refl, ap, ◌∙◌, subst, inl, inr, ⊎_elim, append-nil, arith}
use Rattle.std.proofs.lemmas.List.{reverse-append}
use Rattle.std.proofs.lemmas.List.Elements.{filter-append}
use Rattle.std.proofs.lemmas.Bool.{cases_eq, eq-eqb, ne_eqb, eqb-true, and_parts, and_from, and_left, and_right, or_left, or_right, or_cases, not-true, not_from_false, false≢true}
use Rattle.std.proofs.Math.Bool.{or-false, or_assoc, or_comm}
use Rattle.equations.specs.Runs.{has}
use Rattle.memory.specs.Layout.{once}

pub has_push : (xs : List ℕ) (y z : ℕ) → has (xs ++ (y ∷ [])) z ≡ (has xs z || eqb z y)
has_push [] y z = or-false (eqb z y)
has_push (x ∷ xs) y z = ap (λ b. eqb z x || b) (has_push xs y z) ∙ sym (or_assoc (eqb z x) (has xs z) (eqb z y))

pub has_at : (xs : List ℕ) (k n : ℕ) → k < n → n ≤ length xs → has (take n xs) (get_or xs k 0) ≡ true
has_at [] k n h r = absurd (omega arith)
has_at (x ∷ xs) k zero h r = absurd (omega arith)
has_at (x ∷ xs) zero (suc n) h r = or_left (eqb x x) _ (eq-eqb x x refl)
has_at (x ∷ xs) (suc k) (suc n) h r = or_right (eqb (get_or xs k 0) x) _ (has_at xs k n (omega arith) (omega arith))

pub has_item : (xs : List ℕ) (k : ℕ) → k < length xs → has xs (get_or xs k 0) ≡ true
has_item [] k h = absurd (omega arith)
has_item (x ∷ xs) zero h = or_left (eqb x x) _ (eq-eqb x x refl)
has_item (x ∷ xs) (suc k) h = or_right (eqb (get_or xs k 0) x) _ (has_item xs k (omega arith))

-- a number that the first n have stands in one of the first n places
pub has_place : (xs : List ℕ) (n z : ℕ) → has (take n xs) z ≡ true → (k : ℕ) × (k < n) × (get_or xs k 0 ≡ z)
has_place [] zero z h = absurd (false≢true h)
has_place [] (suc n) z h = absurd (false≢true h)
has_place (x ∷ xs) zero z h = absurd (false≢true h)
has_place (x ∷ xs) (suc n) z h =
    ⊎_elim (λ e. (0, omega arith, sym (eqb-true z x e))) (λ r. let (k, l, e) = has_place xs n z r in (suc k, omega arith, e)) (or_cases (eqb z x) (has (take n xs) z) h)

pub has_reverse : (xs : List ℕ) (z : ℕ) → has (reverse xs) z ≡ has xs z
has_reverse [] z = refl
has_reverse (x ∷ xs) z = ap (λ l. has l z) (reverse-append (x ∷ []) xs) ∙ has_push (reverse xs) x z ∙ ap (λ t. t || eqb z x) (has_reverse xs z) ∙ or_comm (has xs z) (eqb z x)

-- as many different numbers below c as a list has are at most c
abbrev sum_of : (ℕ → ℕ) → ℕ → ℕ
sum_of f zero = 0
sum_of f (suc n) = sum_of f n + f n

abbrev flag : Bool → ℕ
flag b = cond b 1 0

flags_few : (p : ℕ → Bool) (n : ℕ) → sum_of (λ i. flag (p i)) n ≤ n
flags_few p zero = omega arith
flags_few p (suc n) = go (p n) (flags_few p n)
  where
    go : (b : Bool) → sum_of (λ i. flag (p i)) n ≤ n → sum_of (λ i. flag (p i)) n + flag b ≤ suc n
    go true h = omega arith
    go false h = omega arith

sum_same : (f g : ℕ → ℕ) (n : ℕ) → ((i : ℕ) → i < n → f i ≡ g i) → sum_of f n ≡ sum_of g n
sum_same f g zero h = refl
sum_same f g (suc n) h = omega (arith, sum_same f g n (λ i l. h i (omega arith)), h n (omega arith))

sum_point : (f g : ℕ → ℕ) (n x : ℕ) → x < n → g x ≡ f x + 1 → ((i : ℕ) → (i ≡ x → ⊥) → g i ≡ f i) → sum_of g n ≡ sum_of f n + 1
sum_point f g zero x l e h = absurd (omega arith)
sum_point f g (suc n) x l e h = go (cases_eq x n) (sum_point f g n x)
  where
    go : (x ≡ n) ⊎ (x ≡ n → ⊥) → (x < n → g x ≡ f x + 1 → ((i : ℕ) → (i ≡ x → ⊥) → g i ≡ f i) → sum_of g n ≡ sum_of f n + 1) → sum_of g (suc n) ≡ sum_of f (suc n) + 1
    go (inl p) ih =
        let e' : g n ≡ f n + 1 = subst (λ (k : ℕ). g k ≡ f k + 1) p e in
        omega (arith, sum_same g f n (λ i k. h i (omega arith)))
    go (inr d) ih = omega (arith, ih (omega arith) e h, h n (λ p. d (sym p)))

sum_has : (xs : List ℕ) (c : ℕ) → once xs ≡ true → ((x : ℕ) → has xs x ≡ true → x < c) → sum_of (λ i. flag (has xs i)) c ≡ length xs
sum_has [] c o h = go c
  where
    go : (n : ℕ) → sum_of (λ i. 0) n ≡ 0
    go zero = refl
    go (suc n) = omega (arith, go n)
sum_has (x ∷ xs) c o h =
    let p = and_parts (not (has xs x)) (once xs) o in
    let fresh : has xs x ≡ false = not-true _ p.0 in
    let here : has (x ∷ xs) x ≡ true = or_left (eqb x x) _ (eq-eqb x x refl) in
    let point : flag (has (x ∷ xs) x) ≡ flag (has xs x) + 1 = rw (here, fresh) in
    let rest : (i : ℕ) → (i ≡ x → ⊥) → flag (has (x ∷ xs) i) ≡ flag (has xs i) = λ i d. rw (ne_eqb i x d) in
    omega (arith, sum_point (λ i. flag (has xs i)) (λ i. flag (has (x ∷ xs) i)) c x (h x here) point rest, sum_has xs c p.1 (λ z k. h z (or_right (eqb z x) _ k)))

pub pigeon : (xs : List ℕ) (c : ℕ) → once xs ≡ true → ((x : ℕ) → has xs x ≡ true → x < c) → length xs ≤ c
pigeon xs c o h = omega (arith, sum_has xs c o h, flags_few (has xs) c)

-- lists of what is kept
pub kept_reverse : (p : ℕ → Bool) (xs : List ℕ) → filter p (reverse xs) ≡ reverse (filter p xs)
kept_reverse p [] = refl
kept_reverse p (x ∷ xs) =
    ap (filter p) (reverse-append (x ∷ []) xs) ∙ filter-append p (reverse xs) (x ∷ []) ∙ ap (λ l. l ++ filter p (x ∷ [])) (kept_reverse p xs) ∙ go (p x)
  where
    go : (b : Bool) → reverse (filter p xs) ++ cond b (x ∷ []) [] ≡ reverse (cond b (x ∷ filter p xs) (filter p xs))
    go true = sym (reverse-append (x ∷ []) (filter p xs))
    go false = append-nil (reverse (filter p xs))

pub has_kept : (p : ℕ → Bool) (xs : List ℕ) (z : ℕ) → has (filter p xs) z ≡ (p z && has xs z)
has_kept p [] z = sym (and_right (p z) false refl)
has_kept p (x ∷ xs) z = go (p x) refl (cases_eq z x) (has_kept p xs z)
  where
    go : (b : Bool) → p x ≡ b → (z ≡ x) ⊎ (z ≡ x → ⊥) → has (filter p xs) z ≡ (p z && has xs z) → has (cond b (x ∷ filter p xs) (filter p xs)) z ≡ (p z && (eqb z x || has xs z))
    go true e (inl q) ih = rw (q, eq-eqb x x refl, e)
    go true e (inr d) ih = rw (ne_eqb z x d) ih
    go false e (inl q) ih = ih ∙ ap (λ t. t && has xs z) (ap p q ∙ e) ∙ sym (and_left (p z) _ (ap p q ∙ e))
    go false e (inr d) ih = rw (ne_eqb z x d) ih

pub once_kept : (p : ℕ → Bool) (xs : List ℕ) → once xs ≡ true → once (filter p xs) ≡ true
once_kept p [] h = refl
once_kept p (x ∷ xs) h = go (p x) (and_parts (not (has xs x)) (once xs) h) (once_kept p xs)
  where
    go : (b : Bool) → (not (has xs x) ≡ true) × (once xs ≡ true) → (once xs ≡ true → once (filter p xs) ≡ true) → once (cond b (x ∷ filter p xs) (filter p xs)) ≡ true
    go true q ih = and_from _ _ (not_from_false _ (has_kept p xs x ∙ and_right (p x) _ (not-true _ q.0))) (ih q.1)
    go false q ih = ih q.1
