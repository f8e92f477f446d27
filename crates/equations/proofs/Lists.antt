-- What a list has, and the first of it that passes a test.
use Rattle.std.proofs.Common.{◌≡◌, ℕ, Bool, true, false, cond, eqb, ◌⊎◌, List, [], ◌∷◌, ◌++◌, Some, None, sym, refl, ap, ◌∙◌, inl, inr, arith}
use Rattle.std.proofs.lemmas.Bool.{eq-eqb, or_left, or_right, or_cases, eqb-true}
use Rattle.equations.specs.Runs.{has}
use Rattle.equations.specs.Steps.{first}

pub has_here : (x : ℕ) (xs : List ℕ) → has (x ∷ xs) x ≡ true
has_here x xs = or_left (eqb x x) (has xs x) (eq-eqb x x refl)

pub has_there : (x y : ℕ) (xs : List ℕ) → has xs y ≡ true → has (x ∷ xs) y ≡ true
has_there x y xs h = or_right (eqb y x) (has xs y) h

pub first_passes : (test : ℕ → Bool) (xs : List ℕ) (x : ℕ) → first test xs ≡ Some x → (test x ≡ true) × (has xs x ≡ true)
first_passes test [] x e = let z : ◌≡◌ {A = ℕ} 0 1 = cc in absurd (omega arith)
first_passes test (y ∷ ys) x e = go (test y) refl e (first_passes test ys x)
  where
    go : (b : Bool) → test y ≡ b → cond b (Some y) (first test ys) ≡ Some x
        → (first test ys ≡ Some x → (test x ≡ true) × (has ys x ≡ true)) → (test x ≡ true) × (has (y ∷ ys) x ≡ true)
    go true t p ih = let q : y ≡ x = cc in (cc, or_left (eqb x y) (has ys x) (eq-eqb x y (sym q)))
    go false t p ih = let h = ih p in (h.0, has_there y x ys h.1)

pub first_none : (test : ℕ → Bool) (xs : List ℕ) → first test xs ≡ None → (x : ℕ) → has xs x ≡ true → test x ≡ false
first_none test [] e x h = absurd (mathlib.Core.Bool.false≢true h)
first_none test (y ∷ ys) e x h = go (test y) refl e (or_cases (eqb x y) (has ys x) h) (first_none test ys)
  where
    go : (b : Bool) → test y ≡ b → cond b (Some y) (first test ys) ≡ None → (eqb x y ≡ true) ⊎ (has ys x ≡ true)
        → (first test ys ≡ None → (z : ℕ) → has ys z ≡ true → test z ≡ false) → test x ≡ false
    go true t p w ih = let z : ◌≡◌ {A = ℕ} 0 1 = cc in absurd (omega arith)
    go false t p (inl q) ih = ap test (eqb-true x y q) ∙ t
    go false t p (inr q) ih = ih p x q

-- the first of a list that passes, and none
pub first_at : (test : ℕ → Bool) (xs : List ℕ) (y : ℕ) (rest : List ℕ) → ((x : ℕ) → has xs x ≡ true → test x ≡ false) → test y ≡ true → first test (xs ++ (y ∷ rest)) ≡ Some y
first_at test [] y rest fails passes = rw passes
first_at test (x ∷ xs) y rest fails passes = rw (fails x (has_here x xs)) (first_at test xs y rest (λ z h. fails z (has_there x z xs h)) passes)

pub first_fails : (test : ℕ → Bool) (xs : List ℕ) → ((x : ℕ) → has xs x ≡ true → test x ≡ false) → first test xs ≡ None
first_fails test [] fails = refl
first_fails test (x ∷ xs) fails = rw (fails x (has_here x xs)) (first_fails test xs (λ z h. fails z (has_there x z xs h)))
