-- A listing with one value replaced.
use Rattle.std.proofs.Common.{◌≡◌, ℕ, Bool, true, false, cond, ◌||◌, eqb, ◌⊎◌, is_some, Some, None, Option, unwrap_or, sym, refl, ap, ◌∙◌, subst, inl, inr}
use Rattle.std.proofs.lemmas.Bool.{cases_eq, eq-eqb, ne_eqb}
use Rattle.std.specs.Map.{update}
use Rattle.equations.specs.Systems.{System}
use Rattle.equations.specs.Listings.{Listing, listed, assign}

-- what holds at x and at every other unknown
pub at_each : (P : ℕ → Type 0) (x : ℕ) → P x → ((z : ℕ) → (z ≡ x → ⊥) → P z) → (z : ℕ) → P z
at_each P x here other z = go (cases_eq z x)
  where
    go : (z ≡ x) ⊎ (z ≡ x → ⊥) → P z
    go (inl e) = subst P (sym e) here
    go (inr d) = other z d

pub unlisted_value : {V : Type 0} (o : Option V) (d : V) → is_some o ≡ false → unwrap_or o d ≡ d
unlisted_value None d h = refl
unlisted_value (Some v) d h = absurd (mathlib.Core.Bool.true≢false h)

pub listed_value : {V : Type 0} (o : Option V) (d : V) → is_some o ≡ true → o ≡ Some (unwrap_or o d)
listed_value None d h = absurd (mathlib.Core.Bool.false≢true h)
listed_value (Some v) d h = refl

pub is_some_cond : {V : Type 0} (b : Bool) (v : V) (o : Option V) → is_some (cond b (Some v) o) ≡ (b || is_some o)
is_some_cond true v o = refl
is_some_cond false v o = refl

-- std's `update` tests the key first
pub same_test : (a b : ℕ) → eqb a b ≡ eqb b a
same_test a b = go (cases_eq a b)
  where
    go : (a ≡ b) ⊎ (a ≡ b → ⊥) → eqb a b ≡ eqb b a
    go (inl e) = eq-eqb a b e ∙ sym (eq-eqb b a (sym e))
    go (inr d) = ne_eqb a b d ∙ sym (ne_eqb b a (λ e. d (sym e)))

pub update_at : {V : Type 0} (f : ℕ → Option V) (x : ℕ) (o : Option V) (z : ℕ) → update eqb f x o z ≡ cond (eqb z x) o (f z)
update_at f x o z = ap (λ t. cond t o (f z)) (same_test x z)

module _ {V : Type 0} (E : System V) (L : Listing V) (x : ℕ) (v : V) where
  pub listed_update : (z : ℕ) → listed (update eqb L x (Some v)) z ≡ (eqb z x || listed L z)
  listed_update z = is_some_cond (eqb x z) v (L z) ∙ ap (λ t. t || listed L z) (same_test x z)

  pub assign_here : assign E (update eqb L x (Some v)) x ≡ v
  assign_here = rw (eq-eqb x x refl)

  pub assign_apart : (z : ℕ) → (z ≡ x → ⊥) → assign E (update eqb L x (Some v)) z ≡ assign E L z
  assign_apart z d = rw (ne_eqb x z (λ e. d (sym e)))
