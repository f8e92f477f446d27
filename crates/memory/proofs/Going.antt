-- A run in the course of its asks.
use Rattle.std.proofs.Common.{◌≡◌, ℕ, ◌<◌, true, not, eqb, List, [], ◌∷◌, ◌++◌, map, length, is_some, Some, None, Err, Option, unwrap_or, sym, refl, ap, ◌∙◌, ⊎_elim, arith}
use Rattle.std.proofs.lemmas.List.{map_push}
use Rattle.std.specs.Option.{ok_or}
use Rattle.std.proofs.lemmas.Result.{IfErr-at_err}
use Rattle.std.proofs.lemmas.Bool.{not_from_true, not_from_false, or_cases, eqb-true, false≢true}
use Rattle.equations.specs.declared.Move.TheVariants.{Ask, Answer}
use Rattle.equations.specs.Systems.{System}
use Rattle.equations.specs.Runs.{has}
use Rattle.equations.specs.Rules.{Lawful}
use Rattle.equations.specs.Listings.{Listing, listed, assign}
use Rattle.equations.specs.Steps.{first}
use Rattle.equations.proofs.Bridge.{SoFar, so_far_none, so_far_push, so_far_fits, so_far_inside, so_far_asks, so_far_answer}
use Rattle.equations.proofs.Lists.{first_at, first_fails}
use Rattle.memory.specs.Runs.{lacking, Whole}
use Rattle.memory.proofs.Lists.{has_push}

-- the run of x stands after these asks, which the listing has
pub record Going {V : Type 0} (E : System V) (L : Listing V) (Stands : ℕ → List V → Type 0) (x : ℕ) (ys : List ℕ) : Type 0 where
  pub stands : Stands x (map (assign E L) ys)
  pub so_far : SoFar E x (assign E L) ys
  pub found : (z : ℕ) → has ys z ≡ true → listed L z ≡ true

-- it asks for y
pub record Asks {V : Type 0} (E : System V) (L : Listing V) (x : ℕ) (ys : List ℕ) (y : ℕ) : Type 1 where
  pub fits : length ys < 1024
  pub inside : y < E.size
  pub lacks : L y ≡ None → lacking E L x ≡ Some y
  pub more : (Stands : ℕ → List V → Type 0) (v : V) → L y ≡ Some v → Stands x (map (assign E L) ys ++ (v ∷ [])) → Going E L Stands x (ys ++ (y ∷ []))

module _ {V : Type 0} (E : System V) (L : Listing V) (x : ℕ) where
  pub going_none : (Stands : ℕ → List V → Type 0) → Stands x [] → Going E L Stands x []
  going_none Stands s = record { stands = s; so_far = so_far_none E x (assign E L); found = λ z h. absurd (false≢true h) }

  module _ (Stands : ℕ → List V → Type 0) (ys : List ℕ) (going : Going E L Stands x ys) where
    pub going_answers : (v : V) → E.moves x (map (assign E L) ys) ≡ Answer v → Whole E L x ys v
    going_answers v e =
        let p = so_far_answer E x (assign E L) ys v going.so_far e in
        record {
          asks = p.0;
          gives = p.1;
          full = ap (first (λ y. not (listed L y))) p.0 ∙ first_fails (λ y. not (listed L y)) ys (λ z h. not_from_true _ (going.found z h));
        }

    pub going_asks : Lawful E → x < E.size → (y : ℕ) → E.moves x (map (assign E L) ys) ≡ Ask y → Asks E L x ys y
    going_asks law known y e = record {
      fits = omega (arith, so_far_fits E x (assign E L) law known ys y going.so_far e);
      inside = so_far_inside E x (assign E L) law known ys y going.so_far e;
      lacks = λ none.
          let (rest, a) = so_far_asks E x (assign E L) law known ys y going.so_far e in
          ap (first (λ z. not (listed L z))) a
          ∙ first_at (λ z. not (listed L z)) ys y rest (λ z h. not_from_true _ (going.found z h)) (not_from_false _ (ap is_some none));
      more = λ Stands' v some s.
          let ρ : assign E L y ≡ v = ap (λ o. unwrap_or o E.kind.bottom) some in
          record {
            stands = rw (map_push, ρ) s;
            so_far = so_far_push E x (assign E L) law known ys y going.so_far e;
            found = λ z h. ⊎_elim (going.found z) (λ q. ap (λ k. listed L k) (eqb-true z y q) ∙ ap is_some some) (or_cases (has ys z) (eqb z y) (sym (has_push ys y z) ∙ h));
          };
    }

-- the error of what is not there
pub refused : {A X : Type 0} (o : Option A) (e f : X) → ok_or o e ≡ Err f → (o ≡ None) × (f ≡ e)
refused None e f h = (refl, IfErr-at_err (λ m. m ≡ e) h refl)
refused (Some a) e f h = absurd (IfErr-at_err (λ m. ⊥) h tt)
