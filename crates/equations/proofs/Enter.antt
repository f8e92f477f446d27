-- Entering an unknown with bottom keeps the notebook sound: no value of the assignment changes.
use Rattle.std.proofs.Common.{◌≡◌, ℕ, ◌<◌, true, false, ◌||◌, eqb, ◌⊎◌, sym, ap, ◌∙◌, subst, inl, inr, ⊎_elim}
use mathlib.Core.Path.{fun_ext}
use Rattle.std.proofs.lemmas.Bool.{or_cases, or_parts, or_right, eqb-true, eqb-false}
use Rattle.equations.specs.Systems.{System, Below}
use Rattle.equations.specs.Runs.{has, asked, answer}
use Rattle.equations.specs.Rules.{Lawful}
use Rattle.equations.specs.Listings.{listed, assign}
use Rattle.equations.specs.Notebook.{values}
use Rattle.equations.specs.Steps.{State, enter}
use Rattle.equations.specs.Invariant.{Sound, Settled}
use Rattle.equations.proofs.Updates.{at_each, unlisted_value, listed_update, assign_here, assign_apart}

module _ {V : Type 0} (E : System V) (law : Lawful E) (s : State V) (y : ℕ) (fresh : listed s.notebook.value y ≡ false) where
  pub enter_values : values E (enter E y s).notebook ≡ values E s.notebook
  enter_values = fun_ext (at_each (λ z. values E (enter E y s).notebook z ≡ values E s.notebook z) y
      (assign_here E s.notebook.value y E.kind.bottom ∙ sym (unlisted_value _ _ fresh))
      (assign_apart E s.notebook.value y E.kind.bottom))

  module _ (sound : Sound E s.notebook s.waiting) (known : y < E.size) where
    cases : (z : ℕ) → listed (enter E y s).notebook.value z ≡ true → (z ≡ y) ⊎ (listed s.notebook.value z ≡ true)
    cases z h = ⊎_elim (λ e. inl (eqb-true z y e)) inr (or_cases _ _ (sym (listed_update E s.notebook.value y _ z) ∙ h))

    more : (z : ℕ) → listed s.notebook.value z ≡ true → listed (enter E y s).notebook.value z ≡ true
    more z h = listed_update E s.notebook.value y _ z ∙ or_right (eqb z y) _ h

    under : (z : ℕ) → (z ≡ y) ⊎ (listed s.notebook.value z ≡ true) → Below E (values E s.notebook z) (answer E z (values E s.notebook))
    under z (inl e) = rw (e, unlisted_value _ E.kind.bottom fresh) (law.lattice.least _)
    under z (inr h) = sound.under z h

    settled : (z : ℕ) → (z ≡ y) ⊎ (listed s.notebook.value z ≡ true) → (eqb z y ≡ false) × (s.waiting z ≡ false) → Settled E s.notebook z
    settled z (inl e) w = absurd (eqb-false z y w.0 e)
    settled z (inr h) w = sound.settled z h w.1

    pub enter_sound : Sound E (enter E y s).notebook (enter E y s).waiting
    enter_sound = record {
      inside = λ z h. ⊎_elim (λ e. rw e known) (sound.inside z) (cases z h);
      entered = λ z. ap (λ b. eqb z y || b) (sound.entered z) ∙ sym (listed_update E s.notebook.value y _ z);
      once = (sound.entered y ∙ fresh, sound.once);
      between = λ a b h. let p = sound.between a b h in (more a p.0, more b p.1);
      under = λ z h. subst (λ (ρ : ℕ → V). Below E (ρ z) (answer E z ρ)) (sym enter_values) (under z (cases z h));
      settled = λ z h w.
          let old = settled z (cases z h) (or_parts _ _ w) in
          record {
            recorded = subst (λ (ρ : ℕ → V). (b : ℕ) → has (asked E z ρ) b ≡ true → s.notebook.reads z b ≡ true) (sym enter_values) old.recorded;
            covers = subst (λ (ρ : ℕ → V). Below E (answer E z ρ) (ρ z)) (sym enter_values) old.covers;
          };
      lowest = λ S L c d z i l. subst (λ (ρ : ℕ → V). Below E (ρ z) (assign E L z)) (sym enter_values) (sound.lowest S L c d z i l);
      witness = λ a b h.
          let w = sound.witness a b h in
          record {
            at = w.at;
            low = subst (λ (ρ : ℕ → V). (z : ℕ) → has (asked E a w.at) z ≡ true → Below E (w.at z) (ρ z)) (sym enter_values) w.low;
            within = w.within;
            read = w.read;
          };
    }
