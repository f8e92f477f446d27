-- What an ask answers.
use Rattle.std.proofs.Common.{◌≡◌, ℕ, ◌<◌, ◌≤◌, cond, ltb, length, Some, None, Option, is_some, ap, ◌∙◌, arith}
use Rattle.std.specs.Option.{IsSome}
use Rattle.std.proofs.lemmas.Bool.{le-ltb, lt-ltb}
use Rattle.equations.specs.Systems.{System}
use Rattle.equations.specs.Notebook.{Notebook}
use Rattle.equations.specs.Steps.{State, Step, Step.miss, Step.settles, Steps, Steps.done, Steps.then, Ask, start}
use Rattle.equations.proofs.Asks.{ask_lists}
use Rattle.solver.specs.declared.faults.Fault.TheVariants.{TooSmall, NoSuchUnknown}
use Rattle.solver.specs.Faults.{ask_refusal}

module _ {V : Type 0} (E : System V) where
  step_grows : (s : State V) {t : State V} → Step E s t → length s.notebook.entries ≤ length t.notebook.entries
  step_grows s (miss p q) = omega arith
  step_grows s (settles p q) = omega arith

  steps_grow : (s : State V) {t : State V} → Steps E s t → length s.notebook.entries ≤ length t.notebook.entries
  steps_grow s done = omega arith
  steps_grow s (then {t = t} a b) = omega (arith, steps_grow s a, step_grows t b)

  module _ (N N' : Notebook V) (q : ℕ) (ask : Ask E N q N') where
    pub grown : length N.entries ≤ length N'.entries
    grown = omega (arith, steps_grow (start E N q) ask.steps)

    pub value_then : (o : Option V) → o ≡ N'.value q → IsSome o
    value_then o e = ap is_some e ∙ ask_lists E N N' q ask

-- with room for the unknowns, of which q is one, an ask is not refused
pub not_refused : (c n q : ℕ) → n ≤ c → q < n → ask_refusal c n q ≡ None
not_refused c n q h k = ap (λ t. cond t (Some TooSmall) (cond (ltb q n) None (Some NoSuchUnknown))) (le-ltb c n h) ∙ ap (λ t. cond t None (Some NoSuchUnknown)) (lt-ltb q n k)
