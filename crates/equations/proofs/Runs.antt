-- What a run asks and answers depends only on what it is given.
use Rattle.std.proofs.Common.{◌≡◌, ℕ, zero, suc, ◌+◌, ◌<◌, ◌≤◌, true, eqb, List, [], ◌∷◌, ◌++◌, map, length, sym, refl, ap, ◌∙◌, ⊎_elim, append_assoc, append-nil, arith, length-append}
use mathlib.Core.Bool.{false≢true}
use Rattle.std.proofs.lemmas.Bool.{or_cases, eqb-true}
use Rattle.equations.specs.declared.Move.{Move}
use Rattle.equations.specs.declared.Move.TheVariants.{Ask, Answer}
use Rattle.equations.specs.Systems.{System}
use Rattle.equations.specs.Runs.{Course, run, asked, answer, has}
use Rattle.equations.specs.Rules.{Lawful, Reached, starts, asks}
use Rattle.equations.proofs.Lists.{has_here, has_there}

-- a run that first asked for y
abbrev pub ahead : {V : Type 0} → ℕ → Course V → Course V
ahead y o = record { asked = y ∷ o.asked; answer = o.answer }

module _ {V : Type 0} (stop : V) (next : List V → Move V) where
  pub run_ask : (ρ : ℕ → V) (k : ℕ) (given : List V) (y : ℕ) → next given ≡ Ask y → run stop next ρ (suc k) given ≡ ahead y (run stop next ρ k (given ++ (ρ y ∷ [])))
  unfolding run
  run_ask ρ k given y e = rw e

  run_stop : (ρ : ℕ → V) (given : List V) (y : ℕ) → next given ≡ Ask y → run stop next ρ 0 given ≡ record { asked = []; answer = stop }
  unfolding run
  run_stop ρ given y e = rw e

  pub run_answer : (ρ : ℕ → V) (k : ℕ) (given : List V) (v : V) → next given ≡ Answer v → run stop next ρ k given ≡ record { asked = []; answer = v }
  unfolding run
  run_answer ρ zero given v e = rw e
  run_answer ρ (suc k) given v e = rw e

  -- σ gives what ρ gives, at all that the run asks for under ρ
  abbrev Alike : (ρ σ : ℕ → V) → ℕ → List V → Type 0
  Alike ρ σ k given = (y : ℕ) → has (run stop next ρ k given).asked y ≡ true → σ y ≡ ρ y

  agree_next : (ρ σ : ℕ → V) (k : ℕ) (given : List V) (m : Move V) → next given ≡ m
      → ((g : List V) → Alike ρ σ k g → run stop next σ k g ≡ run stop next ρ k g) → Alike ρ σ (suc k) given → run stop next σ (suc k) given ≡ run stop next ρ (suc k) given
  agree_next ρ σ k given (Answer v) e ih h = run_answer σ (suc k) given v e ∙ sym (run_answer ρ (suc k) given v e)
  agree_next ρ σ k given (Ask y) e ih h =
      let rest = run stop next ρ k (given ++ (ρ y ∷ [])) in
      let h' : (z : ℕ) → has (y ∷ rest.asked) z ≡ true → σ z ≡ ρ z = rw (run_ask ρ k given y e) at h in
      run_ask σ k given y e
      ∙ ap (λ v. ahead y (run stop next σ k (given ++ (v ∷ [])))) (h' y (has_here y rest.asked))
      ∙ ap (ahead y) (ih (given ++ (ρ y ∷ [])) (λ z t. h' z (has_there y z rest.asked t)))
      ∙ sym (run_ask ρ k given y e)

  agree : (ρ σ : ℕ → V) (k : ℕ) (given : List V) → Alike ρ σ k given → run stop next σ k given ≡ run stop next ρ k given
  unfolding run
  agree ρ σ zero given h = refl
  agree ρ σ (suc k) given h = agree_next ρ σ k given (next given) refl (λ g. agree ρ σ k g) h

  module _ (n : ℕ) (inside : (given : List V) (y : ℕ) → Reached next given → next given ≡ Ask y → y < n) (ρ : ℕ → V) where
    inside_next : (k : ℕ) (given : List V) (y : ℕ) (m : Move V) → next given ≡ m → Reached next given
        → ((g : List V) → Reached next g → has (run stop next ρ k g).asked y ≡ true → y < n) → has (run stop next ρ (suc k) given).asked y ≡ true → y < n
    inside_next k given y (Answer v) e r ih h =
        let h' : has [] y ≡ true = rw (run_answer ρ (suc k) given v e) at h in absurd (false≢true h')
    inside_next k given y (Ask z) e r ih h =
        let rest = run stop next ρ k (given ++ (ρ z ∷ [])) in
        let h' : has (z ∷ rest.asked) y ≡ true = rw (run_ask ρ k given z e) at h in
        ⊎_elim (λ t. rw (eqb-true y z t) (inside given z r e)) (λ t. ih (given ++ (ρ z ∷ [])) (asks (ρ z) r e) t) (or_cases (eqb y z) (has rest.asked y) h')

    run_inside : (k : ℕ) (given : List V) (y : ℕ) → Reached next given → has (run stop next ρ k given).asked y ≡ true → y < n
    run_inside zero given y r h = at_zero (next given) refl
      where
        at_zero : (m : Move V) → next given ≡ m → y < n
        at_zero (Answer v) e = let h' : has [] y ≡ true = rw (run_answer ρ 0 given v e) at h in absurd (false≢true h')
        at_zero (Ask z) e = let h' : has [] y ≡ true = rw (run_stop ρ given z e) at h in absurd (false≢true h')
    run_inside (suc k) given y r h = inside_next k given y (next given) refl r (λ g. run_inside k g y) h

  module _ (ends : (given : List V) (y : ℕ) → Reached next given → next given ≡ Ask y → length given < 1024) (ρ : ℕ → V) where
    -- the run goes on to its answer
    abbrev Answers : ℕ → List V → Type 0
    Answers k given = next (given ++ map ρ (run stop next ρ k given).asked) ≡ Answer (run stop next ρ k given).answer

    answers_next : (k : ℕ) (given : List V) (m : Move V) → next given ≡ m → Reached next given → 1024 ≤ length given + suc k
        → ((g : List V) → Reached next g → 1024 ≤ length g + k → Answers k g) → Answers (suc k) given
    answers_next k given (Answer v) e r l ih = rw (run_answer ρ (suc k) given v e, append-nil) e
    answers_next k given (Ask y) e r l ih =
        rw (run_ask ρ k given y e) (rw append_assoc at (ih (given ++ (ρ y ∷ [])) (asks (ρ y) r e) (simp length-append (omega arith))))

    run_answers : (k : ℕ) (given : List V) → Reached next given → 1024 ≤ length given + k → Answers k given
    run_answers zero given r l = at_zero (next given) refl
      where
        at_zero : (m : Move V) → next given ≡ m → Answers 0 given
        at_zero (Answer v) e = rw (run_answer ρ 0 given v e, append-nil) e
        at_zero (Ask y) e = absurd (omega (arith, ends given y r e))
    run_answers (suc k) given r l = answers_next k given (next given) refl r l (λ g. run_answers k g)

pub agrees : {V : Type 0} (E : System V) (x : ℕ) (ρ σ : ℕ → V) → ((y : ℕ) → has (asked E x ρ) y ≡ true → σ y ≡ ρ y) → (asked E x σ ≡ asked E x ρ) × (answer E x σ ≡ answer E x ρ)
unfolding asked answer
agrees E x ρ σ h =
    let e = agree E.kind.bottom (E.moves x) ρ σ 1024 [] h in
    (ap (λ o. o.asked) e, ap (λ o. o.answer) e)

module _ {V : Type 0} (E : System V) (law : Lawful E) (x : ℕ) (known : x < E.size) (ρ : ℕ → V) where
  pub asked_inside : (y : ℕ) → has (asked E x ρ) y ≡ true → y < E.size
  unfolding asked
  asked_inside y h = run_inside E.kind.bottom (E.moves x) E.size (law.inside x known) ρ 1024 [] y starts h

  pub answered : E.moves x (map ρ (asked E x ρ)) ≡ Answer (answer E x ρ)
  unfolding asked answer
  answered = run_answers E.kind.bottom (E.moves x) (law.ends x known) ρ 1024 [] starts (omega arith)
