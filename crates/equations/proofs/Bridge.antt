-- For a program that makes the steps: its run so far, the step that it makes, and states that are equal point by point.
use Rattle.std.proofs.Common.{◌≡◌, ℕ, zero, suc, ◌+◌, ◌<◌, Bool, true, false, not, List, [], ◌∷◌, ◌++◌, map, length, Some, sym, refl, ap, ◌∙◌, append_assoc, append-nil, arith, length-append}
use Rattle.std.proofs.lemmas.List.{map_push, length-map}
use Rattle.std.proofs.lemmas.Bool.{not_from_true, not_from_false}
use Rattle.equations.specs.declared.Move.TheVariants.{Ask, Answer}
use Rattle.equations.specs.Systems.{System}
use Rattle.equations.specs.Runs.{run, asked, answer, has}
use Rattle.equations.specs.Rules.{Lawful, Reached, Reached.starts, Reached.asks}
use Rattle.equations.specs.Listings.{listed}
use Rattle.equations.specs.Notebook.{Notebook, values}
use Rattle.equations.specs.Steps.{State, Step, Step.miss, Step.settles, first, latest, enter, settle}
use Rattle.equations.specs.Removals.{Leads, Leads.here, Leads.by, Reads}
use Rattle.equations.specs.Invariant.{Valid}
use Rattle.equations.proofs.Lists.{first_at, first_fails}
use Rattle.equations.proofs.Runs.{ahead, run_ask, run_answer}

-- the run of x under ρ has asked for ys, and has been given their values
pub record SoFar {V : Type 0} (E : System V) (x : ℕ) (ρ : ℕ → V) (ys : List ℕ) : Type 0 where
  pub left : ℕ
  pub count : length ys + left ≡ 1024
  pub reached : Reached (E.moves x) (map ρ ys)
  pub asked_is : asked E x ρ ≡ ys ++ (run E.kind.bottom (E.moves x) ρ left (map ρ ys)).asked
  pub answer_is : answer E x ρ ≡ (run E.kind.bottom (E.moves x) ρ left (map ρ ys)).answer

module _ {V : Type 0} (E : System V) (x : ℕ) (ρ : ℕ → V) where
  pub so_far_none : SoFar E x ρ []
  unfolding asked answer
  so_far_none = record { left = 1024; count = refl; reached = starts; asked_is = refl; answer_is = refl }

  pub so_far_answer : (ys : List ℕ) (v : V) → SoFar E x ρ ys → E.moves x (map ρ ys) ≡ Answer v → (asked E x ρ ≡ ys) × (answer E x ρ ≡ v)
  so_far_answer ys v f e =
      let r = run_answer E.kind.bottom (E.moves x) ρ f.left (map ρ ys) v e in
      (f.asked_is ∙ ap (λ o. ys ++ o.asked) r ∙ append-nil ys, f.answer_is ∙ ap (λ o. o.answer) r)

  module _ (law : Lawful E) (known : x < E.size) (ys : List ℕ) (y : ℕ) (f : SoFar E x ρ ys) (e : E.moves x (map ρ ys) ≡ Ask y) where
    pub so_far_fits : length ys < 1024
    so_far_fits = rw length-map at (law.ends x known (map ρ ys) y f.reached e)

    pub so_far_inside : y < E.size
    so_far_inside = law.inside x known (map ρ ys) y f.reached e

    -- what is left of the run, from y on
    from_y : (k : ℕ) → f.left ≡ k → (j : ℕ) × (suc j ≡ f.left)
        × (run E.kind.bottom (E.moves x) ρ f.left (map ρ ys) ≡ ahead y (run E.kind.bottom (E.moves x) ρ j (map ρ (ys ++ (y ∷ [])))))
    from_y zero p = absurd (omega (arith, so_far_fits, f.count))
    from_y (suc j) p = (j, sym p, rw (p, map_push) (run_ask E.kind.bottom (E.moves x) ρ j (map ρ ys) y e))

    pub so_far_push : SoFar E x ρ (ys ++ (y ∷ []))
    so_far_push =
        let (j, p, r) = from_y f.left refl in
        record {
          left = j;
          count = simp length-append (omega (arith, f.count));
          reached = rw map_push (asks (ρ y) f.reached e);
          asked_is = f.asked_is ∙ ap (λ o. ys ++ o.asked) r ∙ sym (append_assoc ys (y ∷ []) _);
          answer_is = f.answer_is ∙ ap (λ o. o.answer) r;
        }

    pub so_far_asks : (rest : List ℕ) × (asked E x ρ ≡ ys ++ (y ∷ rest))
    so_far_asks = let (j, p, r) = from_y f.left refl in (_, f.asked_is ∙ ap (λ o. ys ++ o.asked) r)

-- the step that a run makes from the state s, where it was given what the notebook holds
module _ {V : Type 0} (E : System V) (s : State V) (x : ℕ) (waits : latest s ≡ Some x) (ys : List ℕ) (f : SoFar E x (values E s.notebook) ys)
    (found : (z : ℕ) → has ys z ≡ true → listed s.notebook.value z ≡ true) where
  pub step_miss : Lawful E → x < E.size → (y : ℕ) → E.moves x (map (values E s.notebook) ys) ≡ Ask y → listed s.notebook.value y ≡ false → Step E s (enter E y s)
  step_miss law known y e fresh =
      let (rest, a) = so_far_asks E x (values E s.notebook) law known ys y f e in
      miss waits (ap (first (λ z. not (listed s.notebook.value z))) a
      ∙ first_at (λ z. not (listed s.notebook.value z)) ys y rest (λ z h. not_from_true _ (found z h)) (not_from_false _ fresh))

  pub step_settles : (v : V) → E.moves x (map (values E s.notebook) ys) ≡ Answer v → Step E s (settle E x s)
  step_settles v e =
      settles waits (ap (first (λ z. not (listed s.notebook.value z))) (so_far_answer E x (values E s.notebook) ys v f e).0
      ∙ first_fails (λ z. not (listed s.notebook.value z)) ys (λ z h. not_from_true _ (found z h)))

-- a set of entries that has the touched ones, and with an entry each entry that has read it, has all from which a chain of reads leads to a touched one
pub all_from : {V : Type 0} (E : System V) (N : Notebook V) (touched gone : ℕ → Bool) → Valid E N
    → ((x : ℕ) → listed N.value x ≡ true → touched x ≡ true → gone x ≡ true)
    → ((x y : ℕ) → listed N.value x ≡ true → N.reads x y ≡ true → gone y ≡ true → gone x ≡ true)
    → (x : ℕ) → listed N.value x ≡ true → Leads (Reads N) touched x → gone x ≡ true
all_from E N touched gone valid base more x l (here t) = base x l t
all_from E N touched gone valid base more x l (by {y = y} r c) = more x y l r (all_from E N touched gone valid base more y (valid.between x y r).1 c)

-- notebooks and states that are equal point by point
pub same_notebook : {V : Type 0} (N N' : Notebook V) → ((x : ℕ) → N.value x ≡ N'.value x) → N.entries ≡ N'.entries → ((x y : ℕ) → N.reads x y ≡ N'.reads x y) → N ≡ N'
same_notebook N N' p q r = λ i. record { value = λ x. p x i; entries = q i; reads = λ x y. r x y i }

pub same_state : {V : Type 0} (s t : State V) → s.notebook ≡ t.notebook → ((x : ℕ) → s.waiting x ≡ t.waiting x) → s ≡ t
same_state s t p q = λ i. record { notebook = p i; waiting = λ x. q x i }
