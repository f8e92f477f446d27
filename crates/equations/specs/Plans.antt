-- Right-hand sides as plans: a plan is its result, or an unknown to ask for and the plan that goes on from each value.
use Rattle.std.specs.Prelude.{ℕ, zero, suc, ◌<◌, List, [], ◌∷◌, ◌++◌}
use Rattle.equations.specs.declared.Move.{Move}
use Rattle.equations.specs.declared.Move.TheVariants.{Ask, Answer}
use Rattle.equations.specs.Systems.{Meaning}

pub data Plan (V A : Type 0) : Type 0 where
  done : A → Plan V A
  ask : ℕ → (V → Plan V A) → Plan V A

-- The plan after it is given a value, and after a list of them.
abbrev pub step : {V A : Type 0} → Plan V A → V → Plan V A
step (done a) v = done a
step (ask y k) v = k v

abbrev pub play : {V A : Type 0} → Plan V A → List V → Plan V A
play plan [] = plan
play plan (v ∷ vs) = play (step plan v) vs

-- What a plan does next.
abbrev pub move_of : {V : Type 0} → Plan V V → Move V
move_of (done v) = Answer v
move_of (ask y k) = Ask y

-- The equations whose right-hand sides are plans.
abbrev pub planned : {V : Type 0} → ℕ → (ℕ → Plan V V) → Meaning V
planned n plan = record { size = n; moves = λ x given. move_of (play (plan x) given) }

-- What a plan comes to, and what it asks for, if every ask for y is given ρ y.
abbrev pub value : {V A : Type 0} → Plan V A → (ℕ → V) → A
value (done a) ρ = a
value (ask y k) ρ = value (k (ρ y)) ρ

abbrev pub reads : {V A : Type 0} → Plan V A → (ℕ → V) → List ℕ
reads (done a) ρ = []
reads (ask y k) ρ = y ∷ reads (k (ρ y)) ρ

-- It asks only for unknowns below n; it asks at most m times.
abbrev pub Within : {V A : Type 0} → ℕ → Plan V A → Type 0
Within n (done a) = Unit {0}
Within {V} n (ask y k) = (y < n) × ((v : V) → Within n (k v))

abbrev pub Short : {V A : Type 0} → ℕ → Plan V A → Type 0
Short m (done a) = Unit {0}
Short zero (ask y k) = ⊥
Short {V} (suc m) (ask y k) = (v : V) → Short m (k v)

-- One plan and then another, that depends on what the first comes to.
abbrev pub then : {V A B : Type 0} → Plan V A → (A → Plan V B) → Plan V B
then (done a) k = k a
then (ask y j) k = ask y (λ v. then (j v) k)

-- A list of plans made one after the other, and what they come to joined to what is there.
abbrev pub collect : {V : Type 0} → (V → V → V) → (ℕ → Plan V V) → List ℕ → V → Plan V V
collect join part [] so_far = done so_far
collect join part (q ∷ qs) so_far = then (part q) (λ v. collect join part qs (join so_far v))

abbrev pub joined : {V : Type 0} → (V → V → V) → V → List V → V
joined join so_far [] = so_far
joined join so_far (v ∷ vs) = joined join (join so_far v) vs

abbrev pub concat : List (List ℕ) → List ℕ
concat [] = []
concat (xs ∷ xss) = xs ++ concat xss
