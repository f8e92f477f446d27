-- The rules that a set of equations keeps.
use Rattle.std.specs.Prelude.{◌≡◌, ℕ, ◌<◌, List, [], ◌∷◌, ◌++◌, length}
use Rattle.lattice.specs.Kinds.{Laws}
use Rattle.equations.specs.declared.Move.{Move}
use Rattle.equations.specs.declared.Move.TheVariants.{Ask}
use Rattle.equations.specs.Systems.{System, Below}
use Rattle.equations.specs.Runs.{ask_limit, answer}

-- The lists of values that a run can have been given: before each of them it had asked.
pub data Reached {V : Type 0} (next : List V → Move V) : List V → Type 0 where
  starts : Reached next []
  asks : {given : List V} {y : ℕ} (v : V) → Reached next given → next given ≡ Ask y → Reached next (given ++ (v ∷ []))

-- The values are of a lawful kind; the run of each unknown asks only for unknowns, answers after at most `ask_limit` asks, and is monotone:
-- values at or below others for every unknown give an answer at or below theirs.
pub record Lawful {V : Type 0} (E : System V) : Type 0 where
  pub lattice : Laws E.kind
  pub inside : (x : ℕ) → x < E.size → (given : List V) (y : ℕ) → Reached (E.moves x) given → E.moves x given ≡ Ask y → y < E.size
  pub ends : (x : ℕ) → x < E.size → (given : List V) (y : ℕ) → Reached (E.moves x) given → E.moves x given ≡ Ask y → length given < ask_limit
  pub monotone : (x : ℕ) → x < E.size → (ρ σ : ℕ → V) → ((y : ℕ) → Below E (ρ y) (σ y)) → Below E (answer E x ρ) (answer E x σ)
