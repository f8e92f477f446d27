-- What a run over a notebook's values comes to.
use Rattle.std.specs.Prelude.{◌≡◌, ℕ, ◌<◌, not, List, Some, None, Ok, Err, Option, Result}
use Rattle.equations.specs.Systems.{System}
use Rattle.equations.specs.Listings.{Listing, listed, asks_of, right_hand_side}
use Rattle.equations.specs.Steps.{first}
use Rattle.memory.specs.declared.runs.Missing.{Missing}

-- The first unlisted unknown that the run of x asks for.
abbrev pub lacking : {V : Type 0} → System V → Listing V → ℕ → Option ℕ
lacking E L x = first (λ y. not (listed L y)) (asks_of E L x)

-- The run of x lacks nothing: it asks for what is in the list, and it answers v.
pub record Whole {V : Type 0} (E : System V) (L : Listing V) (x : ℕ) (asked : List ℕ) (v : V) : Type 0 where
  pub asks : asks_of E L x ≡ asked
  pub gives : right_hand_side E L x ≡ v
  pub full : lacking E L x ≡ None

abbrev pub Ran : {V : Type 0} → System V → Listing V → ℕ → List ℕ → Result V Missing → Type 0
Ran E L x asked (Ok v) = Whole E L x asked v
Ran E L x asked (Err missing) = (lacking E L x ≡ Some missing.0) × (missing.0 < E.size)
