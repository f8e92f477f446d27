-- Listings: values for some of the unknowns.
use Rattle.std.specs.Prelude.{◌≡◌, ℕ, Bool, true, List, is_some, Some, Option}
use Rattle.std.specs.Option.{unwrap_or}
use Rattle.equations.specs.Systems.{System, Below}
use Rattle.equations.specs.Runs.{has, asked, answer}

abbrev pub Listing : Type 0 → Type 0
Listing V = ℕ → Option V

abbrev pub listed : {V : Type 0} → Listing V → ℕ → Bool
listed L x = is_some (L x)

-- The values that a listing gives to a run: bottom where it lists nothing.
abbrev pub assign : {V : Type 0} → System V → Listing V → ℕ → V
assign E L x = unwrap_or (L x) E.kind.bottom

-- The asks of the run of x, given the listing's values, and its answer: the right-hand side of x.
abbrev pub asks_of : {V : Type 0} → System V → Listing V → ℕ → List ℕ
asks_of E L x = asked E x (assign E L)

abbrev pub right_hand_side : {V : Type 0} → System V → Listing V → ℕ → V
right_hand_side E L x = answer E x (assign E L)

-- Closed: the run of each listed unknown asks only for listed unknowns.
abbrev pub Closed : {V : Type 0} → System V → Listing V → Type 0
Closed E L = (x : ℕ) → listed L x ≡ true → (y : ℕ) → has (asks_of E L x) y ≡ true → listed L y ≡ true

-- It covers its right-hand sides: each is at or below the listed value.
abbrev pub Covers : {V : Type 0} → System V → Listing V → Type 0
Covers {V} E L = (x : ℕ) (v : V) → L x ≡ Some v → Below E (right_hand_side E L x) v

-- Least: each closed listing that covers its right-hand sides gives an unknown that both list at least as much.
abbrev pub Least : {V : Type 0} → System V → Listing V → Type 0
Least {V} E L = (M : Listing V) → Closed E M → Covers E M → (x : ℕ) (v w : V) → L x ≡ Some v → M x ≡ Some w → Below E v w

-- A solution: closed, and each value equals its right-hand side.
pub record Solution {V : Type 0} (E : System V) (L : Listing V) : Type 0 where
  pub closed : Closed E L
  pub equal : (x : ℕ) (v : V) → L x ≡ Some v → v ≡ right_hand_side E L x
