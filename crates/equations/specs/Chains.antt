-- The chain of asks.
use Rattle.std.specs.Prelude.{◌≡◌, ℕ, true}
use Rattle.equations.specs.Systems.{System, Below}
use Rattle.equations.specs.Runs.{has, asked}
use Rattle.equations.specs.Listings.{listed}
use Rattle.equations.specs.Notebook.{Notebook, values}

-- Under some values, at or below its own for each listed unknown, the run of x asks only for listed unknowns, y among them.
pub record MayAsk {V : Type 0} (E : System V) (N : Notebook V) (x y : ℕ) : Type 0 where
  pub at : ℕ → V
  pub low : (z : ℕ) → listed N.value z ≡ true → Below E (at z) (values E N z)
  pub within : (z : ℕ) → has (asked E x at) z ≡ true → listed N.value z ≡ true
  pub asks : has (asked E x at) y ≡ true

-- A chain of asks leads from each listed unknown to itself; one that leads to y leads on to z if y may ask for z.
pub data ChainOfAsks {V : Type 0} (E : System V) (N : Notebook V) (x : ℕ) : ℕ → Type 0 where
  itself : listed N.value x ≡ true → ChainOfAsks E N x x
  onward : {y z : ℕ} → ChainOfAsks E N x y → MayAsk E N y z → ChainOfAsks E N x z
