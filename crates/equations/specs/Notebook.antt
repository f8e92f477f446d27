-- The notebook: the values found, and what they rest on.
use Rattle.std.specs.Prelude.{◌≡◌, ℕ, Bool, true, false, List, [], ◌++◌, None}
use Rattle.equations.specs.Systems.{System}
use Rattle.equations.specs.Listings.{Listing, listed, assign}

-- The value of each entry; the unknowns that have an entry, the latest entered first; and the recorded reads: `reads x y` if a run of x
-- that answered had asked for y.
pub record Notebook (V : Type 0) : Type 0 where
  pub value : Listing V
  pub entries : List ℕ
  pub reads : ℕ → ℕ → Bool

abbrev pub empty : {V : Type 0} → Notebook V
empty = record { value = λ x. None; entries = []; reads = λ x y. false }

-- The values that a notebook gives to a run.
abbrev pub values : {V : Type 0} → System V → Notebook V → ℕ → V
values E N = assign E N.value

-- Every entry of N stands in N' with its value and its recorded reads, and in the same order: the new entries came after it, so they stand
-- in front.
pub record Keeps {V : Type 0} (N N' : Notebook V) : Type 0 where
  pub value : (x : ℕ) → listed N.value x ≡ true → N'.value x ≡ N.value x
  pub reads : (x y : ℕ) → listed N.value x ≡ true → N'.reads x y ≡ N.reads x y
  pub order : (new : List ℕ) × (N'.entries ≡ new ++ N.entries)
