-- The entries from which a chain of reads leads to a set.
use Rattle.std.specs.Prelude.{◌≡◌, ℕ, Bool, true}
use Rattle.equations.specs.Listings.{listed}
use Rattle.equations.specs.Notebook.{Notebook}
use Rattle.equations.specs.Removals.{Leads, Reads}

-- With an entry, a set has each entry that has read it.
abbrev pub Closed : {V : Type 0} → Notebook V → (ℕ → Bool) → Type 0
Closed N set = (x y : ℕ) → N.reads x y ≡ true → set y ≡ true → set x ≡ true

-- The second set is that of all entries from which a chain of reads leads to one of the first.
pub record Spread {V : Type 0} (N : Notebook V) (from to : ℕ → Bool) : Type 0 where
  pub entries : (z : ℕ) → to z ≡ true → listed N.value z ≡ true
  pub base : (z : ℕ) → from z ≡ true → to z ≡ true
  pub only : (z : ℕ) → to z ≡ true → Leads (Reads N) from z
  pub closed : Closed N to
