-- The removals of an edit.
use Rattle.std.specs.Prelude.{◌≡◌, ℕ, Bool, true, cond, not, ◌&&◌, None, filter}
use Rattle.equations.specs.Listings.{listed}
use Rattle.equations.specs.Notebook.{Notebook}

-- A chain of links leads from x to an unknown of a set.
pub data Leads (link : ℕ → ℕ → Type 0) (set : ℕ → Bool) : ℕ → Type 0 where
  here : {x : ℕ} → set x ≡ true → Leads link set x
  by : {x y : ℕ} → link x y → Leads link set y → Leads link set x

-- A read of y is recorded for x.
abbrev pub Reads : {V : Type 0} → Notebook V → ℕ → ℕ → Type 0
Reads N x y = N.reads x y ≡ true

-- The entries that go: exactly those from which a chain of recorded reads leads to a touched unknown, a touched one itself included.
pub record Gone {V : Type 0} (N : Notebook V) (touched gone : ℕ → Bool) : Type 0 where
  pub only : (x : ℕ) → listed N.value x ≡ true → gone x ≡ true → Leads (Reads N) touched x
  pub all : (x : ℕ) → listed N.value x ≡ true → Leads (Reads N) touched x → gone x ≡ true

-- The notebook without some of its entries and their reads.
abbrev pub without : {V : Type 0} → (ℕ → Bool) → Notebook V → Notebook V
without gone N = record {
  value = λ x. cond (gone x) None (N.value x);
  entries = filter (λ x. not (gone x)) N.entries;
  reads = λ x y. not (gone x) && N.reads x y;
}

-- N' is what an edit leaves of N.
pub record Removed {V : Type 0} (N : Notebook V) (touched : ℕ → Bool) (N' : Notebook V) : Type 0 where
  pub gone : ℕ → Bool
  pub exactly : Gone N touched gone
  pub left : N' ≡ without gone N
