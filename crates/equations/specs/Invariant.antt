-- The invariant of the proofs: what holds of a notebook at every moment. No theorem speaks of it.
use Rattle.std.specs.Prelude.{◌≡◌, ℕ, ◌<◌, Bool, true, false, List, [], ◌∷◌}
use Rattle.equations.specs.Systems.{System, Below}
use Rattle.equations.specs.Runs.{has, asked, answer}
use Rattle.equations.specs.Listings.{Listing, listed, assign, asks_of, right_hand_side}
use Rattle.equations.specs.Notebook.{Notebook, values}
use Rattle.equations.specs.Steps.{State}

-- No number stands in the list twice.
abbrev pub Distinct : List ℕ → Type 0
Distinct [] = Unit {0}
Distinct (x ∷ xs) = (has xs x ≡ false) × Distinct xs

-- A set of unknowns that has what its members have read.
abbrev pub ReadClosed : {V : Type 0} → Notebook V → (ℕ → Bool) → Type 0
ReadClosed N S = (x y : ℕ) → S x ≡ true → N.reads x y ≡ true → S y ≡ true

-- A listing is closed at x and covers the right-hand side of x.
pub record Covered {V : Type 0} (E : System V) (L : Listing V) (x : ℕ) : Type 0 where
  pub closed : (y : ℕ) → has (asks_of E L x) y ≡ true → listed L y ≡ true
  pub covers : Below E (right_hand_side E L x) (assign E L x)

-- It is so at each of its unknowns that is in S.
abbrev pub CoversOn : {V : Type 0} → System V → (ℕ → Bool) → Listing V → Type 0
CoversOn E S L = (x : ℕ) → S x ≡ true → listed L x ≡ true → Covered E L x

-- The run of x is up to date: its reads are recorded, and its answer is at or below its value.
pub record Settled {V : Type 0} (E : System V) (N : Notebook V) (x : ℕ) : Type 0 where
  pub recorded : (y : ℕ) → has (asked E x (values E N)) y ≡ true → N.reads x y ≡ true
  pub covers : Below E (answer E x (values E N)) (values E N x)

-- A recorded read of y by x was made under values at or below the present ones, in a run that made only recorded reads.
pub record Witness {V : Type 0} (E : System V) (N : Notebook V) (x y : ℕ) : Type 0 where
  pub at : ℕ → V
  pub low : (z : ℕ) → has (asked E x at) z ≡ true → Below E (at z) (values E N z)
  pub within : (z : ℕ) → has (asked E x at) z ≡ true → N.reads x z ≡ true
  pub read : has (asked E x at) y ≡ true

-- At every moment of an ask. `lowest` is why values stay least through edits: leastness of the whole listing is not kept by an edit, but
-- leastness on every set that is closed under recorded reads is.
pub record Sound {V : Type 0} (E : System V) (N : Notebook V) (waiting : ℕ → Bool) : Type 0 where
  pub inside : (x : ℕ) → listed N.value x ≡ true → x < E.size
  pub entered : (x : ℕ) → has N.entries x ≡ listed N.value x
  pub once : Distinct N.entries
  pub between : (x y : ℕ) → N.reads x y ≡ true → (listed N.value x ≡ true) × (listed N.value y ≡ true)
  pub under : (x : ℕ) → listed N.value x ≡ true → Below E (values E N x) (answer E x (values E N))
  pub settled : (x : ℕ) → listed N.value x ≡ true → waiting x ≡ false → Settled E N x
  pub lowest : (S : ℕ → Bool) (L : Listing V) → ReadClosed N S → CoversOn E S L → (x : ℕ) → S x ≡ true → listed L x ≡ true → Below E (values E N x) (assign E L x)
  pub witness : (x y : ℕ) → N.reads x y ≡ true → Witness E N x y

-- Between calls, when none waits.
abbrev pub Valid : {V : Type 0} → System V → Notebook V → Type 0
Valid E N = Sound E N (λ x. false)

-- What an ask needs to end, of any notebook: only unknowns wait.
abbrev pub Ready : {V : Type 0} → System V → State V → Type 0
Ready E s = (x : ℕ) → s.waiting x ≡ true → x < E.size
