-- What a notebook in memory holds, and what its calls do.
use Rattle.std.specs.Prelude.{◌≡◌, ℕ, ◌<◌, ◌≤◌, Bool, true, false, ◌&&◌, ◌⊎◌, length}
use Rattle.equations.specs.Systems.{System}
use Rattle.equations.specs.Listings.{listed}
use Rattle.equations.specs.Notebook.{Notebook}
use Rattle.equations.specs.Steps.{Ask}
use Rattle.memory.specs.declared.notebook.Notebook.{Notebook as InMemory}
use Rattle.memory.specs.declared.marks.Marks.{Marks}
use Rattle.memory.specs.Bits.{holds}
use Rattle.memory.specs.Contents.{contents}

-- The entries that it holds, as a notebook of the theory, and how many unknowns it has room for.
abbrev pub held : {V : Type 0} → InMemory V → Notebook V
held b = contents b.entries

abbrev pub room_of : {V : Type 0} → InMemory V → ℕ
room_of b = length b.entries.cells.now

-- Whether an unknown is marked.
abbrev pub marked : Marks → ℕ → Bool
marked m x = holds m.set x

-- The marks of a test are on the entries that pass it.
abbrev pub Marked : {V : Type 0} → Notebook V → (ℕ → Bool) → Marks → Type 0
Marked N test m = (x : ℕ) → marked m x ≡ (listed N.value x && test x)

-- With room for all unknowns, and q one of them that has no entry, the ask for q is carried out; else all stays as it is.
pub record Solved {V : Type 0} (E : System V) (c : ℕ) (N : Notebook V) (q : ℕ) (N' : Notebook V) : Type 0 where
  pub asks : E.size ≤ c → q < E.size → listed N.value q ≡ false → Ask E N q N'
  pub stays : (c < E.size) ⊎ ((E.size ≤ q) ⊎ (listed N.value q ≡ true)) → N' ≡ N
