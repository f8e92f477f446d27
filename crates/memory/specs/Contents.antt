-- What the entries in memory are as a notebook, and in the course of an ask.
use Rattle.std.specs.Prelude.{◌≡◌, ℕ, ◌<◌, Bool, true, ◌&&◌, ◌||◌, List, ◌∷◌, length, is_some, Some, ◌==◌, nat_eq, slice_index}
use Rattle.std.specs.Map.{update}
use Rattle.equations.specs.Runs.{has}
use Rattle.equations.specs.Notebook.{Notebook}
use Rattle.equations.specs.Steps.{State}
use Rattle.memory.specs.declared.cell.Cell.{Cell}
use Rattle.memory.specs.declared.entries.Entries.{Entries}
use Rattle.memory.specs.Bits.{bit}
use Rattle.memory.specs.Layout.{stored, orders, places, entered, linked, width, Rules}

-- A recorded read of y by x: both have entries, and the row of y has x.
abbrev pub reads_in : {V : Type 0} → List (Cell V) → List ℕ → ℕ → ℕ → Bool
reads_in cells links x y = is_some (stored cells x) && (is_some (stored cells y) && linked (width (length cells)) links x y)

abbrev pub contents : {V : Type 0} → Entries V → Notebook V
contents b = record {
  value = stored b.cells.now;
  entries = entered b.cells.now b.count;
  reads = reads_in b.cells.now b.links.now;
}

-- The memory keeps its rules.
abbrev pub Orderly : {V : Type 0} → Entries V → Type 0
Orderly b = Rules b.cells.now b.links.now b.count

-- An entry waits if its place is in a set.
abbrev pub waits : {V : Type 0} → List (Cell V) → List ℕ → ℕ → Bool
waits cells words z = is_some (stored cells z) && bit words (slice_index (places cells) z)

abbrev pub state : {V : Type 0} → Entries V → List ℕ → State V
state b words = record { notebook = contents b; waiting = waits b.cells.now words }

-- The set has places of entries below n only.
abbrev pub Waiting : {V : Type 0} → ℕ → List (Cell V) → ℕ → List ℕ → Type 0
Waiting n cells count words = (k : ℕ) → bit words k ≡ true → (k < count) × (slice_index (orders cells) k < n)

-- A notebook with an entry more.
abbrev pub with_entry : {V : Type 0} → V → ℕ → Notebook V → Notebook V
with_entry bottom y N = record { value = update nat_eq N.value y (Some bottom); entries = y ∷ N.entries; reads = N.reads }

-- A notebook with another value of x, and with reads of x.
abbrev pub with_answer : {V : Type 0} → ℕ → V → List ℕ → Notebook V → Notebook V
with_answer x v ys N = record { value = update nat_eq N.value x (Some v); entries = N.entries; reads = λ z y. N.reads z y || (z == x && has ys y) }
