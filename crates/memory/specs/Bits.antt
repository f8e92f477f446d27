-- Sets of numbers, as bits of words of 64 bits.
use Rattle.std.specs.Prelude.{◌≡◌, ℕ, ◌/◌, ◌%◌, ◌<◌, Bool, true, false, List, Some, None, Option, slice_index}
-- whether bit k of a word is set
unfoldable pub use Rattle.lattice.specs.Sets.{bit_of}
use Rattle.memory.specs.declared.set.Set.{Set}

-- Whether bit i of a list of words is set
unfoldable pub bit : List ℕ → ℕ → Bool
bit ws i = bit_of (slice_index ws (i / 64)) (i % 64)

-- Whether a set has i
abbrev pub holds : Set → ℕ → Bool
holds set i = bit set.words i

-- The highest number of a set of numbers below `end`.
abbrev pub Highest : (ℕ → Bool) → ℕ → Option ℕ → Type 0
Highest set end None = (k : ℕ) → set k ≡ false
Highest set end (Some p) = (p < end) × (set p ≡ true) × ((k : ℕ) → p < k → set k ≡ false)
