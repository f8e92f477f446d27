-- How the entries lie in memory, and the rules that the memory keeps.
use Rattle.std.specs.Prelude.{◌≡◌, ℕ, zero, suc, ◌+◌, ◌*◌, ◌/◌, ◌≤◌, Bool, true, not, ◌&&◌, ◌||◌, List, [], ◌∷◌, map, reverse, length, take, is_some, None, Option, ◌==◌, nat_lt, slice_index}
use Rattle.equations.specs.Runs.{has}
use Rattle.memory.specs.declared.cell.Cell.{Cell}
use Rattle.memory.specs.Bits.{bit}

-- A cell that holds nothing.
abbrev pub blank : {V : Type 0} → Cell V
blank = record { value = None; place = 0; order = 0 }

-- The value in the cell of an unknown.
abbrev pub stored : {V : Type 0} → List (Cell V) → ℕ → Option V
stored [] x = None
stored (c ∷ cs) zero = c.value
stored (c ∷ cs) (suc x) = stored cs x

-- The unknown in each place, and the place of each unknown.
abbrev pub orders : {V : Type 0} → List (Cell V) → List ℕ
orders cells = map (λ c. c.order) cells

abbrev pub places : {V : Type 0} → List (Cell V) → List ℕ
places cells = map (λ c. c.place) cells

-- The entries: the unknowns in the first places, the last first.
abbrev pub entered : {V : Type 0} → List (Cell V) → ℕ → List ℕ
entered cells count = reverse (take count (orders cells))

-- The words of a row, for c unknowns.
abbrev pub width : ℕ → ℕ
width c = (c + 63) / 64

-- Whether the row of y has x, where a row has w words.
abbrev pub linked : ℕ → List ℕ → ℕ → ℕ → Bool
linked w links x y = bit links (64 * (y * w) + x)

-- No number stands in the list twice.
abbrev pub once : List ℕ → Bool
once [] = true
once (x ∷ xs) = not (has xs x) && once xs

-- A test that holds where another does.
abbrev pub implies : Bool → Bool → Bool
implies a b = not a || b

-- As many words as the cells need, and a cell for each entry.
abbrev pub Room : ℕ → ℕ → ℕ → Type 0
Room c l count = (c ≤ 512) × (l ≡ c * width c) × (count ≤ c)

-- The entries are the unknowns that have a value, each once.
abbrev pub Listed : {V : Type 0} → List (Cell V) → ℕ → Type 0
Listed cells count = (once (entered cells count) ≡ true) × ((x : ℕ) → has (entered cells count) x ≡ is_some (stored cells x))

-- Each entry knows its place.
abbrev pub Placed : {V : Type 0} → List (Cell V) → ℕ → Type 0
Placed cells count = (k : ℕ) → implies (nat_lt k count) (slice_index (places cells) (slice_index (orders cells) k) == k) ≡ true

-- The row of an entry has entries only. What the other rows have is of no account: a row is emptied when its entry is made.
abbrev pub Clean : {V : Type 0} → List (Cell V) → List ℕ → Type 0
Clean cells links = (x y : ℕ) → implies (is_some (stored cells y) && (nat_lt x (64 * width (length cells)) && linked (width (length cells)) links x y)) (is_some (stored cells x)) ≡ true

-- The memory keeps its rules.
pub record Rules {V : Type 0} (cells : List (Cell V)) (links : List ℕ) (count : ℕ) : Type 0 where
  pub room : Room (length cells) (length links) count
  pub listed : Listed cells count
  pub placed : Placed cells count
  pub clean : Clean cells links
