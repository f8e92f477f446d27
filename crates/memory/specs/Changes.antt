-- What a change makes of the memory.
use Rattle.std.specs.Prelude.{◌≡◌, ℕ, ◌+◌, Bool, not, ◌&&◌, List, ◌∷◌, Some, None, if◌then◌else◌, filter, nat_eq}
use Rattle.std.specs.Map.{update}
use Rattle.memory.specs.declared.cell.Cell.{Cell}
use Rattle.memory.specs.Layout.{stored, entered, Rules}
use Rattle.memory.specs.Contents.{reads_in}

-- y has been entered with the value b.
pub record Entered {V : Type 0} (cells cells' : List (Cell V)) (links links' : List ℕ) (count y : ℕ) (b : V) : Type 0 where
  pub value : (z : ℕ) → stored cells' z ≡ update nat_eq (stored cells) y (Some b) z
  pub entries : entered cells' (count + 1) ≡ y ∷ entered cells count
  pub reads : (x z : ℕ) → reads_in cells' links' x z ≡ reads_in cells links x z
  pub rules : Rules cells' links' (count + 1)

-- The entries of a set are taken out.
pub record TakenOut {V : Type 0} (cells cells' : List (Cell V)) (links links' : List ℕ) (count count' : ℕ) (gone : ℕ → Bool) : Type 0 where
  pub value : (z : ℕ) → stored cells' z ≡ (if gone z then None else stored cells z)
  pub entries : entered cells' count' ≡ filter (λ x. not (gone x)) (entered cells count)
  pub reads : (x y : ℕ) → reads_in cells' links' x y ≡ (not (gone x) && reads_in cells links x y)
  pub rules : Rules cells' links' count'
