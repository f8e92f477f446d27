-- How many unknowns a notebook has room for.
use Rattle.std.specs.Prelude.{ℕ, ◌*◌, ◌≤◌}
use Rattle.memory.specs.Layout.{width}

-- c unknowns fit: at most 512, with a cell for each and ⌈c/64⌉ link words for each.
pub record Fits (cells links c : ℕ) : Type 0 where
  pub few : c ≤ 512
  pub cell : c ≤ cells
  pub row : c * width c ≤ links

-- The largest number that fits.
pub record Capacity (cells links c : ℕ) : Type 0 where
  pub fits : Fits cells links c
  pub largest : (d : ℕ) → Fits cells links d → d ≤ c
