-- Levels as a value kind: a chain from 0 to 64.
use Rattle.std.specs.Prelude.{ℕ, ◌≤◌, max}
use Rattle.std.proofs.Common.{arith}
use Rattle.lattice.specs.Kinds.{Kind}
use Rattle.toys.specs.declared.level.Level.{Level}

pub max_low : (a b : ℕ) → a ≤ 64 → b ≤ 64 → max a b ≤ 64
max_low a b p q = omega arith

abbrev pub higher : Level → Level → Level
higher a b = record { height = max a.height b.height; low = max_low a.height b.height a.low b.low }

abbrev pub levels : Kind Level
levels = record { bottom = record { height = 0; low = omega arith }; join = higher; rank = λ a. a.height }
