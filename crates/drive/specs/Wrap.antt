-- Arithmetic that wraps to 16 bits.
use Rattle.std.specs.Prelude.{◌≡◌, ℕ, ◌*◌, ◌⊎◌, ℤ, pos, negsuc, ◌+ℤ◌, ◌≤ℤ◌}
use Rattle.std.specs.Int.{int_wrap, w16}

-- w is from -32768 to 32767, and differs from z by a multiple of 65,536.
pub record Wraps (z w : ℤ) : Type 0 where
  pub low : negsuc 32767 ≤ℤ w
  pub high : w ≤ℤ pos 32767
  pub turns : ℕ
  pub apart : (z ≡ w +ℤ pos (turns * 65536)) ⊎ (w ≡ z +ℤ pos (turns * 65536))

-- For every number there is exactly one such.
abbrev pub WrapsOnce : Type 0
WrapsOnce = (z : ℤ) → (w : ℤ) × Wraps z w × ((v : ℤ) → Wraps z v → v ≡ w)

-- That one: what the 16 lowest bits of z say as a signed number.
abbrev pub W : ℤ → ℤ
W z = int_wrap w16 z

-- W is it, and nothing else is.
abbrev pub WWraps : Type 0
WWraps = (z : ℤ) → Wraps z (W z) × ((v : ℤ) → Wraps z v → v ≡ W z)
