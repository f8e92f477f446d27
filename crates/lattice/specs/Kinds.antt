-- Value kinds and their laws.
use Rattle.std.specs.Prelude.{◌≡◌, ℕ, ◌<◌, ◌≤◌, ◌⊎◌}

-- A value kind: its least value, the join of two values, and the rank of a value.
pub record Kind (V : Type 0) : Type 0 where
  pub bottom : V
  pub join : V → V → V
  pub rank : V → ℕ

-- The highest rank that a value may have. It stands here only: what counts ranks counts up to this name.
unfoldable pub height_limit : ℕ
height_limit = 64

-- v is at or below w exactly when their join is w.
abbrev pub AtOrBelow : {V : Type 0} → Kind V → V → V → Type 0
AtOrBelow kind v w = kind.join v w ≡ w

-- The laws: a join-semilattice with a least value, and ranks that rise with the order.
pub record Laws {V : Type 0} (kind : Kind V) : Type 0 where
  pub associative : (u v w : V) → kind.join (kind.join u v) w ≡ kind.join u (kind.join v w)
  pub commutative : (v w : V) → kind.join v w ≡ kind.join w v
  pub idempotent : (v : V) → kind.join v v ≡ v
  pub least : (v : V) → kind.join kind.bottom v ≡ v
  pub height : (v : V) → kind.rank v ≤ height_limit
  -- of two values one of which is at or below the other, they are equal or the upper one has a higher rank
  pub rises : (v w : V) → AtOrBelow kind v w → (v ≡ w) ⊎ (kind.rank v < kind.rank w)
