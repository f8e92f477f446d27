-- Levels keep the laws of a value kind.
use Rattle.std.specs.Prelude.{◌≡◌, ℕ, ◌<◌, ◌≤◌, max, ◌⊎◌}
use Rattle.std.proofs.Common.{ap, inl, inr, ⊎_elim, arith}
use mathlib.Core.HLevel.{is_prop→PathP}
use Rattle.std.proofs.Math.Bridge.{le_prop}
use Rattle.std.proofs.lemmas.Bool.{cases_eq}
use Rattle.lattice.specs.Kinds.{Laws}
use Rattle.lattice.specs.Order.{within_limit}
use Rattle.toys.specs.declared.level.Level.{Level}
use Rattle.toys.specs.Levels.{levels, higher}

-- a level is its height
pub same_height : (a b : Level) → a.height ≡ b.height → a ≡ b
same_height a b e = λ i. record { height = e i; low = is_prop→PathP (λ j. e j ≤ 64) (λ j. le_prop) a.low b.low i }

pub below_height : (a b : Level) → higher a b ≡ b → a.height ≤ b.height
below_height a b e = let h = ap (λ l. l.height) e in omega arith

pub height_below : (a b : Level) → a.height ≤ b.height → higher a b ≡ b
height_below a b h = same_height (higher a b) b (omega arith)

rise : (a b : ℕ) → max a b ≡ b → (a ≡ b) ⊎ (a < b)
rise a b e = ⊎_elim inl (λ d. inr (omega arith)) (cases_eq a b)

pub levels_laws : Laws levels
levels_laws = record {
  associative = λ u v w. same_height (higher (higher u v) w) (higher u (higher v w)) (assoc u.height v.height w.height);
  commutative = λ v w. same_height (higher v w) (higher w v) (comm v.height w.height);
  idempotent = λ v. same_height (higher v v) v (idem v.height);
  least = λ v. same_height (higher levels.bottom v) v (least v.height);
  height = λ v. within_limit v.height v.low;
  rises = λ v w e. ⊎_elim (λ q. inl (same_height v w q)) inr (rise v.height w.height (ap (λ a. a.height) e));
}
  where
    assoc : (a b c : ℕ) → max (max a b) c ≡ max a (max b c)
    assoc a b c = omega arith

    comm : (a b : ℕ) → max a b ≡ max b a
    comm a b = omega arith

    idem : (a : ℕ) → max a a ≡ a
    idem a = omega arith

    least : (a : ℕ) → max 0 a ≡ a
    least a = omega arith
