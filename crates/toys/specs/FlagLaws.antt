-- Flags keep the laws of a value kind.
use Rattle.std.specs.Prelude.{◌≡◌, ◌<◌, ◌≤◌, Bool, true, false, cond, ◌||◌, ◌⊎◌, refl}
use Rattle.std.proofs.Common.{ap, inl, inr, arith}
use Rattle.std.proofs.Math.Bool.{or_assoc, or_comm, or_self}
use Rattle.lattice.specs.Kinds.{Laws}
use Rattle.lattice.specs.Order.{within_limit}
use Rattle.toys.specs.declared.flag.Flag.{Flag}
use Rattle.toys.specs.Flags.{flags}

up : {a b : Bool} → a ≡ b → ◌≡◌ {A = Flag} (record { up = a }) (record { up = b })
up e = λ i. record { up = e i }

low : (a : Bool) → cond a 1 0 ≤ 64
low true = omega arith
low false = omega arith

rise : (a b : Bool) → (a || b) ≡ b → (a ≡ b) ⊎ (cond a 1 0 < cond b 1 0)
rise true b e = inl e
rise false true e = inr (omega arith)
rise false false e = inl refl

pub flags_laws : Laws flags
flags_laws = record {
  associative = λ u v w. up (or_assoc u.up v.up w.up);
  commutative = λ v w. up (or_comm v.up w.up);
  idempotent = λ v. up (or_self v.up);
  least = λ v. refl;
  height = λ v. within_limit _ (low v.up);
  rises = λ v w e. elim (rise v.up w.up (ap (λ f. f.up) e)) [ inl q ↦ inl (up q) | inr q ↦ inr q ];
}
