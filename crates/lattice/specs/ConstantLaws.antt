-- Constants keep the laws of a value kind.
use Rattle.std.specs.Prelude.{◌≡◌, ℕ, ◌<◌, ◌≤◌, true, false, ◌⊎◌, ℤ, pos, negsuc, ◌==◌, refl}
use Rattle.std.proofs.Common.{sym, ◌∙◌, ap, inl, inr, ⊎_elim, arith}
use Rattle.std.proofs.lemmas.Bool.{cases_Bool, eqb-true, eq-eqb}
use Rattle.lattice.specs.Kinds.{Laws}
use Rattle.lattice.specs.declared.constant.Constant.{Constant}
use Rattle.lattice.specs.declared.constant.Constant.TheVariants.{Never, Number, Many}
use Rattle.lattice.specs.Constants.{same_number, join_constants, rank_constant, constants}
use Rattle.lattice.specs.Order.{within_limit}

pub same_self : (a : ℤ) → same_number a a ≡ true
same_self (pos a) = eq-eqb a a refl
same_self (negsuc a) = eq-eqb a a refl

pub same_is : (a b : ℤ) → same_number a b ≡ true → a ≡ b
same_is (pos a) (pos b) e = ap pos (eqb-true a b e)
same_is (pos a) (negsuc b) e = let z : ◌≡◌ {A = ℕ} 0 1 = cc in absurd (omega arith)
same_is (negsuc a) (pos b) e = let z : ◌≡◌ {A = ℕ} 0 1 = cc in absurd (omega arith)
same_is (negsuc a) (negsuc b) e = ap negsuc (eqb-true a b e)

eqb_comm : (a b : ℕ) → (a == b) ≡ (b == a)
eqb_comm a b = go (cases_Bool (a == b)) (cases_Bool (b == a))
  where
    go : ((a == b) ≡ true) ⊎ ((a == b) ≡ false) → ((b == a) ≡ true) ⊎ ((b == a) ≡ false) → (a == b) ≡ (b == a)
    go (inl e) q = e ∙ sym (eq-eqb b a (sym (eqb-true a b e)))
    go (inr e) (inl f) = eq-eqb a b (sym (eqb-true b a f)) ∙ sym f
    go (inr e) (inr f) = e ∙ sym f

same_comm : (a b : ℤ) → same_number a b ≡ same_number b a
same_comm (pos a) (pos b) = eqb_comm a b
same_comm (pos a) (negsuc b) = refl
same_comm (negsuc a) (pos b) = refl
same_comm (negsuc a) (negsuc b) = eqb_comm a b

pub cases_number : (a b : ℤ) → (a ≡ b) ⊎ (same_number a b ≡ false)
cases_number a b = ⊎_elim (λ e. inl (same_is a b e)) inr (cases_Bool (same_number a b))

join_same : (a : ℤ) → join_constants (Number a) (Number a) ≡ Number a
join_same a = rw (same_self a)

join_apart : (a b : ℤ) → same_number a b ≡ false → join_constants (Number a) (Number b) ≡ Many
join_apart a b e = rw e

join_comm : (v w : Constant) → join_constants v w ≡ join_constants w v
join_comm Never Never = refl
join_comm Never (Number b) = refl
join_comm Never Many = refl
join_comm (Number a) Never = refl
join_comm (Number a) (Number b) = go (cases_number a b)
  where
    go : (a ≡ b) ⊎ (same_number a b ≡ false) → join_constants (Number a) (Number b) ≡ join_constants (Number b) (Number a)
    go (inl e) = rw e
    go (inr e) = join_apart a b e ∙ sym (join_apart b a (same_comm b a ∙ e))
join_comm (Number a) Many = refl
join_comm Many Never = refl
join_comm Many (Number b) = refl
join_comm Many Many = refl

join_assoc : (u v w : Constant) → join_constants (join_constants u v) w ≡ join_constants u (join_constants v w)
join_assoc Never v w = refl
join_assoc Many v w = refl
join_assoc (Number a) Never w = refl
join_assoc (Number a) Many w = refl
join_assoc (Number a) (Number b) Never = join_comm (join_constants (Number a) (Number b)) Never
join_assoc (Number a) (Number b) Many = join_comm (join_constants (Number a) (Number b)) Many
join_assoc (Number a) (Number b) (Number c) = go (cases_number a b) (cases_number b c)
  where
    go : (a ≡ b) ⊎ (same_number a b ≡ false) → (b ≡ c) ⊎ (same_number b c ≡ false)
        → join_constants (join_constants (Number a) (Number b)) (Number c) ≡ join_constants (Number a) (join_constants (Number b) (Number c))
    go (inl e) (inl f) = rw (e, f, join_same c)
    go (inl e) (inr f) = rw (e, join_same b, join_apart b c f)
    go (inr e) (inl f) = rw (← f, join_apart a b e, join_same b, join_apart a b e)
    go (inr e) (inr f) = rw (join_apart a b e, join_apart b c f)

pub join_idem : (v : Constant) → join_constants v v ≡ v
join_idem Never = refl
join_idem (Number a) = join_same a
join_idem Many = refl

rises : (v w : Constant) → join_constants v w ≡ w → (v ≡ w) ⊎ (rank_constant v < rank_constant w)
rises Never Never e = inl refl
rises Never (Number b) e = inr (omega arith)
rises Never Many e = inr (omega arith)
rises (Number a) Never e = inl e
rises (Number a) (Number b) e =
    ⊎_elim (λ q. inl (ap Number q))
    (λ q. let z : ◌≡◌ {A = Constant} Many (Number b) = sym (join_apart a b q) ∙ e in let y : ◌≡◌ {A = ℕ} 0 1 = cc in absurd (omega arith))
    (cases_number a b)
rises (Number a) Many e = inr (omega arith)
rises Many w e = inl e

low : (v : Constant) → rank_constant v ≤ 64
low Never = omega arith
low (Number a) = omega arith
low Many = omega arith

pub constants_laws : Laws constants
constants_laws = record {
  associative = join_assoc;
  commutative = join_comm;
  idempotent = join_idem;
  least = λ v. refl;
  height = λ v. within_limit (rank_constant v) (low v);
  rises = rises;
}
