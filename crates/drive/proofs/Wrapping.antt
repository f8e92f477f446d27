-- W is the one number that wraps z.
use Rattle.std.proofs.Common.{◌≡◌, ℕ, suc, ◌+◌, ◌-◌, ◌*◌, ◌/◌, ◌%◌, ◌<◌, ◌≤◌, ℤ, pos, negsuc, sym, inl, inr, ⊎_elim, mod-lt, arith, lit<, w16, to_z}
use native.Mathlib.Nat.{div-add-mod}
use Rattle.std.specs.Int.{int_wrap}
use Rattle.std.proofs.lemmas.Int.{ints}
use Rattle.std.proofs.lemmas.Bool.{cases_lt, le-ltb}
use Rattle.drive.specs.Wrap.{W, Wraps, WrapsOnce, WWraps}

-- Two numbers that wrap z are equal.
pub only : (z w v : ℤ) → Wraps z w → Wraps z v → v ≡ w
only z w v p q =
    let pl = p.low in let ph = p.high in let ql = q.low in let qh = q.high in
    elim p.apart [
      | inl e ↦ elim q.apart [ inl f ↦ omega (arith, ints) | inr f ↦ omega (arith, ints) ]
      | inr e ↦ elim q.apart [ inl f ↦ omega (arith, ints) | inr f ↦ omega (arith, ints) ]
    ]

-- The 16 lowest bits m of z, read as a signed number.
-- From 32768 on it stands for a number below 0.
high : (m : ℕ) → 32768 ≤ m → to_z w16 m ≡ negsuc (65536 - suc m)
high m k = rw (le-ltb m 32768 k)

at_pos : (n m q : ℕ) → m < 65536 → n ≡ 65536 * q + m → Wraps (pos n) (to_z w16 m)
at_pos n m q small e = ⊎_elim
    (λ (k : m < 32768). record { low = omega (arith, ints); high = omega (arith, ints); turns = q; apart = inl (omega (arith, ints)) })
    (λ (k : 32768 ≤ m). record { low = omega (arith, ints); high = omega (arith, ints); turns = q + 1; apart = inl (rw (high m k) (omega (arith, ints))) })
    (cases_lt m 32768)

at_negsuc : (n m q : ℕ) → m < 65536 → n ≡ 65536 * q + m → Wraps (negsuc n) (to_z w16 (65535 - m))
at_negsuc n m q small e = ⊎_elim
    (λ (k : m < 32768).
    let h : 32768 ≤ 65535 - m = omega arith in
    record { low = omega (arith, ints); high = omega (arith, ints); turns = q; apart = inr (rw (high (65535 - m) h) (omega (arith, ints))) })
    (λ (k : 32768 ≤ m). record { low = omega (arith, ints); high = omega (arith, ints); turns = q + 1; apart = inr (omega (arith, ints)) })
    (cases_lt m 32768)

pub wraps : (z : ℤ) → Wraps z (W z)
unfolding int_wrap
wraps (pos n) = at_pos n (n % 65536) (n / 65536) (mod-lt n (lit< tt)) (sym (div-add-mod n 65536))
wraps (negsuc n) = at_negsuc n (n % 65536) (n / 65536) (mod-lt n (lit< tt)) (sym (div-add-mod n 65536))

pub w_wraps : WWraps
w_wraps z = (wraps z, λ v h. only z (W z) v (wraps z) h)

pub wraps_once : WrapsOnce
wraps_once z = (W z, wraps z, λ v h. only z (W z) v (wraps z) h)
