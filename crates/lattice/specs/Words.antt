-- The bits of a word.
use Rattle.std.specs.Prelude.{◌≡◌, ℕ, zero, suc, ◌+◌, ◌-◌, ◌*◌, ◌/◌, ◌%◌, ◌^◌, ◌<◌, ◌≤◌, Bool, true, false, cond, not, ◌&&◌, ◌||◌, ◌⊎◌, ◌==◌, bit_and, bit_or, bit_xor, count_ones, nat_eq, refl}
use Rattle.std.proofs.Common.{sym, ◌∙◌, ap, inl, inr, mod-lt, pow-suc, mul_comm, mod-eq_of_lt, arith, pow_pos}
use Rattle.std.proofs.Math.Nat.{div-eq_of_lt, mul-div_cancel_left, mul-mod_right}
use Rattle.std.specs.Int.Bits.{xor_add_and}
use Rattle.std.specs.Int.Count.{ones_step}
use Rattle.std.proofs.lemmas.Nat.{pow-add, pow_below, shr-shr, or_shr, and_shr, xor_shr, or_mod, and_mod, xor_mod, and_mask, ones-le}
use Rattle.std.proofs.lemmas.Bool.{cases_order, eq-eqb, ne_eqb, eqb-true, true≢false}
use Rattle.lattice.specs.Sets.{bit_of, word_of, count_of}

parity : (n : ℕ) → (n % 2 ≡ 0) ⊎ (n % 2 ≡ 1)
parity n = go (n % 2) (mod-lt n (omega arith))
  where
    go : (m : ℕ) → m < 2 → (m ≡ 0) ⊎ (m ≡ 1)
    go zero h = inl refl
    go (suc m) h = inr (omega arith)

pub or_bit : (a b k : ℕ) → bit_of (bit_or a b) k ≡ (bit_of a k || bit_of b k)
unfolding bit_of
or_bit a b k = rw (or_shr a b k, or_mod (a / 2 ^ k) (b / 2 ^ k) 1) (go (parity (a / 2 ^ k)) (parity (b / 2 ^ k)))
  where
    go : (a / 2 ^ k % 2 ≡ 0) ⊎ (a / 2 ^ k % 2 ≡ 1) → (b / 2 ^ k % 2 ≡ 0) ⊎ (b / 2 ^ k % 2 ≡ 1)
        → (bit_or (a / 2 ^ k % 2) (b / 2 ^ k % 2) == 1) ≡ (a / 2 ^ k % 2 == 1 || b / 2 ^ k % 2 == 1)
    go (inl e) (inl f) = rw (e, f)
    go (inl e) (inr f) = rw (e, f)
    go (inr e) (inl f) = rw (e, f)
    go (inr e) (inr f) = rw (e, f)

pub and_bit : (a b k : ℕ) → bit_of (bit_and a b) k ≡ (bit_of a k && bit_of b k)
unfolding bit_of
and_bit a b k = ap (λ n. nat_eq (n % 2) 1) (and_shr a b k) ∙ ap (λ n. nat_eq n 1) (and_mod (a / 2 ^ k) (b / 2 ^ k) 1) ∙ go (parity (a / 2 ^ k)) (parity (b / 2 ^ k))
  where
    go : (a / 2 ^ k % 2 ≡ 0) ⊎ (a / 2 ^ k % 2 ≡ 1) → (b / 2 ^ k % 2 ≡ 0) ⊎ (b / 2 ^ k % 2 ≡ 1)
        → (bit_and (a / 2 ^ k % 2) (b / 2 ^ k % 2) == 1) ≡ (a / 2 ^ k % 2 == 1 && b / 2 ^ k % 2 == 1)
    go (inl e) q = rw e
    go (inr e) (inl f) = rw (e, f)
    go (inr e) (inr f) = rw (e, f)

xor_bit : (a b k : ℕ) → bit_of b k ≡ true → bit_of (bit_xor a b) k ≡ not (bit_of a k)
unfolding bit_of
xor_bit a b k h = rw (xor_shr a b k, xor_mod (a / 2 ^ k) (b / 2 ^ k) 1, eqb-true (b / 2 ^ k % 2) 1 h) (go (parity (a / 2 ^ k)))
  where
    go : (a / 2 ^ k % 2 ≡ 0) ⊎ (a / 2 ^ k % 2 ≡ 1) → (bit_xor (a / 2 ^ k % 2) 1 == 1) ≡ not (a / 2 ^ k % 2 == 1)
    go (inl e) = rw e
    go (inr e) = rw e

pub zero_bit : (k : ℕ) → bit_of 0 k ≡ false
unfolding bit_of
zero_bit k = rw (div-eq_of_lt (pow_pos k))

pub power_bit : (m k : ℕ) → bit_of (2 ^ m) k ≡ (k == m)
unfolding bit_of
power_bit m k = go (cases_order k m)
  where
    cancel : (j : ℕ) → 2 ^ j / 2 ^ j ≡ 1
    cancel j = let h = mul-div_cancel_left 1 (pow_pos j) in let e : 2 ^ j * 1 ≡ 2 ^ j = omega arith in rw e at h

    go : (k ≡ m) ⊎ ((k < m) ⊎ (m < k)) → (2 ^ m / 2 ^ k % 2 == 1) ≡ (k == m)
    go (inl e) = rw (e, cancel m, eq-eqb m m refl)
    go (inr (inl l)) =
        let j : ℕ = m - k - 1 in
        let e : m ≡ k + suc j = omega arith in
        let p : 2 ^ m ≡ 2 ^ k * (2 * 2 ^ j) = ap (λ n. 2 ^ n) e ∙ pow-add 2 k (suc j) ∙ ap (λ n. 2 ^ k * n) (pow-suc 2 j ∙ mul_comm (2 ^ j) 2) in
        let d : k ≡ m → ⊥ = omega arith in
        rw (ne_eqb k m d, p, mul-div_cancel_left (2 * 2 ^ j) (pow_pos k), mul-mod_right 2 (2 ^ j))
    go (inr (inr l)) = let d : k ≡ m → ⊥ = omega arith in rw (ne_eqb k m d, div-eq_of_lt (pow_below m k l))

full_bit : (k : ℕ) → k < 64 → bit_of 18446744073709551615 k ≡ true
full_bit k h =
    let p : bit_and (2 ^ k) 18446744073709551615 ≡ 2 ^ k = and_mask (2 ^ k) 64 ∙ mod-eq_of_lt (pow_below k 64 h) in
    let b : (bit_of (2 ^ k) k && bit_of 18446744073709551615 k) ≡ bit_of (2 ^ k) k = sym (and_bit (2 ^ k) 18446744073709551615 k) ∙ ap (λ w. bit_of w k) p in
    let o : bit_of (2 ^ k) k ≡ true = power_bit k k ∙ eq-eqb k k refl in
    rw o at b

pub not_bit : (w k : ℕ) → w < 2 ^ 64 → k < 64 → bit_of (18446744073709551615 - w) k ≡ not (bit_of w k)
not_bit w k fits h =
    let m : bit_and w 18446744073709551615 ≡ w = and_mask w 64 ∙ mod-eq_of_lt fits in
    let e : 18446744073709551615 - w ≡ bit_xor w 18446744073709551615 = omega (arith, xor_add_and w 18446744073709551615, m) in
    ap (λ v. bit_of v k) e ∙ xor_bit w 18446744073709551615 k (full_bit k h)

-- the test of a bit as code makes it
pub tested : (w k : ℕ) → (bit_and (w / 2 ^ k) 1 == 1) ≡ bit_of w k
unfolding bit_of
tested w k = rw (and_mask (w / 2 ^ k) 1)

-- no bit past the word is set
pub past_bit : (w n k : ℕ) → w < 2 ^ n → n ≤ k → bit_of w k ≡ false
unfolding bit_of
past_bit w n k fits h = rw (div-eq_of_lt (below (cases_order n k)))
  where
    below : (n ≡ k) ⊎ ((n < k) ⊎ (k < n)) → w < 2 ^ k
    below (inl e) = rw e at fits
    below (inr (inl l)) = omega (arith, pow_below n k l)
    below (inr (inr l)) = absurd (omega arith)

-- the lowest bit, and the bits above it
low_bit : (w : ℕ) → w % 2 ≡ cond (bit_of w 0) 1 0
unfolding bit_of
low_bit w = let e : w / 1 ≡ w = omega arith in rw e (go (parity w))
  where
    go : (w % 2 ≡ 0) ⊎ (w % 2 ≡ 1) → w % 2 ≡ cond (w % 2 == 1) 1 0
    go (inl e) = rw e
    go (inr e) = rw e

pub half_bit : (w k : ℕ) → bit_of (w / 2) k ≡ bit_of w (suc k)
unfolding bit_of
half_bit w k = let e : 1 + k ≡ suc k = omega arith in ap (λ v. nat_eq (v % 2) 1) (shr-shr w 1 k ∙ ap (λ j. w / 2 ^ j) e)

half_fits : (w n : ℕ) → w < 2 ^ suc n → w / 2 < 2 ^ n
half_fits w n h = omega (arith, pow-suc 2 n)

-- words of n bits with the same bits are equal
pub same_bits : (n a b : ℕ) → a < 2 ^ n → b < 2 ^ n → ((k : ℕ) → k < n → bit_of a k ≡ bit_of b k) → a ≡ b
same_bits zero a b p q h = omega arith
same_bits (suc n) a b p q h =
    let upper : a / 2 ≡ b / 2 = same_bits n (a / 2) (b / 2) (half_fits a n p) (half_fits b n q) (λ k l. half_bit a k ∙ h (suc k) (omega arith) ∙ sym (half_bit b k)) in
    let lower : a % 2 ≡ b % 2 = low_bit a ∙ ap {B = ℕ} (λ t. cond t 1 0) (h 0 (omega arith)) ∙ sym (low_bit b) in
    omega arith

-- the lowest bit of a doubled number, and what is left without it
bit_then_half : (u : ℕ) (b : Bool) → ((2 * u + cond b 1 0) / 2 ≡ u) × ((2 * u + cond b 1 0) % 2 ≡ cond b 1 0)
bit_then_half u true = (omega arith, omega arith)
bit_then_half u false = (omega arith, omega arith)

set_low : (b c : Bool) → ◌≡◌ {A = ℕ} (cond b 1 0) (cond c 1 0) → b ≡ c
set_low true true e = refl
set_low true false e = absurd (omega arith)
set_low false true e = absurd (omega arith)
set_low false false e = refl

-- the word of a test has the bits that pass
pub word_bit : (test : ℕ → Bool) (n k : ℕ) → k < n → bit_of (word_of test n) k ≡ test k
unfolding word_of
word_bit test zero k h = absurd (omega arith)
word_bit test (suc n) zero h =
    set_low _ _ (sym (low_bit (2 * word_of (λ i. test (suc i)) n + cond (test 0) 1 0)) ∙ (bit_then_half (word_of (λ i. test (suc i)) n) (test 0)).1)
word_bit test (suc n) (suc k) h =
    sym (half_bit (2 * word_of (λ i. test (suc i)) n + cond (test 0) 1 0) k)
    ∙ ap (λ w. bit_of w k) (bit_then_half (word_of (λ i. test (suc i)) n) (test 0)).0
    ∙ word_bit (λ i. test (suc i)) n k (omega arith)

pub count_same : (f g : ℕ → Bool) (n : ℕ) → ((k : ℕ) → k < n → f k ≡ g k) → count_of f n ≡ count_of g n
unfolding count_of
count_same f g zero h = refl
count_same f g (suc n) h =
    let rest : count_of (λ k. f (suc k)) n ≡ count_of (λ k. g (suc k)) n = count_same (λ k. f (suc k)) (λ k. g (suc k)) n (λ k l. h (suc k) (omega arith)) in
    λ i. cond (h 0 (omega arith) i) 1 0 + rest i

-- the ones of a word are its set bits, counted
pub ones_count : (n w : ℕ) → w < 2 ^ n → count_ones w ≡ count_of (bit_of w) n
unfolding count_of
ones_count zero w h = let e : w ≡ 0 = omega arith in rw e (none 0 (omega arith))
  where
    none : (v : ℕ) → v ≡ 0 → count_ones v ≡ 0
    none v e = omega (arith, ones-le 0 v (omega arith))
ones_count (suc n) w h =
    let upper : count_ones (w / 2) ≡ count_of (bit_of (w / 2)) n = ones_count n (w / 2) (half_fits w n h) in
    let same : count_of (bit_of (w / 2)) n ≡ count_of (λ k. bit_of w (suc k)) n = count_same (bit_of (w / 2)) (λ k. bit_of w (suc k)) n (λ k l. half_bit w k) in
    omega (arith, ones_step w, low_bit w, upper, same)

-- a test that passes wherever another does passes at the same numbers, or at more of them
pub more_count : (f g : ℕ → Bool) (n : ℕ) → ((k : ℕ) → k < n → (f k || g k) ≡ g k) → ((k : ℕ) → k < n → f k ≡ g k) ⊎ (count_of f n < count_of g n)
unfolding count_of
more_count f g zero h = inl (λ k l. absurd (omega arith))
more_count f g (suc n) h = go (f 0) refl (g 0) refl (more_count (λ k. f (suc k)) (λ k. g (suc k)) n (λ k l. h (suc k) (omega arith)))
  where
    at_all : f 0 ≡ g 0 → ((k : ℕ) → k < n → f (suc k) ≡ g (suc k)) → (k : ℕ) → k < suc n → f k ≡ g k
    at_all e t zero l = e
    at_all e t (suc k) l = t k (omega arith)

    go : (a : Bool) → f 0 ≡ a → (b : Bool) → g 0 ≡ b
        → ((k : ℕ) → k < n → f (suc k) ≡ g (suc k)) ⊎ (count_of (λ k. f (suc k)) n < count_of (λ k. g (suc k)) n)
        → ((k : ℕ) → k < suc n → f k ≡ g k) ⊎ (cond (f 0) 1 0 + count_of (λ k. f (suc k)) n < cond (g 0) 1 0 + count_of (λ k. g (suc k)) n)
    go true p true q (inl t) = inl (at_all (p ∙ sym q) t)
    go false p false q (inl t) = inl (at_all (p ∙ sym q) t)
    go true p true q (inr t) = inr (rw (p, q) (omega arith))
    go false p false q (inr t) = inr (rw (p, q) (omega arith))
    go false p true q (inl t) = inr (rw (p, q) (omega (arith, count_same (λ k. f (suc k)) (λ k. g (suc k)) n t)))
    go false p true q (inr t) = inr (rw (p, q) (omega arith))
    go true p false q t = let e : (true || false) ≡ false = rw (p, q) at (h 0 (omega arith)) in absurd (true≢false e)

pub count_few : (f : ℕ → Bool) (n : ℕ) → count_of f n ≤ n
unfolding count_of
count_few f zero = omega arith
count_few f (suc n) = go (f 0) (count_few (λ k. f (suc k)) n)
  where
    go : (b : Bool) → count_of (λ k. f (suc k)) n ≤ n → cond b 1 0 + count_of (λ k. f (suc k)) n ≤ suc n
    go true h = omega arith
    go false h = omega arith
