-- Bits of words, and of lists of words.
use Rattle.std.proofs.Common.{◌≡◌, ℕ, zero, suc, ◌+◌, ◌-◌, ◌*◌, ◌/◌, ◌%◌, ◌^◌, ◌<◌, ◌≤◌, Bool, true, false, cond, not, ◌&&◌, ◌||◌, eqb, ◌⊎◌, List, length, get_or, set, sym, refl, ap, ◌∙◌, inl, inr, ⊎_elim, mod-lt, pow-suc, arith, pow_mono}
use native.Mathlib.Nat.{div-eq_of_lt, div-add-mod}
use lib.Bits.{bit_and, bit_or}
use Rattle.std.proofs.lemmas.Nat.{pow_below, one_shl, div-mul-add, div_below}
use Rattle.std.proofs.lemmas.List.{get_or-set_same, get_or-set_other}
use Rattle.std.proofs.lemmas.Bool.{cases_eq, cases_lt, both_ways, eq-eqb, ne_eqb, and_right}
use Rattle.std.proofs.Math.Bool.{or_comm, and_comm}
use Rattle.lattice.specs.Words.{or_bit, and_bit, zero_bit, power_bit, not_bit}
use Rattle.memory.specs.Bits.{bit_of, bit}

-- a number by its word and its bit in it
same_place : (j i : ℕ) → eqb j i ≡ (eqb (j / 64) (i / 64) && eqb (j % 64) (i % 64))
same_place j i = go (cases_eq j i) (cases_eq (j / 64) (i / 64)) (cases_eq (j % 64) (i % 64))
  where
    go : (j ≡ i) ⊎ (j ≡ i → ⊥) → (j / 64 ≡ i / 64) ⊎ (j / 64 ≡ i / 64 → ⊥) → (j % 64 ≡ i % 64) ⊎ (j % 64 ≡ i % 64 → ⊥)
        → eqb j i ≡ (eqb (j / 64) (i / 64) && eqb (j % 64) (i % 64))
    go (inl e) p q = rw (e, eq-eqb i i refl, eq-eqb (i / 64) (i / 64) refl, eq-eqb (i % 64) (i % 64) refl)
    go (inr d) (inl e) (inl f) = absurd (d (omega (arith, div-add-mod j 64, div-add-mod i 64)))
    go (inr d) (inl e) (inr f) = rw (ne_eqb j i d, ne_eqb (j % 64) (i % 64) f) (sym (and_right (eqb (j / 64) (i / 64)) false refl))
    go (inr d) (inr e) q = rw (ne_eqb j i d, ne_eqb (j / 64) (i / 64) e)

pub bit_set : (ws : List ℕ) (m v j : ℕ) → m < length ws → bit (set ws m v) j ≡ cond (eqb (j / 64) m) (bit_of v (j % 64)) (bit ws j)
unfolding bit
bit_set ws m v j h = go (cases_eq (j / 64) m)
  where
    go : (j / 64 ≡ m) ⊎ (j / 64 ≡ m → ⊥) → bit_of (get_or (set ws m v) (j / 64) 0) (j % 64) ≡ cond (eqb (j / 64) m) (bit_of v (j % 64)) (bit_of (get_or ws (j / 64) 0) (j % 64))
    go (inl e) = rw (e, eq-eqb m m refl, get_or-set_same ws m v 0 h)
    go (inr d) = rw (ne_eqb (j / 64) m d, get_or-set_other ws m (j / 64) v 0 d)

pub bit_is : (ws : List ℕ) (j : ℕ) → bit ws j ≡ bit_of (get_or ws (j / 64) 0) (j % 64)
unfolding bit
bit_is ws j = refl

-- what a change of one word makes of its bits
at_word : (ws : List ℕ) (i v j : ℕ) (f : Bool → Bool → Bool) → i < 64 * length ws
    → ((k : ℕ) → k < 64 → bit_of v k ≡ f (eqb k (i % 64)) (bit_of (get_or ws (i / 64) 0) k)) → ((b : Bool) → b ≡ f false b)
    → bit (set ws (i / 64) v) j ≡ f (eqb j i) (bit ws j)
at_word ws i v j f h new old =
    let l : i / 64 < length ws = div_below i 64 (length ws) (omega arith) (omega arith) in
    bit_set ws (i / 64) v j l ∙ go (cases_eq (j / 64) (i / 64))
  where
    go : (j / 64 ≡ i / 64) ⊎ (j / 64 ≡ i / 64 → ⊥) → cond (eqb (j / 64) (i / 64)) (bit_of v (j % 64)) (bit ws j) ≡ f (eqb j i) (bit ws j)
    go (inl e) = rw (same_place j i, eq-eqb (j / 64) (i / 64) e, bit_is ws j, e) (new (j % 64) (mod-lt j (omega arith)))
    go (inr d) = rw (same_place j i, ne_eqb (j / 64) (i / 64) d) (old (bit ws j))

pub put_bit : (ws : List ℕ) (i : ℕ) → i < 64 * length ws → (j : ℕ)
    → bit (set ws (i / 64) (bit_or (get_or ws (i / 64) 0) (1 * 2 ^ (i % 64) % 18446744073709551616))) j ≡ (eqb j i || bit ws j)
put_bit ws i h j = at_word ws i _ j (λ a b. a || b) h
    (λ k l. or_bit (get_or ws (i / 64) 0) (1 * 2 ^ (i % 64) % 18446744073709551616) k
    ∙ rw (one_shl (i % 64) 64 (mod-lt i (omega arith)), power_bit (i % 64) k) (or_comm (bit_of (get_or ws (i / 64) 0) k) (eqb k (i % 64))))
    (λ b. refl)

pub take_bit : (ws : List ℕ) (i : ℕ) → i < 64 * length ws → (j : ℕ)
    → bit (set ws (i / 64) (bit_and (get_or ws (i / 64) 0) (18446744073709551615 - 1 * 2 ^ (i % 64) % 18446744073709551616))) j ≡ (not (eqb j i) && bit ws j)
take_bit ws i h j =
    let s : 1 * 2 ^ (i % 64) % 18446744073709551616 ≡ 2 ^ (i % 64) = one_shl (i % 64) 64 (mod-lt i (omega arith)) in
    at_word ws i _ j (λ a b. not a && b) h
    (λ k l. and_bit (get_or ws (i / 64) 0) (18446744073709551615 - 1 * 2 ^ (i % 64) % 18446744073709551616) k
    ∙ rw (s, not_bit (2 ^ (i % 64)) k (pow_below (i % 64) 64 (mod-lt i (omega arith))) l, power_bit (i % 64) k) (and_comm (bit_of (get_or ws (i / 64) 0) k) (not (eqb k (i % 64)))))
    (λ b. refl)

zeros : (n k : ℕ) → get_or {A = ℕ} (lib.ListN.replicate n 0) k 0 ≡ 0
zeros zero k = refl
zeros (suc n) zero = refl
zeros (suc n) (suc k) = zeros n k

-- no bit of zeros is set
pub no_bits : (n j : ℕ) → bit (lib.ListN.replicate n 0) j ≡ false
no_bits n j = bit_is (lib.ListN.replicate n 0) j ∙ ap (λ w. bit_of w (j % 64)) (zeros n (j / 64)) ∙ zero_bit (j % 64)

-- the highest bit of a word
module _ (w e : ℕ) (low : 2 ^ e ≤ w) (high : w < 2 * 2 ^ e) where
  top_bit : bit_of w e ≡ true
  unfolding bit_of
  top_bit =
      let d : w ≡ 1 * 2 ^ e + (w - 2 ^ e) = omega (arith, low) in
      let q : w / 2 ^ e ≡ 1 = ap (λ n. n / 2 ^ e) d ∙ div-mul-add 1 (2 ^ e) (w - 2 ^ e) (omega (arith, low, high)) in
      rw q

  above_top : (k : ℕ) → e < k → bit_of w k ≡ false
  unfolding bit_of
  above_top k l =
      let h : w < 2 ^ k = omega (arith, high, pow-suc 2 e, pow_mono {i = suc e} {j = k} l) in
      rw (div-eq_of_lt h)

-- the highest number of a set is in its last word that is not zero
module _ (ws : List ℕ) (n end : ℕ) (covers : end ≤ 64 * n) (below : (k : ℕ) → end ≤ k → bit ws k ≡ false) where
  -- no number is set in the words from i on
  none_from : (i : ℕ) → ((m : ℕ) → i ≤ m → m < n → get_or ws m 0 ≡ 0) → (k : ℕ) → i ≤ k / 64 → bit ws k ≡ false
  none_from i empty k h = go (cases_lt (k / 64) n)
    where
      go : (k / 64 < n) ⊎ (n ≤ k / 64) → bit ws k ≡ false
      go (inl l) = bit_is ws k ∙ rw (empty (k / 64) h l) (zero_bit (k % 64))
      go (inr l) = below k (omega (arith, covers))

  pub highest_none : ((m : ℕ) → m < n → get_or ws m 0 ≡ 0) → (k : ℕ) → bit ws k ≡ false
  highest_none empty k = none_from 0 (λ m a b. empty m b) k (omega arith)

  pub highest_in : (i e : ℕ) → ((m : ℕ) → i < m → m < n → get_or ws m 0 ≡ 0) → 2 ^ e ≤ get_or ws i 0 → get_or ws i 0 < 2 * 2 ^ e → e < 64
      → (64 * i + e < end) × (bit ws (64 * i + e) ≡ true) × ((k : ℕ) → 64 * i + e < k → bit ws k ≡ false)
  highest_in i e empty low high small =
      let d : (64 * i + e) / 64 ≡ i = omega (arith, small) in
      let m : (64 * i + e) % 64 ≡ e = omega (arith, small) in
      let is : bit ws (64 * i + e) ≡ true = bit_is ws (64 * i + e) ∙ rw (d, m) (top_bit (get_or ws i 0) e low high) in
      (⊎_elim (λ l. l) (λ l. absurd (both_ways _ (below (64 * i + e) l) is)) (cases_lt (64 * i + e) end), is, λ k h. go k h (cases_eq (k / 64) i))
    where
      go : (k : ℕ) → 64 * i + e < k → (k / 64 ≡ i) ⊎ (k / 64 ≡ i → ⊥) → bit ws k ≡ false
      go k h (inl q) =
          let l : e < k % 64 = omega (arith, small, div-add-mod k 64, q) in
          bit_is ws k ∙ rw q (above_top (get_or ws i 0) e low high (k % 64) l)
      go k h (inr q) = none_from (i + 1) (λ m a b. empty m (omega arith) b) k (omega (arith, small))
