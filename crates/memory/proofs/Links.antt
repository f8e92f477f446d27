-- Words in rows, and a loop that changes words.
use Rattle.std.proofs.Common.{◌≡◌, ℕ, ◌+◌, ◌-◌, ◌*◌, ◌/◌, ◌%◌, ◌^◌, ◌<◌, ◌≤◌, Bool, true, false, cond, not, ◌&&◌, ◌||◌, eqb, ltb, ◌⊎◌, List, length, get_or, take, drop, set, replicate, slice_range, sym, refl, ap, ◌∙◌, inl, inr, mul-le-mul_right, mod-lt, add-mul, arith}
use Rattle.std.proofs.lemmas.List.{take_more, get_or_past, get_or-append_right, get_or_append_left, get_or-take, get_or-drop, length-take, length-take-le, length-replicate}
use Rattle.std.proofs.lemmas.List.Edits.{get_or-between}
use borrow.Rule.Slice.PartMut.{put_mid}
use lib.Bits.{bit_and, bit_or}
use Rattle.std.proofs.lemmas.Bool.{cases_eq, cases_lt, cases_order, eq-eqb, ne_eqb, and_right, lt-ltb, le-ltb}
use Rattle.equations.specs.Runs.{has}
use Rattle.memory.specs.Bits.{bit_of, bit}
use Rattle.memory.specs.Layout.{linked}
use Rattle.std.proofs.Math.Bool.{or-false}
use Rattle.lattice.specs.Words.{or_bit, and_bit, not_bit, zero_bit}
use Rattle.memory.proofs.Words.{bit_set, bit_is, no_bits}
use Rattle.memory.proofs.Lists.{has_push}

-- the words below i have changed by F
abbrev pub Changed : List ℕ → List ℕ → (ℕ → Bool → Bool) → ℕ → Type 0
Changed from to F i = (j : ℕ) → bit to j ≡ cond (ltb (j / 64) i) (F j (bit from j)) (bit from j)

pub changed_more : (from to : List ℕ) (F : ℕ → Bool → Bool) (i v : ℕ) → i < length to → Changed from to F i
    → ((j : ℕ) → j / 64 ≡ i → bit_of v (j % 64) ≡ F j (bit to j)) → Changed from (set to i v) F (i + 1)
changed_more from to F i v room old new j = bit_set to i v j room ∙ go (cases_order (j / 64) i)
  where
    go : (j / 64 ≡ i) ⊎ ((j / 64 < i) ⊎ (i < j / 64)) → cond (eqb (j / 64) i) (bit_of v (j % 64)) (bit to j) ≡ cond (ltb (j / 64) (i + 1)) (F j (bit from j)) (bit from j)
    go (inl e) =
        let o : bit to j ≡ bit from j = old j ∙ ap (λ b. cond b (F j (bit from j)) (bit from j)) (le-ltb (j / 64) i (omega arith)) in
        rw (eq-eqb (j / 64) i e, lt-ltb (j / 64) (i + 1) (omega arith)) (new j e ∙ ap (F j) o)
    go (inr (inl l)) =
        let d : j / 64 ≡ i → ⊥ = omega arith in
        rw (ne_eqb (j / 64) i d, lt-ltb (j / 64) (i + 1) (omega arith)) (old j ∙ ap (λ b. cond b (F j (bit from j)) (bit from j)) (lt-ltb (j / 64) i l))
    go (inr (inr l)) =
        let d : j / 64 ≡ i → ⊥ = omega arith in
        rw (ne_eqb (j / 64) i d, le-ltb (j / 64) (i + 1) (omega arith)) (old j ∙ ap (λ b. cond b (F j (bit from j)) (bit from j)) (le-ltb (j / 64) i (omega arith)))

pub bit_past : (ws : List ℕ) (i : ℕ) → length ws ≤ i / 64 → bit ws i ≡ false
bit_past ws i h = bit_is ws i ∙ ap (λ w. bit_of w (i % 64)) (get_or_past ws (i / 64) 0 h) ∙ zero_bit (i % 64)

-- the numbers of a row added to a set
pub add_word : (set row : List ℕ) (i j : ℕ) → j / 64 ≡ i → bit_of (bit_or (get_or set i 0) (get_or row i 0)) (j % 64) ≡ (bit set j || bit row j)
add_word ws row i j e = or_bit (get_or ws i 0) (get_or row i 0) (j % 64) ∙ rw (bit_is ws j, bit_is row j, e)

pub added : (from to row : List ℕ) (n : ℕ) → length row ≤ n → Changed from to (λ j b. b || bit row j) n → (j : ℕ) → bit to j ≡ (bit from j || bit row j)
added from to row n all changed j = changed j ∙ go (cases_lt (j / 64) n)
  where
    go : (j / 64 < n) ⊎ (n ≤ j / 64) → cond (ltb (j / 64) n) (bit from j || bit row j) (bit from j) ≡ (bit from j || bit row j)
    go (inl l) = rw (lt-ltb (j / 64) n l)
    go (inr l) = rw (le-ltb (j / 64) n l, bit_past row j (omega (arith, all))) (sym (or-false (bit from j)))

-- a set taken out of a row
pub strike_word : (row gone : List ℕ) (i j : ℕ) → get_or gone i 0 < 2 ^ 64 → j / 64 ≡ i
    → bit_of (bit_and (get_or row i 0) (18446744073709551615 - get_or gone i 0)) (j % 64) ≡ (bit row j && not (bit gone j))
strike_word row gone i j fits e =
    and_bit (get_or row i 0) (18446744073709551615 - get_or gone i 0) (j % 64)
    ∙ ap (λ t. bit_of (get_or row i 0) (j % 64) && t) (not_bit (get_or gone i 0) (j % 64) fits (mod-lt j (omega arith)))
    ∙ rw (bit_is row j, bit_is gone j, e)

pub struck : (from to gone : List ℕ) (n : ℕ) → length from ≤ n → Changed from to (λ j b. b && not (bit gone j)) n → (j : ℕ) → bit to j ≡ (bit from j && not (bit gone j))
struck from to gone n all changed j = changed j ∙ go (cases_lt (j / 64) n)
  where
    go : (j / 64 < n) ⊎ (n ≤ j / 64) → cond (ltb (j / 64) n) (bit from j && not (bit gone j)) (bit from j) ≡ (bit from j && not (bit gone j))
    go (inl l) = rw (lt-ltb (j / 64) n l)
    go (inr l) = rw (le-ltb (j / 64) n l, bit_past from j (omega (arith, all)))

-- the place of a bit in a row
pub row_word : (s x : ℕ) → (64 * s + x) / 64 ≡ s + x / 64
row_word s x = omega arith

pub row_bit : (s x : ℕ) → (64 * s + x) % 64 ≡ x % 64
row_bit s x = omega arith

-- a bit of row y, where the row is a slice of its own
pub bit_of_row : (ws : List ℕ) (w y x : ℕ) → x < 64 * w → bit (slice_range ws (y * w) (y * w + w)) x ≡ linked w ws x y
bit_of_row ws w y x h =
    bit_is (slice_range ws (y * w) (y * w + w)) x
    ∙ ap (λ n. bit_of n (x % 64)) (get_or-between ws (y * w) (y * w + w) (x / 64) 0 (omega (arith, h)))
    ∙ sym (bit_is ws (64 * (y * w) + x) ∙ rw (row_word (y * w) x, row_bit (y * w) x))

-- a row has no more bits
pub row_bits : (ws : List ℕ) (w y x : ℕ) → bit (slice_range ws (y * w) (y * w + w)) x ≡ (ltb x (64 * w) && linked w ws x y)
row_bits ws w y x = go (cases_lt x (64 * w))
  where
    few : length (slice_range ws (y * w) (y * w + w)) ≤ w
    few = omega (arith, length-take (y * w + w - y * w) (drop (y * w) ws))

    go : (x < 64 * w) ⊎ (64 * w ≤ x) → bit (slice_range ws (y * w) (y * w + w)) x ≡ (ltb x (64 * w) && linked w ws x y)
    go (inl l) = rw (lt-ltb x (64 * w) l) (bit_of_row ws w y x l)
    go (inr l) = rw (le-ltb x (64 * w) l) (bit_past _ x (omega (arith, few)))

-- row y written anew
module _ (ws row : List ℕ) (w y k : ℕ) (room : y * w + w ≤ length ws) (size : length row ≡ w) (is : k ≡ w) where
  word_in : (m : ℕ) → m < w → get_or (put_mid (y * w) k ws row) (y * w + m) 0 ≡ get_or row m 0
  word_in m h =
      let e : y * w + m - y * w ≡ m = omega arith in
      get_or-append_right (take (y * w) ws) _ (y * w) (y * w + m) 0 (length-take-le (y * w) ws (omega (arith, room))) (omega arith)
      ∙ rw e (get_or_append_left row _ 0 m (omega (arith, size, h)))

  word_out : (m : ℕ) → (m < y * w) ⊎ (y * w + w ≤ m) → get_or (put_mid (y * w) k ws row) m 0 ≡ get_or ws m 0
  word_out m (inl l) = get_or_append_left (take (y * w) ws) _ 0 m (omega (arith, l, length-take-le (y * w) ws (omega (arith, room)))) ∙ get_or-take (y * w) ws m 0 l
  word_out m (inr l) =
      let e : y * w + (k + (m - y * w - w)) ≡ m = omega (arith, l, is) in
      get_or-append_right (take (y * w) ws) _ (y * w) m 0 (length-take-le (y * w) ws (omega (arith, room))) (omega (arith, l))
      ∙ get_or-append_right row _ w (m - y * w) 0 size (omega (arith, l))
      ∙ get_or-drop k (drop (y * w) ws) (m - y * w - w) 0 ∙ get_or-drop (y * w) ws (k + (m - y * w - w)) 0 ∙ ap (λ n. get_or ws n 0) e

  pub row_written : (x z : ℕ) → x < 64 * w → linked w (put_mid (y * w) k ws row) x z ≡ cond (eqb z y) (bit row x) (linked w ws x z)
  row_written x z h = bit_is (put_mid (y * w) k ws row) (64 * (z * w) + x) ∙ rw (row_word (z * w) x, row_bit (z * w) x) (go (cases_order z y))
    where
      other : (z ≡ y → ⊥) → (z * w + x / 64 < y * w) ⊎ (y * w + w ≤ z * w + x / 64)
          → bit_of (get_or (put_mid (y * w) k ws row) (z * w + x / 64) 0) (x % 64) ≡ cond (eqb z y) (bit row x) (linked w ws x z)
      other d o = rw (ne_eqb z y d) (ap (λ n. bit_of n (x % 64)) (word_out (z * w + x / 64) o) ∙ sym (bit_is ws (64 * (z * w) + x) ∙ rw (row_word (z * w) x, row_bit (z * w) x)))

      go : (z ≡ y) ⊎ ((z < y) ⊎ (y < z)) → bit_of (get_or (put_mid (y * w) k ws row) (z * w + x / 64) 0) (x % 64) ≡ cond (eqb z y) (bit row x) (linked w ws x z)
      go (inl e) = rw (e, eq-eqb y y refl) (ap (λ n. bit_of n (x % 64)) (word_in (x / 64) (omega (arith, h))) ∙ sym (bit_is row x))
      go (inr (inl m)) =
          let n : z + 1 ≤ y = omega arith in
          other (omega arith) (inl (omega (arith, h, mul-le-mul_right w n, add-mul z 1 w)))
      go (inr (inr m)) =
          let n : y + 1 ≤ z = omega arith in
          other (omega arith) (inr (omega (arith, h, mul-le-mul_right w n, add-mul y 1 w)))

pub row_wiped : (ws row : List ℕ) (w y k : ℕ) → y * w + w ≤ length ws → row ≡ replicate w 0 → k ≡ w
    → (x z : ℕ) → x < 64 * w → linked w (put_mid (y * w) k ws row) x z ≡ (not (eqb z y) && linked w ws x z)
row_wiped ws row w y k room e is x z h =
    row_written ws row w y k room (ap length e ∙ length-replicate w 0) is x z h
    ∙ ap (λ b. cond (eqb z y) b (linked w ws x z)) (ap (λ r. bit r x) e ∙ no_bits w x) ∙ go (eqb z y)
  where
    go : (b : Bool) → cond b false (linked w ws x z) ≡ (not b && linked w ws x z)
    go true = refl
    go false = refl

pub row_struck : (ws row gone : List ℕ) (w y k : ℕ) → y * w + w ≤ length ws → length row ≡ w → k ≡ w
    → ((i : ℕ) → bit row i ≡ (bit (slice_range ws (y * w) (y * w + w)) i && not (bit gone i)))
    → (x z : ℕ) → x < 64 * w → linked w (put_mid (y * w) k ws row) x z ≡ (linked w ws x z && not (eqb z y && bit gone x))
row_struck ws row gone w y k room size is struck x z h = row_written ws row w y k room size is x z h ∙ go (cases_eq z y)
  where
    all : (b : Bool) → b ≡ (b && true)
    all true = refl
    all false = refl

    go : (z ≡ y) ⊎ (z ≡ y → ⊥) → cond (eqb z y) (bit row x) (linked w ws x z) ≡ (linked w ws x z && not (eqb z y && bit gone x))
    go (inl e) = rw (e, eq-eqb y y refl) (struck x ∙ ap (λ b. b && not (bit gone x)) (bit_of_row ws w y x h))
    go (inr d) = rw (ne_eqb z y d) (all (linked w ws x z))

-- two places in rows
pub same_row : (w x z y v : ℕ) → x < 64 * w → z < 64 * w → eqb (64 * (y * w) + x) (64 * (v * w) + z) ≡ (eqb x z && eqb y v)
same_row w x z y v h k = go (cases_order y v) (cases_eq x z)
  where
    go : (y ≡ v) ⊎ ((y < v) ⊎ (v < y)) → (x ≡ z) ⊎ (x ≡ z → ⊥) → eqb (64 * (y * w) + x) (64 * (v * w) + z) ≡ (eqb x z && eqb y v)
    go (inl e) (inl f) = rw (e, f, eq-eqb z z refl, eq-eqb v v refl) (eq-eqb (64 * (v * w) + z) (64 * (v * w) + z) refl)
    go (inl e) (inr d) = rw (e, ne_eqb x z d) (ne_eqb (64 * (v * w) + x) (64 * (v * w) + z) (λ q. d (omega arith)))
    go (inr (inl m)) p =
        let n : y + 1 ≤ v = omega arith in
        let d : y ≡ v → ⊥ = omega arith in
        rw (ne_eqb y v d) (ne_eqb (64 * (y * w) + x) (64 * (v * w) + z) (λ q. omega (arith, mul-le-mul_right w n, add-mul y 1 w)) ∙ sym (and_right (eqb x z) false refl))
    go (inr (inr m)) p =
        let n : v + 1 ≤ y = omega arith in
        let d : y ≡ v → ⊥ = omega arith in
        rw (ne_eqb y v d) (ne_eqb (64 * (y * w) + x) (64 * (v * w) + z) (λ q. omega (arith, mul-le-mul_right w n, add-mul v 1 w)) ∙ sym (and_right (eqb x z) false refl))

-- one more read recorded
pub recorded_more : (from to now : List ℕ) (w x : ℕ) (trail : List ℕ) (k d : ℕ) → x < 64 * w → k < length trail
    → ((z y : ℕ) → z < 64 * w → linked w to z y ≡ (linked w from z y || (eqb z x && has (take k trail) y)))
    → ((j : ℕ) → bit now j ≡ (eqb j (64 * (get_or trail k d * w) + x) || bit to j))
    → (z y : ℕ) → z < 64 * w → linked w now z y ≡ (linked w from z y || (eqb z x && has (take (k + 1) trail) y))
recorded_more from to now w x trail k d h room old new z y l =
    new (64 * (y * w) + z)
    ∙ ap (λ b. b || linked w to z y) (same_row w z x y (get_or trail k d) l h)
    ∙ ap (λ b. (eqb z x && eqb y (get_or trail k d)) || b) (old z y l)
    ∙ go (eqb z x) (eqb y (get_or trail k d)) (linked w from z y) (has (take k trail) y)
    ∙ ap (λ b. linked w from z y || (eqb z x && b)) (sym (has_push (take k trail) (get_or trail k d) y) ∙ ap (λ t. has t y) (sym (take_more trail k d room)))
  where
    go : (a b c e : Bool) → ((a && b) || (c || (a && e))) ≡ (c || (a && (e || b)))
    go true true true e = refl
    go true true false true = refl
    go true true false false = refl
    go true false true e = refl
    go true false false true = refl
    go true false false false = refl
    go false b true e = refl
    go false b false e = refl
