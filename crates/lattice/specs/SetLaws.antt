-- Sets of numbers below 64: what their members say, and the laws of a value kind.
use Rattle.std.specs.Prelude.{◌≡◌, ℕ, ◌-◌, ◌*◌, ◌/◌, ◌%◌, ◌^◌, ◌<◌, ◌≤◌, Bool, true, false, not, ◌&&◌, ◌||◌, ◌⊎◌, ◌==◌, bit_and, bit_or, count_ones, nat_lt, refl}
use Rattle.std.proofs.Common.{sym, ◌∙◌, ap, inl, inr, ⊎_elim, arith}
use mathlib.Core.HLevel.{is_prop→PathP}
use Rattle.std.proofs.Math.Bool.{or_assoc, or_comm, or_self, and_comm}
use Rattle.std.proofs.Math.Bridge.{le_prop}
use Rattle.std.specs.Int.Bits.{and_lt}
use Rattle.std.proofs.lemmas.Nat.{one_shl, pow_below, or_lt}
use Rattle.std.proofs.lemmas.Bool.{cases_lt, lt-ltb, le-ltb}
use Rattle.lattice.specs.declared.members.Members.{Members}
use Rattle.lattice.specs.Kinds.{Laws}
use Rattle.lattice.specs.Sets.{bit_of, has, word_of, set_of, count_of, union, sets, SetsAreTheirMembers}
use Rattle.lattice.specs.Order.{within_limit}
use Rattle.lattice.specs.Words.{or_bit, and_bit, not_bit, zero_bit, power_bit, tested, past_bit, same_bits, word_bit, ones_count, count_same, more_count, count_few}

-- a set is its word
pub same_word : (s t : Members) → s.bits ≡ t.bits → s ≡ t
same_word s t e = λ i. record { bits = e i; word = is_prop→PathP (λ j. e j < 2 ^ 64) (λ j. le_prop) s.word t.word i }

pub has_bit : (s : Members) (k : ℕ) → has s k ≡ bit_of s.bits k
unfolding has
has_bit s k = refl

pub has_none : (fits : 0 < 2 ^ 64) (k : ℕ) → has (record { bits = 0; word = fits }) k ≡ false
unfolding has
has_none fits k = zero_bit k

pub has_tested : (s : Members) (k : ℕ) → (bit_and (s.bits / 2 ^ k) 1 == 1) ≡ has s k
has_tested s k = tested s.bits k ∙ sym (has_bit s k)

pub has_past : (s : Members) (k : ℕ) → 64 ≤ k → has s k ≡ false
has_past s k h = has_bit s k ∙ past_bit s.bits 64 k s.word h

pub same_members : (s t : Members) → ((k : ℕ) → k < 64 → has s k ≡ has t k) → s ≡ t
same_members s t h = same_word s t (same_bits 64 s.bits t.bits s.word t.word (λ k l. sym (has_bit s k) ∙ h k l ∙ has_bit t k))

-- the members of the set of a test
set_bits : (test : ℕ → Bool) → (set_of test).bits ≡ word_of test 64
unfolding set_of
set_bits test = refl

pub has_set_of : (test : ℕ → Bool) (k : ℕ) → k < 64 → has (set_of test) k ≡ test k
has_set_of test k h = has_bit (set_of test) k ∙ ap (λ w. bit_of w k) (set_bits test) ∙ word_bit test 64 k h

made : (test : ℕ → Bool) (k : ℕ) → has (set_of test) k ≡ (nat_lt k 64 && test k)
made test k = go (cases_lt k 64)
  where
    go : (k < 64) ⊎ (64 ≤ k) → has (set_of test) k ≡ (nat_lt k 64 && test k)
    go (inl h) = rw (lt-ltb k 64 h) (has_set_of test k h)
    go (inr h) = rw (le-ltb k 64 h) (has_past (set_of test) k h)

pub sets_are_their_members : SetsAreTheirMembers
sets_are_their_members = record { same = same_members; made = made }

-- a set with the members that pass is the set of the test
pub is_set_of : (s : Members) (test : ℕ → Bool) → ((k : ℕ) → k < 64 → has s k ≡ test k) → s ≡ set_of test
is_set_of s test h = same_members s (set_of test) (λ k l. h k l ∙ sym (has_set_of test k l))

pub is_none : (fits : 0 < 2 ^ 64) → record { bits = 0; word = fits } ≡ sets.bottom
is_none fits = is_set_of (record { bits = 0; word = fits }) (λ k. false) (λ k h. has_none fits k)

pub is_union : (s t : Members) (fits : bit_or s.bits t.bits < 2 ^ 64) → record { bits = bit_or s.bits t.bits; word = fits } ≡ union s t
unfolding has
is_union s t fits = is_set_of (record { bits = bit_or s.bits t.bits; word = fits }) (λ k. has s k || has t k) (λ k h. or_bit s.bits t.bits k)

pub has_union : (s t : Members) (k : ℕ) → k < 64 → has (union s t) k ≡ (has s k || has t k)
has_union s t k h = has_set_of (λ j. has s j || has t j) k h

-- a set as code changes its word: one bit put in, one taken out
abbrev full : ℕ
full = 18446744073709551615

pub put_fits : (s : Members) (m : ℕ) → m < 64 → bit_or s.bits (1 * 2 ^ m % 18446744073709551616) < 2 ^ 64
put_fits s m h = or_lt 64 s.bits _ s.word (rw (one_shl m 64 h) (pow_below m 64 h))

pub has_put : (s : Members) (m : ℕ) → m < 64 → (fits : bit_or s.bits (1 * 2 ^ m % 18446744073709551616) < 2 ^ 64) (k : ℕ) → k < 64
    → has (record { bits = bit_or s.bits (1 * 2 ^ m % 18446744073709551616); word = fits }) k ≡ (k == m || has s k)
unfolding has
has_put s m h fits k l =
    or_bit s.bits (1 * 2 ^ m % 18446744073709551616) k
    ∙ rw (one_shl m 64 h, power_bit m k) (or_comm (bit_of s.bits k) (k == m))

pub has_cut : (s : Members) (m : ℕ) → m < 64 → (fits : bit_and s.bits (full - 1 * 2 ^ m % 18446744073709551616) < 2 ^ 64) (k : ℕ) → k < 64
    → has (record { bits = bit_and s.bits (full - 1 * 2 ^ m % 18446744073709551616); word = fits }) k ≡ (not (k == m) && has s k)
unfolding has
has_cut s m h fits k l =
    and_bit s.bits (full - 1 * 2 ^ m % 18446744073709551616) k
    ∙ rw (one_shl m 64 h, not_bit (2 ^ m) k (pow_below m 64 h) l, power_bit m k) (and_comm (bit_of s.bits k) (not (k == m)))

-- the test of the order as code makes it: no member of s outside t
outside_bit : (s t : Members) (k : ℕ) → k < 64 → bit_of (bit_and s.bits (full - t.bits)) k ≡ (has s k && not (has t k))
unfolding has
outside_bit s t k h = and_bit s.bits (full - t.bits) k ∙ ap (λ b. bit_of s.bits k && b) (not_bit t.bits k t.word h)

or_within : (a b : Bool) → (a && not b) ≡ false → (a || b) ≡ b
or_within true true e = refl
or_within true false e = e
or_within false b e = refl

within_or : (a b : Bool) → (a || b) ≡ b → (a && not b) ≡ false
within_or true true e = refl
within_or true false e = e
within_or false b e = refl

pub within_union : (s t : Members) → bit_and s.bits (full - t.bits) ≡ 0 → union s t ≡ t
within_union s t e = same_members (union s t) t
    (λ k h. has_union s t k h ∙ or_within (has s k) (has t k) (sym (outside_bit s t k h) ∙ ap (λ w. bit_of w k) e ∙ zero_bit k))

pub union_within : (s t : Members) → union s t ≡ t → bit_and s.bits (full - t.bits) ≡ 0
union_within s t e = same_bits 64 (bit_and s.bits (full - t.bits)) 0 (and_lt 64 s.bits (full - t.bits) s.word (omega arith)) (omega arith)
    (λ k h. outside_bit s t k h ∙ within_or (has s k) (has t k) (sym (has_union s t k h) ∙ ap (λ u. has u k) e) ∙ sym (zero_bit k))

pub ones_members : (s : Members) → count_ones s.bits ≡ count_of (has s) 64
ones_members s = ones_count 64 s.bits s.word ∙ count_same (bit_of s.bits) (has s) 64 (λ k h. sym (has_bit s k))

pub sets_laws : Laws sets
sets_laws = record {
  associative = λ s t u. same_members (union (union s t) u) (union s (union t u))
      (λ k h. has_union (union s t) u k h ∙ ap (λ b. b || has u k) (has_union s t k h) ∙ or_assoc (has s k) (has t k) (has u k)
      ∙ sym (has_union s (union t u) k h ∙ ap (λ b. has s k || b) (has_union t u k h)));
  commutative = λ s t. same_members (union s t) (union t s) (λ k h. has_union s t k h ∙ or_comm (has s k) (has t k) ∙ sym (has_union t s k h));
  idempotent = λ s. same_members (union s s) s (λ k h. has_union s s k h ∙ or_self (has s k));
  least = λ s. same_members (union sets.bottom s) s (λ k h. has_union sets.bottom s k h ∙ ap (λ b. b || has s k) (has_set_of (λ j. false) k h));
  height = λ s. within_limit (count_of (has s) 64) (count_few (has s) 64);
  rises = λ s t e. ⊎_elim (λ h. inl (same_members s t h)) inr (more_count (has s) (has t) 64 (λ k h. sym (has_union s t k h) ∙ ap (λ u. has u k) e));
}
