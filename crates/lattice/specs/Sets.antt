-- Sets of numbers below 64 as a value kind, by their members.
use Rattle.std.specs.Prelude.{◌≡◌, ℕ, zero, suc, ◌+◌, ◌*◌, ◌/◌, ◌%◌, ◌^◌, ◌<◌, Bool, true, false, cond, ◌&&◌, ◌||◌, ◌==◌, nat_lt}
use Rattle.std.proofs.Common.{pow-suc, arith}
use Rattle.lattice.specs.Kinds.{Kind}
use Rattle.lattice.specs.declared.members.Members.{Members}

-- Whether bit k of a word is set.
unfoldable pub bit_of : ℕ → ℕ → Bool
bit_of w k = w / 2 ^ k % 2 == 1

-- Whether k is a member.
unfoldable pub has : Members → ℕ → Bool
has s k = bit_of s.bits k

-- The word of n bits whose set bits are those that pass a test.
unfoldable pub word_of : (ℕ → Bool) → ℕ → ℕ
word_of test zero = 0
word_of test (suc n) = 2 * word_of (λ k. test (suc k)) n + cond (test 0) 1 0

bit_small : (b : Bool) → cond b 1 0 < 2
bit_small true = omega arith
bit_small false = omega arith

pub word_fits : (test : ℕ → Bool) (n : ℕ) → word_of test n < 2 ^ n
unfolding word_of
word_fits test zero = omega arith
word_fits test (suc n) = omega (arith, word_fits (λ k. test (suc k)) n, bit_small (test 0), pow-suc 2 n)

-- The set of the numbers below 64 that pass a test.
unfoldable pub set_of : (ℕ → Bool) → Members
set_of test = record { bits = word_of test 64; word = word_fits test 64 }

-- How many numbers below n pass a test.
unfoldable pub count_of : (ℕ → Bool) → ℕ → ℕ
count_of test zero = 0
count_of test (suc n) = cond (test 0) 1 0 + count_of (λ k. test (suc k)) n

-- The join is the union, and the rank is the count of members.
abbrev pub union : Members → Members → Members
union s t = set_of (λ k. has s k || has t k)

abbrev pub sets : Kind Members
sets = record { bottom = set_of (λ k. false); join = union; rank = λ s. count_of (has s) 64 }

-- A set is what its members are: sets with the same members below 64 are equal, and a test makes the set of those below 64 that pass.
pub record SetsAreTheirMembers : Type 0 where
  pub same : (s t : Members) → ((k : ℕ) → k < 64 → has s k ≡ has t k) → s ≡ t
  pub made : (test : ℕ → Bool) (k : ℕ) → has (set_of test) k ≡ (nat_lt k 64 && test k)
