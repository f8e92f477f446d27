-- The loop that finds the entries that pass a test.
use Rattle.std.proofs.Common.{◌≡◌, ℕ, ◌+◌, ◌<◌, ◌≤◌, Bool, true, false, ◌||◌, eqb, ◌⊎◌, List, [], get_or, take, length, is_some, sym, ap, ◌∙◌, inl, inr, ⊎_elim, arith}
use Rattle.std.proofs.lemmas.List.{take_more, take-map, get_or-take, length-take-le}
use Rattle.std.proofs.lemmas.Bool.{cases_eq, cases_Bool, false≢true, eq-eqb, ne_eqb, or_left, or_cases, or_parts, both_ways}
use Rattle.equations.specs.Runs.{has}
use Rattle.memory.specs.declared.cell.Cell.{Cell}
use Rattle.memory.specs.Bits.{bit}
use Rattle.memory.specs.Layout.{stored, orders, Listed}
use Rattle.memory.proofs.Cells.{read_order}
use Rattle.memory.proofs.Lists.{has_push, has_reverse}

-- an item of the first places
pub item_at : {V : Type 0} (cells : List (Cell V)) (count k : ℕ) (c : Cell V) → count ≤ length cells → k < length (take count cells) → c ≡ get_or (take count cells) k c
    → (k < count) × (c.order ≡ get_or (orders cells) k 0)
item_at cells count k c few h is =
    let l : k < count = omega (arith, h, length-take-le count cells few) in
    (l, read_order (take count cells) k c is h ∙ ap (λ os. get_or os k 0) (sym (take-map (λ c. c.order) count cells)) ∙ get_or-take count (orders cells) k 0 l)

-- the set has those of a list that pass
pub record Filtered (Pass : ℕ → Bool → Type 0) (xs set : List ℕ) : Type 0 where
  pub listed : (z : ℕ) → has xs z ≡ true → Pass z (bit set z)
  pub others : (z : ℕ) → has xs z ≡ false → bit set z ≡ false

pub filtered_none : (Pass : ℕ → Bool → Type 0) (set : List ℕ) → ((z : ℕ) → bit set z ≡ false) → Filtered Pass [] set
filtered_none Pass set empty = record { listed = λ z h. absurd (false≢true h); others = λ z h. empty z }

module _ (Pass : ℕ → Bool → Type 0) (os set : List ℕ) (k x : ℕ) (room : k < length os) (is : x ≡ get_or os k 0) (old : Filtered Pass (take k os) set) where
  more : (z : ℕ) → has (take (k + 1) os) z ≡ (has (take k os) z || eqb z x)
  more z = ap (λ l. has l z) (take_more os k 0 room) ∙ has_push (take k os) (get_or os k 0) z ∙ ap (λ y. has (take k os) z || eqb z y) (sym is)

  apart : (z : ℕ) → has (take (k + 1) os) z ≡ false → (has (take k os) z ≡ false) × (eqb z x ≡ false)
  apart z h = or_parts _ _ (sym (more z) ∙ h)

  pub filtered_in : (set' : List ℕ) → Pass x true → ((j : ℕ) → bit set' j ≡ (eqb j x || bit set j)) → Filtered Pass (take (k + 1) os) set'
  filtered_in set' pass new = record { listed = λ z h. go z h (cases_eq z x); others = λ z h. let p = apart z h in new z ∙ ap (λ b. b || bit set z) p.1 ∙ old.others z p.0 }
    where
      go : (z : ℕ) → has (take (k + 1) os) z ≡ true → (z ≡ x) ⊎ (z ≡ x → ⊥) → Pass z (bit set' z)
      go z h (inl e) =
          let b : bit set' z ≡ true = new z ∙ or_left (eqb z x) _ (eq-eqb z x e) in
          rw (b, e) pass
      go z h (inr d) =
          let b : bit set' z ≡ bit set z = new z ∙ ap (λ b. b || bit set z) (ne_eqb z x d) in
          rw b (old.listed z (⊎_elim (λ e. e) (λ e. absurd (both_ways _ (ne_eqb z x d) e)) (or_cases (has (take k os) z) (eqb z x) (sym (more z) ∙ h))))

  pub filtered_out : Pass x false → Filtered Pass (take (k + 1) os) set
  filtered_out pass = record { listed = λ z h. go z (or_cases (has (take k os) z) (eqb z x) (sym (more z) ∙ h)) (cases_eq z x) (cases_Bool (has (take k os) z)); others = λ z h. old.others z (apart z h).0 }
    where
      go : (z : ℕ) → (has (take k os) z ≡ true) ⊎ (eqb z x ≡ true) → (z ≡ x) ⊎ (z ≡ x → ⊥) → (has (take k os) z ≡ true) ⊎ (has (take k os) z ≡ false) → Pass z (bit set z)
      go z o q (inl h) = old.listed z h
      go z o (inl e) (inr h) =
          let b : bit set z ≡ false = old.others z h in
          rw (b, e) pass
      go z o (inr d) (inr h) = absurd (⊎_elim (λ e. both_ways _ h e) (λ e. both_ways _ (ne_eqb z x d) e) o)

-- the list is that of all entries
module _ {V : Type 0} (Pass : ℕ → Bool → Type 0) (cells : List (Cell V)) (count k : ℕ) (set : List ℕ) (listed : Listed cells count) (end : k ≡ count) (old : Filtered Pass (take k (orders cells)) set) where
  is_entry : (z : ℕ) → has (take k (orders cells)) z ≡ is_some (stored cells z)
  is_entry z = ap (λ n. has (take n (orders cells)) z) end ∙ sym (has_reverse (take count (orders cells)) z) ∙ listed.1 z

  pub filtered_entries : (z : ℕ) → is_some (stored cells z) ≡ true → Pass z (bit set z)
  filtered_entries z h = old.listed z (is_entry z ∙ h)

  pub filtered_others : (z : ℕ) → is_some (stored cells z) ≡ false → bit set z ≡ false
  filtered_others z h = old.others z (is_entry z ∙ h)
