-- The loop that makes the readers of a value wait, from the highest down.
use Rattle.std.proofs.Common.{◌≡◌, ℕ, ◌<◌, ◌≤◌, Bool, true, false, not, ◌&&◌, ◌||◌, eqb, ltb, ◌⊎◌, List, length, get_or, is_some, sym, refl, ap, ◌∙◌, subst, inl, inr, arith}
use Rattle.std.proofs.lemmas.Bool.{cases_lt, cases_order, cases_Bool, and_parts, and_left, and_right, or_cases, eq-eqb, ne_eqb, eqb-true, lt-ltb, le-ltb, ltb-true}
use Rattle.std.proofs.Math.Bool.{or-false, or_comm, and-true}
use Rattle.memory.specs.declared.cell.Cell.{Cell}
use Rattle.memory.specs.declared.entries.Entries.{Entries}
use Rattle.memory.specs.Bits.{bit}
use Rattle.memory.specs.Layout.{stored, orders, places}
use Rattle.memory.specs.Contents.{contents, Waiting}
use Rattle.memory.proofs.Shape.{inside}
use Rattle.memory.proofs.Places.{place_of, same_place}

-- the readers from `end` on wait, those below are left in the set
pub record Waking {V : Type 0} (cells : List (Cell V)) (count n : ℕ) (reader : ℕ → Bool) (from : List ℕ) (readers words : List ℕ) (end : ℕ) : Type 0 where
  pub left : (z : ℕ) → bit readers z ≡ (ltb z end && reader z)
  pub woken : (z : ℕ) → is_some (stored cells z) ≡ true
      → bit words (get_or (places cells) z 0) ≡ (bit from (get_or (places cells) z 0) || (not (ltb z end) && (ltb z n && reader z)))
  pub waiting : Waiting n cells count words
  pub within : end ≤ length cells

module _ {V : Type 0} (b : Entries V) (n x : ℕ) (from : List ℕ) where
  abbrev cells : List (Cell V)
  cells = b.cells.now

  abbrev count : ℕ
  count = b.count

  abbrev reader : ℕ → Bool
  reader z = (contents b).reads z x

  entries : (z : ℕ) → reader z ≡ true → is_some (stored cells z) ≡ true
  entries z r = (and_parts (is_some (stored cells z)) _ r).0

  pub waking_none : (readers : List ℕ) → ((z : ℕ) → bit readers z ≡ reader z) → Waiting n cells count from → Waking cells count n reader from readers from (length cells)
  waking_none readers bits waiting = record {
    left = λ z. bits z ∙ sym (below z (cases_Bool (reader z)));
    woken = λ z l. sym (ap (λ t. bit from (get_or (places cells) z 0) || t) (none z (cases_Bool (reader z))) ∙ or-false _);
    waiting = waiting;
    within = omega arith;
  }
    where
      low : (z : ℕ) → reader z ≡ true → z < length cells
      low z r = inside cells z (entries z r)

      below : (z : ℕ) → (reader z ≡ true) ⊎ (reader z ≡ false) → (ltb z (length cells) && reader z) ≡ reader z
      below z (inl r) = ap (λ t. t && reader z) (lt-ltb z (length cells) (low z r))
      below z (inr r) = and_right (ltb z (length cells)) _ r ∙ sym r

      none : (z : ℕ) → (reader z ≡ true) ⊎ (reader z ≡ false) → (not (ltb z (length cells)) && (ltb z n && reader z)) ≡ false
      none z (inl r) = ap (λ t. not t && (ltb z n && reader z)) (lt-ltb z (length cells) (low z r))
      none z (inr r) = and_right (not (ltb z (length cells))) _ (and_right (ltb z n) _ r)

  module _ (readers words : List ℕ) (end : ℕ) (waking : Waking cells count n reader from readers words end) where
    -- all have been woken
    pub waking_all : ((z : ℕ) → bit readers z ≡ false) → (z : ℕ) → is_some (stored cells z) ≡ true
        → bit words (get_or (places cells) z 0) ≡ (bit from (get_or (places cells) z 0) || (ltb z n && reader z))
    waking_all none z l = waking.woken z l ∙ ap (λ t. bit from (get_or (places cells) z 0) || t) (go (cases_lt z end))
      where
        go : (z < end) ⊎ (end ≤ z) → (not (ltb z end) && (ltb z n && reader z)) ≡ (ltb z n && reader z)
        go (inl h) =
            let r : reader z ≡ false = sym (ap (λ t. t && reader z) (lt-ltb z end h)) ∙ sym (waking.left z) ∙ none z in
            and_right (not (ltb z end)) _ (and_right (ltb z n) _ r) ∙ sym (and_right (ltb z n) _ r)
        go (inr h) = ap (λ t. not t && (ltb z n && reader z)) (le-ltb z end h)

    -- one more: the highest that is left
    module _ (z : ℕ) (is : bit readers z ≡ true) (last : (k : ℕ) → z < k → bit readers k ≡ false) where
      below : z < end
      below = ltb-true z end (and_parts (ltb z end) _ (sym (waking.left z) ∙ is)).0

      reads : reader z ≡ true
      reads = (and_parts (ltb z end) _ (sym (waking.left z) ∙ is)).1

      none_between : (k : ℕ) → z < k → k < end → reader k ≡ false
      none_between k a b = sym (ap (λ t. t && reader k) (lt-ltb k end b)) ∙ sym (waking.left k) ∙ last k a

      waking_more : (readers' words' : List ℕ) (p : ℕ) (flag : Bool) → p ≡ get_or (places cells) z 0 → flag ≡ ltb z n
          → ((j : ℕ) → bit readers' j ≡ (not (eqb j z) && bit readers j)) → ((j : ℕ) → bit words' j ≡ ((eqb j p && flag) || bit words j))
          → Waking cells count n reader from readers' words' z
      waking_more readers' words' p flag ep ef out put = record {
        left = λ k. out k ∙ ap (λ t. not (eqb k z) && t) (waking.left k) ∙ leaves k (cases_order k z);
        woken = λ k l. put (get_or (places cells) k 0) ∙ ap (λ t. (t && flag) || bit words (get_or (places cells) k 0)) (ap (eqb (get_or (places cells) k 0)) ep ∙ same_place cells count b.room.2 b.listed b.placed k z l (entries z reads))
            ∙ ap (λ t. (eqb k z && t) || bit words (get_or (places cells) k 0)) ef ∙ ap (λ t. (eqb k z && ltb z n) || t) (waking.woken k l) ∙ wakes k (bit from (get_or (places cells) k 0)) (cases_order k z) (cases_lt k end);
        waiting = λ k h. waits k (or_cases (eqb k p && flag) (bit words k) (sym (put k) ∙ h));
        within = omega (arith, below, waking.within);
      }
        where
          leaves : (k : ℕ) → (k ≡ z) ⊎ ((k < z) ⊎ (z < k)) → (not (eqb k z) && (ltb k end && reader k)) ≡ (ltb k z && reader k)
          leaves k (inl e) = rw (eq-eqb k z e, le-ltb k z (omega arith))
          leaves k (inr (inl h)) =
              let d : k ≡ z → ⊥ = omega arith in
              rw (ne_eqb k z d, lt-ltb k end (omega (arith, below)), lt-ltb k z h)
          leaves k (inr (inr h)) =
              and_right (not (eqb k z)) _ (sym (waking.left k) ∙ last k h) ∙ sym (and_left _ _ (le-ltb k z (omega arith)))

          wakes : (k : ℕ) (t : Bool) → (k ≡ z) ⊎ ((k < z) ⊎ (z < k)) → (k < end) ⊎ (end ≤ k)
              → ((eqb k z && ltb z n) || (t || (not (ltb k end) && (ltb k n && reader k)))) ≡ (t || (not (ltb k z) && (ltb k n && reader k)))
          wakes k t (inl e) q = rw (e, eq-eqb z z refl, lt-ltb z end below, le-ltb z z (omega arith), reads) (ap (λ u. ltb z n || u) (or-false t) ∙ or_comm (ltb z n) t ∙ ap (λ u. t || u) (sym (and-true (ltb z n))))
          wakes k t (inr (inl h)) q =
              let d : k ≡ z → ⊥ = omega arith in
              rw (ne_eqb k z d, lt-ltb k end (omega (arith, below)), lt-ltb k z h)
          wakes k t (inr (inr h)) (inl q) =
              let d : k ≡ z → ⊥ = omega arith in
              rw (ne_eqb k z d, lt-ltb k end q, le-ltb k z (omega arith), none_between k h q) (ap (λ u. t || u) (sym (and_right (ltb k n) false refl)))
          wakes k t (inr (inr h)) (inr q) =
              let d : k ≡ z → ⊥ = omega arith in
              rw (ne_eqb k z d, le-ltb k end q, le-ltb k z (omega arith))

          waits : (k : ℕ) → ((eqb k p && flag) ≡ true) ⊎ (bit words k ≡ true) → (k < count) × (get_or (orders cells) k 0 < n)
          waits k (inl h) =
              let h' = and_parts (eqb k p) flag h in
              let e : k ≡ get_or (places cells) z 0 = eqb-true k p h'.0 ∙ ep in
              let q = place_of cells count b.room.2 b.listed b.placed z (entries z reads) in
              (rw e q.0, rw (e, q.1) (ltb-true z n (sym ef ∙ h'.1)))
          waits k (inr h) = waking.waiting k h

      -- it waits if it is below n
      pub waking_put : (readers' words' : List ℕ) (p : ℕ) → p ≡ get_or (places cells) z 0 → z < n
          → ((j : ℕ) → bit readers' j ≡ (not (eqb j z) && bit readers j)) → ((j : ℕ) → bit words' j ≡ (eqb j p || bit words j))
          → Waking cells count n reader from readers' words' z
      waking_put readers' words' p ep h out put =
          waking_more readers' words' p true ep (sym (lt-ltb z n h)) out (λ j. put j ∙ ap (λ t. t || bit words j) (sym (and-true (eqb j p))))

      pub waking_skip : (readers' : List ℕ) → n ≤ z → ((j : ℕ) → bit readers' j ≡ (not (eqb j z) && bit readers j))
          → Waking cells count n reader from readers' words z
      waking_skip readers' h out =
          waking_more readers' words (get_or (places cells) z 0) false refl (sym (le-ltb z n h)) out
          (λ j. ap (λ t. t || bit words j) (sym (and_right (eqb j (get_or (places cells) z 0)) false refl)))

-- the loop changes no entry
pub woken_in : {V : Type 0} (b b' : Entries V) (n n' x : ℕ) (from words : List ℕ) → b ≡ b' → n ≡ n'
    → ((z : ℕ) → is_some (stored b.cells.now z) ≡ true → bit words (get_or (places b.cells.now) z 0) ≡ (bit from (get_or (places b.cells.now) z 0) || (ltb z n && (contents b).reads z x)))
    → (z : ℕ) → is_some (stored b'.cells.now z) ≡ true → bit words (get_or (places b'.cells.now) z 0) ≡ (bit from (get_or (places b'.cells.now) z 0) || (ltb z n' && (contents b').reads z x))
woken_in {V} b b' n n' x from words eb en woken =
    subst (λ (d : Entries V). (z : ℕ) → is_some (stored d.cells.now z) ≡ true → bit words (get_or (places d.cells.now) z 0) ≡ (bit from (get_or (places d.cells.now) z 0) || (ltb z n' && (contents d).reads z x))) eb
    (subst (λ (m : ℕ). (z : ℕ) → is_some (stored b.cells.now z) ≡ true → bit words (get_or (places b.cells.now) z 0) ≡ (bit from (get_or (places b.cells.now) z 0) || (ltb z m && (contents b).reads z x))) en woken)
