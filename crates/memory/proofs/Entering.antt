-- The memory with one entry more.
use Rattle.std.proofs.Common.{◌≡◌, ℕ, ◌+◌, ◌*◌, ◌<◌, true, false, not, ◌&&◌, ◌||◌, eqb, ltb, ◌⊎◌, List, [], ◌∷◌, reverse, length, get_or, take, set, is_some, Some, None, sym, ap, ◌∙◌, subst, inl, inr, ⊎_elim, arith}
use Rattle.std.proofs.lemmas.List.{take_more_set, length-map, reverse-append, get_or-set_same, get_or-set_other}
use Rattle.std.proofs.lemmas.Bool.{cases_eq, both_ways, and_parts, and_from, or_right, or_cases, eq-eqb, ne_eqb, ltb-true, not_from_true, not_from_false}
use Rattle.std.specs.Map.{update}
use Rattle.equations.proofs.Updates.{update_at, is_some_cond}
use Rattle.equations.specs.Runs.{has}
use Rattle.memory.specs.declared.cell.Cell.{Cell}
use Rattle.memory.specs.Layout.{stored, orders, places, entered, linked, width, once, Room, Listed, Placed, Clean, Rules}
use Rattle.memory.specs.Contents.{reads_in}
use Rattle.memory.specs.Changes.{Entered}
use Rattle.memory.proofs.Bools.{imply, both_or_none}
use Rattle.memory.proofs.Shape.{inside, in_row, room_left, cleaned}
use Rattle.memory.proofs.Places.{place_at, listed_at}

module _ {V : Type 0} (cells cells' : List (Cell V)) (links links' : List ℕ) (count y : ℕ) (b : V)
    (room : Room (length cells) (length links) count) (listed : Listed cells count) (placed : Placed cells count) (clean : Clean cells links)
    (len : length cells' ≡ length cells) (lenl : length links' ≡ length links)
    (vals : (z : ℕ) → stored cells' z ≡ update eqb (stored cells) y (Some b) z)
    (ords : orders cells' ≡ set (orders cells) count y) (pls : places cells' ≡ set (places cells) y count)
    (rows : (x z : ℕ) → x < 64 * width (length cells) → linked (width (length cells)) links' x z ≡ (not (eqb z y) && linked (width (length cells)) links x z))
    (known : y < length cells) (fresh : stored cells y ≡ None) where
  left : count < length cells
  left = room_left cells count y listed room.2 known fresh

  listed_now : (z : ℕ) → is_some (stored cells' z) ≡ (eqb z y || is_some (stored cells z))
  listed_now z = ap is_some (vals z ∙ update_at (stored cells) y (Some b) z) ∙ is_some_cond (eqb z y) b (stored cells z)

  entered_now : entered cells' (count + 1) ≡ y ∷ entered cells count
  entered_now =
      let l : length (orders cells) ≡ length cells = length-map cells (λ c. c.order) in
      ap (λ os. reverse (take (count + 1) os)) ords ∙ ap reverse (take_more_set (orders cells) count y (omega (arith, left))) ∙ reverse-append (take count (orders cells)) (y ∷ [])

  enter_room : Room (length cells') (length links') (count + 1)
  enter_room = rw (len, lenl) (room.0, room.1, omega (arith, left))

  enter_listed : Listed cells' (count + 1)
  enter_listed =
      let free : has (entered cells count) y ≡ false = listed.1 y ∙ ap is_some fresh in (
        ap once entered_now ∙ and_from _ _ (not_from_false _ free) listed.0,
        λ x. ap (λ l. has l x) entered_now ∙ ap (λ t. eqb x y || t) (listed.1 x) ∙ sym (listed_now x),
      )

  -- a read of an entry other than y, of which y is not the reader
  linked_now : (x z : ℕ) → x < 64 * width (length cells) → is_some (stored cells' z) ≡ true → linked (width (length cells)) links' x z ≡ true
      → (linked (width (length cells)) links x z ≡ true) × (is_some (stored cells z) ≡ true)
  linked_now x z h l r =
      let p = and_parts (not (eqb z y)) _ (sym (rows x z h) ∙ r) in
      (p.1, ⊎_elim (λ e. absurd (both_ways _ (not_from_true _ e) p.0)) (λ e. e) (or_cases (eqb z y) (is_some (stored cells z)) (sym (listed_now z) ∙ l)))

  enter_clean : Clean cells' links'
  enter_clean x z = rw len (imply _ _ (λ h.
      let p = and_parts (is_some (stored cells' z)) _ h in
      let q = and_parts (ltb x (64 * width (length cells))) _ p.1 in
      let i = ltb-true x (64 * width (length cells)) q.0 in
      let r = linked_now x z i p.0 q.1 in
      listed_now x ∙ or_right (eqb x y) _ (cleaned cells links clean x z i r.1 r.0)))

  enter_reads : (x z : ℕ) → reads_in cells' links' x z ≡ reads_in cells links x z
  enter_reads x z = ap (λ c. is_some (stored cells' x) && (is_some (stored cells' z) && linked (width c) links' x z)) len ∙ both_or_none _ _ there back
    where
      there : (is_some (stored cells' x) && (is_some (stored cells' z) && linked (width (length cells)) links' x z)) ≡ true → reads_in cells links x z ≡ true
      there h =
          let p = and_parts (is_some (stored cells' x)) _ h in
          let q = and_parts (is_some (stored cells' z)) _ p.1 in
          let i = in_row (length cells) x (subst (λ (n : ℕ). x < n) len (inside cells' x p.0)) in
          let r = linked_now x z i q.0 q.1 in
          and_from _ _ (cleaned cells links clean x z i r.1 r.0) (and_from _ _ r.1 r.0)

      back : reads_in cells links x z ≡ true → (is_some (stored cells' x) && (is_some (stored cells' z) && linked (width (length cells)) links' x z)) ≡ true
      back h =
          let p = and_parts (is_some (stored cells x)) _ h in
          let q = and_parts (is_some (stored cells z)) _ p.1 in
          let i : x < length cells = inside cells x p.0 in
          let d : z ≡ y → ⊥ = λ e. both_ways (is_some (stored cells z)) (ap (λ k. is_some (stored cells k)) e ∙ ap is_some fresh) q.0 in
          and_from _ _ (listed_now x ∙ or_right (eqb x y) _ p.0) (and_from _ _ (listed_now z ∙ or_right (eqb z y) _ q.0)
          (rows x z (in_row (length cells) x i) ∙ and_from _ _ (not_from_false _ (ne_eqb z y d)) q.1))

  enter_placed : Placed cells' (count + 1)
  enter_placed k = imply _ _ (λ h. eq-eqb (get_or (places cells') (get_or (orders cells') k 0) 0) k (go (ltb-true k (count + 1) h) (cases_eq k count)))
    where
      go : k < count + 1 → (k ≡ count) ⊎ (k ≡ count → ⊥) → get_or (places cells') (get_or (orders cells') k 0) 0 ≡ k
      go h (inl e) =
          let o : get_or (orders cells') k 0 ≡ y =
          ap (λ os. get_or os k 0) ords ∙ ap (λ j. get_or (set (orders cells) count y) j 0) e ∙ get_or-set_same (orders cells) count y 0 (omega (arith, left, length-map cells (λ c. c.order))) in
          ap (λ z. get_or (places cells') z 0) o ∙ ap (λ ps. get_or ps y 0) pls ∙ get_or-set_same (places cells) y count 0 (omega (arith, length-map cells (λ c. c.place))) ∙ sym e
      go h (inr d) =
          let i : k < count = omega arith in
          let o : get_or (orders cells') k 0 ≡ get_or (orders cells) k 0 = ap (λ os. get_or os k 0) ords ∙ get_or-set_other (orders cells) count k y 0 d in
          let apart : get_or (orders cells) k 0 ≡ y → ⊥ =
          λ e. both_ways (is_some (stored cells y)) (ap is_some fresh) (ap (λ z. is_some (stored cells z)) (sym e) ∙ listed_at cells count room.2 listed placed k i) in
          ap (λ z. get_or (places cells') z 0) o ∙ ap (λ ps. get_or ps (get_or (orders cells) k 0) 0) pls
          ∙ get_or-set_other (places cells) y (get_or (orders cells) k 0) count 0 apart ∙ place_at cells count room.2 listed placed k i

  enters_in : Entered cells cells' links links' count y b
  enters_in = record {
    value = vals;
    entries = entered_now;
    reads = enter_reads;
    rules = record { room = enter_room; listed = enter_listed; placed = enter_placed; clean = enter_clean };
  }

-- as the code has it: the value is written first, then the place
pub enters : {V : Type 0} (cells cells₁ cells' : List (Cell V)) (links links' : List ℕ) (count y w : ℕ) (b b₀ : V)
    → Rules cells links count → length cells₁ ≡ length cells → length cells' ≡ length cells₁ → length links' ≡ length links
    → ((z : ℕ) → stored cells₁ z ≡ update eqb (stored cells) y (Some b) z) → orders cells₁ ≡ orders cells → places cells₁ ≡ places cells
    → ((z : ℕ) → stored cells' z ≡ stored cells₁ z) → orders cells' ≡ set (orders cells₁) count y → places cells' ≡ set (places cells₁) y count
    → w ≡ width (length cells) → ((x z : ℕ) → x < 64 * w → linked w links' x z ≡ (not (eqb z y) && linked w links x z))
    → b ≡ b₀ → y < length cells → stored cells y ≡ None → Entered cells cells' links links' count y b₀
enters cells cells₁ cells' links links' count y w b b₀ rules l₁ l₂ l₃ v₁ o₁ p₁ v₂ o₂ p₂ ew rows eb known fresh =
    enters_in cells cells' links links' count y b₀ rules.room rules.listed rules.placed rules.clean (l₂ ∙ l₁) l₃
    (λ z. v₂ z ∙ v₁ z ∙ ap (λ u. update eqb (stored cells) y (Some u) z) eb) (o₂ ∙ ap (λ os. set os count y) o₁) (p₂ ∙ ap (λ ps. set ps y count) p₁)
    (subst (λ (n : ℕ). (x z : ℕ) → x < 64 * n → linked n links' x z ≡ (not (eqb z y) && linked n links x z)) ew rows) known fresh
