-- The memory with another value, and with reads recorded.
use Rattle.std.proofs.Common.{◌≡◌, ℕ, ◌*◌, ◌<◌, Bool, true, false, cond, ◌&&◌, ◌||◌, eqb, ltb, ◌⊎◌, List, reverse, length, get_or, take, is_some, Some, sym, refl, ap, ◌∙◌, subst, inl, inr, ⊎_elim}
use Rattle.std.proofs.lemmas.Bool.{and_parts, and_from, or_left, or_right, or_cases, eqb-true, ltb-true}
use Rattle.std.specs.Map.{update}
use Rattle.equations.proofs.Updates.{update_at}
use Rattle.equations.specs.Runs.{has}
use Rattle.memory.specs.declared.cell.Cell.{Cell}
use Rattle.memory.specs.Layout.{stored, orders, places, entered, linked, width, implies, once, Room, Listed, Placed, Clean, Rules}
use Rattle.memory.specs.Contents.{reads_in}
use Rattle.memory.proofs.Bools.{imply, both_or_none}
use Rattle.memory.proofs.Shape.{inside, in_row, cleaned}

-- the value of x is v, and its reads of ys are recorded
pub record Answered {V : Type 0} (cells cells' : List (Cell V)) (links links' : List ℕ) (count x : ℕ) (v : V) (ys : List ℕ) : Type 0 where
  pub value : (z : ℕ) → stored cells' z ≡ update eqb (stored cells) x (Some v) z
  pub entries : entered cells' count ≡ entered cells count
  pub reads : (z y : ℕ) → reads_in cells' links' z y ≡ (reads_in cells links z y || (eqb z x && has ys y))
  pub rules : Rules cells' links' count

module _ {V : Type 0} (cells cells' : List (Cell V)) (links links' : List ℕ) (count x : ℕ) (v : V) (ys : List ℕ)
    (room : Room (length cells) (length links) count) (listed : Listed cells count) (placed : Placed cells count) (clean : Clean cells links)
    (len : length cells' ≡ length cells) (lenl : length links' ≡ length links)
    (vals : (z : ℕ) → stored cells' z ≡ update eqb (stored cells) x (Some v) z)
    (ords : orders cells' ≡ orders cells) (pls : places cells' ≡ places cells)
    (rows : (z y : ℕ) → z < 64 * width (length cells) → linked (width (length cells)) links' z y ≡ (linked (width (length cells)) links z y || (eqb z x && has ys y)))
    (entry : is_some (stored cells x) ≡ true) (found : (y : ℕ) → has ys y ≡ true → is_some (stored cells y) ≡ true) where
  same : (z : ℕ) → is_some (stored cells' z) ≡ is_some (stored cells z)
  same z = ap is_some (vals z ∙ update_at (stored cells) x (Some v) z) ∙ go (eqb z x) refl
    where
      go : (t : Bool) → eqb z x ≡ t → is_some (cond t (Some v) (stored cells z)) ≡ is_some (stored cells z)
      go true e = sym (ap (λ k. is_some (stored cells k)) (eqb-true z x e) ∙ entry)
      go false e = refl

  abbrev w : ℕ
  w = width (length cells)

  -- a bit of a row is a read of old, or one of the new ones
  linked_cases : (z y : ℕ) → z < 64 * width (length cells) → linked w links' z y ≡ true → (linked w links z y ≡ true) ⊎ ((z ≡ x) × (has ys y ≡ true))
  linked_cases z y h r = ⊎_elim inl (λ e. let p = and_parts (eqb z x) _ e in inr (eqb-true z x p.0, p.1)) (or_cases _ _ (sym (rows z y h) ∙ r))

  settle_clean : Clean cells' links'
  settle_clean z y = rw len (imply _ _ (λ h.
      let p = and_parts (is_some (stored cells' y)) _ h in
      let q = and_parts (ltb z (64 * width (length cells))) _ p.1 in
      let i = ltb-true z (64 * width (length cells)) q.0 in
      same z ∙ ⊎_elim (λ r. cleaned cells links clean z y i (sym (same y) ∙ p.0) r) (λ r. ap (λ k. is_some (stored cells k)) r.0 ∙ entry) (linked_cases z y i q.1)))

  settle_reads : (z y : ℕ) → reads_in cells' links' z y ≡ (reads_in cells links z y || (eqb z x && has ys y))
  settle_reads z y =
      ap (λ c. is_some (stored cells' z) && (is_some (stored cells' y) && linked (width c) links' z y)) len
      ∙ ap (λ t. t && (is_some (stored cells' y) && linked w links' z y)) (same z)
      ∙ ap (λ t. is_some (stored cells z) && (t && linked w links' z y)) (same y)
      ∙ both_or_none _ _ there back
    where
      there : (is_some (stored cells z) && (is_some (stored cells y) && linked w links' z y)) ≡ true → (reads_in cells links z y || (eqb z x && has ys y)) ≡ true
      there h =
          let p = and_parts (is_some (stored cells z)) _ h in
          let q = and_parts (is_some (stored cells y)) _ p.1 in
          let r = or_cases _ _ (sym (rows z y (in_row (length cells) z (inside cells z p.0))) ∙ q.1) in
          ⊎_elim (λ e. or_left (reads_in cells links z y) _ (and_from _ _ p.0 (and_from _ _ q.0 e))) (λ e. or_right (reads_in cells links z y) _ e) r

      both : (z ≡ x) → has ys y ≡ true → is_some (stored cells z) ≡ true
      both e h = ap (λ k. is_some (stored cells k)) e ∙ entry

      back : (reads_in cells links z y || (eqb z x && has ys y)) ≡ true → (is_some (stored cells z) && (is_some (stored cells y) && linked w links' z y)) ≡ true
      back h = ⊎_elim
          (λ e.
          let p = and_parts (is_some (stored cells z)) _ e in
          let q = and_parts (is_some (stored cells y)) _ p.1 in
          and_from _ _ p.0 (and_from _ _ q.0 (rows z y (in_row (length cells) z (inside cells z p.0)) ∙ or_left _ _ q.1)))
          (λ e.
          let p = and_parts (eqb z x) _ e in
          let l = both (eqb-true z x p.0) p.1 in
          and_from _ _ l (and_from _ _ (found y p.1) (rows z y (in_row (length cells) z (inside cells z l)) ∙ or_right (linked w links z y) _ e)))
          (or_cases (reads_in cells links z y) _ h)

  settles_in : Answered cells cells' links links' count x v ys
  settles_in = record {
    value = vals;
    entries = ap (λ os. reverse (take count os)) ords;
    reads = settle_reads;
    rules = record {
      room = rw (len, lenl) room;
      listed = (ap (λ os. once (reverse (take count os))) ords ∙ listed.0, λ z. ap (λ os. has (reverse (take count os)) z) ords ∙ listed.1 z ∙ sym (same z));
      placed = λ k. ap (λ ps. implies (ltb k count) (eqb (get_or ps (get_or (orders cells') k 0) 0) k)) pls
          ∙ ap (λ os. implies (ltb k count) (eqb (get_or (places cells) (get_or os k 0) 0) k)) ords ∙ placed k;
      clean = settle_clean;
    };
  }

-- the rows of entries have entries only, also once the reads are recorded
pub recorded_clean : {V : Type 0} (cells : List (Cell V)) (links links' : List ℕ) (x w : ℕ) (ys : List ℕ) → Clean cells links → w ≡ width (length cells)
    → ((z y : ℕ) → z < 64 * w → linked w links' z y ≡ (linked w links z y || (eqb z x && has ys y))) → is_some (stored cells x) ≡ true → Clean cells links'
recorded_clean cells links links' x w ys clean ew rows entry z y = imply _ _ (λ h.
    let p = and_parts (is_some (stored cells y)) _ h in
    let q = and_parts (ltb z (64 * width (length cells))) _ p.1 in
    let i = ltb-true z (64 * width (length cells)) q.0 in
    ⊎_elim (λ r. cleaned cells links clean z y i p.0 r) (λ r. ap (λ k. is_some (stored cells k)) (eqb-true z x (and_parts (eqb z x) _ r).0) ∙ entry)
    (or_cases _ _ (sym (subst (λ (n : ℕ). (z y : ℕ) → z < 64 * n → linked n links' z y ≡ (linked n links z y || (eqb z x && has ys y))) ew rows z y i) ∙ q.1)))

pub settles_with : {V : Type 0} (cells cells' : List (Cell V)) (links links' : List ℕ) (count x w : ℕ) (v : V) (ys : List ℕ)
    → Rules cells links count → length cells' ≡ length cells → length links' ≡ length links
    → ((z : ℕ) → stored cells' z ≡ update eqb (stored cells) x (Some v) z) → orders cells' ≡ orders cells → places cells' ≡ places cells
    → w ≡ width (length cells) → ((z y : ℕ) → z < 64 * w → linked w links' z y ≡ (linked w links z y || (eqb z x && has ys y)))
    → is_some (stored cells x) ≡ true → ((y : ℕ) → has ys y ≡ true → is_some (stored cells y) ≡ true)
    → Answered cells cells' links links' count x v ys
settles_with cells cells' links links' count x w v ys rules l₁ l₂ vals ords pls ew rows entry found =
    settles_in cells cells' links links' count x v ys rules.room rules.listed rules.placed rules.clean l₁ l₂ vals ords pls
    (subst (λ (n : ℕ). (z y : ℕ) → z < 64 * n → linked n links' z y ≡ (linked n links z y || (eqb z x && has ys y))) ew rows) entry found
