-- The rules of the memory, put to use.
use Rattle.std.proofs.Common.{◌≡◌, ℕ, ◌+◌, ◌*◌, ◌<◌, ◌≤◌, true, false, eqb, ltb, List, ◌∷◌, length, get_or, take, is_some, None, sym, refl, ap, ◌∙◌, ⊎_elim, mul-le-mul_right, add-mul, arith}
use Rattle.std.proofs.lemmas.List.{length-take-le, length-map, length-reverse}
use Rattle.std.proofs.lemmas.Bool.{cases_lt, both_ways, and_from, or_cases, eqb-true, lt-ltb, le-ltb, not_from_false}
use Rattle.equations.specs.Runs.{has}
use Rattle.memory.specs.declared.cell.Cell.{Cell}
use Rattle.memory.specs.declared.entries.Entries.{Entries}
use Rattle.memory.specs.Layout.{stored, orders, places, entered, linked, width, implies, Room, Listed, Placed, Clean, Rules}
use Rattle.memory.specs.Contents.{reads_in, Orderly}
use Rattle.memory.proofs.Bools.{implied}
use Rattle.memory.proofs.Lists.{pigeon}
use Rattle.memory.proofs.Cells.{stored_past}
use Rattle.memory.proofs.Places.{listed_at}

pub in_row : (c x : ℕ) → x < c → x < 64 * width c
in_row c x h = omega arith

pub row_room : (c l k y : ℕ) → Room c l k → y < c → y * width c + width c ≤ l
row_room c l k y room h =
    let n : y + 1 ≤ c = omega arith in
    omega (arith, room.1, mul-le-mul_right (width c) n, add-mul y 1 (width c))

pub few_words : (c l k : ℕ) → Room c l k → l ≤ 4096
few_words c l k room =
    let w : width c ≤ 8 = omega (arith, room.0) in
    omega (arith, room.0, room.1, mul-le-mul_right (width c) room.0)

module _ {V : Type 0} (cells : List (Cell V)) where
  pub inside : (x : ℕ) → is_some (stored cells x) ≡ true → x < length cells
  inside x h = ⊎_elim (λ l. l) (λ l. absurd (both_ways _ (ap is_some (stored_past cells x l)) h)) (cases_lt x (length cells))

  pub listed_inside : (count : ℕ) → Listed cells count → (x : ℕ) → has (entered cells count) x ≡ true → x < length cells
  listed_inside count listed x h = inside x (sym (listed.1 x) ∙ h)

  pub entered_length : (count : ℕ) → count ≤ length cells → length (entered cells count) ≡ count
  entered_length count h =
      let l : length (orders cells) ≡ length cells = length-map cells (λ c. c.order) in
      length-reverse (take count (orders cells)) ∙ length-take-le count (orders cells) (omega arith)

  pub room_left : (count y : ℕ) → Listed cells count → count ≤ length cells → y < length cells → stored cells y ≡ None → count < length cells
  room_left count y listed few known fresh =
      let free : has (entered cells count) y ≡ false = listed.1 y ∙ ap is_some fresh in
      let all : (x : ℕ) → has (y ∷ entered cells count) x ≡ true → x < length cells =
      λ x h. ⊎_elim (λ e. rw (eqb-true x y e) known) (listed_inside count listed x) (or_cases (eqb x y) (has (entered cells count) x) h) in
      omega (arith, pigeon (y ∷ entered cells count) (length cells) (and_from _ _ (not_from_false _ free) listed.0) all, entered_length count few)

-- what a clean memory says of a read
pub cleaned : {V : Type 0} (cells : List (Cell V)) (links : List ℕ) → Clean cells links → (x y : ℕ) → x < 64 * width (length cells) → is_some (stored cells y) ≡ true
    → linked (width (length cells)) links x y ≡ true → is_some (stored cells x) ≡ true
cleaned cells links clean x y h l r = implied _ _ (clean x y) (and_from _ _ l (and_from (ltb x (64 * width (length cells))) _ (lt-ltb x (64 * width (length cells)) h) r))

-- a memory without entries
module _ {V : Type 0} (cells : List (Cell V)) (none : (x : ℕ) → stored cells x ≡ None) where
  pub none_listed : Listed cells 0
  none_listed = (refl, λ x. sym (ap is_some (none x)))

  pub none_placed : Placed cells 0
  none_placed k = ap (λ t. implies t (eqb (get_or (places cells) (get_or (orders cells) k 0) 0) k)) (le-ltb k 0 (omega arith))

  pub none_clean : (links : List ℕ) → Clean cells links
  none_clean links x y = rw (none y)

  pub none_reads : (links : List ℕ) (x y : ℕ) → reads_in cells links x y ≡ false
  none_reads links x y = rw (none x)

pub none_room : (c c' l k : ℕ) → c' ≡ c → Room c l k → Room c' l 0
none_room c c' l k e room = rw e (room.0, room.1, omega arith)

-- what an invariant of the entries says as a record
pub rules_of : {V : Type 0} (b : Entries V) → Orderly b
rules_of b = record { room = b.room; listed = b.listed; placed = b.placed; clean = b.clean }

-- the entries stand in the first places
pub entry_at : {V : Type 0} (cells : List (Cell V)) (links : List ℕ) (count : ℕ) → Rules cells links count → (k : ℕ) → k < count → get_or (orders cells) k 0 < length cells
entry_at cells links count rules k h = inside cells _ (listed_at cells count rules.room.2 rules.listed rules.placed k h)
