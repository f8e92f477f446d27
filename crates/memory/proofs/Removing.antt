-- The memory with entries taken out.
use Rattle.std.proofs.Common.{◌≡◌, ℕ, ◌+◌, ◌*◌, ◌<◌, ◌≤◌, Bool, true, false, cond, not, ◌&&◌, ◌||◌, eqb, ltb, ◌⊎◌, List, reverse, length, get_or, take, set, is_some, Some, None, filter, Option, sym, refl, ap, ◌∙◌, subst, inl, inr, ⊎_elim, arith}
use Rattle.std.proofs.lemmas.List.{take_more, take-map, get_or_default, get_or-drop, length-map, get_or-set_same, get_or-set_other}
use Rattle.std.proofs.lemmas.List.Filters.{FiltersInPlace, FiltersInPlace-more_no, FiltersInPlace-more_set}
use Rattle.std.proofs.lemmas.Bool.{cases_eq, cases_Bool, both_ways, and_parts, and_from, eq-eqb, ne_eqb, eqb-true, lt-ltb, ltb-true, not_from_true, not_from_false}
use Rattle.std.specs.Map.{update}
use Rattle.equations.proofs.Updates.{update_at}
use Rattle.equations.proofs.Edits.{listed_cond}
use Rattle.equations.specs.Runs.{has}
use Rattle.memory.specs.declared.cell.Cell.{Cell}
use Rattle.memory.specs.Bits.{bit}
use Rattle.memory.specs.Layout.{stored, orders, places, entered, linked, width, once, Room, Listed, Placed, Clean, Rules}
use Rattle.memory.specs.Contents.{reads_in}
use Rattle.memory.specs.Changes.{TakenOut}
use Rattle.memory.proofs.Bools.{implied, imply, both_or_none}
use Rattle.memory.proofs.Lists.{has_push, has_reverse, has_place, has_at, has_kept, kept_reverse, once_kept}
use Rattle.memory.proofs.Cells.{orders_get_or}
use Rattle.memory.proofs.Shape.{inside, in_row, cleaned}

module _ {V : Type 0} (cells cells' : List (Cell V)) (links links' : List ℕ) (count count' : ℕ) (gone : ℕ → Bool)
    (room : Room (length cells) (length links) count) (listed : Listed cells count) (clean : Clean cells links)
    (len : length cells' ≡ length cells) (lenl : length links' ≡ length links) (few : count' ≤ count)
    (vals : (z : ℕ) → stored cells' z ≡ cond (gone z) None (stored cells z))
    (ords : take count' (orders cells') ≡ filter (λ x. not (gone x)) (take count (orders cells)))
    (placed : Placed cells' count')
    (rows : (x y : ℕ) → x < 64 * width (length cells) → linked (width (length cells)) links' x y ≡ (linked (width (length cells)) links x y && not (has (take count' (orders cells')) y && gone x)))
    (closed : (x y : ℕ) → reads_in cells links x y ≡ true → gone y ≡ true → gone x ≡ true) where
  there : (z : ℕ) → is_some (stored cells' z) ≡ (not (gone z) && is_some (stored cells z))
  there z = ap is_some (vals z) ∙ listed_cond (gone z) (stored cells z)

  entries : entered cells' count' ≡ filter (λ x. not (gone x)) (entered cells count)
  entries = ap reverse ords ∙ sym (kept_reverse (λ x. not (gone x)) (take count (orders cells)))

  -- who is listed then
  listed' : Listed cells' count'
  listed' = (
    ap once entries ∙ once_kept (λ x. not (gone x)) (entered cells count) listed.0,
    λ x. ap (λ l. has l x) entries ∙ has_kept (λ x. not (gone x)) (entered cells count) x ∙ ap (λ t. not (gone x) && t) (listed.1 x) ∙ sym (there x),
  )

  -- a bit of the row of an entry that is kept
  row_of : (x y : ℕ) → x < 64 * width (length cells) → is_some (stored cells' y) ≡ true → linked (width (length cells)) links' x y ≡ (linked (width (length cells)) links x y && not (gone x))
  row_of x y h l = rows x y h ∙ ap (λ t. linked (width (length cells)) links x y && not (t && gone x)) (sym (has_reverse (take count' (orders cells')) y) ∙ listed'.1 y ∙ l)

  removed_clean : Clean cells' links'
  removed_clean x y = rw len (imply _ _ (λ h.
      let p = and_parts (is_some (stored cells' y)) _ h in
      let q = and_parts (ltb x (64 * width (length cells))) _ p.1 in
      let i = ltb-true x (64 * width (length cells)) q.0 in
      let l = and_parts (not (gone y)) _ (sym (there y) ∙ p.0) in
      let r = and_parts (linked (width (length cells)) links x y) _ (sym (row_of x y i p.0) ∙ q.1) in
      there x ∙ and_from _ _ r.1 (cleaned cells links clean x y i l.1 r.0)))

  removed_reads : (x y : ℕ) → reads_in cells' links' x y ≡ (not (gone x) && reads_in cells links x y)
  removed_reads x y = ap (λ c. is_some (stored cells' x) && (is_some (stored cells' y) && linked (width c) links' x y)) len ∙ both_or_none _ _ on back
    where
      on : (is_some (stored cells' x) && (is_some (stored cells' y) && linked (width (length cells)) links' x y)) ≡ true → (not (gone x) && reads_in cells links x y) ≡ true
      on h =
          let p = and_parts (is_some (stored cells' x)) _ h in
          let q = and_parts (is_some (stored cells' y)) _ p.1 in
          let lx = and_parts (not (gone x)) _ (sym (there x) ∙ p.0) in
          let ly = and_parts (not (gone y)) _ (sym (there y) ∙ q.0) in
          let r = and_parts (linked (width (length cells)) links x y) _ (sym (row_of x y (in_row (length cells) x (inside cells x lx.1)) q.0) ∙ q.1) in
          and_from _ _ lx.0 (and_from _ _ lx.1 (and_from _ _ ly.1 r.0))

      back : (not (gone x) && reads_in cells links x y) ≡ true → (is_some (stored cells' x) && (is_some (stored cells' y) && linked (width (length cells)) links' x y)) ≡ true
      back h =
          let p = and_parts (not (gone x)) _ h in
          let q = and_parts (is_some (stored cells x)) _ p.1 in
          let r = and_parts (is_some (stored cells y)) _ q.1 in
          let k : not (gone y) ≡ true = ⊎_elim (λ e. absurd (both_ways _ (not_from_true _ (closed x y p.1 e)) p.0)) (λ e. not_from_false _ e) (cases_Bool (gone y)) in
          let ly : is_some (stored cells' y) ≡ true = there y ∙ and_from _ _ k r.0 in
          and_from _ _ (there x ∙ and_from _ _ p.0 q.0) (and_from _ _ ly
          (row_of x y (in_row (length cells) x (inside cells x q.0)) ly ∙ and_from _ _ r.1 p.0))

  removes_in : TakenOut cells cells' links links' count count' gone
  removes_in = record {
    value = vals;
    entries = entries;
    reads = removed_reads;
    rules = record { room = rw (len, lenl) (room.0, room.1, omega (arith, room.2)); listed = listed'; placed = placed; clean = removed_clean };
  }

-- as the code has it: the loop names only what stands in the first places
module _ {V : Type 0} (cells cells' : List (Cell V)) (links links' : List ℕ) (count count' : ℕ) (gone : ℕ → Bool)
    (rules : Rules cells links count) where
  -- a value that is not there need not go
  gone_values : ((z : ℕ) → stored cells' z ≡ cond (has (take count (orders cells)) z && gone z) None (stored cells z))
      → (z : ℕ) → stored cells' z ≡ cond (gone z) None (stored cells z)
  gone_values vals z = vals z ∙ ap (λ t. cond (t && gone z) None (stored cells z)) (sym (has_reverse (take count (orders cells)) z) ∙ rules.listed.1 z) ∙ go (stored cells z)
    where
      go : (o : Option V) → cond (is_some o && gone z) None o ≡ cond (gone z) None o
      go (Some v) = refl
      go None = nothing (gone z)
        where
          nothing : (b : Bool) → ◌≡◌ {A = Option V} None (cond b None None)
          nothing true = refl
          nothing false = refl

  pub removes : (w : ℕ) → length cells' ≡ length cells → length links' ≡ length links → count' ≤ count
      → ((z : ℕ) → stored cells' z ≡ cond (has (take count (orders cells)) z && gone z) None (stored cells z))
      → take count' (orders cells') ≡ filter (λ x. not (gone x)) (take count (orders cells)) → Placed cells' count'
      → w ≡ width (length cells) → ((x y : ℕ) → x < 64 * w → linked w links' x y ≡ (linked w links x y && not (has (orders (take count' cells')) y && gone x)))
      → ((x y : ℕ) → reads_in cells links x y ≡ true → gone y ≡ true → gone x ≡ true)
      → TakenOut cells cells' links links' count count' gone
  removes w len lenl few vals ords placed ew rows closed =
      removes_in cells cells' links links' count count' gone rules.room rules.listed rules.clean len lenl few (gone_values vals) ords placed
      (subst (λ (n : ℕ). (x y : ℕ) → x < 64 * n → linked n links' x y ≡ (linked n links x y && not (has (take count' (orders cells')) y && gone x))) ew
      (λ x y h. rows x y h ∙ ap (λ os. linked w links x y && not (has os y && gone x)) (sym (take-map (λ c. c.order) count' cells')))) closed

  -- those that are left are unknowns that there is room for
  pub left_inside : take count' (orders cells') ≡ filter (λ x. not (gone x)) (take count (orders cells)) → (y : ℕ) → has (orders (take count' cells')) y ≡ true → y < length cells
  left_inside ords y h =
      let k : has (filter (λ x. not (gone x)) (take count (orders cells))) y ≡ true = ap (λ os. has os y) (sym ords ∙ take-map (λ c. c.order) count' cells') ∙ h in
      let e : has (take count (orders cells)) y ≡ true = (and_parts (not (gone y)) _ (sym (has_kept (λ x. not (gone x)) (take count (orders cells)) y) ∙ k)).1 in
      inside cells y (sym (rules.listed.1 y) ∙ has_reverse (take count (orders cells)) y ∙ e)

-- the values after one turn of the loop that removes
dropped_more : {V : Type 0} (from cur to : List (Cell V)) (gone : List ℕ) (k x : ℕ) (v : Option V) → k < length (orders from) → x ≡ get_or (orders from) k 0
    → ((z : ℕ) → stored cur z ≡ cond (has (take k (orders from)) z && bit gone z) None (stored from z))
    → ((z : ℕ) → stored to z ≡ update eqb (stored cur) x v z) → v ≡ cond (bit gone x) None (stored cur x)
    → (z : ℕ) → stored to z ≡ cond (has (take (k + 1) (orders from)) z && bit gone z) None (stored from z)
dropped_more {V} from cur to gone k x v room is old new e z = new z ∙ update_at (stored cur) x v z ∙ go (cases_eq z x) ∙ ap (λ t. cond (t && bit gone z) None (stored from z)) (sym more)
  where
    more : has (take (k + 1) (orders from)) z ≡ (has (take k (orders from)) z || eqb z x)
    more = ap (λ l. has l z) (take_more (orders from) k 0 room) ∙ has_push (take k (orders from)) (get_or (orders from) k 0) z ∙ ap (λ y. has (take k (orders from)) z || eqb z y) (sym is)

    once_more : (h g : Bool) (o : Option V) → cond g None (cond (h && g) None o) ≡ cond ((h || true) && g) None o
    once_more true true o = refl
    once_more true false o = refl
    once_more false true o = refl
    once_more false false o = refl

    as_before : (h g : Bool) (o : Option V) → cond (h && g) None o ≡ cond ((h || false) && g) None o
    as_before true g o = refl
    as_before false g o = refl

    go : (z ≡ x) ⊎ (z ≡ x → ⊥) → cond (eqb z x) v (stored cur z) ≡ cond ((has (take k (orders from)) z || eqb z x) && bit gone z) None (stored from z)
    go (inl p) = rw (p, eq-eqb x x refl) (e ∙ ap (λ o. cond (bit gone x) None o) (old x) ∙ once_more (has (take k (orders from)) x) (bit gone x) (stored from x))
    go (inr d) = rw (ne_eqb z x d) (old z ∙ as_before (has (take k (orders from)) z) (bit gone z) (stored from z))

-- what the test at its place leaves: x goes, or stays
dropped_gone : {V : Type 0} (from cur to : List (Cell V)) (gone : List ℕ) (k x : ℕ) → k < length (orders from) → x ≡ get_or (orders from) k 0 → bit gone x ≡ true
    → ((z : ℕ) → stored cur z ≡ cond (has (take k (orders from)) z && bit gone z) None (stored from z))
    → ((z : ℕ) → stored to z ≡ update eqb (stored cur) x None z)
    → (z : ℕ) → stored to z ≡ cond (has (take (k + 1) (orders from)) z && bit gone z) None (stored from z)
dropped_gone from cur to gone k x room is h old new =
    dropped_more from cur to gone k x None room is old new (rw h)

dropped_kept : {V : Type 0} (from cur : List (Cell V)) (gone : List ℕ) (k x : ℕ) → k < length (orders from) → x ≡ get_or (orders from) k 0 → bit gone x ≡ false
    → ((z : ℕ) → stored cur z ≡ cond (has (take k (orders from)) z && bit gone z) None (stored from z))
    → (z : ℕ) → stored cur z ≡ cond (has (take (k + 1) (orders from)) z && bit gone z) None (stored from z)
dropped_kept {V} from cur gone k x room is h old =
    dropped_more from cur cur gone k x (stored cur x) room is old same (rw h)
  where
    same : (z : ℕ) → stored cur z ≡ update eqb (stored cur) x (stored cur x) z
    same z = sym (update_at (stored cur) x (stored cur x) z ∙ go (cases_eq z x))
      where
        go : (z ≡ x) ⊎ (z ≡ x → ⊥) → cond (eqb z x) (stored cur x) (stored cur z) ≡ stored cur z
        go (inl e) = rw (e, eq-eqb x x refl)
        go (inr d) = rw (ne_eqb z x d)

-- the loop that removes: of the first k places, what is kept fills the first j
pub record Closing {V : Type 0} (from cur : List (Cell V)) (gone : List ℕ) (j k : ℕ) : Type 0 where
  pub keeping : FiltersInPlace (λ x. not (bit gone x)) (orders from) (orders cur) j k
  pub values : (z : ℕ) → stored cur z ≡ cond (has (take k (orders from)) z && bit gone z) None (stored from z)
  pub placed : (i : ℕ) → i < j → get_or (places cur) (get_or (orders cur) i 0) 0 ≡ i

module _ {V : Type 0} (from : List (Cell V)) (gone : List ℕ) where
  module _ (cur to : List (Cell V)) (j k x count : ℕ) (closing : Closing from cur gone j k) (same : length cur ≡ length from) (room : k < length cur) (is : x ≡ get_or (orders cur) k 0) where
    below : k < length (orders cur)
    below = omega (arith, length-map cur (λ c. c.order))

    read : x ≡ get_or (orders cur) k x
    read = is ∙ get_or_default (orders cur) k 0 x below

    -- what is read is as it was
    unmoved : x ≡ get_or (orders from) k 0
    unmoved =
        let z : k + 0 ≡ k = omega arith in
        is ∙ ap (λ n. get_or (orders cur) n 0) (sym z) ∙ sym (get_or-drop k (orders cur) 0 0) ∙ ap (λ l. get_or l 0 0) closing.keeping.rest
        ∙ get_or-drop k (orders from) 0 0 ∙ ap (λ n. get_or (orders from) n 0) z

    inside_still : ((n : ℕ) → n < count → get_or (orders from) n 0 < length from) → k < count → x < length cur
    inside_still inside within = omega (arith, unmoved, inside k within, same)

    room_from : k < length (orders from)
    room_from = omega (arith, same, length-map from (λ c. c.order))

    pub gap_drop : bit gone x ≡ true → ((z : ℕ) → stored to z ≡ update eqb (stored cur) x None z) → orders to ≡ orders cur → places to ≡ places cur → Closing from to gone j (k + 1)
    gap_drop h vals ords pls = record {
      keeping = subst (λ (os : List ℕ). FiltersInPlace (λ x. not (bit gone x)) (orders from) os j (k + 1)) (sym ords) (FiltersInPlace-more_no closing.keeping below (not_from_true _ h) read);
      values = dropped_gone from cur to gone k x room_from unmoved h closing.values vals;
      placed = λ i l. ap (λ os. get_or (places to) (get_or os i 0) 0) ords ∙ ap (λ ps. get_or ps (get_or (orders cur) i 0) 0) pls ∙ closing.placed i l;
    }

    -- no entry before it is x
    apart : Placed from count → k < count → (i : ℕ) → i < j → get_or (orders cur) i 0 ≡ x → ⊥
    apart placed within i h e =
        let at : (n : ℕ) → n < count → get_or (places from) (get_or (orders from) n 0) 0 ≡ n = λ n l. eqb-true _ n (implied _ _ (placed n) (lt-ltb n count l)) in
        let kept : has (filter (λ x. not (bit gone x)) (take k (orders from))) x ≡ true =
        ap (λ l. has l x) (sym closing.keeping.front) ∙ ap (has (take j (orders cur))) (sym e) ∙ has_at (orders cur) i j h (omega (arith, closing.keeping.behind, below)) in
        let (n, l, q) = has_place (orders from) k x (and_parts (not (bit gone x)) _ (sym (has_kept (λ x. not (bit gone x)) (take k (orders from)) x) ∙ kept)).1 in
        omega (arith, at n (omega arith), at k within, ap (λ z. get_or (places from) z 0) (q ∙ unmoved))

    pub gap_keep : Placed from count → k < count → x < length cur → bit gone x ≡ false → ((z : ℕ) → stored to z ≡ stored cur z) → orders to ≡ set (orders cur) j x → places to ≡ set (places cur) x j
        → Closing from to gone (j + 1) (k + 1)
    gap_keep placed within known h vals ords pls = record {
      keeping = subst (λ (os : List ℕ). FiltersInPlace (λ x. not (bit gone x)) (orders from) os (j + 1) (k + 1)) (sym ords) (FiltersInPlace-more_set closing.keeping below (not_from_false _ h) read);
      values = λ z. vals z ∙ dropped_kept from cur gone k x room_from unmoved h closing.values z;
      placed = λ i l. go i l (cases_eq i j);
    }
      where
        go : (i : ℕ) → i < j + 1 → (i ≡ j) ⊎ (i ≡ j → ⊥) → get_or (places to) (get_or (orders to) i 0) 0 ≡ i
        go i l (inl e) =
            let o : get_or (orders to) i 0 ≡ x = ap (λ os. get_or os i 0) ords ∙ ap (λ n. get_or (set (orders cur) j x) n 0) e ∙ get_or-set_same (orders cur) j x 0 (omega (arith, closing.keeping.behind, below)) in
            ap (λ z. get_or (places to) z 0) o ∙ ap (λ ps. get_or ps x 0) pls ∙ get_or-set_same (places cur) x j 0 (omega (arith, length-map cur (λ c. c.place))) ∙ sym e
        go i l (inr d) =
            let m : i < j = omega arith in
            let o : get_or (orders to) i 0 ≡ get_or (orders cur) i 0 = ap (λ os. get_or os i 0) ords ∙ get_or-set_other (orders cur) j i x 0 d in
            ap (λ z. get_or (places to) z 0) o ∙ ap (λ ps. get_or ps (get_or (orders cur) i 0) 0) pls ∙ get_or-set_other (places cur) x (get_or (orders cur) i 0) j 0 (apart placed within i m) ∙ closing.placed i m

-- one more row of the loop that strikes
pub struck_more : (os from cur to gone : List ℕ) (w k y : ℕ) → k < length os → y ≡ get_or os k 0
    → ((x z : ℕ) → x < 64 * w → linked w cur x z ≡ (linked w from x z && not (has (take k os) z && bit gone x)))
    → ((x z : ℕ) → x < 64 * w → linked w to x z ≡ (linked w cur x z && not (eqb z y && bit gone x)))
    → (x z : ℕ) → x < 64 * w → linked w to x z ≡ (linked w from x z && not (has (take (k + 1) os) z && bit gone x))
struck_more os from cur to gone w k y room is old new x z h =
    new x z h ∙ ap (λ t. t && not (eqb z y && bit gone x)) (old x z h) ∙ mix (linked w from x z) (has (take k os) z) (eqb z y) (bit gone x)
    ∙ ap (λ t. linked w from x z && not (t && bit gone x)) (sym (ap (λ l. has l z) (take_more os k 0 room) ∙ has_push (take k os) (get_or os k 0) z ∙ ap (λ n. has (take k os) z || eqb z n) (sym is)))
  where
    mix : (a b c d : Bool) → ((a && not (b && d)) && not (c && d)) ≡ (a && not ((b || c) && d))
    mix false b c d = refl
    mix true true c true = refl
    mix true true true false = refl
    mix true true false false = refl
    mix true false c d = refl

-- what stands in the next place is an unknown
pub next_inside : {V : Type 0} (from cur : List (Cell V)) (gone : List ℕ) (j k count : ℕ) (d : Cell V) → Closing from cur gone j k → length cur ≡ length from → count ≤ length from
    → ((n : ℕ) → n < count → get_or (orders from) n 0 < length from) → k < count → (get_or cur k d).order < length cur
next_inside from cur gone j k count d closing same few inside within =
    let room : k < length cur = omega arith in
    inside_still from gone cur cur j k _ count closing same room (orders_get_or cur k d room) inside within
