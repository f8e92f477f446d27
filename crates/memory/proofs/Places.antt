-- The places of entries, and who waits.
use Rattle.std.proofs.Common.{◌≡◌, ℕ, zero, suc, ◌+◌, ◌<◌, ◌≤◌, Bool, true, false, cond, not, ◌&&◌, ◌||◌, eqb, ◌⊎◌, List, [], ◌∷◌, reverse, length, get_or, take, set, is_some, Some, None, sym, refl, ap, ◌∙◌, inl, inr, arith}
use Rattle.std.proofs.lemmas.List.{take_more, reverse-append, length-map, get_or-set_same, get_or-set_other}
use Rattle.std.proofs.lemmas.Bool.{cases_eq, cases_Bool, both_ways, and_parts, and_from, and_left, and_right, or_left, or_from, eq-eqb, ne_eqb, eqb-true, lt-ltb}
use Rattle.std.specs.Map.{update}
use Rattle.equations.proofs.Updates.{update_at}
use Rattle.equations.specs.Steps.{first}
use Rattle.memory.specs.declared.cell.Cell.{Cell}
use Rattle.memory.specs.Bits.{bit}
use Rattle.memory.specs.Layout.{stored, orders, places, entered, Listed, Placed}
use Rattle.memory.specs.Contents.{waits, Waiting}
use Rattle.memory.proofs.Bools.{implied}
use Rattle.memory.proofs.Lists.{has_at, has_place, has_reverse}

-- the last of the first places
last_place : (os : List ℕ) (c : ℕ) → c < length os → reverse (take (suc c) os) ≡ get_or os c 0 ∷ reverse (take c os)
last_place os c h =
    let e : suc c ≡ c + 1 = omega arith in
    ap (λ k. reverse (take k os)) e ∙ ap reverse (take_more os c 0 h) ∙ reverse-append (take c os) (get_or os c 0 ∷ [])

-- the last that passes, and none
last_at : (test : ℕ → Bool) (os : List ℕ) (p count : ℕ) → p < count → count ≤ length os → test (get_or os p 0) ≡ true
    → ((k : ℕ) → p < k → k < count → test (get_or os k 0) ≡ false) → first test (reverse (take count os)) ≡ Some (get_or os p 0)
last_at test os p zero h l passes idle = absurd (omega arith)
last_at test os p (suc c) h l passes idle = ap (first test) (last_place os c (omega arith)) ∙ go (cases_eq p c) (last_at test os p c)
  where
    go : (p ≡ c) ⊎ (p ≡ c → ⊥)
        → (p < c → c ≤ length os → test (get_or os p 0) ≡ true → ((k : ℕ) → p < k → k < c → test (get_or os k 0) ≡ false) → first test (reverse (take c os)) ≡ Some (get_or os p 0))
        → cond (test (get_or os c 0)) (Some (get_or os c 0)) (first test (reverse (take c os))) ≡ Some (get_or os p 0)
    go (inl e) ih = let t : test (get_or os c 0) ≡ true = rw (sym e) passes in rw (t, e)
    go (inr d) ih = rw (idle c (omega arith) (omega arith)) (ih (omega arith) (omega arith) passes (λ k a b. idle k a (omega arith)))

none_at : (test : ℕ → Bool) (os : List ℕ) (count : ℕ) → count ≤ length os → ((k : ℕ) → k < count → test (get_or os k 0) ≡ false) → first test (reverse (take count os)) ≡ None
none_at test os zero l idle = refl
none_at test os (suc c) l idle =
    ap (first test) (last_place os c (omega arith)) ∙ rw (idle c (omega arith)) (none_at test os c (omega arith) (λ k b. idle k (omega arith)))

module _ {V : Type 0} (cells : List (Cell V)) (count : ℕ) (room : count ≤ length cells) (listed : Listed cells count) (placed : Placed cells count) where
  abbrev order : ℕ → ℕ
  order k = get_or (orders cells) k 0

  abbrev place : ℕ → ℕ
  place z = get_or (places cells) z 0

  many : count ≤ length (orders cells)
  many = omega (arith, length-map cells (λ c. c.order))

  pub place_at : (k : ℕ) → k < count → place (order k) ≡ k
  place_at k h = eqb-true (place (order k)) k (implied _ _ (placed k) (lt-ltb k count h))

  pub listed_at : (k : ℕ) → k < count → is_some (stored cells (order k)) ≡ true
  listed_at k h = sym (listed.1 (order k)) ∙ has_reverse (take count (orders cells)) (order k) ∙ has_at (orders cells) k count h many

  pub place_of : (z : ℕ) → is_some (stored cells z) ≡ true → (place z < count) × (order (place z) ≡ z)
  place_of z l =
      let (k, h, e) = has_place (orders cells) count z (sym (has_reverse (take count (orders cells)) z) ∙ listed.1 z ∙ l) in
      let p : place z ≡ k = ap place (sym e) ∙ place_at k h in
      (rw p h, ap order p ∙ e)

  pub same_place : (y z : ℕ) → is_some (stored cells y) ≡ true → is_some (stored cells z) ≡ true → eqb (place y) (place z) ≡ eqb y z
  same_place y z ly lz = go (cases_eq y z)
    where
      go : (y ≡ z) ⊎ (y ≡ z → ⊥) → eqb (place y) (place z) ≡ eqb y z
      go (inl e) = eq-eqb (place y) (place z) (ap place e) ∙ sym (eq-eqb y z e)
      go (inr d) = ne_eqb (place y) (place z) (λ q. d (sym (place_of y ly).1 ∙ ap order q ∙ (place_of z lz).1)) ∙ sym (ne_eqb y z d)

  waits_at : (words : List ℕ) (k : ℕ) → k < count → waits cells words (order k) ≡ bit words k
  waits_at words k h = ap (λ t. t && bit words (place (order k))) (listed_at k h) ∙ ap (bit words) (place_at k h)

  -- the waiting entry that was entered last
  pub late : (words : List ℕ) (p : ℕ) → p < count → bit words p ≡ true → ((k : ℕ) → p < k → bit words k ≡ false) → first (waits cells words) (entered cells count) ≡ Some (order p)
  late words p h t idle = last_at (waits cells words) (orders cells) p count h many (waits_at words p h ∙ t) (λ k a b. waits_at words k b ∙ idle k a)

  pub none_late : (words : List ℕ) → ((k : ℕ) → bit words k ≡ false) → first (waits cells words) (entered cells count) ≡ None
  none_late words idle = none_at (waits cells words) (orders cells) count many (λ k b. waits_at words k b ∙ idle k)

  -- only unknowns below n wait
  pub waits_below : (n : ℕ) (words : List ℕ) → Waiting n cells count words → (z : ℕ) → waits cells words z ≡ true → z < n
  waits_below n words waiting z w =
      let p = and_parts (is_some (stored cells z)) _ w in
      rw (place_of z p.0).1 at (waiting (place z) p.1).1

  -- a new entry in the next place
  module _ (cells' : List (Cell V)) (words words' : List ℕ) (y : ℕ) (b : V) (known : y < length cells)
      (vals : (z : ℕ) → stored cells' z ≡ update eqb (stored cells) y (Some b) z) (pls : places cells' ≡ set (places cells) y count)
      (bits : (j : ℕ) → bit words' j ≡ (eqb j count || bit words j)) where
    pub enter_waits : (z : ℕ) → waits cells' words' z ≡ (eqb z y || waits cells words z)
    enter_waits z = go (cases_eq z y)
      where
        rest : (is_some (stored cells z) ≡ true) ⊎ (is_some (stored cells z) ≡ false)
            → (is_some (stored cells z) && (eqb (place z) count || bit words (place z))) ≡ (is_some (stored cells z) && bit words (place z))
        rest (inl l) = ap (λ t. is_some (stored cells z) && (t || bit words (place z))) (ne_eqb (place z) count (λ e. omega (arith, (place_of z l).0, e)))
        rest (inr l) = and_left _ _ l ∙ sym (and_left _ _ l)

        go : (z ≡ y) ⊎ (z ≡ y → ⊥) → waits cells' words' z ≡ (eqb z y || waits cells words z)
        go (inl e) =
            let s : is_some (stored cells' z) ≡ true = ap is_some (vals z ∙ update_at (stored cells) y (Some b) z) ∙ ap (λ t. is_some (cond t (Some b) (stored cells z))) (eq-eqb z y e) in
            let q : get_or (places cells') z 0 ≡ count =
            ap (λ l. get_or l z 0) pls ∙ ap (λ k. get_or (set (places cells) y count) k 0) e ∙ get_or-set_same (places cells) y count 0 (omega (arith, length-map cells (λ c. c.place))) in
            and_from _ _ s (ap (bit words') q ∙ bits count ∙ or_left (eqb count count) _ (eq-eqb count count refl)) ∙ sym (or_left (eqb z y) _ (eq-eqb z y e))
        go (inr d) =
            let s : stored cells' z ≡ stored cells z = vals z ∙ update_at (stored cells) y (Some b) z ∙ ap (λ t. cond t (Some b) (stored cells z)) (ne_eqb z y d) in
            let q : get_or (places cells') z 0 ≡ place z = ap (λ l. get_or l z 0) pls ∙ get_or-set_other (places cells) y z count 0 d in
            ap (λ o. is_some o && bit words' (get_or (places cells') z 0)) s
            ∙ ap (λ k. is_some (stored cells z) && bit words' k) q
            ∙ ap (λ t. is_some (stored cells z) && t) (bits (place z))
            ∙ rest (cases_Bool (is_some (stored cells z)))
            ∙ sym (ap (λ t. t || waits cells words z) (ne_eqb z y d))

  -- the entry x, in place p, stops waiting
  module _ (cells' : List (Cell V)) (words words' : List ℕ) (p x : ℕ) (within : p < count) (is : x ≡ order p)
      (same : (z : ℕ) → is_some (stored cells' z) ≡ is_some (stored cells z)) (pls : places cells' ≡ places cells)
      (bits : (j : ℕ) → bit words' j ≡ (not (eqb j p) && bit words j)) where
    pub quiet_waits : (z : ℕ) → waits cells' words' z ≡ (not (eqb z x) && waits cells words z)
    quiet_waits z =
        ap (λ t. t && bit words' (get_or (places cells') z 0)) (same z)
        ∙ ap (λ l. is_some (stored cells z) && bit words' (get_or l z 0)) pls
        ∙ ap (λ t. is_some (stored cells z) && t) (bits (place z))
        ∙ go (cases_Bool (is_some (stored cells z)))
      where
        x_listed : is_some (stored cells x) ≡ true
        x_listed = ap (λ k. is_some (stored cells k)) is ∙ listed_at p within

        x_place : place x ≡ p
        x_place = ap place is ∙ place_at p within

        go : (is_some (stored cells z) ≡ true) ⊎ (is_some (stored cells z) ≡ false)
            → (is_some (stored cells z) && (not (eqb (place z) p) && bit words (place z))) ≡ (not (eqb z x) && (is_some (stored cells z) && bit words (place z)))
        go (inl l) =
            let e : eqb (place z) p ≡ eqb z x = ap (eqb (place z)) (sym x_place) ∙ same_place z x l x_listed in
            rw (l, e)
        go (inr l) = rw l (sym (and_right (not (eqb z x)) false refl))

    -- and its readers wait
    pub risen_waits : (words'' : List ℕ) (wakes : ℕ → Bool)
        → ((z : ℕ) → is_some (stored cells' z) ≡ true → bit words'' (get_or (places cells') z 0) ≡ (bit words' (get_or (places cells') z 0) || wakes z))
        → ((z : ℕ) → wakes z ≡ true → is_some (stored cells' z) ≡ true)
        → (z : ℕ) → waits cells' words'' z ≡ ((not (eqb z x) && waits cells words z) || wakes z)
    risen_waits words'' wakes roused entries z = go (cases_Bool (is_some (stored cells' z))) ∙ ap (λ t. t || wakes z) (quiet_waits z)
      where
        go : (is_some (stored cells' z) ≡ true) ⊎ (is_some (stored cells' z) ≡ false) → waits cells' words'' z ≡ (waits cells' words' z || wakes z)
        go (inl l) = ap (λ t. t && bit words'' (get_or (places cells') z 0)) l ∙ roused z l ∙ ap (λ t. (t && bit words' (get_or (places cells') z 0)) || wakes z) (sym l)
        go (inr l) =
            let none : wakes z ≡ false = sleeps (cases_Bool (wakes z)) in
            and_left _ _ l ∙ sym (or_from _ _ (and_left _ _ l) none)
          where
            sleeps : (wakes z ≡ true) ⊎ (wakes z ≡ false) → wakes z ≡ false
            sleeps (inl w) = absurd (both_ways _ l (entries z w))
            sleeps (inr w) = w
