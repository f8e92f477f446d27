-- Values, orders and places in cells.
use Rattle.std.proofs.Common.{◌≡◌, ℕ, zero, suc, ◌+◌, ◌*◌, ◌<◌, ◌≤◌, true, cond, eqb, ◌⊎◌, List, [], ◌∷◌, length, get_or, set, None, sym, refl, ap, ◌∙◌, inl, inr, arith}
use Rattle.std.proofs.lemmas.Bool.{cases_eq, eq-eqb, ne_eqb}
use Rattle.std.proofs.lemmas.List.{map-set, set-get_or, length-set, length-map}
use Rattle.std.specs.Map.{update}
use Rattle.equations.proofs.Updates.{update_at}
use Rattle.memory.specs.declared.cell.Cell.{Cell}
use Rattle.equations.specs.Runs.{has}
use Rattle.memory.specs.Layout.{stored, orders, places}
use Rattle.memory.proofs.Lists.{has_item}

pub stored_get_or : {V : Type 0} (cells : List (Cell V)) (x : ℕ) (d : Cell V) → x < length cells → stored cells x ≡ (get_or cells x d).value
stored_get_or [] x d h = absurd (omega arith)
stored_get_or (c ∷ cs) zero d h = refl
stored_get_or (c ∷ cs) (suc x) d h = stored_get_or cs x d (omega arith)

pub stored_past : {V : Type 0} (cells : List (Cell V)) (x : ℕ) → length cells ≤ x → stored cells x ≡ None
stored_past [] x h = refl
stored_past (c ∷ cs) zero h = absurd (omega arith)
stored_past (c ∷ cs) (suc x) h = stored_past cs x (omega arith)

stored_here : {V : Type 0} (cells : List (Cell V)) (x : ℕ) (c : Cell V) → x < length cells → stored (set cells x c) x ≡ c.value
stored_here [] x c h = absurd (omega arith)
stored_here (d ∷ cs) zero c h = refl
stored_here (d ∷ cs) (suc x) c h = stored_here cs x c (omega arith)

stored_apart : {V : Type 0} (cells : List (Cell V)) (x z : ℕ) (c : Cell V) → (z ≡ x → ⊥) → stored (set cells x c) z ≡ stored cells z
stored_apart [] x z c d = refl
stored_apart (e ∷ cs) zero zero c d = absurd (d refl)
stored_apart (e ∷ cs) zero (suc z) c d = refl
stored_apart (e ∷ cs) (suc x) zero c d = refl
stored_apart (e ∷ cs) (suc x) (suc z) c d = stored_apart cs x z c (λ p. d (ap suc p))

pub stored_set : {V : Type 0} (cells : List (Cell V)) (x : ℕ) (c : Cell V) → x < length cells → (z : ℕ) → stored (set cells x c) z ≡ update eqb (stored cells) x c.value z
stored_set cells x c h z = go (cases_eq z x) ∙ sym (update_at (stored cells) x c.value z)
  where
    go : (z ≡ x) ⊎ (z ≡ x → ⊥) → stored (set cells x c) z ≡ cond (eqb z x) c.value (stored cells z)
    go (inl e) = rw (e, eq-eqb x x refl) (stored_here cells x c h)
    go (inr d) = rw (ne_eqb z x d) (stored_apart cells x z c d)

pub stored_same : {V : Type 0} (cells : List (Cell V)) (x : ℕ) (c : Cell V) → x < length cells → c.value ≡ stored cells x → (z : ℕ) → stored (set cells x c) z ≡ stored cells z
stored_same cells x c h e z = stored_set cells x c h z ∙ update_at (stored cells) x c.value z ∙ go (cases_eq z x)
  where
    go : (z ≡ x) ⊎ (z ≡ x → ⊥) → cond (eqb z x) c.value (stored cells z) ≡ stored cells z
    go (inl f) = rw (f, eq-eqb x x refl) e
    go (inr d) = rw (ne_eqb z x d)

pub orders_set : {V : Type 0} (cells : List (Cell V)) (x : ℕ) (c : Cell V) → orders (set cells x c) ≡ set (orders cells) x c.order
orders_set cells x c = map-set (λ c. c.order) cells x c

pub orders_get_or : {V : Type 0} (cells : List (Cell V)) (x : ℕ) (d : Cell V) → x < length cells → (get_or cells x d).order ≡ get_or (orders cells) x 0
orders_get_or [] x d h = absurd (omega arith)
orders_get_or (c ∷ cs) zero d h = refl
orders_get_or (c ∷ cs) (suc x) d h = orders_get_or cs x d (omega arith)

pub read_order : {V : Type 0} (cells : List (Cell V)) (x : ℕ) (c : Cell V) → c ≡ get_or cells x c → x < length cells → c.order ≡ get_or (orders cells) x 0
read_order {V} cells x c is h = ap (λ (d : Cell V). d.order) is ∙ orders_get_or cells x c h

-- the row of what a cell names
pub row_at : {V : Type 0} (cells : List (Cell V)) (w size k : ℕ) (c : Cell V) → ((y : ℕ) → has (orders cells) y ≡ true → y * w + w ≤ size) → c ≡ get_or cells k c → k < length cells
    → (k < length (orders cells)) × (c.order ≡ get_or (orders cells) k 0) × (c.order * w + w ≤ size)
row_at cells w size k c rows is h =
    let m : k < length (orders cells) = omega (arith, h, length-map cells (λ c. c.order)) in
    let y = read_order cells k c is h in
    (m, y, rows c.order (rw y (has_item (orders cells) k m)))

pub orders_same : {V : Type 0} (cells : List (Cell V)) (x : ℕ) (c : Cell V) → c.order ≡ get_or (orders cells) x 0 → orders (set cells x c) ≡ orders cells
orders_same cells x c e = orders_set cells x c ∙ ap (set (orders cells) x) e ∙ set-get_or (orders cells) x 0

pub places_set : {V : Type 0} (cells : List (Cell V)) (x : ℕ) (c : Cell V) → places (set cells x c) ≡ set (places cells) x c.place
places_set cells x c = map-set (λ c. c.place) cells x c

pub places_get_or : {V : Type 0} (cells : List (Cell V)) (x : ℕ) (d : Cell V) → x < length cells → (get_or cells x d).place ≡ get_or (places cells) x 0
places_get_or [] x d h = absurd (omega arith)
places_get_or (c ∷ cs) zero d h = refl
places_get_or (c ∷ cs) (suc x) d h = places_get_or cs x d (omega arith)

pub places_same : {V : Type 0} (cells : List (Cell V)) (x : ℕ) (c : Cell V) → c.place ≡ get_or (places cells) x 0 → places (set cells x c) ≡ places cells
places_same cells x c e = places_set cells x c ∙ ap (set (places cells) x) e ∙ set-get_or (places cells) x 0

-- a write keeps the length
pub set_inside : {V : Type 0} (cells : List (Cell V)) (k x : ℕ) (c : Cell V) → x < length cells → x < length (set cells k c)
set_inside cells k x c h = rw (length-set cells k c) h
