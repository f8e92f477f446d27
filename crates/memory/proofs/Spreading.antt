-- The loop that finds all entries from which a chain of reads leads to a set.
use Rattle.std.proofs.Common.{◌≡◌, ℕ, zero, suc, ◌+◌, ◌<◌, ◌≤◌, Bool, true, false, cond, not, ◌&&◌, ◌||◌, eqb, ◌⊎◌, is_some, sym, refl, ap, ◌∙◌, subst, inl, inr, ⊎_elim, arith}
use Rattle.std.proofs.lemmas.Bool.{cases_eq, cases_Bool, both_ways, and_parts, and_from, and_left, and_right, or_left, or_right, or_cases, or_parts, or_from, eq-eqb, ne_eqb, not_from_true, not_from_false, false≢true}
use Rattle.equations.specs.Listings.{listed}
use Rattle.equations.specs.Notebook.{Notebook}
use Rattle.equations.specs.Removals.{Leads, Leads.here, Leads.by, Reads}
use Rattle.memory.specs.Layout.{stored}
use Rattle.memory.specs.Spread.{Spread}
use Rattle.memory.specs.declared.entries.Entries.{Entries}
use Rattle.memory.specs.Contents.{contents}

-- what holds in the loop
pub record Spreading {V : Type 0} (N : Notebook V) (from pending set : ℕ → Bool) : Type 0 where
  pub entries : (z : ℕ) → set z ≡ true → listed N.value z ≡ true
  pub base : (z : ℕ) → from z ≡ true → set z ≡ true
  pub only : (z : ℕ) → set z ≡ true → Leads (Reads N) from z
  pub inside : (z : ℕ) → pending z ≡ true → set z ≡ true
  pub closed : (x y : ℕ) → set y ≡ true → pending y ≡ false → N.reads x y ≡ true → set x ≡ true

-- how much is left
abbrev pub left_at : (ℕ → Bool) → (ℕ → Bool) → ℕ → ℕ
left_at pending set z = cond (set z) (cond (pending z) 1 0) 2

abbrev pub left : (ℕ → Bool) → (ℕ → Bool) → ℕ → ℕ
left pending set zero = 0
left pending set (suc n) = left pending set n + left_at pending set n

left_le : (p s p' s' : ℕ → Bool) (n : ℕ) → ((z : ℕ) → left_at p' s' z ≤ left_at p s z) → left p' s' n ≤ left p s n
left_le p s p' s' zero h = omega arith
left_le p s p' s' (suc n) h = omega (arith, left_le p s p' s' n h, h n)

left_less : (p s p' s' : ℕ → Bool) (n y : ℕ) → y < n → ((z : ℕ) → left_at p' s' z ≤ left_at p s z) → left_at p' s' y < left_at p s y → left p' s' n < left p s n
left_less p s p' s' zero y l h d = absurd (omega arith)
left_less p s p' s' (suc n) y l h d = go (cases_eq y n) (left_less p s p' s' n y)
  where
    go : (y ≡ n) ⊎ (y ≡ n → ⊥) → (y < n → ((z : ℕ) → left_at p' s' z ≤ left_at p s z) → left_at p' s' y < left_at p s y → left p' s' n < left p s n) → left p' s' (suc n) < left p s (suc n)
    go (inl e) ih = let d' : left_at p' s' n < left_at p s n = subst (λ (k : ℕ). left_at p' s' k < left_at p s k) e d in omega (arith, left_le p s p' s' n h)
    go (inr a) ih = omega (arith, ih (omega arith) h d, h n)

module _ {V : Type 0} (N : Notebook V) (between : (x y : ℕ) → N.reads x y ≡ true → listed N.value x ≡ true) where
  pub spreading_none : (from pending : ℕ → Bool) → ((z : ℕ) → from z ≡ true → listed N.value z ≡ true) → ((z : ℕ) → pending z ≡ from z) → Spreading N from pending from
  spreading_none from pending entries same = record {
    entries = entries;
    base = λ z h. h;
    only = λ z h. here h;
    inside = λ z h. sym (same z) ∙ h;
    closed = λ x y s p r. absurd (both_ways (from y) (sym (same y) ∙ p) s);
  }

  pub spread_all : (from pending set : ℕ → Bool) → Spreading N from pending set → ((z : ℕ) → pending z ≡ false) → Spread N from set
  spread_all from pending set spreading idle = record {
    entries = spreading.entries;
    base = spreading.base;
    only = spreading.only;
    closed = λ x y r s. spreading.closed x y s (idle y) r;
  }

  module _ (from pending set pending' set' : ℕ → Bool) (y : ℕ) (spreading : Spreading N from pending set) (picked : pending y ≡ true)
      (ep : (z : ℕ) → pending' z ≡ ((not (eqb z y) && pending z) || (N.reads z y && not (set z))))
      (es : (z : ℕ) → set' z ≡ (set z || (N.reads z y && not (set z)))) where
    has_y : set y ≡ true
    has_y = spreading.inside y picked

    in_set' : (z : ℕ) → set' z ≡ true → (set z ≡ true) ⊎ (N.reads z y ≡ true)
    in_set' z h = ⊎_elim inl (λ e. inr (and_parts (N.reads z y) _ e).0) (or_cases (set z) _ (sym (es z) ∙ h))

    keeps : (z : ℕ) → set z ≡ true → set' z ≡ true
    keeps z h = es z ∙ or_left (set z) _ h

    adds : (z : ℕ) → N.reads z y ≡ true → set' z ≡ true
    adds z r = es z ∙ ⊎_elim (λ e. or_left (set z) _ e) (λ e. or_right (set z) _ (and_from _ _ r (not_from_false _ e))) (cases_Bool (set z))

    spreading_more : Spreading N from pending' set'
    spreading_more = record {
      entries = λ z h. ⊎_elim (spreading.entries z) (λ r. between z y r) (in_set' z h);
      base = λ z h. keeps z (spreading.base z h);
      only = λ z h. ⊎_elim (spreading.only z) (λ r. by r (spreading.only y has_y)) (in_set' z h);
      inside = λ z h. ⊎_elim (λ e. keeps z (spreading.inside z (and_parts (not (eqb z y)) _ e).1)) (λ e. adds z (and_parts (N.reads z y) _ e).0) (or_cases _ _ (sym (ep z) ∙ h));
      closed = λ x z s p r. close x z s (or_parts _ _ (sym (ep z) ∙ p)) r (cases_eq z y);
    }
      where
        close : (x z : ℕ) → set' z ≡ true → ((not (eqb z y) && pending z) ≡ false) × ((N.reads z y && not (set z)) ≡ false) → N.reads x z ≡ true → (z ≡ y) ⊎ (z ≡ y → ⊥) → set' x ≡ true
        close x z s p r (inl e) = adds x (ap (λ k. N.reads x k) (sym e) ∙ r)
        close x z s p r (inr d) =
            let idle : pending z ≡ false = sym (ap (λ t. not t && pending z) (ne_eqb z y d)) ∙ p.0 in
            let old : set z ≡ true = ⊎_elim (λ e. e) (λ e. absurd (both_ways _ p.1 e)) (or_cases (set z) _ (sym (es z) ∙ s)) in
            keeps x (spreading.closed x z old idle r)

    -- each entry has no more left, and y has less
    at_most : (z : ℕ) → left_at pending' set' z ≤ left_at pending set z
    at_most z = go (set z) refl (cases_eq z y)
      where
        flag : (b c : Bool) → (b ≡ true → c ≡ true) → cond b 1 0 ≤ cond c 1 0
        flag true true h = omega arith
        flag true false h = absurd (false≢true (h refl))
        flag false c h = omega arith

        two : (a b : Bool) → cond a (cond b 1 0) 2 ≤ 2
        two true true = omega arith
        two true false = omega arith
        two false b = omega arith

        go : (s : Bool) → set z ≡ s → (z ≡ y) ⊎ (z ≡ y → ⊥) → left_at pending' set' z ≤ cond s (cond (pending z) 1 0) 2
        go false e q = two (set' z) (pending' z)
        go true e q =
            rw (keeps z e) (flag (pending' z) (pending z) (λ h. ⊎_elim (λ t. (and_parts (not (eqb z y)) _ t).1)
            (λ t. absurd (both_ways _ (not_from_true _ e) (and_parts (N.reads z y) _ t).1)) (or_cases _ _ (sym (ep z) ∙ h))))

    done_y : pending' y ≡ false
    done_y = ep y ∙ or_from _ _ (and_left _ _ (not_from_true _ (eq-eqb y y refl))) (and_right (N.reads y y) _ (not_from_true _ has_y))

    less_y : left_at pending' set' y < left_at pending set y
    less_y = rw (keeps y has_y, done_y, has_y, picked) (omega arith)

    -- the set still spreads, and less is left
    pub spreading_turn : Spreading N from pending' set' × ((n : ℕ) → y < n → left pending' set' n < left pending set n)
    spreading_turn = (spreading_more, λ n h. left_less pending set pending' set' n y h at_most less_y)

pub read_by : {V : Type 0} (b : Entries V) (x y : ℕ) → (contents b).reads x y ≡ true → listed (contents b).value x ≡ true
read_by b x y r = (and_parts (is_some (stored b.cells.now x)) _ r).0
