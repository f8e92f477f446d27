-- What an edit removes can be found: the set of touched unknowns grows by those that have read one of its members, until it stays.
use Rattle.std.proofs.Common.{◌≡◌, ℕ, zero, suc, ◌+◌, ◌<◌, ◌≤◌, Bool, true, false, ◌&&◌, ◌||◌, ◌⊎◌, refl, ◌∙◌, inl, inr, ⊎_elim, arith}
use mathlib.Core.Bool.{false≢true}
use Rattle.std.proofs.Math.Bool.{or_self_left}
use Rattle.std.proofs.lemmas.Bool.{or_cases, or_left, or_right, and_parts, and_from, cases_eq}
use Rattle.lattice.specs.Sets.{count_of}
use Rattle.lattice.specs.Words.{more_count, count_few}
use Rattle.equations.specs.Systems.{System}
use Rattle.equations.specs.Listings.{listed}
use Rattle.equations.specs.Notebook.{Notebook}
use Rattle.equations.specs.Removals.{Leads, Leads.here, Leads.by, Reads, Removed, without}
use Rattle.equations.specs.Invariant.{Valid}

-- whether a number below n passes
abbrev any : (ℕ → Bool) → ℕ → Bool
any test zero = false
any test (suc n) = test n || any test n

any_true : (test : ℕ → Bool) (n : ℕ) → any test n ≡ true → (y : ℕ) × (test y ≡ true)
any_true test zero h = absurd (false≢true h)
any_true test (suc n) h = ⊎_elim (λ t. (n, t)) (any_true test n) (or_cases (test n) (any test n) h)

any_from : (test : ℕ → Bool) (n y : ℕ) → y < n → test y ≡ true → any test n ≡ true
any_from test zero y l t = absurd (omega arith)
any_from test (suc n) y l t = go (cases_eq y n) (any_from test n y)
  where
    go : (y ≡ n) ⊎ (y ≡ n → ⊥) → (y < n → test y ≡ true → any test n ≡ true) → any test (suc n) ≡ true
    go (inl e) ih = or_left (test n) (any test n) (rw e at t)
    go (inr d) ih = or_right (test n) (any test n) (ih (omega arith) t)

module _ {V : Type 0} (E : System V) (N : Notebook V) (touched : ℕ → Bool) (valid : Valid E N) where
  -- what k rounds have found
  abbrev found : ℕ → ℕ → Bool
  found zero x = touched x
  found (suc k) x = found k x || any (λ y. N.reads x y && found k y) E.size

  found_leads : (k x : ℕ) → found k x ≡ true → Leads (Reads N) touched x
  found_leads zero x h = here h
  found_leads (suc k) x h = ⊎_elim (found_leads k x) (λ a. go (any_true _ E.size a) (λ y. found_leads k y)) (or_cases (found k x) _ h)
    where
      go : (y : ℕ) × ((N.reads x y && found k y) ≡ true) → ((y : ℕ) → found k y ≡ true → Leads (Reads N) touched y) → Leads (Reads N) touched x
      go (y, t) before = let p = and_parts (N.reads x y) (found k y) t in by p.0 (before y p.1)

  found_touched : (k x : ℕ) → touched x ≡ true → found k x ≡ true
  found_touched zero x h = h
  found_touched (suc k) x h = or_left (found k x) _ (found_touched k x h)

  -- a round that finds nothing more
  abbrev Stays : ℕ → Type 0
  Stays k = (x : ℕ) → x < E.size → found k x ≡ found (suc k) x

  rounds : (k : ℕ) → ((j : ℕ) × Stays j) ⊎ (k ≤ count_of (found k) E.size)
  rounds zero = inr (omega arith)
  rounds (suc k) = ⊎_elim inl more (rounds k)
    where
      more : k ≤ count_of (found k) E.size → ((j : ℕ) × Stays j) ⊎ (suc k ≤ count_of (found (suc k)) E.size)
      more h = ⊎_elim (λ s. inl (k, s)) (λ l. inr (omega arith)) (more_count (found k) (found (suc k)) E.size (λ x l. or_self_left (found k x) _))

  last : (j : ℕ) × Stays j
  last = ⊎_elim (λ s. s) (λ l. absurd (omega (arith, count_few (found (E.size + 1)) E.size))) (rounds (E.size + 1))

  found_all : (j : ℕ) → Stays j → (x : ℕ) → listed N.value x ≡ true → Leads (Reads N) touched x → found j x ≡ true
  found_all j stays x l (here t) = found_touched j x t
  found_all j stays x l (by {y = y} r c) =
      let m = (valid.between x y r).1 in
      stays x (valid.inside x l)
      ∙ or_right (found j x) _ (any_from _ E.size y (valid.inside y m) (and_from (N.reads x y) (found j y) r (found_all j stays y m c)))

  pub removed : (N' : Notebook V) × Removed N touched N'
  removed =
      let (j, stays) = last in
      (without (found j) N, record { gone = found j; exactly = record { only = λ x l. found_leads j x; all = found_all j stays }; left = refl })
