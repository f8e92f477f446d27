-- What the invariant gives: a valid notebook is least and a solution, and so its values do not depend on its past.
use Rattle.std.proofs.Common.{◌≡◌, ℕ, true, is_some, Some, unwrap_or, sym, refl, ap, ◌∙◌, subst}
use mathlib.Core.Bool.{false≢true}
use Rattle.lattice.specs.Order.{below_antisym}
use Rattle.equations.specs.Systems.{System, Below}
use Rattle.equations.specs.Runs.{answer}
use Rattle.equations.specs.Rules.{Lawful}
use Rattle.equations.specs.Listings.{Listing, listed, assign, Closed, Covers, Least, Solution}
use Rattle.equations.specs.Notebook.{Notebook, empty, values}
use Rattle.equations.specs.Invariant.{Valid, Covered}
use Rattle.equations.proofs.Updates.{listed_value}

module _ {V : Type 0} (E : System V) where
  pub empty_valid : Lawful E → Valid E empty
  empty_valid law = record {
    inside = λ x h. absurd (false≢true h);
    entered = λ x. refl;
    once = tt;
    between = λ x y h. absurd (false≢true h);
    under = λ x h. absurd (false≢true h);
    settled = λ x h w. absurd (false≢true h);
    lowest = λ S L c d x i l. law.lattice.least _;
    witness = λ x y h. absurd (false≢true h);
  }

  -- a listed value is what a run is given
  given : (L : Listing V) (x : ℕ) (v : V) → L x ≡ Some v → assign E L x ≡ v
  given L x v e = ap (λ o. unwrap_or o E.kind.bottom) e

  covered : (L : Listing V) → Closed E L → Covers E L → (x : ℕ) → listed L x ≡ true → Covered E L x
  covered L closed covers x l = record { closed = closed x l; covers = covers x (assign E L x) (listed_value (L x) E.kind.bottom l) }

  -- the set of all entries is closed under reads
  pub valid_least : (N : Notebook V) → Valid E N → Least E N.value
  valid_least N valid M closed covers x v w p q =
      let low = valid.lowest (listed N.value) M (λ a b i r. (valid.between a b r).1) (λ z i. covered M closed covers z) x (ap is_some p) (ap is_some q) in
      rw (given N.value x v p, given M x w q) at low

  pub valid_solved : Lawful E → (N : Notebook V) → Valid E N → Solution E N.value
  valid_solved law N valid = record {
    closed = λ x l y h. (valid.between x y ((valid.settled x l refl).recorded y h)).1;
    equal = λ x v e.
        let l : listed N.value x ≡ true = ap is_some e in
        sym (given N.value x v e) ∙ below_antisym law.lattice (values E N x) (answer E x (values E N)) (valid.under x l) (valid.settled x l refl).covers;
  }

  -- a solution covers its right-hand sides
  solution_covers : Lawful E → (L : Listing V) → Solution E L → Covers E L
  solution_covers law L solution x v e = subst (λ (w : V). Below E w v) (solution.equal x v e) (law.lattice.idempotent v)

  pub same_values : Lawful E → (N N' : Notebook V) → Valid E N → Valid E N' → (x : ℕ) (v v' : V) → N.value x ≡ Some v → N'.value x ≡ Some v' → v ≡ v'
  same_values law N N' valid valid' x v v' p p' =
      let solved = valid_solved law N valid in
      let solved' = valid_solved law N' valid' in
      below_antisym law.lattice v v'
      (valid_least N valid N'.value solved'.closed (solution_covers law N'.value solved') x v v' p p')
      (valid_least N' valid' N.value solved.closed (solution_covers law N.value solved) x v' v p' p)
