-- An edit keeps the notebook valid, and removes only what could have asked its way to a touched unknown.
use Rattle.std.proofs.Common.{◌≡◌, ℕ, ◌<◌, Bool, true, false, cond, not, ◌&&◌, ◌||◌, eqb, ◌⊎◌, List, [], ◌∷◌, is_some, None, filter, Option, sym, refl, ap, ◌∙◌, subst, inl, inr, ⊎_elim}
use mathlib.Core.Path.{fun_ext}
use Rattle.std.proofs.lemmas.Bool.{and_parts, and_from, and_right, cases_Bool, both_ways, not-true, not_from_false, eqb-true}
use Rattle.equations.specs.declared.Move.{Move}
use Rattle.lattice.specs.Kinds.{Kind}
use Rattle.equations.specs.Systems.{Meaning, System, Below, system}
use Rattle.equations.specs.Runs.{has, run, asked, answer}
use Rattle.equations.specs.Rules.{Lawful}
use Rattle.equations.specs.Listings.{Listing, listed, assign}
use Rattle.equations.specs.Notebook.{Notebook, values}
use Rattle.equations.specs.Edits.{Kept}
use Rattle.equations.specs.Removals.{Gone, Leads, Leads.here, Leads.by, Reads, without}
use Rattle.equations.specs.Chains.{MayAsk, ChainOfAsks, ChainOfAsks.itself, ChainOfAsks.onward}
use Rattle.equations.specs.Invariant.{Distinct, Valid, Witness, ReadClosed, CoversOn}
use Rattle.equations.proofs.Runs.{agrees}
use Rattle.equations.proofs.Updates.{unlisted_value}

-- a filtered list
has_kept : (gone : ℕ → Bool) (xs : List ℕ) (x : ℕ) → has (filter (λ y. not (gone y)) xs) x ≡ (not (gone x) && has xs x)
has_kept gone [] x = sym (and_right (not (gone x)) false refl)
has_kept gone (y ∷ ys) x = go (gone y) refl (eqb x y) refl (has_kept gone ys x)
  where
    go : (g : Bool) → gone y ≡ g → (b : Bool) → eqb x y ≡ b → has (filter (λ z. not (gone z)) ys) x ≡ (not (gone x) && has ys x)
        → has (cond (not g) (y ∷ filter (λ z. not (gone z)) ys) (filter (λ z. not (gone z)) ys)) x ≡ (not (gone x) && (b || has ys x))
    go true p false q ih = ih
    go true p true q ih = let r : gone x ≡ true = ap gone (eqb-true x y q) ∙ p in ih ∙ rw r
    go false p false q ih = rw q ih
    go false p true q ih = let r : gone x ≡ false = ap gone (eqb-true x y q) ∙ p in rw (q, r)

distinct_kept : (gone : ℕ → Bool) (xs : List ℕ) → Distinct xs → Distinct (filter (λ y. not (gone y)) xs)
distinct_kept gone [] d = d
distinct_kept gone (y ∷ ys) d = go (gone y) (distinct_kept gone ys d.1)
  where
    go : (g : Bool) → Distinct (filter (λ z. not (gone z)) ys) → Distinct (cond (not g) (y ∷ filter (λ z. not (gone z)) ys) (filter (λ z. not (gone z)) ys))
    go true ih = ih
    go false ih = (has_kept gone ys y ∙ and_right (not (gone y)) _ d.0, ih)

pub listed_cond : {V : Type 0} (g : Bool) (o : Option V) → is_some (cond g None o) ≡ (not g && is_some o)
listed_cond true o = refl
listed_cond false o = refl

module _ {V : Type 0} (E : System V) (moves : ℕ → List V → Move V) (touched : ℕ → Bool) (N : Notebook V) (gone : ℕ → Bool)
    (law : Lawful E) (valid : Valid E N) (untouched : (x : ℕ) → x < E.size → touched x ≡ false → (given : List V) → moves x given ≡ E.moves x given)
    (leads : Gone N touched gone) where
  -- the system after the edit
  abbrev E' : System V
  E' = record { kind = E.kind; size = E.size; moves = moves }

  abbrev N' : Notebook V
  N' = without gone N

  -- an entry that stays
  abbrev Stays : ℕ → Type 0
  Stays x = (gone x ≡ false) × (listed N.value x ≡ true)

  kept : (x : ℕ) → listed N'.value x ≡ true → Stays x
  kept x h = let p = and_parts (not (gone x)) _ (sym (listed_cond (gone x) (N.value x)) ∙ h) in (not-true _ p.0, p.1)

  stays : (x : ℕ) → Stays x → listed N'.value x ≡ true
  stays x k = listed_cond (gone x) (N.value x) ∙ and_from (not (gone x)) _ (not_from_false _ k.0) k.1

  kept_untouched : (x : ℕ) → Stays x → touched x ≡ false
  kept_untouched x k = ⊎_elim (λ t. absurd (both_ways (gone x) k.0 (leads.all x k.1 (here t)))) (λ e. e) (cases_Bool (touched x))

  kept_reads : (x y : ℕ) → Stays x → N.reads x y ≡ true → Stays y
  kept_reads x y k r =
      let l = (valid.between x y r).1 in
      (⊎_elim (λ g. absurd (both_ways (gone x) k.0 (leads.all x k.1 (by r (leads.only y l g))))) (λ e. e) (cases_Bool (gone y)), l)

  kept_value : (x : ℕ) → gone x ≡ false → values E' N' x ≡ values E N x
  kept_value x g = rw g

  reads_kept : (x y : ℕ) → N'.reads x y ≡ true → Stays x × (N.reads x y ≡ true)
  reads_kept x y h = let p = and_parts (not (gone x)) _ h in ((not-true _ p.0, (valid.between x y p.1).0), p.1)

  reads_stay : (x y : ℕ) → Stays x → N.reads x y ≡ true → N'.reads x y ≡ true
  reads_stay x y k r = and_from (not (gone x)) _ (not_from_false _ k.0) r

  same_run : (x : ℕ) (ρ : ℕ → V) → Stays x → (asked E' x ρ ≡ asked E x ρ) × (answer E' x ρ ≡ answer E x ρ)
  unfolding asked answer
  same_run x ρ k =
      let e : moves x ≡ E.moves x = fun_ext (untouched x (valid.inside x k.1) (kept_untouched x k)) in
      (ap (λ m. (run E.kind.bottom m ρ 1024 []).asked) e, ap (λ m. (run E.kind.bottom m ρ 1024 []).answer) e)

  unchanged : (x : ℕ) → Stays x → (asked E' x (values E' N') ≡ asked E x (values E N)) × (answer E' x (values E' N') ≡ answer E x (values E N))
  unchanged x k =
      let a = same_run x (values E' N') k in
      let b = agrees E x (values E N) (values E' N') (λ y h. kept_value y (kept_reads x y k ((valid.settled x k.1 refl).recorded y h)).0) in
      (a.0 ∙ b.0, a.1 ∙ b.1)

  module _ (S : ℕ → Bool) (L : Listing V) (closed : ReadClosed N' S) (covers : CoversOn E' S L) where
    -- the part of S that is kept
    abbrev part : ℕ → Bool
    part x = listed N'.value x && S x

    part_closed : ReadClosed N part
    part_closed x y i r =
        let p = and_parts _ (S x) i in
        let k = kept x p.0 in
        and_from _ _ (stays y (kept_reads x y k r)) (closed x y p.1 (reads_stay x y k r))

    part_covers : CoversOn E part L
    part_covers x i l =
        let p = and_parts _ (S x) i in
        let c = covers x p.1 l in
        let same = same_run x (assign E L) (kept x p.0) in
        record { closed = rw same.0 at c.closed; covers = rw same.1 at c.covers }

    lowest : (x : ℕ) → S x ≡ true → listed L x ≡ true → Below E (values E' N' x) (assign E L x)
    lowest x i l = go (cases_Bool (listed N'.value x))
      where
        go : (listed N'.value x ≡ true) ⊎ (listed N'.value x ≡ false) → Below E (values E' N' x) (assign E L x)
        go (inl h) = rw (kept_value x (kept x h).0) (valid.lowest part L part_closed part_covers x (and_from _ _ h i) l)
        go (inr h) = subst (λ (v : V). Below E v (assign E L x)) (sym (unlisted_value (N'.value x) E.kind.bottom h)) (law.lattice.least _)

  still_valid : Valid E' N'
  still_valid = record {
    inside = λ x h. valid.inside x (kept x h).1;
    entered = λ x. has_kept gone N.entries x ∙ ap (λ b. not (gone x) && b) (valid.entered x) ∙ sym (listed_cond (gone x) (N.value x));
    once = distinct_kept gone N.entries valid.once;
    between = λ a b h. let p = reads_kept a b h in (stays a p.0, stays b (kept_reads a b p.0 p.1));
    under = λ x h. let k = kept x h in rw (kept_value x k.0, (unchanged x k).1) (valid.under x k.1);
    settled = λ x h w.
        let k = kept x h in
        let old = valid.settled x k.1 refl in
        record {
          recorded = λ y r. reads_stay x y k (old.recorded y (rw (unchanged x k).0 at r));
          covers = rw (kept_value x k.0, (unchanged x k).1) old.covers;
        };
    lowest = lowest;
    witness = λ a b h.
        let (k, r) = reads_kept a b h in
        let w = valid.witness a b r in
        let same = (same_run a w.at k).0 in
        record {
          at = w.at;
          low = λ z i. let j = rw same at i in rw (kept_value z (kept_reads a z k (w.within z j)).0) (w.low z j);
          within = λ z i. reads_stay a z k (w.within z (rw same at i));
          read = rw same w.read;
        };
  }

-- an accepted edit that removes what it should keeps the notebook valid
pub edit_valid : {V : Type 0} (kind : Kind V) (m m' : Meaning V) (touched : ℕ → Bool) (N : Notebook V) (gone : ℕ → Bool)
    → Lawful (system kind m) → Valid (system kind m) N → Kept m m' touched → Gone N touched gone → Valid (system kind m') (without gone N)
edit_valid {V} kind m m' touched N gone law valid kept leads =
    let same : record { kind = kind; size = m.size; moves = m'.moves } ≡ system kind m' = λ i. record { kind = kind; size = sym kept.size i; moves = m'.moves } in
    subst (λ (E : System V). Valid E (without gone N)) same (still_valid (system kind m) m'.moves touched N gone law valid kept.untouched leads)

-- why a removed entry went
module _ {V : Type 0} (E : System V) (N : Notebook V) (touched : ℕ → Bool) (law : Lawful E) (valid : Valid E N) where
  may_ask : (x y : ℕ) → N.reads x y ≡ true → MayAsk E N x y
  may_ask x y r =
      let w = valid.witness x y r in
      let at : ℕ → V = λ z. cond (has (asked E x w.at) z) (w.at z) E.kind.bottom in
      let same = (agrees E x w.at at (λ z h. rw h)).0 in
      record {
        at = at;
        low = λ z l. low w z (has (asked E x w.at) z) refl;
        within = λ z h. (valid.between x z (w.within z (rw same at h))).1;
        asks = rw same w.read;
      }
    where
      low : (w : Witness E N x y) (z : ℕ) (b : Bool) → has (asked E x w.at) z ≡ b → Below E (cond b (w.at z) E.kind.bottom) (values E N z)
      low w z true e = w.low z e
      low w z false e = law.lattice.least _

  leads_on : (x : ℕ) → Leads (Reads N) touched x → Leads (MayAsk E N) touched x
  leads_on x (here t) = here t
  leads_on x (by {y = y} r l) = by (may_ask x y r) (leads_on y l)

  was_gone : (gone : ℕ → Bool) (x : ℕ) → listed N.value x ≡ true → listed (without gone N).value x ≡ false → gone x ≡ true
  was_gone gone x l h =
      ⊎_elim (λ g. g) (λ g. absurd (both_ways _ h (listed_cond (gone x) (N.value x) ∙ and_from (not (gone x)) _ (not_from_false _ g) l))) (cases_Bool (gone x))

  pub removed_leads : (gone : ℕ → Bool) → Gone N touched gone
      → (x : ℕ) → listed N.value x ≡ true → listed (without gone N).value x ≡ false → Leads (MayAsk E N) touched x
  removed_leads gone leads x l h = leads_on x (leads.only x l (was_gone gone x l h))

  -- the same as a chain of asks, from its first unknown on
  chain_on : (x y : ℕ) → ChainOfAsks E N x y → Leads (MayAsk E N) touched y → (t : ℕ) × ChainOfAsks E N x t × (touched t ≡ true)
  chain_on x y c (here t) = (y, c, t)
  chain_on x y c (by {y = z} a l) = chain_on x z (onward c a) l

  pub removed_chain : (gone : ℕ → Bool) → Gone N touched gone
      → (x : ℕ) → listed N.value x ≡ true → listed (without gone N).value x ≡ false → (t : ℕ) × ChainOfAsks E N x t × (touched t ≡ true)
  removed_chain gone leads x l h = chain_on x x (itself l) (removed_leads gone leads x l h)

-- an entry that is left keeps its value and reads
pub left_kept : {V : Type 0} (N : Notebook V) (gone : ℕ → Bool) (x : ℕ) → listed (without gone N).value x ≡ true
    → ((without gone N).value x ≡ N.value x) × ((y : ℕ) → (without gone N).reads x y ≡ N.reads x y)
left_kept N gone x h =
    let g : gone x ≡ false = not-true _ (and_parts (not (gone x)) _ (sym (listed_cond (gone x) (N.value x)) ∙ h)).0 in
    (rw g, λ y. rw g)
