-- Settling a run keeps the notebook sound.
use Rattle.std.proofs.Common.{◌≡◌, ℕ, ◌<◌, Bool, true, false, cond, not, ◌&&◌, ◌||◌, eqb, ltb, ◌⊎◌, sym, refl, ap, ◌∙◌, subst, inl, inr, ⊎_elim}
use Rattle.std.proofs.lemmas.Bool.{or_cases, or_parts, or_left, or_right, and_parts, and_cases, and_from, eq-eqb, ne_eqb, eqb-true, both_ways, not_from_false, lt-ltb}
use Rattle.equations.specs.Systems.{System, Below}
use Rattle.equations.specs.Runs.{has, asked, answer}
use Rattle.equations.specs.Rules.{Lawful}
use Rattle.equations.specs.Listings.{Listing, listed, assign}
use Rattle.equations.specs.Notebook.{values}
use Rattle.equations.specs.Steps.{State, joined, rose, recorded, settle}
use Rattle.equations.specs.Invariant.{Sound, Settled, Witness, ReadClosed, CoversOn}
use Rattle.lattice.specs.Order.{below_trans, join_left, join_right, join_least, same_rank}
use Rattle.equations.proofs.Runs.{agrees}
use Rattle.equations.proofs.Updates.{at_each, listed_update, assign_here, assign_apart}

module _ {V : Type 0} (E : System V) (s : State V) (x : ℕ) where
  abbrev before : ℕ → V
  before = values E s.notebook

  abbrev after : ℕ → V
  after = values E (settle E x s).notebook

  pub listed_after : (z : ℕ) → listed (settle E x s).notebook.value z ≡ (eqb z x || listed s.notebook.value z)
  listed_after z = listed_update E s.notebook.value x (joined E x s) z

  pub at_x : after x ≡ joined E x s
  at_x = assign_here E s.notebook.value x (joined E x s)

  pub apart : (z : ℕ) → (z ≡ x → ⊥) → after z ≡ before z
  apart = assign_apart E s.notebook.value x (joined E x s)

  module _ (law : Lawful E) (entry : listed s.notebook.value x ≡ true) where
    same_listed : (z : ℕ) → listed (settle E x s).notebook.value z ≡ listed s.notebook.value z
    same_listed z = listed_after z ∙ go (eqb z x) refl
      where
        go : (b : Bool) → eqb z x ≡ b → (b || listed s.notebook.value z) ≡ listed s.notebook.value z
        go true e = sym (ap (listed s.notebook.value) (eqb-true z x e) ∙ entry)
        go false e = refl

    up : (z : ℕ) → Below E (before z) (after z)
    up = at_each (λ z. Below E (before z) (after z)) x (rw at_x (join_left law.lattice _ _)) (λ z d. rw (apart z d) (law.lattice.idempotent _))

    -- x reads all that its run asked for
    reads_x : (y : ℕ) → has (asked E x before) y ≡ true → recorded E x s x y ≡ true
    reads_x y h = or_right (s.notebook.reads x y) _ (and_from (eqb x x) _ (eq-eqb x x refl) h)

    -- a value did not change if x is not read
    unread : (z : ℕ) → z < E.size → (settle E x s).waiting z ≡ false → ((y : ℕ) → has (asked E z before) y ≡ true → recorded E x s z y ≡ true)
        → (y : ℕ) → has (asked E z before) y ≡ true → after y ≡ before y
    unread z inside w r = at_each (λ y. has (asked E z before) y ≡ true → after y ≡ before y) x
        (λ h. at_x ∙ same_rank law.lattice _ _ (quiet (and_cases (rose E x s) (ltb z E.size && recorded E x s z x) (or_parts _ _ w).0) (and_from (ltb z E.size) _ (lt-ltb z E.size inside) (r x h))))
        (λ y d h. apart y d)
      where
        quiet : (rose E x s ≡ false) ⊎ ((ltb z E.size && recorded E x s z x) ≡ false) → (ltb z E.size && recorded E x s z x) ≡ true → rose E x s ≡ false
        quiet (inl e) t = e
        quiet (inr e) t = absurd (both_ways _ e t)

    module _ (sound : Sound E s.notebook s.waiting) where
      known : x < E.size
      known = sound.inside x entry

      -- an entry other than x that does not wait after the step did not wait before it
      idle : (z : ℕ) → (z ≡ x → ⊥) → (settle E x s).waiting z ≡ false → s.waiting z ≡ false
      idle z d w = ⊎_elim (λ e. absurd (both_ways _ e (not_from_false _ (ne_eqb z x d)))) (λ e. e) (and_cases (not (eqb z x)) (s.waiting z) (or_parts _ _ w).1)

      all_recorded : (z : ℕ) → listed s.notebook.value z ≡ true → (settle E x s).waiting z ≡ false → (y : ℕ) → has (asked E z before) y ≡ true → recorded E x s z y ≡ true
      all_recorded = at_each (λ z. listed s.notebook.value z ≡ true → (settle E x s).waiting z ≡ false → (y : ℕ) → has (asked E z before) y ≡ true → recorded E x s z y ≡ true) x
          (λ l w. reads_x)
          (λ z d l w y h. or_left (s.notebook.reads z y) _ ((sound.settled z l (idle z d w)).recorded y h))

      covered : (z : ℕ) → listed s.notebook.value z ≡ true → (settle E x s).waiting z ≡ false → Below E (answer E z before) (after z)
      covered = at_each (λ z. listed s.notebook.value z ≡ true → (settle E x s).waiting z ≡ false → Below E (answer E z before) (after z)) x
          (λ l w. rw at_x (join_right law.lattice _ _))
          (λ z d l w. rw (apart z d) (sound.settled z l (idle z d w)).covers)

      settled : (z : ℕ) → listed s.notebook.value z ≡ true → (settle E x s).waiting z ≡ false → Settled E (settle E x s).notebook z
      settled z l w =
          let same = agrees E z before after (unread z (sound.inside z l) w (all_recorded z l w)) in
          record {
            recorded = λ y h. all_recorded z l w y (rw same.0 at h);
            covers = rw same.1 (covered z l w);
          }

      rises : (z : ℕ) → listed s.notebook.value z ≡ true → Below E (answer E z before) (answer E z after)
      rises z l = law.monotone z (sound.inside z l) before after up

      under : (z : ℕ) → listed s.notebook.value z ≡ true → Below E (after z) (answer E z after)
      under = at_each (λ z. listed s.notebook.value z ≡ true → Below E (after z) (answer E z after)) x
          (λ l. rw at_x (join_least law.lattice _ _ _ (below_trans law.lattice _ _ _ (sound.under x l) (rises x l)) (rises x l)))
          (λ z d l. rw (apart z d) (below_trans law.lattice _ _ _ (sound.under z l) (rises z l)))

      module _ (S : ℕ → Bool) (L : Listing V) (closed : ReadClosed (settle E x s).notebook S) (covers : CoversOn E S L) where
        lowest_before : (z : ℕ) → S z ≡ true → listed L z ≡ true → Below E (before z) (assign E L z)
        lowest_before = sound.lowest S L (λ a b i r. closed a b i (or_left _ _ r)) covers

        -- the notebook on S, and the listing over that
        abbrev on_set : ℕ → V
        on_set z = cond (S z) (before z) E.kind.bottom

        abbrev over : ℕ → V
        over z = cond (listed L z) (assign E L z) (on_set z)

        on_set_over : (z : ℕ) → Below E (on_set z) (over z)
        on_set_over z = go (S z) refl (listed L z) refl
          where
            go : (i : Bool) → S z ≡ i → (l : Bool) → listed L z ≡ l → Below E (cond i (before z) E.kind.bottom) (cond l (assign E L z) (cond i (before z) E.kind.bottom))
            go i p false q = law.lattice.idempotent _
            go true p true q = lowest_before z p q
            go false p true q = law.lattice.least _

        answer_low : S x ≡ true → listed L x ≡ true → Below E (answer E x before) (assign E L x)
        answer_low i l =
            let p = (agrees E x before on_set (λ y h. rw (closed x y i (reads_x y h)))).1 in
            let q = (agrees E x (assign E L) over (λ y h. rw ((covers x i l).closed y h))).1 in
            let m = law.monotone x known on_set over on_set_over in
            below_trans law.lattice _ _ _ (rw (p, q) at m) (covers x i l).covers

        lowest : (z : ℕ) → S z ≡ true → listed L z ≡ true → Below E (after z) (assign E L z)
        lowest = at_each (λ z. S z ≡ true → listed L z ≡ true → Below E (after z) (assign E L z)) x
            (λ i l. rw at_x (join_least law.lattice _ _ _ (lowest_before x i l) (answer_low i l)))
            (λ z d i l. rw (apart z d) (lowest_before z i l))

      witness : (a b : ℕ) → (s.notebook.reads a b ≡ true) ⊎ ((eqb a x && has (asked E x before) b) ≡ true) → Witness E (settle E x s).notebook a b
      witness a b (inl r) =
          let w = sound.witness a b r in
          record {
            at = w.at;
            low = λ z h. below_trans law.lattice _ _ _ (w.low z h) (up z);
            within = λ z h. or_left _ _ (w.within z h);
            read = w.read;
          }
      witness a b (inr r) =
          let p = and_parts (eqb a x) (has (asked E x before) b) r in
          subst (λ (z : ℕ). Witness E (settle E x s).notebook z b) (sym (eqb-true a x p.0))
          (record { at = before; low = λ z h. up z; within = reads_x; read = p.1 })

      between : (found : (y : ℕ) → has (asked E x before) y ≡ true → listed s.notebook.value y ≡ true)
          → (a b : ℕ) → (s.notebook.reads a b ≡ true) ⊎ ((eqb a x && has (asked E x before) b) ≡ true)
          → (listed s.notebook.value a ≡ true) × (listed s.notebook.value b ≡ true)
      between found a b (inl r) = sound.between a b r
      between found a b (inr r) =
          let p = and_parts (eqb a x) (has (asked E x before) b) r in
          (rw (eqb-true a x p.0) entry, found b p.1)

      pub settle_sound : (found : (y : ℕ) → has (asked E x before) y ≡ true → listed s.notebook.value y ≡ true) → Sound E (settle E x s).notebook (settle E x s).waiting
      settle_sound found = record {
        inside = λ z h. sound.inside z (sym (same_listed z) ∙ h);
        entered = λ z. sound.entered z ∙ sym (same_listed z);
        once = sound.once;
        between = λ a b h. let p = between found a b (or_cases _ _ h) in (same_listed a ∙ p.0, same_listed b ∙ p.1);
        under = λ z h. under z (sym (same_listed z) ∙ h);
        settled = λ z h w. settled z (sym (same_listed z) ∙ h) w;
        lowest = lowest;
        witness = λ a b h. witness a b (or_cases _ _ h);
      }
