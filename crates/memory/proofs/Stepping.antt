-- The step that the code makes is a step of an ask.
use Rattle.std.proofs.Common.{◌≡◌, ℕ, ◌*◌, ◌<◌, ◌≤◌, Bool, true, false, cond, not, ◌&&◌, ◌||◌, eqb, ltb, List, length, get_or, is_some, Some, None, Option, unwrap_or, sym, refl, ap, ◌∙◌, subst}
use Rattle.std.proofs.lemmas.Bool.{and_parts, and_from, eqb-true, ltb-true, lt-ltb, le-ltb, not-false, not-true, true≢false}
use Rattle.std.proofs.Math.Bool.{or_comm}
use Rattle.equations.proofs.Updates.{update_at}
use Rattle.equations.specs.Systems.{System}
use Rattle.equations.specs.Runs.{has, asked, answer}
use Rattle.equations.specs.Listings.{Listing, listed, assign}
use Rattle.equations.specs.Notebook.{Notebook, values}
use Rattle.equations.specs.Steps.{State, Step, Step.settles, first, rose, settle}
use Rattle.equations.proofs.Lists.{first_passes, first_none}
use Rattle.equations.proofs.Bridge.{same_state}
use Rattle.memory.specs.declared.cell.Cell.{Cell}
use Rattle.memory.specs.declared.entries.Entries.{Entries}
use Rattle.memory.specs.Bits.{bit}
use Rattle.memory.specs.Layout.{stored, orders, places, linked, width, Clean}
use Rattle.memory.specs.Contents.{contents, reads_in, state, waits, Waiting, with_answer}
use Rattle.memory.specs.Runs.{lacking}
use Rattle.memory.proofs.Bools.{both_or_none}
use Rattle.memory.proofs.Shape.{inside, in_row, cleaned}
use Rattle.memory.proofs.Places.{listed_at, late, quiet_waits, risen_waits}

module _ {V : Type 0} (E : System V) (N N' : Notebook V) (w w' : ℕ → Bool) (x : ℕ) (late : first w N.entries ≡ Some x) where
  abbrev s : State V
  s = record { notebook = N; waiting = w }

  abbrev t : State V
  t = record { notebook = N'; waiting = w' }

  -- the run answers
  module _ (v : V) (ys : List ℕ) (full : lacking E N.value x ≡ None) (asks : asked E x (values E N) ≡ ys)
      (e : N' ≡ with_answer x v ys N) (join : v ≡ E.kind.join (values E N x) (answer E x (values E N))) where
    settled : N' ≡ (settle E x s).notebook
    settled = e ∙ (λ i. with_answer x (join i) (sym asks i) N)

    to_step : ((z : ℕ) → w' z ≡ (settle E x s).waiting z) → Step E s t
    to_step wait = subst (λ (u : State V). Step E s u) (sym (same_state t (settle E x s) settled wait)) (settles late full)

    rose_is : (b : Bool) → ltb (E.kind.rank (values E N x)) (E.kind.rank v) ≡ b → rose E x s ≡ b
    rose_is b h = ap (λ u. ltb (E.kind.rank (values E N x)) (E.kind.rank u)) (sym join) ∙ h

    pub quiet : E.kind.rank v ≤ E.kind.rank (values E N x) → ((z : ℕ) → w' z ≡ (not (eqb z x) && w z)) → Step E s t
    quiet h wait = to_step (λ z. wait z
        ∙ sym (ap (λ r. (r && (ltb z E.size && (settle E x s).notebook.reads z x)) || (not (eqb z x) && w z)) (rose_is false (le-ltb _ _ h))))

    pub risen : E.kind.rank (values E N x) < E.kind.rank v → ((z : ℕ) → w' z ≡ ((not (eqb z x) && w z) || (ltb z E.size && N'.reads z x))) → Step E s t
    risen h wait = to_step (λ z. wait z
        ∙ or_comm (not (eqb z x) && w z) (ltb z E.size && N'.reads z x)
        ∙ ap (λ (M : Notebook V). (ltb z E.size && M.reads z x) || (not (eqb z x) && w z)) settled
        ∙ sym (ap (λ r. (r && (ltb z E.size && (settle E x s).notebook.reads z x)) || (not (eqb z x) && w z)) (rose_is true (lt-ltb _ _ h))))

-- the row of x has the readers of x
pub readers_in : {V : Type 0} (cells : List (Cell V)) (links : List ℕ) → Clean cells links → (w x z : ℕ) → w ≡ width (length cells) → is_some (stored cells x) ≡ true
    → (ltb z (64 * w) && linked w links z x) ≡ reads_in cells links z x
readers_in cells links clean w x z ew entry = ap (λ m. ltb z (64 * m) && linked m links z x) ew ∙ both_or_none _ _ there back
  where
    there : (ltb z (64 * width (length cells)) && linked (width (length cells)) links z x) ≡ true → reads_in cells links z x ≡ true
    there h =
        let p = and_parts (ltb z (64 * width (length cells))) _ h in
        and_from _ _ (cleaned cells links clean z x (ltb-true z (64 * width (length cells)) p.0) entry p.1) (and_from _ _ entry p.1)

    back : reads_in cells links z x ≡ true → (ltb z (64 * width (length cells)) && linked (width (length cells)) links z x) ≡ true
    back r =
        let p = and_parts (is_some (stored cells z)) _ r in
        and_from _ _ (lt-ltb z (64 * width (length cells)) (in_row (length cells) z (inside cells z p.0))) (and_parts (is_some (stored cells x)) _ p.1).1

-- what a run that lacks nothing, and one that lacks y, says of the listing
pub found_all : {V : Type 0} (E : System V) (L : Listing V) (x : ℕ) (ys : List ℕ) → lacking E L x ≡ None → asked E x (assign E L) ≡ ys → (y : ℕ) → has ys y ≡ true → is_some (L y) ≡ true
found_all E L x ys full asks y h = not-false _ (first_none (λ z. not (listed L z)) (asked E x (assign E L)) full y (ap (λ l. has l y) asks ∙ h))

pub unlisted_at : {V : Type 0} (E : System V) (L : Listing V) (x y : ℕ) → lacking E L x ≡ Some y → L y ≡ None
unlisted_at E L x y lack = go (L y) (not-true _ (first_passes (λ z. not (listed L z)) (asked E x (assign E L)) y lack).0)
  where
    go : {A : Type 0} (o : Option A) → is_some o ≡ false → o ≡ None
    go None h = refl
    go (Some a) h = absurd (true≢false h)

-- the value that an answer is joined to
pub joined : {V : Type 0} (E : System V) (L : Listing V) (x : ℕ) (o : Option V) (old new v : V) → o ≡ L x → o ≡ Some old
    → new ≡ E.kind.join old v → answer E x (assign E L) ≡ v → (old ≡ assign E L x) × (new ≡ E.kind.join (assign E L x) (answer E x (assign E L)))
joined E L x o old new v eo el en ev =
    let e : old ≡ assign E L x = ap (λ p. unwrap_or p E.kind.bottom) (sym el ∙ eo) in
    (e, en ∙ ap (λ u. E.kind.join u v) e ∙ ap (E.kind.join (assign E L x)) (sym ev))

-- an answer lists nothing new
pub same_listed : {V : Type 0} (N N' : Notebook V) (x : ℕ) (v : V) (ys : List ℕ) → is_some (N.value x) ≡ true → N' ≡ with_answer x v ys N → (z : ℕ) → is_some (N'.value z) ≡ is_some (N.value z)
same_listed {V} N N' x v ys entry e z = ap (λ (M : Notebook V). is_some (M.value z)) e ∙ ap is_some (update_at N.value x (Some v) z) ∙ go (eqb z x) refl
  where
    go : (t : Bool) → eqb z x ≡ t → is_some (cond t (Some v) (N.value z)) ≡ is_some (N.value z)
    go true q = sym (ap (λ k. is_some (N.value k)) (eqb-true z x q) ∙ entry)
    go false q = refl

-- the entry in place p is the waiting entry that was entered last, and it is x
pub record Taken {V : Type 0} (b : Entries V) (words : List ℕ) (n p x : ℕ) : Type 0 where
  pub within : p < b.count
  pub is : x ≡ get_or (orders b.cells.now) p 0
  pub late : first (waits b.cells.now words) (contents b).entries ≡ Some x
  pub listed : is_some (stored b.cells.now x) ≡ true
  pub below : x < n

-- x has answered: the value `old` has become v, and x no longer waits
pub record Answered {V : Type 0} (E : System V) (b b' : Entries V) (words words' : List ℕ) (n x : ℕ) (old v : V) : Type 0 where
  pub listed : is_some (stored b'.cells.now x) ≡ true
  pub quiet : E.kind.rank v ≤ E.kind.rank old → Step E (state b words) (state b' words')
  -- its value rose, and its readers wait
  pub risen : (words'' : List ℕ) → E.kind.rank old < E.kind.rank v
      → ((z : ℕ) → is_some (stored b'.cells.now z) ≡ true
      → bit words'' (get_or (places b'.cells.now) z 0) ≡ (bit words' (get_or (places b'.cells.now) z 0) || (ltb z n && (contents b').reads z x)))
      → Step E (state b words) (state b' words'')

module _ {V : Type 0} (b : Entries V) (words : List ℕ) (n : ℕ) (waiting : Waiting n b.cells.now b.count words) where
  pub taken : (p x : ℕ) → bit words p ≡ true → ((k : ℕ) → p < k → bit words k ≡ false) → x ≡ get_or (orders b.cells.now) p 0 → Taken b words n p x
  taken p x wait last is =
      let w = waiting p wait in
      record {
        within = w.0;
        is = is;
        late = late b.cells.now b.count b.room.2 b.listed b.placed words p w.0 wait last ∙ ap (λ z. Some z) (sym is);
        listed = ap (λ z. is_some (stored b.cells.now z)) is ∙ listed_at b.cells.now b.count b.room.2 b.listed b.placed p w.0;
        below = rw is w.1;
      }

  module _ (E : System V) (en : n ≡ E.size) (b' : Entries V) (words' : List ℕ) (p x : ℕ) (t : Taken b words n p x) where
    pub answered : (old v : V) (ys : List ℕ) → lacking E (contents b).value x ≡ None → asked E x (values E (contents b)) ≡ ys
        → contents b' ≡ with_answer x v ys (contents b) → orders b'.cells.now ≡ orders b.cells.now → places b'.cells.now ≡ places b.cells.now
        → (old ≡ values E (contents b) x) × (v ≡ E.kind.join (values E (contents b) x) (answer E x (values E (contents b))))
        → ((j : ℕ) → bit words' j ≡ (not (eqb j p) && bit words j)) → Answered E b b' words words' n x old v
    answered old v ys full asks e ords pls (was, join) bits = record {
      listed = same x ∙ t.listed;
      quiet = λ h. quiet E (contents b) (contents b') (waits b.cells.now words) (waits b'.cells.now words') x t.late v ys full asks e join (rw (sym was) h)
          (quiet_waits b.cells.now b.count b.room.2 b.listed b.placed b'.cells.now words words' p x t.within t.is same pls bits);
      risen = λ words'' h roused. risen E (contents b) (contents b') (waits b.cells.now words) (waits b'.cells.now words'') x t.late v ys full asks e join (rw (sym was) h)
          (λ z. risen_waits b.cells.now b.count b.room.2 b.listed b.placed b'.cells.now words words' p x t.within t.is same pls bits words''
          (λ y. ltb y n && (contents b').reads y x) roused (λ y w. (and_parts (is_some (stored b'.cells.now y)) _ (and_parts (ltb y n) _ w).1).0) z
          ∙ ap (λ m. (not (eqb z x) && waits b.cells.now words z) || (ltb z m && (contents b').reads z x)) en);
    }
      where
        same : (z : ℕ) → is_some (stored b'.cells.now z) ≡ is_some (stored b.cells.now z)
        same = same_listed (contents b) (contents b') x v ys t.listed e
