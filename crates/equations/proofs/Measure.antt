-- The measure of a state falls with each step.
use Rattle.std.proofs.Common.{◌≡◌, ℕ, zero, suc, ◌+◌, ◌-◌, ◌*◌, ◌<◌, ◌≤◌, Bool, true, false, cond, not, ◌||◌, eqb, ltb, ◌⊎◌, Some, None, Option, sym, refl, ap, ◌∙◌, inl, inr, ⊎_elim, le_of_eq, le_refl, mul-le-mul_right, add-mul, arith}
use Rattle.std.proofs.lemmas.Bool.{cases_eq, cases_Bool, or_left, or_from, and_left, eq-eqb, ne_eqb, ltb-true, not_from_true, false≢true, eqb-true, or_cases, and_parts}
use Rattle.lattice.specs.Kinds.{height_limit}
use Rattle.equations.specs.Systems.{System}
use Rattle.equations.specs.Runs.{asked}
use Rattle.equations.specs.Rules.{Lawful}
use Rattle.equations.specs.Listings.{listed}
use Rattle.equations.specs.Notebook.{Notebook, values}
use Rattle.equations.specs.Steps.{State, missing, start, Step, Step.miss, Step.settles, Steps, Steps.done, Steps.then, Ask, latest, enter, settle, joined, rose}
use Rattle.equations.specs.Measure.{weight, total, measure}
use Rattle.equations.specs.Invariant.{Ready}
use Rattle.lattice.specs.Order.{same_rank}
use Rattle.equations.proofs.Lists.{first_passes}
use Rattle.equations.proofs.Updates.{at_each, listed_update}
use Rattle.equations.proofs.Settle.{listed_after, at_x, apart}
use Rattle.equations.proofs.Runs.{asked_inside}
use Rattle.equations.proofs.Asks.{next_step, missing_unlisted}

total_le : (f g : ℕ → ℕ) (n : ℕ) → ((i : ℕ) → f i ≤ g i) → total f n ≤ total g n
total_le f g zero h = omega arith
total_le f g (suc n) h = omega (arith, total_le f g n h, h n)

total_less : (f g : ℕ → ℕ) (n x k : ℕ) → ((i : ℕ) → f i ≤ g i) → f x + k ≤ g x → x < n → total f n + k ≤ total g n
total_less f g zero x k h d l = omega arith
total_less f g (suc n) x k h d l = go (cases_eq x n) (total_less f g n x k h d)
  where
    go : (x ≡ n) ⊎ (x ≡ n → ⊥) → (x < n → total f n + k ≤ total g n) → total f (suc n) + k ≤ total g (suc n)
    go (inl e) ih = let d' : f n + k ≤ g n = rw e at d in omega (arith, total_le f g n h)
    go (inr a) ih = omega (arith, h n)

total_suc : (f : ℕ → ℕ) (n : ℕ) → total (λ i. f i + 1) n ≡ total f n + n
total_suc f zero = refl
total_suc f (suc n) = omega (arith, total_suc f n)

-- the weight of an unknown: whether it is listed, the rank of its value, and whether it waits
abbrev weigh : ℕ → Bool → ℕ → Bool → ℕ
weigh k l r w = cond l ((height_limit - r) * k + cond w 1 0) (height_limit * k + 2)

flag : (w : Bool) → cond w 1 0 ≤ 1
flag true = omega arith
flag false = omega arith

unlisted_more : (k r : ℕ) (w : Bool) → weigh k true r w + 1 ≤ height_limit * k + 2
unlisted_more k r w =
    let d : height_limit - r ≤ height_limit = omega arith in
    omega (arith, flag w, mul-le-mul_right k d)

higher_less : (k r r' : ℕ) (w w' : Bool) → r < r' → r' ≤ height_limit → weigh k true r' w' + k ≤ weigh k true r w + 1
higher_less k r r' w w' a b =
    let d : (height_limit - r') + 1 ≤ height_limit - r = omega arith in
    omega (arith, flag w', mul-le-mul_right k d, add-mul (height_limit - r') 1 k)

woken : (k r : ℕ) (l w w' : Bool) → weigh k l r w' ≤ weigh k l r w + 1
woken k r true w w' = omega (arith, flag w')
woken k r false w w' = omega arith

module _ {V : Type 0} (E : System V) where
  abbrev k : ℕ
  k = E.size + 1

  enter_falls : (s : State V) (y : ℕ) → listed s.notebook.value y ≡ false → y < E.size → measure E (enter E y s) < measure E s
  enter_falls s y fresh known =
      let t = enter E y s in
      let there : listed t.notebook.value y ≡ true = listed_update E s.notebook.value y _ y ∙ or_left (eqb y y) _ (eq-eqb y y refl) in
      let f : weight E t y ≡ weigh k true (E.kind.rank (values E t.notebook y)) (t.waiting y) = ap (λ l. weigh k l (E.kind.rank (values E t.notebook y)) (t.waiting y)) there in
      let g : weight E s y ≡ height_limit * k + 2 = ap (λ l. weigh k l (E.kind.rank (values E s.notebook y)) (s.waiting y)) fresh in
      let less : weight E t y + 1 ≤ weight E s y = rw (f, g) (unlisted_more k _ _) in
      let others : (i : ℕ) → weight E t i ≤ weight E s i = at_each (λ i. weight E t i ≤ weight E s i) y (omega arith) (λ i d. rw (ne_eqb i y d, ne_eqb y i (λ e. d (sym e))) (le_refl _)) in
      omega (arith, total_less (weight E t) (weight E s) E.size y 1 others less known)

  module _ (law : Lawful E) (s : State V) (x : ℕ) (wait : s.waiting x ≡ true) (known : x < E.size) where
    abbrev t : State V
    t = settle E x s

    abbrev rank_x : ℕ
    rank_x = E.kind.rank (values E s.notebook x)

    -- the weight of x before and after
    before_x : weigh k true rank_x true ≤ weight E s x
    before_x = go (listed s.notebook.value x) refl
      where
        go : (l : Bool) → listed s.notebook.value x ≡ l → weigh k true rank_x true ≤ weight E s x
        go true e = le_of_eq (sym (λ j. weigh k (e j) rank_x (wait j)))
        go false e =
            let q : weight E s x ≡ height_limit * k + 2 = ap (λ l. weigh k l rank_x (s.waiting x)) e in
            omega (arith, unlisted_more k rank_x true, q)

    after_x : (v : V) (w : Bool) → joined E x s ≡ v → t.waiting x ≡ w → weight E t x ≡ weigh k true (E.kind.rank v) w
    after_x v w e f =
        let there : listed t.notebook.value x ≡ true = listed_after E s x x ∙ or_left (eqb x x) _ (eq-eqb x x refl) in
        let value = at_x E s x ∙ e in
        λ j. weigh k (there j) (E.kind.rank (value j)) (f j)

    -- the weight of an unknown other than x
    other : (i : ℕ) → (i ≡ x → ⊥) → (w : Bool) → t.waiting i ≡ w → weight E t i ≡ weigh k (listed s.notebook.value i) (E.kind.rank (values E s.notebook i)) w
    other i d w f =
        let there : listed t.notebook.value i ≡ listed s.notebook.value i = listed_after E s x i ∙ ap (λ b. b || listed s.notebook.value i) (ne_eqb i x d) in
        let value = apart E s x i d in
        λ j. weigh k (there j) (E.kind.rank (value j)) (f j)

    quiet : rose E x s ≡ false → measure E t < measure E s
    quiet q =
        let still : t.waiting x ≡ false = or_from _ _ (and_left (rose E x s) _ q) (and_left (not (eqb x x)) _ (not_from_true _ (eq-eqb x x refl))) in
        let now : weight E t x ≡ weigh k true rank_x false = after_x _ false (same_rank law.lattice _ _ q) still in
        let less : weight E t x + 1 ≤ weight E s x = omega (arith, now, before_x) in
        let others : (i : ℕ) → weight E t i ≤ weight E s i = at_each (λ i. weight E t i ≤ weight E s i) x (omega arith)
        (λ i d. le_of_eq (other i d (s.waiting i) (rw (q, ne_eqb i x d)))) in
        omega (arith, total_less (weight E t) (weight E s) E.size x 1 others less known)

    risen : rose E x s ≡ true → measure E t < measure E s
    risen r =
        let up : rank_x < E.kind.rank (joined E x s) = ltb-true _ _ r in
        let now : weight E t x ≡ weigh k true (E.kind.rank (joined E x s)) (t.waiting x) = after_x _ (t.waiting x) refl refl in
        let less : weight E t x + k ≤ weight E s x + 1 = omega (arith, now, before_x, higher_less k rank_x _ true (t.waiting x) up (law.lattice.height _)) in
        let others : (i : ℕ) → weight E t i ≤ weight E s i + 1 = at_each (λ i. weight E t i ≤ weight E s i + 1) x (omega arith)
        (λ i d. rw (other i d (t.waiting i) refl) (woken k _ _ (s.waiting i) (t.waiting i))) in
        omega (arith, total_less (weight E t) (λ i. weight E s i + 1) E.size x k others less known, total_suc (weight E s) E.size)

    settle_falls : measure E t < measure E s
    settle_falls = ⊎_elim risen quiet (cases_Bool (rose E x s))

  waits : (s : State V) {x : ℕ} → latest s ≡ Some x → s.waiting x ≡ true
  waits s {x} p = (first_passes s.waiting s.notebook.entries x p).0

  missing_inside : Lawful E → (s : State V) → Ready E s → {x : ℕ} → latest s ≡ Some x → {y : ℕ} → missing E s x ≡ Some y → y < E.size
  missing_inside law s ready {x} p {y} q =
      asked_inside E law x (ready x (waits s p)) (values E s.notebook) y (first_passes _ (asked E x (values E s.notebook)) y q).1

  pub falls : Lawful E → (s : State V) {t : State V} → Ready E s → Step E s t → measure E t < measure E s
  falls law s ready (miss {x = x} {y = y} p q) = enter_falls s y (missing_unlisted E s x q) (missing_inside law s ready p q)
  falls law s ready (settles {x = x} p q) = settle_falls law s x (waits s p) (ready x (waits s p))

  enter_ready : (s : State V) (y : ℕ) → Ready E s → y < E.size → Ready E (enter E y s)
  enter_ready s y ready known x w = ⊎_elim (λ e. rw (eqb-true x y e) known) (ready x) (or_cases (eqb x y) (s.waiting x) w)

  pub step_ready : Lawful E → (s : State V) {t : State V} → Ready E s → Step E s t → Ready E t
  step_ready law s ready (miss {x = x} {y = y} p q) = enter_ready s y ready (missing_inside law s ready p q)
  step_ready law s ready (settles {x = x} p q) = λ z w.
      ⊎_elim (λ e. ltb-true z E.size (and_parts (ltb z E.size) _ (and_parts (rose E x s) _ e).1).0)
      (λ e. ready z (and_parts (not (eqb z x)) _ e).1) (or_cases _ _ w)

  pub start_ready : (N : Notebook V) (q : ℕ) → q < E.size → Ready E (start E N q)
  start_ready N q known = enter_ready (record { notebook = N; waiting = λ z. false }) q (λ x h. absurd (false≢true h)) known

  pub steps_ready : Lawful E → (s : State V) {t : State V} → Ready E s → Steps E s t → Ready E t
  steps_ready law s ready done = ready
  steps_ready law s ready (then {t = t} a b) = step_ready law t (steps_ready law s ready a) b

  -- so steps lead to a state in which no entry waits
  module _ (law : Lawful E) (from : State V) where
    abbrev Ends : Type 0
    Ends = (t : State V) × Steps E from t × (latest t ≡ None)

    go_on : (k : ℕ) (s : State V) → Ready E s → Steps E from s → measure E s ≤ k
        → ((t : State V) → Ready E t → Steps E from t → measure E t < k → Ends) → (o : Option ℕ) → latest s ≡ o → Ends
    go_on k s sound steps m ih None p = (s, steps, p)
    go_on k s sound steps m ih (Some x) p =
        let (t, step) = next_step E s x p in
        ih t (step_ready law s sound step) (then steps step) (omega (arith, falls law s sound step))

    pub ends : (k : ℕ) (s : State V) → Ready E s → Steps E from s → measure E s ≤ k → Ends
    ends zero s sound steps m = go_on 0 s sound steps m (λ t so st l. absurd (omega arith)) (latest s) refl
    ends (suc k) s sound steps m = go_on (suc k) s sound steps m (λ t so st l. ends k t so st (omega arith)) (latest s) refl

  -- so an ask has a result
  pub ask_ends : Lawful E → (N : Notebook V) (q : ℕ) → q < E.size → listed N.value q ≡ false → (N' : Notebook V) × Ask E N q N'
  ask_ends law N q known fresh =
      let (t, steps, ended) = ends law (start E N q) (measure E (start E N q)) (start E N q) (start_ready N q known) done (le_refl _) in
      (t.notebook, record { unknown = known; unlisted = fresh; waiting = t.waiting; steps = steps; ended = ended })
