-- The steps of an ask: they keep the notebook sound and its old entries, are determined, and go on while an entry waits.
use Rattle.std.proofs.Common.{◌≡◌, ℕ, ◌<◌, Bool, true, false, not, ◌||◌, eqb, ltb, ◌⊎◌, List, [], ◌∷◌, ◌++◌, Some, None, Option, sym, refl, ap, ◌∙◌, subst, inl, inr, ⊎_elim, append_assoc, arith}
use Rattle.std.proofs.Math.Bool.{or-false}
use Rattle.std.proofs.lemmas.Bool.{or_left, or_right, eq-eqb, or_from, and_left, and_right, ne_eqb, cases_Bool, both_ways, not-true, not-false}
use Rattle.std.proofs.lemmas.Map.{update_apart}
use Rattle.equations.specs.Systems.{System}
use Rattle.equations.specs.Runs.{has, asked}
use Rattle.equations.specs.Rules.{Lawful}
use Rattle.equations.specs.Listings.{listed}
use Rattle.equations.specs.Notebook.{Notebook, values, Keeps}
use Rattle.equations.specs.Steps.{State, Step, Step.miss, Step.settles, Steps, Steps.done, Steps.then, Ask, latest, missing, enter, settle, rose, recorded, start}
use Rattle.equations.specs.Invariant.{Sound, Valid}
use Rattle.equations.proofs.Lists.{first_passes, first_none}
use Rattle.equations.proofs.Runs.{asked_inside}
use Rattle.equations.proofs.Updates.{listed_update}
use Rattle.equations.proofs.Enter.{enter_sound}
use Rattle.equations.proofs.Settle.{settle_sound}

module _ {V : Type 0} (E : System V) where
  -- what the tests of a step say
  pub missing_unlisted : (s : State V) (x : ℕ) {y : ℕ} → missing E s x ≡ Some y → listed s.notebook.value y ≡ false
  missing_unlisted s x {y} q = not-true _ (first_passes _ (asked E x (values E s.notebook)) y q).0

  module _ (s : State V) (sound : Sound E s.notebook s.waiting) {x : ℕ} (p : latest s ≡ Some x) where
    pub latest_listed : listed s.notebook.value x ≡ true
    latest_listed = sym (sound.entered x) ∙ (first_passes s.waiting s.notebook.entries x p).1

    pub missing_inside : Lawful E → {y : ℕ} → missing E s x ≡ Some y → y < E.size
    missing_inside law {y} q =
        asked_inside E law x (sound.inside x latest_listed) (values E s.notebook) y (first_passes _ (asked E x (values E s.notebook)) y q).1

  pub step_sound : Lawful E → (s : State V) {t : State V} → Sound E s.notebook s.waiting → Step E s t → Sound E t.notebook t.waiting
  step_sound law s sound (miss {x = x} {y = y} p q) = enter_sound E law s y (missing_unlisted s x q) sound (missing_inside s sound p law q)
  step_sound law s sound (settles {x = x} p q) =
      settle_sound E s x law (latest_listed s sound p) sound (λ y h. not-false _ (first_none _ (asked E x (values E s.notebook)) q y h))

  steps_sound : Lawful E → (s : State V) {t : State V} → Sound E s.notebook s.waiting → Steps E s t → Sound E t.notebook t.waiting
  steps_sound law s sound done = sound
  steps_sound law s sound (then {t = t} a b) = step_sound law t (steps_sound law s sound a) b

  pub ask_valid : Lawful E → (N N' : Notebook V) (q : ℕ) → Valid E N → Ask E N q N' → Valid E N'
  ask_valid law N N' q valid ask =
      let sound = steps_sound law (start E N q) (enter_sound E law _ q ask.unlisted valid ask.unknown) ask.steps in
      record {
        inside = sound.inside;
        entered = sound.entered;
        once = sound.once;
        between = sound.between;
        under = sound.under;
        settled = λ x l w. sound.settled x l (first_none ask.waiting N'.entries ask.ended x (sound.entered x ∙ l));
        lowest = sound.lowest;
        witness = sound.witness;
      }

  steps_list : (s : State V) {t : State V} (q : ℕ) → listed s.notebook.value q ≡ true → Steps E s t → listed t.notebook.value q ≡ true
  steps_list s q l done = l
  steps_list s q l (then {t = t} a b) = go (steps_list s q l a) b
    where
      go : {u : State V} → listed t.notebook.value q ≡ true → Step E t u → listed u.notebook.value q ≡ true
      go h (miss {y = y} _ _) = listed_update E t.notebook.value y _ q ∙ or_right (eqb q y) _ h
      go h (settles {x = x} _ _) = listed_update E t.notebook.value x _ q ∙ or_right (eqb q x) _ h

  pub ask_lists : (N N' : Notebook V) (q : ℕ) → Ask E N q N' → listed N'.value q ≡ true
  ask_lists N N' q ask = steps_list (start E N q) q (listed_update E N.value q _ q ∙ or_left (eqb q q) _ (eq-eqb q q refl)) ask.steps

  -- the old entries: their values and reads are as they were, and they do not wait
  module _ (N : Notebook V) (valid : Valid E N) where
    record Old (s : State V) (x : ℕ) : Type 0 where
      value : s.notebook.value x ≡ N.value x
      reads : (y : ℕ) → s.notebook.reads x y ≡ N.reads x y
      idle : s.waiting x ≡ false

    old_enter : (s : State V) (y : ℕ) → listed s.notebook.value y ≡ false → (x : ℕ) → listed N.value x ≡ true → Old s x → Old (enter E y s) x
    old_enter s y fresh x l old =
        let apart : x ≡ y → ⊥ = λ e. both_ways (listed N.value x) (sym (ap Rattle.std.specs.Option.is_some old.value) ∙ ap (listed s.notebook.value) e ∙ fresh) l in
        record {
          value = update_apart s.notebook.value y _ x apart ∙ old.value;
          reads = old.reads;
          idle = or_from (eqb x y) _ (ne_eqb x y apart) old.idle;
        }

    old_settle : (s : State V) (w : ℕ) → s.waiting w ≡ true → ((x : ℕ) → listed N.value x ≡ true → Old s x)
        → (x : ℕ) → listed N.value x ≡ true → Old (settle E w s) x
    old_settle s w wait all x l =
        let old = all x l in
        let apart : x ≡ w → ⊥ = λ e. both_ways (s.waiting w) (sym (ap s.waiting e) ∙ old.idle) wait in
        let same : (y : ℕ) → recorded E w s x y ≡ N.reads x y = λ y. ap (λ t. s.notebook.reads x y || t) (and_left (eqb x w) _ (ne_eqb x w apart)) ∙ or-false (s.notebook.reads x y) ∙ old.reads y in
        let unread : N.reads x w ≡ false = ⊎_elim (λ r. absurd (both_ways (s.waiting w) (all w (valid.between x w r).1).idle wait)) (λ r. r) (cases_Bool (N.reads x w)) in
        record {
          value = update_apart s.notebook.value w _ x apart ∙ old.value;
          reads = same;
          idle = or_from _ _ (and_right (rose E w s) _ (and_right (ltb x E.size) _ (same w ∙ unread))) (and_right (not (eqb x w)) _ old.idle);
        }

    old_step : (s : State V) {t : State V} → ((x : ℕ) → listed N.value x ≡ true → Old s x) → Step E s t → (x : ℕ) → listed N.value x ≡ true → Old t x
    old_step s all (miss {x = w} {y = y} p q) x l = old_enter s y (missing_unlisted s w q) x l (all x l)
    old_step s all (settles {x = w} p q) x l = old_settle s w (first_passes s.waiting s.notebook.entries w p).0 all x l

    old_more : (s : State V) {t : State V} → ((x : ℕ) → listed N.value x ≡ true → Old s x) → Steps E s t → (x : ℕ) → listed N.value x ≡ true → Old t x
    old_more s all done = all
    old_more s all (then {t = t} a b) = old_step t (old_more s all a) b

    old_steps : (q : ℕ) → listed N.value q ≡ false → (s : State V) → Steps E (start E N q) s → (x : ℕ) → listed N.value x ≡ true → Old s x
    old_steps q fresh s steps =
        old_more (start E N q) (λ x l. old_enter (record { notebook = N; waiting = λ z. false }) q fresh x l (record { value = refl; reads = λ y. refl; idle = refl })) steps

  -- steps add entries only in front
  steps_order : (s : State V) {t : State V} → Steps E s t → (new : List ℕ) × (t.notebook.entries ≡ new ++ s.notebook.entries)
  steps_order s done = ([], refl)
  steps_order s (then {t = t} a b) = go (steps_order s a) b
    where
      go : {u : State V} → (new : List ℕ) × (t.notebook.entries ≡ new ++ s.notebook.entries) → Step E t u → (new : List ℕ) × (u.notebook.entries ≡ new ++ s.notebook.entries)
      go (new, e) (miss {y = y} p q) = (y ∷ new, ap (λ l. y ∷ l) e)
      go (new, e) (settles p q) = (new, e)

  pub ask_keeps : (N N' : Notebook V) (q : ℕ) → Valid E N → Ask E N q N' → Keeps N N'
  ask_keeps N N' q valid ask =
      let old = old_steps N valid q ask.unlisted _ ask.steps in
      let (new, e) = steps_order (start E N q) ask.steps in
      record {
        value = λ x l. (old x l).value;
        reads = λ x y l. (old x l).reads y;
        order = (new ++ (q ∷ []), e ∙ sym (append_assoc new (q ∷ []) N.entries));
      }

  pub old_never_waits : (N : Notebook V) (q : ℕ) (s : State V) → Valid E N → listed N.value q ≡ false → Steps E (start E N q) s
      → (x : ℕ) → listed N.value x ≡ true → s.waiting x ≡ false
  old_never_waits N q s valid fresh steps x l = (old_steps N valid q fresh s steps x l).idle

  same_some : {o : Option ℕ} {x y : ℕ} → o ≡ Some x → o ≡ Some y → x ≡ y
  same_some p q = cc

  none_or_some : {A : Type 0} {o : Option ℕ} {x : ℕ} → o ≡ Some x → o ≡ None → A
  none_or_some p q = let z : ◌≡◌ {A = ℕ} 0 1 = cc in absurd (omega arith)

  same_missing : (s : State V) {x x' : ℕ} {o : Option ℕ} → latest s ≡ Some x → latest s ≡ Some x' → missing E s x' ≡ o → missing E s x ≡ o
  same_missing s p p' q = ap (missing E s) (same_some p p') ∙ q

  pub determined : (s t u : State V) → Step E s t → Step E s u → t ≡ u
  determined s t u (miss {y = y} p q) (miss {y = y'} p' q') = ap (λ z. enter E z s) (same_some q (same_missing s p p' q'))
  determined s t u (miss {x = x} {y = y} p q) (settles {x = x'} p' q') = none_or_some q (same_missing s p p' q')
  determined s t u (settles p q) (miss p' q') = none_or_some q' (same_missing s p' p q)
  determined s t u (settles {x = x} p q) (settles {x = x'} p' q') = ap (λ z. settle E z s) (same_some p p')

  -- no step is left
  no_step : {A : Type 0} {s t : State V} → latest s ≡ None → Step E s t → A
  no_step e (miss p q) = none_or_some p e
  no_step e (settles p q) = none_or_some p e

  stays : {s t : State V} → latest s ≡ None → Steps E s t → t ≡ s
  stays e done = refl
  stays {s} e (then {u = u} a b) = no_step e (subst (λ (r : State V). Step E r u) (stays e a) b)

  -- steps that begin with another step, or end at once
  after_first : {s m t : State V} → Step E s m → Steps E s t → (t ≡ s) ⊎ Steps E m t
  after_first step done = inl refl
  after_first {s} {m} step (then {t = r} {u = u} a b) = go (after_first step a)
    where
      go : (r ≡ s) ⊎ Steps E m r → (u ≡ s) ⊎ Steps E m u
      go (inl e) = inr (subst (λ (v : State V). Steps E m v) (determined s m u step (subst (λ (v : State V). Step E v u) e b)) done)
      go (inr c) = inr (then c b)

  -- of two ways from one state, one goes on from the end of the other
  compare : (s t u : State V) → Steps E s t → Steps E s u → Steps E t u ⊎ Steps E u t
  compare s t u done b = inl b
  compare s t u (then {t = m} a step) b = go (compare s m u a b)
    where
      go : Steps E m u ⊎ Steps E u m → Steps E t u ⊎ Steps E u t
      go (inl c) = ⊎_elim (λ e. inr (subst (λ (v : State V). Steps E v t) (sym e) (then done step))) inl (after_first step c)
      go (inr c) = inr (then c step)

  -- so an ask has one result
  pub one_result : (N N₁ N₂ : Notebook V) (q : ℕ) → Ask E N q N₁ → Ask E N q N₂ → N₁ ≡ N₂
  one_result N N₁ N₂ q a b = ap (λ s. s.notebook) (⊎_elim (λ c. sym (stays a.ended c)) (stays b.ended) (compare _ _ _ a.steps b.steps))

  -- the step that a waiting entry takes
  pub next_step : (s : State V) (x : ℕ) → latest s ≡ Some x → (t : State V) × Step E s t
  next_step s x p = go (missing E s x) refl
    where
      go : (o : Option ℕ) → missing E s x ≡ o → (t : State V) × Step E s t
      go (Some y) q = (enter E y s, miss p q)
      go None q = (settle E x s, settles p q)

  pub progress : (s : State V) (x : ℕ) → has s.notebook.entries x ≡ true → s.waiting x ≡ true → (t : State V) × Step E s t
  progress s x h w = go (latest s) refl
    where
      go : (o : Option ℕ) → latest s ≡ o → (t : State V) × Step E s t
      go (Some z) p = next_step s z p
      go None p = absurd (both_ways (s.waiting x) (first_none s.waiting s.notebook.entries p x h) w)
