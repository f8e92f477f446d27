-- Equations whose right-hand sides are plans keep the rules.
use Rattle.std.proofs.Common.{◌≡◌, ℕ, zero, suc, ◌+◌, ◌*◌, ◌<◌, ◌≤◌, List, [], ◌∷◌, ◌++◌, map, length, refl, ap, ◌∙◌, suc-mul, add_comm, suc-add, zero-add, arith}
use Rattle.equations.specs.declared.Move.TheVariants.{Ask, Answer}
use Rattle.lattice.specs.Kinds.{Kind, Laws, AtOrBelow}
use Rattle.lattice.specs.Order.{join_mono}
use Rattle.equations.specs.Systems.{System, system}
use Rattle.equations.specs.Runs.{run, asked, answer}
use Rattle.equations.specs.Rules.{Lawful}
use Rattle.equations.specs.Plans.{Plan, done, ask, step, play, move_of, planned, value, reads, Within, Short, then, collect, joined, concat}
use Rattle.equations.proofs.Runs.{ahead, run_ask, run_answer}

-- one more value at the end
pub play_push : {V A : Type 0} (plan : Plan V A) (vs : List V) (v : V) → play plan (vs ++ (v ∷ [])) ≡ step (play plan vs) v
play_push plan [] v = refl
play_push plan (u ∷ vs) v = play_push (step plan u) vs v

-- a run that stood at a plan stands at its step after a value
pub play_step : {V A : Type 0} (plan now after : Plan V A) (vs : List V) (v : V) → play plan vs ≡ now → step now v ≡ after → play plan (vs ++ (v ∷ [])) ≡ after
play_step plan now after vs v e s = play_push plan vs v ∙ ap (λ p. step p v) e ∙ s

module _ {V A : Type 0} (n : ℕ) where
  within_step : (plan : Plan V A) (v : V) → Within n plan → Within n (step plan v)
  within_step (done a) v w = tt
  within_step (ask y k) v w = w.1 v

  pub within_play : (plan : Plan V A) (vs : List V) → Within n plan → Within n (play plan vs)
  within_play plan [] w = w
  within_play plan (v ∷ vs) w = within_play (step plan v) vs (within_step plan v w)

  pub short_more : (m : ℕ) (plan : Plan V A) → Short m plan → Short (suc m) plan
  short_more m (done a) s = tt
  short_more zero (ask y k) s = absurd s
  short_more (suc m) (ask y k) s = λ v. short_more m (k v) (s v)

-- a plan of at most l asks is one of at most m, where l ≤ m
pub short_up : {V A : Type 0} (l m : ℕ) (plan : Plan V A) → l ≤ m → Short l plan → Short m plan
short_up l m (done a) h s = tt
short_up zero m (ask y k) h s = absurd s
short_up (suc l) zero (ask y k) h s = absurd (omega arith)
short_up (suc l) (suc m) (ask y k) h s = λ v. short_up l m (k v) (omega arith) (s v)

module _ {V : Type 0} where
  within_asks : (n : ℕ) (plan : Plan V V) (y : ℕ) → Within n plan → move_of plan ≡ Ask y → y < n
  within_asks n (done a) y w e = let z : ◌≡◌ {A = ℕ} 0 1 = cc in absurd (omega arith)
  within_asks n (ask x k) y w e = let q : x ≡ y = cc in let l = w.0 in omega arith

  answered : (v : V) (vs : List V) → move_of (play (done v) vs) ≡ Answer v
  answered v [] = refl
  answered v (u ∷ vs) = answered v vs

  short_asks : (m : ℕ) (plan : Plan V V) (vs : List V) (y : ℕ) → Short m plan → move_of (play plan vs) ≡ Ask y → length vs < m
  short_asks m (done a) vs y s e = let q = answered a vs in let z : ◌≡◌ {A = ℕ} 0 1 = cc in absurd (omega arith)
  short_asks zero (ask x k) vs y s e = absurd s
  short_asks (suc m) (ask x k) [] y s e = omega arith
  short_asks (suc m) (ask x k) (v ∷ vs) y s e = let h = short_asks m (k v) vs y (s v) e in omega arith

  -- what a run asks and answers is what its plan reads and comes to
  runs : (stop : V) (whole : Plan V V) (ρ : ℕ → V) (m : ℕ) (vs : List V) (plan : Plan V V) → play whole vs ≡ plan → Short m plan
      → run stop (λ given. move_of (play whole given)) ρ m vs ≡ record { asked = reads plan ρ; answer = value plan ρ }
  runs stop whole ρ m vs (done a) e s = run_answer stop (λ given. move_of (play whole given)) ρ m vs a (ap move_of e)
  runs stop whole ρ zero vs (ask y k) e s = absurd s
  runs stop whole ρ (suc m) vs (ask y k) e s =
      run_ask stop (λ given. move_of (play whole given)) ρ m vs y (ap move_of e)
      ∙ ap (ahead y) (runs stop whole ρ m (vs ++ (ρ y ∷ [])) (k (ρ y)) (play_step whole (ask y k) (k (ρ y)) vs (ρ y) e refl) (s (ρ y)))

  module _ (kind : Kind V) (n : ℕ) (plan : ℕ → Plan V V) where
    abbrev E : System V
    E = system kind (planned n plan)

    pub planned_answer : (x : ℕ) → Short 1024 (plan x) → (ρ : ℕ → V) → answer E x ρ ≡ value (plan x) ρ
    unfolding answer
    planned_answer x s ρ = ap (λ o. o.answer) (runs kind.bottom (plan x) ρ 1024 [] (plan x) refl s)

    pub planned_asked : (x : ℕ) → Short 1024 (plan x) → (ρ : ℕ → V) → asked E x ρ ≡ reads (plan x) ρ
    unfolding asked
    planned_asked x s ρ = ap (λ o. o.asked) (runs kind.bottom (plan x) ρ 1024 [] (plan x) refl s)

    pub planned_lawful : Laws kind
        → ((x : ℕ) → x < n → Within n (plan x))
        → ((x : ℕ) → x < n → Short 1024 (plan x))
        → ((x : ℕ) → x < n → (ρ σ : ℕ → V) → ((y : ℕ) → AtOrBelow kind (ρ y) (σ y)) → AtOrBelow kind (value (plan x) ρ) (value (plan x) σ))
        → Lawful E
    planned_lawful laws within short monotone = record {
      lattice = laws;
      inside = λ x k given y r e. within_asks n (play (plan x) given) y (within_play n (plan x) given (within x k)) e;
      ends = λ x k given y r e. short_asks 1024 (plan x) given y (short x k) e;
      monotone = λ x k ρ σ h. rw (planned_answer x (short x k) ρ, planned_answer x (short x k) σ) (monotone x k ρ σ h);
    }

-- One plan after another.
module _ {V A B : Type 0} where
  pub value_then : (plan : Plan V A) (k : A → Plan V B) (ρ : ℕ → V) → value (then plan k) ρ ≡ value (k (value plan ρ)) ρ
  value_then (done a) k ρ = refl
  value_then (ask y j) k ρ = value_then (j (ρ y)) k ρ

  pub reads_then : (plan : Plan V A) (k : A → Plan V B) (ρ : ℕ → V) → reads (then plan k) ρ ≡ reads plan ρ ++ reads (k (value plan ρ)) ρ
  reads_then (done a) k ρ = refl
  reads_then (ask y j) k ρ = ap (λ ys. y ∷ ys) (reads_then (j (ρ y)) k ρ)

  pub within_then : (n : ℕ) (plan : Plan V A) (k : A → Plan V B) → Within n plan → ((a : A) → Within n (k a)) → Within n (then plan k)
  within_then n (done a) k w h = h a
  within_then n (ask y j) k w h = (w.0, λ v. within_then n (j v) k (w.1 v) h)

  pub short_then : (l m : ℕ) (plan : Plan V A) (k : A → Plan V B) → Short l plan → ((a : A) → Short m (k a)) → Short (l + m) (then plan k)
  short_then zero m (done a) k s h = rw zero-add (h a)
  short_then (suc l) m (done a) k s h = rw suc-add (short_more 0 (l + m) (k a) (short_then l m (done a) k tt h))
  short_then zero m (ask y j) k s h = absurd s
  short_then (suc l) m (ask y j) k s h = rw suc-add (λ v. short_then l m (j v) k (s v) h)

-- What each of a list has.
abbrev pub Each : (ℕ → Type 0) → List ℕ → Type 0
Each P [] = Unit {0}
Each P (q ∷ qs) = P q × Each P qs

module _ {V : Type 0} (join : V → V → V) (part : ℕ → Plan V V) where
  pub value_collect : (qs : List ℕ) (so_far : V) (ρ : ℕ → V) → value (collect join part qs so_far) ρ ≡ joined join so_far (map (λ q. value (part q) ρ) qs)
  value_collect [] so_far ρ = refl
  value_collect (q ∷ qs) so_far ρ = value_then (part q) (λ v. collect join part qs (join so_far v)) ρ ∙ value_collect qs (join so_far (value (part q) ρ)) ρ

  pub reads_collect : (qs : List ℕ) (so_far : V) (ρ : ℕ → V) → reads (collect join part qs so_far) ρ ≡ concat (map (λ q. reads (part q) ρ) qs)
  reads_collect [] so_far ρ = refl
  reads_collect (q ∷ qs) so_far ρ =
      reads_then (part q) (λ v. collect join part qs (join so_far v)) ρ
      ∙ ap (λ ys. reads (part q) ρ ++ ys) (reads_collect qs (join so_far (value (part q) ρ)) ρ)

  pub within_collect : (n : ℕ) (qs : List ℕ) → Each (λ q. Within n (part q)) qs → (so_far : V) → Within n (collect join part qs so_far)
  within_collect n [] w so_far = tt
  within_collect n (q ∷ qs) w so_far = within_then n (part q) (λ v. collect join part qs (join so_far v)) w.0 (λ v. within_collect n qs w.1 (join so_far v))

  -- parts of at most m asks each
  pub short_collect : (m : ℕ) (qs : List ℕ) → ((q : ℕ) → Short m (part q)) → (so_far : V) → Short (length qs * m) (collect join part qs so_far)
  short_collect m [] s so_far = tt
  short_collect m (q ∷ qs) s so_far =
      rw (suc-mul, add_comm (length qs * m) m) (short_then m (length qs * m) (part q) (λ v. collect join part qs (join so_far v)) (s q) (λ v. short_collect m qs s (join so_far v)))

-- What is joined is monotone in each of its parts.
module _ {V : Type 0} (kind : Kind V) (laws : Laws kind) where
  pub joined_mono : (f g : ℕ → V) → ((q : ℕ) → AtOrBelow kind (f q) (g q))
      → (qs : List ℕ) (a b : V) → AtOrBelow kind a b → AtOrBelow kind (joined kind.join a (map f qs)) (joined kind.join b (map g qs))
  joined_mono f g h [] a b l = l
  joined_mono f g h (q ∷ qs) a b l = joined_mono f g h qs (kind.join a (f q)) (kind.join b (g q)) (join_mono laws a (f q) b (g q) l (h q))
