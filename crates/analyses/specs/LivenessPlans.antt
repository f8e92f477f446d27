-- The liveness of a program keeps the rules of a set of equations, and its runs answer the equations.
use Rattle.std.specs.Prelude.{◌≡◌, ℕ, ◌+◌, ◌*◌, ◌<◌, ◌≤◌, Bool, true, false, cond, not, ◌&&◌, ◌||◌, List, [], ◌∷◌, ◌++◌, map, length, ◌==◌, refl}
use Rattle.std.proofs.Common.{sym, ◌∙◌, ap, arith}
use Rattle.lattice.specs.declared.members.Members.{Members}
use Rattle.lattice.specs.Sets.{has, union, sets}
use Rattle.lattice.specs.SetLaws.{sets_laws, same_members, has_set_of, has_union}
use Rattle.equations.specs.Systems.{system}
use Rattle.equations.specs.Runs.{answer}
use Rattle.equations.specs.Rules.{Lawful}
use Rattle.equations.specs.Plans.{Plan, done, ask, collect, joined, concat, value, reads, Within, Short}
use Rattle.equations.proofs.Planned.{Each, value_then, reads_then, within_then, short_then, short_up, value_collect, reads_collect, within_collect, short_collect, planned_lawful, planned_answer, planned_asked, joined_mono}
use Rattle.drive.specs.declared.line.Line.{Line}
use Rattle.drive.specs.declared.line.Line.TheVariants.{Set, Copy, Add, Sub, Neg, In, Out, Jmp, Jz, Jneg, Halt}
use Rattle.drive.specs.Lines.{successors, branch}
use Rattle.drive.specs.Programs.{at, Sound}
use Rattle.analyses.specs.Liveness.{uses, defines, live_before, equation, at_any, is_live}
use Rattle.analyses.specs.LivenessRuns.{plan, liveness}
use Rattle.analyses.specs.Theorems.{LivenessAnswers}
use Rattle.analyses.specs.Sound.{successors_below}

-- The plan of one successor, and of a list of them.
abbrev part : ℕ → Plan Members Members
part s = ask s done

abbrev none_live : Members
none_live = sets.bottom

asks_within : (n : ℕ) (ss : List ℕ) → Each (λ s. s < n) ss → Each (λ s. Within n (part s)) ss
asks_within n [] h = tt
asks_within n (s ∷ ss) h = ((h.0, λ v. tt), asks_within n ss h.1)

answers_are : (ρ : ℕ → Members) (ss : List ℕ) → map (λ s. value (part s) ρ) ss ≡ map ρ ss
answers_are ρ [] = refl
answers_are ρ (s ∷ ss) = ap (λ vs. ρ s ∷ vs) (answers_are ρ ss)

asks_are : (ρ : ℕ → Members) (ss : List ℕ) → concat (map (λ s. reads (part s) ρ) ss) ≡ ss
asks_are ρ [] = refl
asks_are ρ (s ∷ ss) = ap (λ ys. s ∷ ys) (asks_are ρ ss)

append_none : (ys : List ℕ) → ys ++ [] ≡ ys
append_none [] = refl
append_none (y ∷ ys) = ap (λ zs. y ∷ zs) (append_none ys)

two : (b next : ℕ) → length (branch b next) ≤ 2
two b next = go (b == next)
  where
    go : (t : Bool) → length (cond t (b ∷ []) (b ∷ (next ∷ []))) ≤ 2
    go true = omega arith
    go false = omega arith

few : (line : Line) (p : ℕ) → length (successors line p) ≤ 2
few (Set a b) p = omega arith
few (Copy a b) p = omega arith
few (Add a b) p = omega arith
few (Sub a b) p = omega arith
few (Neg a) p = omega arith
few (In a) p = omega arith
few (Out a) p = omega arith
few (Jmp a) p = omega arith
few (Jz a b) p = two b (p + 1)
few (Jneg a b) p = two b (p + 1)
few Halt p = omega arith

-- What is live at some of the lines is a member of the union.
or_false : (x : Bool) → x ≡ (x || false)
or_false true = refl
or_false false = refl

or_member : (x y z : Bool) (t : Bool) → x ≡ (y || z) → (x || t) ≡ (y || (z || t))
or_member x true z t e = ap (λ b. b || t) e
or_member x false z t e = ap (λ b. b || t) e

union_members : (ρ : ℕ → Members) (ss : List ℕ) (so_far : Members) (r : ℕ) → r < 64
    → has (joined union so_far (map ρ ss)) r ≡ (has so_far r || at_any ρ ss r)
union_members ρ [] so_far r k = or_false (has so_far r)
union_members ρ (s ∷ ss) so_far r k = union_members ρ ss (union so_far (ρ s)) r k ∙ or_member (has (union so_far (ρ s)) r) (has so_far r) (has (ρ s) r) (at_any ρ ss r) (has_union so_far (ρ s) r k)

-- What is live before a line rises with what is live after it.
before_mono : (line : Line) (s t : Members) → union s t ≡ t → union (live_before line s) (live_before line t) ≡ live_before line t
before_mono line s t e = same_members (union (live_before line s) (live_before line t)) (live_before line t)
    (λ r k. has_union (live_before line s) (live_before line t) r k
    ∙ ap (λ b. b || has (live_before line t) r) (has_set_of (before s) r k)
    ∙ ap (λ b. before s r || b) (has_set_of (before t) r k)
    ∙ within (uses line r) (defines line r) (has s r) (has t r) (sym (has_union s t r k) ∙ ap (λ u. has u r) e)
    ∙ sym (has_set_of (before t) r k))
  where
    before : Members → ℕ → Bool
    before u r = uses line r || (not (defines line r) && has u r)

    within : (a d x y : Bool) → (x || y) ≡ y → ((a || (not d && x)) || (a || (not d && y))) ≡ (a || (not d && y))
    within true d x y h = refl
    within false true x y h = refl
    within false false x y h = h

module _ (P : List Line) (sound : Sound P) where
  within : (p : ℕ) → p < length P → Within (length P) (plan P p)
  within p k = within_then (length P) (collect union part (successors (at P p) p) none_live) (λ live. done (live_before (at P p) live))
      (within_collect union part (length P) (successors (at P p) p) (asks_within _ _ (successors_below P sound p k)) none_live)
      (λ live. tt)

  short : (p : ℕ) → Short 1024 (plan P p)
  short p =
      let ss = successors (at P p) p in
      let two : length ss * 1 + 0 ≤ 1024 = omega (arith, few (at P p) p) in
      short_up (length ss * 1 + 0) 1024 (plan P p) two
      (short_then (length ss * 1) 0 (collect union part ss none_live) (λ live. done (live_before (at P p) live)) (short_collect union part 1 ss (λ s v. tt) none_live) (λ live. tt))

  valued : (ρ : ℕ → Members) (p : ℕ) → value (plan P p) ρ ≡ equation P ρ p
  valued ρ p =
      let ss = successors (at P p) p in
      value_then (collect union part ss none_live) (λ live. done (live_before (at P p) live)) ρ
      ∙ ap (live_before (at P p)) (value_collect union part ss none_live ρ ∙ ap (joined union none_live) (answers_are ρ ss))

  read : (ρ : ℕ → Members) (p : ℕ) → reads (plan P p) ρ ≡ successors (at P p) p
  read ρ p =
      let ss = successors (at P p) p in
      reads_then (collect union part ss none_live) (λ live. done (live_before (at P p) live)) ρ
      ∙ append_none (reads (collect union part ss none_live) ρ) ∙ reads_collect union part ss none_live ρ ∙ asks_are ρ ss

  answered : (ρ : ℕ → Members) (p : ℕ) → answer (system sets (liveness P)) p ρ ≡ equation P ρ p
  answered ρ p = planned_answer sets (length P) (plan P) p (short p) ρ ∙ valued ρ p

  -- A register is live by the equation exactly if it is by its members.
  live_members : (ρ : ℕ → Members) (p r : ℕ) → r < 64 → has (equation P ρ p) r ≡ is_live P ρ p r
  live_members ρ p r k =
      let ss = successors (at P p) p in
      has_set_of (λ s. uses (at P p) s || (not (defines (at P p) s) && has (joined union none_live (map ρ ss)) s)) r k
      ∙ ap (λ b. uses (at P p) r || (not (defines (at P p) r) && b))
      (union_members ρ ss none_live r k ∙ ap (λ b. b || at_any ρ ss r) (has_set_of (λ j. false) r k))

  pub liveness_answers : LivenessAnswers P
  liveness_answers = record {
    answers = answered;
    members = λ ρ p r k. ap (λ s. has s r) (answered ρ p) ∙ live_members ρ p r k;
    asks = λ ρ p. planned_asked sets (length P) (plan P) p (short p) ρ ∙ read ρ p;
  }

  pub liveness_lawful : Lawful (system sets (liveness P))
  liveness_lawful = planned_lawful sets (length P) (plan P) sets_laws within (λ p k. short p)
      (λ p k ρ σ h. rw (valued ρ p, valued σ p)
      (before_mono (at P p) (joined union none_live (map ρ (successors (at P p) p))) (joined union none_live (map σ (successors (at P p) p)))
      (joined_mono sets sets_laws ρ σ h (successors (at P p) p) none_live none_live (sets_laws.idempotent none_live))))
