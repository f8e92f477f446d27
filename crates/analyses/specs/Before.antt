-- The search for the lines that have a given successor.
use Rattle.std.specs.Prelude.{◌≡◌, ℕ, zero, suc, ◌+◌, ◌-◌, ◌<◌, ◌≤◌, Bool, true, false, cond, List, [], ◌∷◌, length, refl}
use Rattle.std.proofs.Common.{◌∙◌, ap, arith}
use Rattle.equations.proofs.Planned.{Each}
use Rattle.drive.specs.declared.line.Line.{Line}
use Rattle.analyses.specs.Predecessors.{passing, leads_to, predecessors_from}

-- One line further, where it has p as a successor and where it has not, and past the last line.
module _ (P : List Line) (p q : ℕ) where
  decided : q < length P → (t : Bool) → leads_to P p q ≡ t
      → predecessors_from P p q ≡ cond t (q ∷ predecessors_from P p (q + 1)) (predecessors_from P p (q + 1))
  decided k t e =
      let left : length P - q ≡ suc (length P - (q + 1)) = omega arith in
      ap (λ n. passing (leads_to P p) n q) left
      ∙ ap (λ b. cond b (q ∷ predecessors_from P p (q + 1)) (predecessors_from P p (q + 1))) e

  pub found : q < length P → leads_to P p q ≡ true → predecessors_from P p q ≡ q ∷ predecessors_from P p (q + 1)
  found k e = decided k true e

  pub skipped : q < length P → leads_to P p q ≡ false → predecessors_from P p q ≡ predecessors_from P p (q + 1)
  skipped k e = decided k false e

  pub none_left : length P ≤ q → predecessors_from P p q ≡ []
  none_left k = let none : length P - q ≡ 0 = omega arith in ap (λ n. passing (leads_to P p) n q) none

module _ (test : ℕ → Bool) where
  -- What holds of every number that passes holds of each of them.
  pub each_passing : (Q : ℕ → Type 0) (n : ℕ) → ((q : ℕ) → q < n → test q ≡ true → Q q) → (left q : ℕ) → q + left ≤ n → Each Q (passing test left q)
  each_passing Q n h zero q k = tt
  each_passing Q n h (suc left) q k = go (test q) refl (each_passing Q n h left (q + 1) (omega arith))
    where
      go : (t : Bool) → test q ≡ t → Each Q (passing test left (q + 1)) → Each Q (cond t (q ∷ passing test left (q + 1)) (passing test left (q + 1)))
      go true e others = (h q (omega arith) e, others)
      go false e others = others

  pub few_passing : (left q : ℕ) → length (passing test left q) ≤ left
  few_passing zero q = omega arith
  few_passing (suc left) q = go (test q) (few_passing left (q + 1))
    where
      go : (t : Bool) → length (passing test left (q + 1)) ≤ left → length (cond t (q ∷ passing test left (q + 1)) (passing test left (q + 1))) ≤ suc left
      go true others = omega arith
      go false others = omega arith
