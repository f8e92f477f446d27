use Rattle.std.proofs.Common.{◌≡◌, ℕ, zero, suc, ◌+◌, ◌-◌, ◌<◌, ◌≤◌, Bool, true, false, cond, List, ◌∷◌, length, None, Some, Option, ap, ◌∙◌, arith, rules}
use Rattle.std.proofs.lemmas.Iterator.{first_from_Range}
use Rattle.std.specs.Option.{MatchOption}
use Rattle.drive.specs.declared.line.Line.{Line}
use Rattle.drive.specs.Programs.{lines_of}
use Rattle.analyses.specs.Predecessors.{leads_to, predecessors_from}
use Rattle.analyses.specs.Before.{found, skipped, none_left}
use Rattle.analyses.specs.ConstantRuns.{Found}
use Rattle.analyses.proofs.predecessors.next_predecessor.Goals as goal

module _ (P : List Line) (p : ℕ) where
  -- Lines that have not p as a successor are passed over.
  passed : (n from : ℕ) → ((k : ℕ) → from ≤ k → k < from + n → (k < length P) × (leads_to P p k ≡ false))
      → predecessors_from P p from ≡ predecessors_from P p (from + n)
  passed zero from h = let here : from ≡ from + 0 = omega arith in ap (predecessors_from P p) here
  passed (suc n) from h =
      let (k, e) = h from (omega arith) (omega arith) in
      let there : from + 1 + n ≡ from + suc n = omega arith in
      skipped P p from k e
      ∙ passed n (from + 1) (λ k l u. h k (omega arith) (omega arith))
      ∙ ap (predecessors_from P p) there

  first_found : (from count : ℕ) (r : Option ℕ) → count ≡ length P
      → MatchOption r ((k : ℕ) → from ≤ k → k < count → leads_to P p k ≡ false)
      (λ q. (from ≤ q) × (q < count) × (leads_to P p q ≡ true) × ((k : ℕ) → from ≤ k → k < q → leads_to P p k ≡ false))
      → Found P p from r
  first_found from count None e h =
      passed (count - from) from (λ k l u. (omega arith, h k l (omega arith))) ∙ none_left P p (from + (count - from)) (omega arith)
  first_found from count (Some q) e (low, inside, t, h) =
      let there : from + (q - from) ≡ q = omega arith in
      let k : q < length P = omega arith in
      (k, passed (q - from) from (λ k l u. (omega arith, h k l (omega arith))) ∙ ap (predecessors_from P p) there ∙ found P p q k t)

pub returns : goal.returns
returns c =
    let P = lines_of c.args.program.now in
    first_found P c.args.p c.args.from c.count.result c.find.result c.count.ensures
    (first_from_Range _ _ _ _ (λ q. leads_to P c.args.p q ≡ true) (λ q. leads_to P c.args.p q ≡ false) c.find.ensures.ran
    (λ x q k. search rules) (λ x q k. (search rules, search rules)))
