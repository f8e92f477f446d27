-- The steps of a run of the constants: what it holds is what is left of the plan.
use Rattle.std.proofs.Common.{◌≡◌, ℕ, ◌+◌, List, Some, None, Option, sym, ap, ◌∙◌}
use Rattle.lattice.specs.declared.constant.Constant.{Constant}
use Rattle.lattice.specs.Constants.{join_constants}
use Rattle.equations.specs.declared.Move.{Move}
use Rattle.equations.specs.declared.Move.TheVariants.{Ask, Answer}
use Rattle.equations.specs.Plans.{step, then, collect}
use Rattle.drive.specs.declared.line.Line.{Line}
use Rattle.drive.specs.Programs.{at}
use Rattle.analyses.specs.declared.constants.run.Pending.{Pending}
use Rattle.analyses.specs.Constants.{unknown}
use Rattle.analyses.specs.ConstantRuns.{first, last, needing, part, lines_from, resume, waiting, Found}

module _ (P : List Line) (p r : ℕ) where
  -- The next line that has p as a successor asks for its first register.
  pub begun : (from q y : ℕ) (line : Line) → Found P p from (Some q) → line ≡ at P q → y ≡ unknown q (first line r) → (so_far : Constant)
      → lines_from P p r from so_far ≡ waiting P p r (Some (record { q = q; line = line; unknown = y; first = None })) so_far
  begun from q y line f l e so_far = ap (λ qs. collect join_constants (part P p r) qs so_far) f.1
      ∙ ap (λ l. waiting P p r (Some (record { q = q; line = l; unknown = unknown q (first l r); first = None })) so_far) (sym l)
      ∙ ap (λ y. waiting P p r (Some (record { q = q; line = line; unknown = y; first = None })) so_far) (sym e)

  -- There is no such line: the run answers.
  pub through : (from : ℕ) → Found P p from None → (so_far : Constant) → lines_from P p r from so_far ≡ waiting P p r None so_far
  through from f so_far = ap (λ qs. collect join_constants (part P p r) qs so_far) f

  -- A line that waits is given a value: it waits again, or contributes, and the lines after it go on.
  module _ (held : Option Pending) (k : Pending) (so_far v : Constant) (e : held ≡ Some k) where
    goes_on : (m : Move Constant) → needing (last k.line v) m ≡ resume k p r v
        → step (waiting P p r held so_far) v ≡ then (needing (last k.line v) m) (λ c. lines_from P p r (k.q + 1) (join_constants so_far c))
    goes_on m s = ap (λ k. step (waiting P p r k so_far) v) e
        ∙ ap (λ plan. then plan (λ c. lines_from P p r (k.q + 1) (join_constants so_far c))) (sym s)

    pub waits_again : (y : ℕ) → needing (last k.line v) (Ask y) ≡ resume k p r v
        → step (waiting P p r held so_far) v ≡ waiting P p r (Some (record { q = k.q; line = k.line; unknown = y; first = Some v })) so_far
    waits_again y s = goes_on (Ask y) s

    pub contributes : (c w : Constant) (next : Option Pending) → needing (last k.line v) (Answer c) ≡ resume k p r v → w ≡ join_constants so_far c
        → lines_from P p r (k.q + 1) w ≡ waiting P p r next w
        → step (waiting P p r held so_far) v ≡ waiting P p r next w
    contributes c w next s j n = goes_on (Answer c) s ∙ ap (lines_from P p r (k.q + 1)) (sym j) ∙ n

  -- A run that has answered stays as it is.
  pub stays : (held : Option Pending) (so_far v : Constant) → held ≡ None → step (waiting P p r held so_far) v ≡ waiting P p r held so_far
  stays held so_far v e = ap (λ k. step (waiting P p r k so_far) v) e ∙ ap (λ k. waiting P p r k so_far) (sym e)
