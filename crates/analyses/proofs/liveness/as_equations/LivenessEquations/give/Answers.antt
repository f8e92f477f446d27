use Rattle.std.proofs.Common.{◌≡◌, ℕ, ◌∷◌, refl, ap}
use Rattle.drive.specs.Lines.{in_order}
use Rattle.equations.proofs.Planned.{play_step}
use Rattle.analyses.proofs.LivenessSteps.{given_one, stays}
use Rattle.analyses.proofs.liveness.as_equations.LivenessEquations.give.Goals as goal
use Rattle.analyses.proofs.liveness.as_equations.LivenessEquations.give.Goals.{in-One, in-Two}

pub returns-in-Nowhere : goal.returns-in-Nowhere
returns-in-Nowhere c = λ x given e.
    let run = c.args.run.now in
    play_step _ _ _ given c.args.value e (stays run.line run.live c.args.value (in_order run.left) (ap in_order c.in-Nowhere.is))

pub returns : goal.returns
returns c = λ x given e.
    let run = c.args.run.now in
    let (s, left) : (s : ℕ) × (in_order run.left ≡ s ∷ in_order c.match-run.run) = elim c.match-run.branch [
      | in-One w ↦ (w.in-One.field-0, rw (w.in-One.is, w.run-is) refl)
      | in-Two w ↦ (w.in-Two.field-0, rw (w.in-Two.is, w.run-is) refl)
    ] in
    play_step _ _ _ given c.args.value e
    (given_one run.line run.live c.args.value (in_order run.left) s (in_order c.match-run.run) c.join-run.result left c.join-run.ensures)
