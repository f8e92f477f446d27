use Rattle.std.proofs.Common.{◌∙◌, sym, refl, subst, Bor, arith}
use Rattle.equations.specs.Systems.{system}
use Rattle.equations.specs.Steps.{Step, Steps.done, Steps.then}
use Rattle.memory.specs.Contents.{contents}
use Rattle.memory.specs.Solving.{reached}
use Rattle.memory.proofs.Asking.{begun, asking_falls, asked_all, ask_of}
use Rattle.memory.proofs.entries.Entries.solve.Goals as goal

pub loop-p-init : goal.loop-p-init
loop-p-init g c = (done, refl, refl, refl, refl)

pub loop-p-smaller : goal.loop-p-smaller
loop-p-smaller g c =
    let P : Bor g.row.E.Denot → Type 0 = λ e. Step (system g.V.Lattice.kind (g.E.Equations.meaning e.now)) (reached c.loop-p.solving) (reached c.step.new.self) in
    asking_falls (system g.V.Lattice.kind (g.E.Equations.meaning c.args.equations.now)) c.loop-p.solving.entries.now c.loop-p.solving.waiting.words (g.met.E.Equations.lawful _) c.loop-p.solving.size (c.loop-p.invariant.2 ∙ c.enter.ensures.kept.0 ∙ c.requires.size)
    c.loop-p.solving.places _ (subst P (c.loop-p.invariant.3 ∙ c.enter.ensures.kept.1) c.step.ensures.step)

pub loop-p-preserved : goal.loop-p-preserved
loop-p-preserved g c =
    let P : Bor g.row.E.Denot → Type 0 = λ e. Step (system g.V.Lattice.kind (g.E.Equations.meaning e.now)) (reached c.loop-p.solving) (reached c.step.new.self) in (
      then c.loop-p.invariant.0 (subst P (c.loop-p.invariant.3 ∙ c.enter.ensures.kept.1) c.step.ensures.step),
      c.step.ensures.kept.3 ∙ c.loop-p.invariant.1,
      c.step.ensures.kept.0 ∙ c.loop-p.invariant.2,
      c.step.ensures.kept.1 ∙ c.loop-p.invariant.3,
      c.step.ensures.kept.2 ∙ c.loop-p.invariant.4,
    )

pub returns : goal.returns
returns g c =
    let named = sym (c.loop-p.invariant.4 ∙ c.enter.ensures.kept.2) in
    let ask = asked_all (system g.V.Lattice.kind (g.E.Equations.meaning c.args.equations.now)) c.loop-p.solving.entries.now c.loop-p.solving.waiting.words (contents c.args.self.now) c.args.q (reached c.enter.new.self)
    (rw (sym c.requires.size) c.requires.unknown) c.requires.unlisted (begun (system g.V.Lattice.kind (g.E.Equations.meaning c.args.equations.now)) c.args.self.now c.new.result.words c.args.q (reached c.enter.new.self) c.new.ensures c.enter.ensures.entered) c.loop-p.invariant.0 c.in_default.ensures in
    let capacity = c.loop-p.invariant.1 ∙ c.enter.ensures.kept.3 in
    record { ask = grind (arith, ask_of); capacity = grind arith }
