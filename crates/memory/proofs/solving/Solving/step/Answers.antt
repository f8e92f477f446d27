use Rattle.std.proofs.Common.{is_some, sym, ap, ◌∙◌, subst, arith}
use Rattle.equations.specs.Systems.{System, system}
use Rattle.equations.specs.Steps.{State, Step, Step.miss}
use Rattle.memory.specs.declared.entries.Entries.{Entries}
use Rattle.memory.specs.Layout.{stored}
use Rattle.memory.specs.Contents.{state}
use Rattle.memory.specs.Solving.{reached}
use Rattle.memory.proofs.Stepping.{Taken, taken, found_all, unlisted_at, joined, Answered, answered}
use Rattle.memory.proofs.solving.Solving.step.Given as given
use Rattle.memory.proofs.solving.Solving.step.Goals as goal
use Rattle.memory.proofs.solving.Solving.step.Goals.{After-at-x, After-remove}

-- x, in place p, is the waiting entry that was entered last
last : (g : given.Over) (c : After-at-x g) → Taken c.args.self.now.entries.now c.args.self.now.waiting.words c.args.self.now.size c.args.p c.at-x.result
last g c = taken c.args.self.now.entries.now c.args.self.now.waiting.words c.args.self.now.size c.args.self.now.places c.args.p c.at-x.result c.requires.waits c.requires.last c.at-x.ensures

-- it has answered, and no longer waits
done : (g : given.Over) (c : After-remove g)
    → Answered (system g.V.Lattice.kind (g.E.Equations.meaning c.args.self.now.equations.now)) c.args.self.now.entries.now c.settle.new.self c.args.self.now.waiting.words c.remove.new.self.words c.args.self.now.size c.at-x.result
    c.unwrap-old.result c.join-new.result
done g c =
    let E : System g.row.V.Denot = system g.V.Lattice.kind (g.E.Equations.meaning c.args.self.now.equations.now) in
    answered c.args.self.now.entries.now c.args.self.now.waiting.words c.args.self.now.size c.args.self.now.places E c.requires.size
    c.settle.new.self c.remove.new.self.words c.args.p c.at-x.result
    (taken c.args.self.now.entries.now c.args.self.now.waiting.words c.args.self.now.size c.args.self.now.places c.args.p c.at-x.result c.requires.waits c.requires.last c.at-x.ensures)
    c.unwrap-old.result c.join-new.result c.as_slice.result.now c.in-Ok.ensures.full (c.in-Ok.ensures.asks ∙ sym c.as_slice.ensures.value)
    c.settle.ensures.notebook c.settle.ensures.orders c.settle.ensures.places
    (joined E (stored c.args.self.now.entries.now.cells.now) c.at-x.result c.value.result
    c.unwrap-old.result c.join-new.result c.in-Ok.answer c.value.ensures c.unwrap-old.ensures c.join-new.ensures c.in-Ok.ensures.gives)
    c.remove.ensures

pub enter-requires-clause-unlisted : goal.enter-requires-clause-unlisted
enter-requires-clause-unlisted g c = unlisted_at (system g.V.Lattice.kind (g.E.Equations.meaning c.args.self.now.equations.now)) (stored c.args.self.now.entries.now.cells.now) c.at-x.result c.in-Err.field-0.0 c.in-Err.ensures.0

pub unwrap-old-requires : goal.unwrap-old-requires
unwrap-old-requires g c = ap is_some c.value.ensures ∙ (last g (goal.at.unwrap-old-requires g c).After-at-x).listed

pub settle-requires-clause-listed : goal.settle-requires-clause-listed
settle-requires-clause-listed g c = (last g (goal.at.settle-requires-clause-listed g c).After-at-x).listed

pub settle-requires-clause-found : goal.settle-requires-clause-found
settle-requires-clause-found g c = found_all (system g.V.Lattice.kind (g.E.Equations.meaning c.args.self.now.equations.now)) (stored c.args.self.now.entries.now.cells.now) c.at-x.result c.as_slice.result.now c.in-Ok.ensures.full (c.in-Ok.ensures.asks ∙ sym c.as_slice.ensures.value)

pub rouse-requires : goal.rouse-requires
rouse-requires g c = (done g (goal.at.rouse-requires g c).After-remove).listed

pub returns-in-Err-clause-step : goal.returns-in-Err-clause-step
returns-in-Err-clause-step g c =
    let t = last g (goal.at.returns-in-Err-clause-step g c).After-at-x in
    let P : State g.row.V.Denot → Type 0 = λ s. Step (system g.V.Lattice.kind (g.E.Equations.meaning c.args.self.now.equations.now)) (reached c.args.self.now) s in
    subst P (sym c.enter.ensures.entered) (miss t.late c.in-Err.ensures.0)

pub returns-then-rank-clause-step : goal.returns-then-rank-clause-step
returns-then-rank-clause-step g c =
    let P : Entries g.row.V.Denot → Type 0 = λ b. Step (system g.V.Lattice.kind (g.E.Equations.meaning c.args.self.now.equations.now)) (reached c.args.self.now) (state b c.rouse.new.self.waiting.words) in
    subst P (sym c.rouse.ensures.notebook)
    ((done g (goal.at.returns-then-rank-clause-step g c).After-remove).risen c.rouse.new.self.waiting.words (omega (arith, c.rank.ensures, c.rank-in-Ok.ensures, c.if-rank.true)) c.rouse.ensures.roused)

pub returns-else-rank-clause-step : goal.returns-else-rank-clause-step
returns-else-rank-clause-step g c = (done g (goal.at.returns-else-rank-clause-step g c).After-remove).quiet (omega (arith, c.rank.ensures, c.rank-in-Ok.ensures, c.if-rank.false))
