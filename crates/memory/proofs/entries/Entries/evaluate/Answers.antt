use Rattle.std.proofs.Common.{◌∙◌, length, sym, ap, lit<, arith}
use Rattle.std.proofs.lemmas.List.{length_push}
use Rattle.std.specs.Result.{result_ok}
use Rattle.std.proofs.lemmas.Result.{err_from_is_err_and}
use Rattle.equations.specs.Systems.{system}
use Rattle.memory.specs.Layout.{stored}
use Rattle.memory.proofs.Going.{going_none, going_answers, Asks, going_asks, refused}
use Rattle.memory.proofs.entries.Entries.evaluate.Given as given
use Rattle.memory.proofs.entries.Entries.evaluate.Goals as goal
use Rattle.memory.proofs.entries.Entries.evaluate.Goals.{In-Ask}

pub loop-value-init : goal.loop-value-init
loop-value-init g c = rw c.clear.ensures (going_none _ _ _ _ (c.begin-run.ensures.stands c.requires.unknown))

pub returns-in-Answer : goal.returns-in-Answer
returns-in-Answer g c = going_answers _ _ _ _ _ c.loop-value.invariant _ (sym (c.in-Answer.ensures _ _ c.loop-value.invariant.stands).0)

-- the run asks
asks : (g : given.Over) (c : In-Ask g) → Asks (system g.V.Lattice.kind (g.E.Equations.meaning c.args.equations.now)) (stored c.args.self.now.cells.now) c.args.x c.loop-value.trail.items c.in-Ask.y
asks g c = going_asks _ _ _ _ _ c.loop-value.invariant c.begin-run.ensures.lawful c.requires.unknown c.in-Ask.y (sym (c.in-Ask.ensures _ _ c.loop-value.invariant.stands).0)

pub value-requires : goal.value-requires
value-requires g c = omega (arith, (asks g (goal.at.value-requires g c).In-Ask).inside, c.requires.room)

pub returns-in_err-value-in-Ask : goal.returns-in_err-value-in-Ask
returns-in_err-value-in-Ask g c =
    let a = asks g (goal.at.returns-in_err-value-in-Ask g c).In-Ask in
    let p = err_from_is_err_and c.from_residual.result c.from_residual.ensures.1 in
    let (none, missing) = refused c.value.result _ c.in_err-value-in-Ask.field-0.0 (sym c.ok_or.ensures.value ∙ c.in_err-value-in-Ask.was) in
    rw (p.1, p.2, missing) (a.lacks (sym c.value.ensures ∙ none), a.inside)

pub push-requires : goal.push-requires
push-requires g c = (lit< tt, (asks g (goal.at.push-requires g c).In-Ask).fits)

pub loop-value-smaller : goal.loop-value-smaller
loop-value-smaller g c = omega (arith, ap length c.push.ensures.items, length_push c.loop-value.trail.items c.in-Ask.y, (asks g (goal.at.loop-value-smaller g c).In-Ask).fits)

pub loop-value-preserved : goal.loop-value-preserved
loop-value-preserved g c =
    rw c.push.ensures.items ((asks g (goal.at.loop-value-preserved g c).In-Ask).more _ c.in_ok-value-in-Ask.value (sym c.value.ensures ∙ c.ok_or.ensures.ok_part ∙ ap result_ok c.in_ok-value-in-Ask.was) (c.give.ensures _ _ (c.in-Ask.ensures _ _ c.loop-value.invariant.stands).1))
