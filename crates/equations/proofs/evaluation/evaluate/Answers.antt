use Rattle.std.proofs.Common.{◌<◌, sym, arith, rules}
use Rattle.equations.proofs.Evaluating.{going_none, going_answers, going_fits, going_more}
use Rattle.equations.proofs.evaluation.evaluate.Goals as goal

pub loop-value-init : goal.loop-value-init
loop-value-init g c =
    let known : c.args.x < (g.E.Equations.meaning c.args.equations.now).size = omega arith in
    going_none known (c.begin-run.ensures.stands known)

pub returns-in-Answer : goal.returns-in-Answer
returns-in-Answer g c =
    let h = going_answers c.loop-value.invariant c.in-Answer.value (sym (c.in-Answer.ensures _ _ c.loop-value.invariant.stands).0) in
    search rules

pub loop-value-smaller : goal.loop-value-smaller
loop-value-smaller g c =
    let h = going_fits c.loop-value.invariant c.begin-run.ensures.lawful c.in-Ask.y (sym (c.in-Ask.ensures _ _ c.loop-value.invariant.stands).0) in
    omega arith

pub loop-value-preserved : goal.loop-value-preserved
loop-value-preserved g c =
    let asks = c.in-Ask.ensures _ _ c.loop-value.invariant.stands in
    going_more c.loop-value.invariant c.begin-run.ensures.lawful c.in-Ask.y (sym asks.0) _ c.value_at.result c.value_at.ensures (c.give.ensures _ _ asks.1)
