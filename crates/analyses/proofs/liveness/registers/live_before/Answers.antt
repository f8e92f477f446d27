use Rattle.analyses.proofs.LivenessSteps.{is_live_before}
use Rattle.analyses.proofs.liveness.registers.live_before.Goals as goal

pub returns : goal.returns
returns c = is_live_before c.args.line c.args.live c.without_defined.result c.with_used.result c.without_defined.ensures c.with_used.ensures
