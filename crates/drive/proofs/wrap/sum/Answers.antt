use Rattle.drive.proofs.Wrapping.{w_wraps, wraps_once}
use Rattle.drive.proofs.wrap.sum.Goals as goal

pub returns-clause-named : goal.returns-clause-named
returns-clause-named c = w_wraps

pub returns-clause-once : goal.returns-clause-once
returns-clause-once c = wraps_once
