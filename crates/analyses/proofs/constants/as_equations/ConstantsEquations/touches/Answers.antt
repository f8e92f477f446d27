use Rattle.std.proofs.Common.{false, rules}
use Rattle.analyses.proofs.ConstantEdits.{touched_by}
use Rattle.analyses.proofs.constants.as_equations.ConstantsEquations.touches.Goals as goal

pub returns-else-leads_to : goal.returns-else-leads_to
returns-else-leads_to c =
    touched_by c.args.self.now.program c.edit.new.self c.args.change.p c.args.change.line c.args.x c.edit.result
    false c.leads_to-else-leads_to.result c.edit.ensures (search rules) (search rules) (search rules)
