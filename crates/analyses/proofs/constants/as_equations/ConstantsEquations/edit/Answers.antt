use Rattle.std.proofs.Common.{refl}
use Rattle.analyses.proofs.ConstantEdits.{edited}
use Rattle.analyses.proofs.constants.as_equations.ConstantsEquations.edit.Goals as goal

pub returns-clause-outcome : goal.returns-clause-outcome
returns-clause-outcome c =
    let self = c.args.self.now in
    edited self (record { program = c.edit.new.self; start = self.start }) c.args.change.p c.args.change.line _ _ refl refl c.edit.ensures
