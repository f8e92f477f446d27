use Rattle.std.proofs.Common.{sym, ap, ◌∙◌}
use Rattle.std.specs.Option.{ok_or}
use Rattle.text.specs.declared.fault.InputFault.TheVariants.{Op as NoOp}
use Rattle.text.specs.Ops.{op_named}
use Rattle.text.proofs.Worded.{word_is, no_op}
use Rattle.text.proofs.row.named.Goals as goal

pub returns-in-Word : goal.returns-in-Word
returns-in-Word c = λ w e. c.try_from.ensures ∙ ap (λ v. ok_or (op_named v) NoOp) (word_is c.in-Word.word c.args.field w c.in-Word.is e)

pub returns-in_default : goal.returns-in_default
returns-in_default c = λ w e. ap (λ o. ok_or o NoOp) (sym (no_op c.args.field w c.in_default.not-Word e))
