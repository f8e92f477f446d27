use Rattle.std.proofs.Common.{◌≡◌, get_or, pos, ap, ◌∙◌, rules}
use borrow.Author.Rules.{get_or_read}
use Rattle.drive.specs.declared.line.Line.TheVariants.{Set}
use Rattle.drive.specs.Programs.{lines_of, at}
use Rattle.analyses.specs.Constants.{unknown}
use Rattle.analyses.proofs.ConstantSteps.{begun}
use Rattle.analyses.proofs.constants.run.next_ask.Goals as goal

pub returns : goal.returns
returns c =
    let P = lines_of c.args.program.now in
    let q = c.in_ok-q.q in
    let line : get_or c.lines.result.now q (Set 0 (pos 0)) ≡ at P q = search (rules, get_or_read) in
    begun P c.args.place.p c.args.place.r c.args.from q c.unknown.result (get_or c.lines.result.now q (Set 0 (pos 0)))
    c.in_ok-q.ensures line (c.unknown.ensures ∙ ap (unknown q) c.first_register.ensures)
