use Rattle.std.proofs.Common.{◌≡◌, length, Err, rules, refl, ◌∙◌, sym}
use Rattle.std.proofs.lemmas.Result.{err_from_is_err_and}
use Rattle.drive.specs.Drafts.{typed}
use Rattle.fields.specs.Readers.{number_of}
use Rattle.text.specs.Reading.{refusal}
use Rattle.text.specs.Names.{ahead}
use Rattle.text.proofs.Rowwise.{told_ok, told_err, row_taken, row_refused, at_end}
use Rattle.text.proofs.table.TableReader.row.Goals as goal

pub returns-in_default-clause-after : goal.returns-in_default-clause-after
returns-in_default-clause-after c = record { order = refl; first = refl; rows = refl; past = at_end c.args.self.now.reader c.in_default.ensures.taken.0 }

pub returns-in_err-line-clause-value : goal.returns-in_err-line-clause-value
returns-in_err-line-clause-value c =
    let self = c.args.self.now in
    let p = err_from_is_err_and c.from_residual.result c.from_residual.ensures.1 in
    let number = c.line_number-number.result in
    let (cause, was, learnt) = told_err c.take.result c.map_err.result _ c.map_err.ensures.cases c.in_err-line.field-0.0 c.in_err-line.was in
    let told : c.in_err-line.field-0.0 ≡ refusal self.order number cause = search rules in
    rw (p.1, p.2, told) ((λ j. Err (refusal self.order (c.line_number-number.ensures.value j) cause))
    ∙ row_refused self.order (number_of self.reader) (length (typed self.draft)) (ahead self.reader) c.in-Some.line.now _ c.in-Some.ensures.taken.0 (search rules) cause (sym was ∙ c.take.ensures.value))

pub returns-clause-value : goal.returns-clause-value
returns-clause-value c =
    let self = c.args.self.now in
    let was = told_ok c.take.result c.map_err.result _ c.map_err.ensures.cases c.in_ok-line.line c.in_ok-line.was in
    row_taken self.order (number_of self.reader) (length (typed self.draft)) (ahead self.reader) c.in-Some.line.now _ c.in-Some.ensures.taken.0 (search rules) c.in_ok-line.line (sym was ∙ c.take.ensures.value)
