use Rattle.std.proofs.Common.{sym, ap, ◌∙◌}
use Rattle.std.proofs.lemmas.Result.{err_from_is_err_and}
use Rattle.drive.specs.Drafts.{typed}
use Rattle.fields.specs.Readers.{next_of}
use Rattle.text.proofs.Rowwise.{room_passed, add_refused, refused_by_draft}
use Rattle.text.proofs.table.TableReader.take.Goals as goal

pub returns-in_err-add : goal.returns-in_err-add
returns-in_err-add c =
    let self = c.args.self.now in
    let p = err_from_is_err_and c.from_residual-in_err-add.result c.from_residual-in_err-add.ensures.1 in
    let room = room_passed (typed self.draft) c.room.result _ c.room.ensures c.in_ok-room.was in
    let (bad, same) = add_refused self.draft c.add.new.self c.in_ok-line.line _ c.add.result _ c.add.ensures c.in_err-add.was in
    rw (p.1, p.2) (record {
      value = refused_by_draft self.order (typed self.draft) (next_of self.reader) c.in_ok-line.line _ room (sym c.in_ok-line.was ∙ c.convert.ensures) bad;
      after = ap (λ d. record { order = self.order; draft = d; first = self.first; reader = self.reader }) same;
    })
