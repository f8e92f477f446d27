use Rattle.std.proofs.Common.{◌≡◌, ℕ, length, Ok, Err, Result, sym, refl, ap, ◌∙◌, subst, arith}
use Rattle.drive.specs.Drafts.{typed, finish_fault}
use Rattle.drive.proofs.Drafts.{counted}
use Rattle.fields.specs.Readers.{number_of, place_of}
use Rattle.text.specs.declared.fault.Refusal.{Refusal}
use Rattle.text.specs.Reading.{refusal, fault_line}
use Rattle.text.specs.Steps.{Within, Ends}
use Rattle.text.proofs.Ends.{ended_met, ended_told, finished_ok, finished_err, within}
use Rattle.text.proofs.table.TableReader.finish.Goals as goal

pub fault_line-line-requires : goal.fault_line-line-requires
fault_line-line-requires c =
    let P = typed c.args.self.draft in
    let bad = (finished_err P c.args.program.now c.finish.new.program c.finish.result (finish_fault P) c.in-Err.fault c.finish.ensures c.in-Err.is).0 in
    let n = counted c.args.self.draft in
    let few = c.args.self.draft.rows.few in
    (c.line_number.ensures.few, (subst (λ (m : ℕ). Within m c.in-Err.fault) (sym c.count-rows.ensures) (within P c.in-Err.fault bad), omega (arith, c.count-rows.ensures)))

pub returns-in-Err : goal.returns-in-Err
returns-in-Err c =
    let table = c.args.self in
    let P = typed table.draft in
    let fault = c.in-Err.fault in
    let k = number_of table.first in
    let (bad, same) = finished_err P c.args.program.now c.finish.new.program c.finish.result (finish_fault P) fault c.finish.ensures c.in-Err.is in
    let line : c.fault_line-line.result ≡ fault_line k (length P) fault = c.fault_line-line.ensures ∙ (λ j. fault_line (c.line_number.ensures.value j) (c.count-rows.ensures j) fault) in
    subst (λ (x : Result (ℕ × ℕ) Refusal). Ends table c.args.reader.now c.args.reader.now c.args.program.now c.finish.new.program x (Err c.refusal.result))
    (sym (ended_told table.order k (length P) (finish_fault P) (Ok (length P, place_of table.reader)) fault bad))
    (ap Err (c.refusal.ensures ∙ (λ j. refusal table.order (line j) (c.into.ensures j))), refl, same)

pub returns : goal.returns
returns c =
    let table = c.args.self in
    let P = typed table.draft in
    let (none, is) = finished_ok P c.args.program.now c.finish.new.program c.finish.result (finish_fault P) c.finish.ensures c.in_default.not-Err in
    subst (λ (x : Result (ℕ × ℕ) Refusal). Ends table c.args.reader.now table.reader c.args.program.now c.finish.new.program x (Ok (c.count-rows.result, c.position-place.result)))
    (sym (ended_met table.order (number_of table.first) (length P) (finish_fault P) (Ok (length P, place_of table.reader)) none))
    ((λ j. Ok (c.count-rows.ensures j, c.position-place.ensures j)), refl, is)
