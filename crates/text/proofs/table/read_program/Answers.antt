use Rattle.std.proofs.Common.{◌≡◌, Some, None, Ok, Option, Result, sym, ap, ◌∙◌, subst}
use Rattle.std.proofs.lemmas.Result.{err_from_is_err_and}
use Rattle.drive.specs.declared.line.Line.{Line}
use Rattle.fields.specs.declared.reader.Reader.{Reader}
use Rattle.fields.specs.Readers.{text_of, place_of}
use Rattle.text.specs.declared.fault.Refusal.{Refusal}
use Rattle.text.specs.declared.order.Order.{Order}
use Rattle.text.specs.declared.table.TableReader.{TableReader}
use Rattle.text.specs.Reading.{reading}
use Rattle.text.specs.Names.{PastNames}
use Rattle.text.specs.Theory.{Accepting, NamesRule}
use Rattle.text.specs.Laws.{FirstRefusal, RegisterRule}
use Rattle.text.specs.Steps.{Begun, Goes}
use Rattle.text.proofs.Named.{names_rule}
use Rattle.text.proofs.Whole.{accepting}
use Rattle.text.proofs.Firsts.{first_refusal, register_rule}
use Rattle.text.proofs.Readings.{names_refused, refused, no_rows_yet, one_row, row_refuses, refused_row, no_row, whole}
use Rattle.text.proofs.table.read_program.Goals as goal

-- A reading that is as it should be, with the theorems beside it.
theorems : {Read : Type 0} → Read → record { value : Read; accepting : Accepting; names : NamesRule; first : FirstRefusal; register : RegisterRule }
theorems read = record { value = read; accepting = accepting; names = names_rule; first = first_refusal; register = register_rule }

pub returns-in_err-order : goal.returns-in_err-order
returns-in_err-order c =
    let x = c.args.reader.now in
    let p = err_from_is_err_and c.from_residual.result c.from_residual.ensures.1 in
    rw (p.1, p.2) (theorems (refused x c.args.program.now (reading (text_of x) (place_of x)) _ (names_refused x _ c.in_err-order.ensures.value)))

pub loop-line-init : goal.loop-line-init
loop-line-init c = no_rows_yet c.new-table.result c.new-table.ensures.none

-- The table begins past the names.
past : (x rows : Reader) (o : Order) (start : TableReader) → Begun o rows start → PastNames x rows → PastNames x start.reader
past x rows o start b p = subst (λ (y : Reader). PastNames x y) (sym b.reader_is) p

goes : (before now : TableReader) (r v : Result (Option Line) Refusal) → r ≡ v → Goes before now r → Goes before now v
goes before now r v e h = subst (λ (w : Result (Option Line) Refusal). Goes before now w) e h

pub returns-in_err-_line : goal.returns-in_err-_line
returns-in_err-_line c =
    let x = c.args.reader.now in
    let start = c.new-table.result in
    let p = err_from_is_err_and c.from_residual-in_err-_line.result c.from_residual-in_err-_line.ensures.1 in
    rw (p.1, p.2) (theorems (refused_row x start c.in_ok-order.order c.in_ok-order.ensures.value
    (past x c.read_names.new.reader c.in_ok-order.order start c.new-table.ensures c.in_ok-order.ensures.after) c.new-table.ensures.order
    c.args.program.now c.in_err-_line.field-0.0
    (row_refuses start c.loop-line.table c.loop-line.invariant c.in_err-_line.field-0.0 (sym c.in_err-_line.was ∙ c.row.ensures.value))))

pub loop-line-preserved : goal.loop-line-preserved
loop-line-preserved c =
    let e : c.row.result ≡ Ok (Some c.in-Some._line) = c.in_ok-_line.was ∙ ap Ok c.in-Some.is in
    one_row c.new-table.result c.loop-line.table c.loop-line.invariant c.row.new.self c.in-Some._line (sym e ∙ c.row.ensures.value)
    (goes c.loop-line.table c.row.new.self c.row.result (Ok (Some c.in-Some._line)) e c.row.ensures.after)

pub returns : goal.returns
returns c =
    let x = c.args.reader.now in
    let start = c.new-table.result in
    let e : c.row.result ≡ Ok None = c.in_ok-_line.was ∙ ap Ok c.in_default.is in
    theorems (whole x start c.in_ok-order.order c.in_ok-order.ensures.value
    (past x c.read_names.new.reader c.in_ok-order.order start c.new-table.ensures c.in_ok-order.ensures.after) c.new-table.ensures.order
    c.loop-line.table c.loop-line.invariant c.row.new.self
    (no_row start c.loop-line.table c.loop-line.invariant c.row.new.self (sym e ∙ c.row.ensures.value) (goes c.loop-line.table c.row.new.self c.row.result (Ok None) e c.row.ensures.after))
    (c.new-table.ensures.first ∙ sym c.new-table.ensures.reader_is)
    c.finish.new.reader c.args.program.now c.finish.new.program c.finish.result c.finish.ensures)
