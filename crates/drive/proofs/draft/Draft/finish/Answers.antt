use Rattle.std.proofs.Common.{◌≡◌, ◌-◌, ◌<◌, length, get_or, Some, None, sym, ap, ◌∙◌, arith, rules}
use Rattle.std.specs.List.{slice_get}
use Rattle.std.specs.Option.{option_copied}
use Rattle.std.specs.Result.{result_ok, result_err}
use Rattle.std.proofs.lemmas.Option.{slice_get_within, get_or_from_slice_get}
use Rattle.drive.specs.declared.line.Line.TheVariants.{Halt}
use Rattle.drive.specs.Lines.{closes}
use Rattle.drive.specs.Drafts.{stray_target}
use Rattle.drive.specs.Rows.{in_use}
use Rattle.drive.proofs.Tables.{used}
use Rattle.drive.proofs.Checks.{fits_from, fits_register, no_strays}
use Rattle.drive.proofs.draft.Draft.finish.Goals as goal

pub invariant_of-program : goal.invariant_of-program
invariant_of-program c =
    let self = c.args.self in
    let P = in_use self.rows in
    let n = used self.rows in
    let few = self.rows.few in
    let last : slice_get P (length P - 1) ≡ Some c.in_ok-last.last.now = rw c.as_slice.ensures at (sym c.last.ensures.value ∙ ap option_copied (c.ok_or.ensures.ok_part ∙ ap result_ok c.in_ok-last.was)) in
    let some : length P - 1 < length P = slice_get_within P (length P - 1) c.in_ok-last.last.now last in
    let strays : stray_target (length P) 0 P ≡ None = sym c.check_targets.ensures ∙ ap result_err c.in_ok-check_targets.was in
    record {
      sound = record {
        some = omega arith;
        few = omega arith;
        fitting = λ i. fits_from (length P) (get_or P i Halt) (fits_register 64 (get_or P i Halt) (self.sound i)) (no_strays (length P) 0 P strays i);
        closed = ap closes (get_or_from_slice_get P (length P - 1) c.in_ok-last.last.now Halt last) ∙ sym c.closes.ensures ∙ search rules;
      };
    }
