use Rattle.std.proofs.Common.{◌≡◌, ℕ, ◌-◌, true, List, length, get_or, set, inl, inr, sym, ap, ◌∙◌, arith}
use Rattle.std.specs.Result.{result_err}
use Rattle.std.proofs.Math.ListN.{length-set}
use Rattle.std.proofs.lemmas.Bool.{cases_eq}
use Rattle.std.proofs.lemmas.List.{get_or-set_same, get_or-set_other}
use Rattle.drive.specs.declared.line.Line.{Line}
use Rattle.drive.specs.declared.line.Line.TheVariants.{Halt}
use Rattle.drive.specs.Lines.{fits, closes}
use Rattle.drive.specs.Programs.{Sound}
use Rattle.drive.specs.Rows.{in_use}
use Rattle.drive.proofs.Checks.{Passed, edit_passed}
use Rattle.drive.proofs.program.Program.edit.Goals as goal

-- Lines keep the rules when a line that passed the checks replaces one of them.
module _ (P : List Line) (p : ℕ) (line : Line) (old : Sound P) (new : Passed (length P) p line) where
  fit : (i : ℕ) → fits (length P) (get_or (set P p line) i Halt) ≡ true
  fit i = elim (cases_eq i p) [
    | inl e ↦ rw (e, get_or-set_same P p line Halt new.below) new.fitting
    | inr ne ↦ rw (get_or-set_other P p i line Halt ne) (old.fitting i)
  ]

  closed : closes (get_or (set P p line) (length P - 1) Halt) ≡ true
  closed = elim (cases_eq (length P - 1) p) [
    | inl e ↦ let b = new.below in rw (e, get_or-set_same P p line Halt b) (new.last (omega arith))
    | inr ne ↦ rw (get_or-set_other P p (length P - 1) line Halt ne) old.closed
  ]

  sound : Sound (set P p line)
  sound = record { some = rw (length-set P p line) old.some; few = rw (length-set P p line) old.few; fitting = rw (length-set P p line) fit; closed = rw (length-set P p line) closed }

pub invariant_of-self : goal.invariant_of-self
invariant_of-self c =
    let self = c.args.self.now in
    let passed = edit_passed (in_use self.rows) c.args.p c.args.line (sym c.check_edit.ensures ∙ ap result_err c.in_ok-check_edit.was) in
    record { sound = rw c.set.ensures (sound (in_use self.rows) c.args.p c.args.line self.sound passed) }
