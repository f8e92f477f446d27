-- What an edit of a line leaves alone in the constants.
use Rattle.std.proofs.Common.{◌≡◌, ℕ, ◌-◌, ◌*◌, ◌/◌, ◌%◌, ◌<◌, Bool, true, false, ◌||◌, ◌⊎◌, List, [], ◌∷◌, length, set, Some, None, Option, Result, is_ok, sym, refl, ap, ◌∙◌, inl, inr, arith}
use Rattle.std.proofs.lemmas.List.{length-set, get_or-set_same, get_or-set_other}
use Rattle.std.proofs.lemmas.Bool.{cases_eq, or_parts, both_ways, false≢true}
use Rattle.lattice.specs.declared.constant.Constant.{Constant}
use Rattle.lattice.specs.Constants.{join_constants}
use Rattle.equations.specs.Edits.{Outcome, Kept}
use Rattle.equations.specs.Runs.{has}
use Rattle.equations.specs.Plans.{Plan, play, then, collect, move_of}
use Rattle.equations.proofs.Planned.{Each}
use Rattle.drive.specs.declared.line.Line.{Line}
use Rattle.drive.specs.declared.line.Line.TheVariants.{Halt}
use Rattle.drive.specs.declared.fault.Fault.{Fault}
use Rattle.drive.specs.declared.program.Program.{Program}
use Rattle.drive.specs.Lines.{none, successors}
use Rattle.drive.specs.Programs.{lines_of, at, edit_fault, Edited}
use Rattle.drive.proofs.Checks.{edit_passed}
use Rattle.analyses.specs.declared.constants.Start.{Start}
use Rattle.analyses.specs.declared.constants.Constants.{Constants}
use Rattle.analyses.specs.Predecessors.{passing, leads_to, predecessors}
use Rattle.analyses.specs.Constants.{start_at}
use Rattle.analyses.specs.ConstantRuns.{contributing, part, constancy}
use Rattle.analyses.specs.Edits.{touched_constants}
use Rattle.analyses.specs.Before.{each_passing}

-- Plans that agree on each of a list.
collect_same : (join : Constant → Constant → Constant) (f g : ℕ → Plan Constant Constant) (qs : List ℕ) → Each (λ q. f q ≡ g q) qs → (so_far : Constant)
    → collect join f qs so_far ≡ collect join g qs so_far
collect_same join f g [] h so_far = refl
collect_same join f g (q ∷ qs) h so_far = λ i. then (h.0 i) (λ v. collect_same join f g qs h.1 (join so_far v) i)

-- Line p is replaced, and x is at no successor of line p, neither as it was nor as it is.
module _ (P : List Line) (p : ℕ) (line : Line) (inside : p < length P) where
  abbrev P' : List Line
  P' = set P p line

  here : at P' p ≡ line
  here = get_or-set_same P p line Halt inside

  elsewhere : (q : ℕ) → (q ≡ p → ⊥) → at P' q ≡ at P q
  elsewhere q ne = get_or-set_other P p q line Halt ne

  module _ (s : ℕ) (old : has (successors (at P p) p) s ≡ false) (new : has (successors line p) s ≡ false) where
    same_leads : (q : ℕ) → leads_to P' s q ≡ leads_to P s q
    same_leads q = go (cases_eq q p)
      where
        go : (q ≡ p) ⊎ (q ≡ p → ⊥) → leads_to P' s q ≡ leads_to P s q
        go (inl e) = ap (leads_to P' s) e ∙ ap (λ l. has (successors l p) s) here ∙ new ∙ sym old ∙ sym (ap (leads_to P s) e)
        go (inr ne) = ap (λ l. has (successors l q) s) (elsewhere q ne)

    same_part : (r q : ℕ) → leads_to P s q ≡ true → part P' s r q ≡ part P s r q
    same_part r q l = go (cases_eq q p)
      where
        go : (q ≡ p) ⊎ (q ≡ p → ⊥) → part P' s r q ≡ part P s r q
        go (inl e) = absurd (both_ways (leads_to P s q) (ap (leads_to P s) e ∙ old) l)
        go (inr ne) = ap (λ l. contributing l q s r) (elsewhere q ne)

    same_right_hand_side : (r : ℕ) (so_far : Constant) → collect join_constants (part P' s r) (predecessors P' s) so_far ≡ collect join_constants (part P s r) (predecessors P s) so_far
    same_right_hand_side r so_far =
        let lines : predecessors P' s ≡ predecessors P s = λ i. passing (λ q. same_leads q i) (length-set P p line i - 0) 0 in
        ap (λ qs. collect join_constants (part P' s r) qs so_far) lines
        ∙ collect_same join_constants (part P' s r) (part P s r) (predecessors P s)
        (each_passing (leads_to P s) (λ q. part P' s r q ≡ part P s r q) (length P) (λ q k t. same_part r q t) (length P - 0) 0 (omega arith)) so_far

  pub kept : (start : Start) → edit_fault P p line ≡ None → Kept (constancy P start) (constancy P' start) (touched_constants P p line)
  kept start passed = record {
    size = ap (λ n. 8 * n) (length-set P p line);
    untouched = λ x k t given.
        let apart = or_parts (has (successors (at P p) p) (x / 8)) (has (successors line p) (x / 8)) (rw passed at t) in
        ap (λ t. move_of (play t given)) (same_right_hand_side (x / 8) apart.0 apart.1 (x % 8) (start_at start (x / 8)));
  }

pub edited : {U : Type 0} (old new : Constants) (p : ℕ) (line : Line) (refused : Option Fault) (r : Result U Fault)
    → new.start ≡ old.start → edit_fault (lines_of old.program) p line ≡ refused → Edited old.program new.program p line refused r
    → Outcome (constancy (lines_of old.program) old.start) (constancy (lines_of new.program) new.start) (new ≡ old)
    (touched_constants (lines_of old.program) p line) refused r
edited old new p line (Some f) r s n e = (e.0, λ i. record { program = e.1 i; start = s i })
edited old new p line None r s n e = (
  e.0,
  rw (e.1, s) (kept (lines_of old.program) p line (edit_passed (lines_of old.program) p line n).below old.start n),
)

-- What a copy of the program that was edited says of the touched unknowns.
replaced : {U : Type 0} (old new : Program) (p : ℕ) (line : Line) (refused : Option Fault) (r : Result U Fault)
    → edit_fault (lines_of old) p line ≡ refused → Edited old new p line refused r → is_ok r ≡ true → (none refused ≡ true) × (at (lines_of new) p ≡ line)
replaced old new p line (Some f) r n e ok = absurd (false≢true (sym (ap is_ok e.0) ∙ ok))
replaced old new p line None r n e ok =
    (refl, ap (λ P. at P p) e.1 ∙ get_or-set_same (lines_of old) p line Halt (edit_passed (lines_of old) p line n).below)

pub touched_by : {U : Type 0} (old new : Program) (p : ℕ) (line : Line) (x : ℕ) (r : Result U Fault) (before after : Bool)
    → Edited old new p line (edit_fault (lines_of old) p line) r → is_ok r ≡ true
    → before ≡ leads_to (lines_of old) (x / 8) p → after ≡ leads_to (lines_of new) (x / 8) p
    → (before || after) ≡ touched_constants (lines_of old) p line x
touched_by old new p line x r before after e ok b a =
    let (accepts, here) = replaced old new p line (edit_fault (lines_of old) p line) r refl e ok in
    rw (accepts, b, a, here)
