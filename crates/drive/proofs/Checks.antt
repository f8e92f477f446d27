-- What the checks of a line come to, taken together.
use Rattle.std.proofs.Common.{◌≡◌, ℕ, zero, suc, ◌+◌, ◌-◌, ◌<◌, ◌≤◌, Bool, true, false, not, eqb, List, [], ◌∷◌, length, get_or, Some, None, Option, refl, ap, ⊎_elim, arith}
use Rattle.std.proofs.lemmas.Bool.{ltb-true, lt-ltb, eq-eqb, and_from, and_parts, or_cases, not-true, both_ways}
use Rattle.drive.specs.declared.line.Line.{Line}
use Rattle.drive.specs.declared.line.Line.TheVariants.{Halt}
use Rattle.drive.specs.declared.line.Operand.{Operand}
use Rattle.drive.specs.declared.fault.Fault.{Fault}
use Rattle.drive.specs.declared.fault.Fault.TheVariants.{LastLine}
use Rattle.drive.specs.Lines.{either, none, bad_register, bad_target, fits, closes}
use Rattle.drive.specs.Faults.{unless, blamed, target_fault, line_fault}
use Rattle.drive.specs.Programs.{at, edit_fault}
use Rattle.drive.specs.Drafts.{stray_target, finish_fault}

pub fits_from : (n : ℕ) (line : Line) → bad_register line ≡ None → bad_target n line ≡ None → fits n line ≡ true
fits_from n line r t = and_from _ _ (ap none r) (ap none t)

none_is : {T : Type 0} (o : Option T) → none o ≡ true → o ≡ None
none_is None h = refl
none_is (Some x) h = cc

pub fits_register : (n : ℕ) (line : Line) → fits n line ≡ true → bad_register line ≡ None
fits_register n line h = none_is _ (and_parts (none (bad_register line)) (none (bad_target n line)) h).0

-- Of two checks, both pass.
either_none : {T : Type 0} (o k : Option T) → either o k ≡ None → (o ≡ None) × (k ≡ None)
either_none None k h = (refl, h)
either_none (Some x) k h = cc

blamed_none : (fault : Operand → Fault) (o : Option Operand) → blamed fault o ≡ None → o ≡ None
blamed_none fault None h = refl
blamed_none fault (Some x) h = cc

unless_none : (t : Bool) (fault : Fault) → unless t fault ≡ None → t ≡ true
unless_none true fault h = refl
unless_none false fault h = cc

-- A line without a fault fits.
pub faultless : (n p : ℕ) (line : Line) → line_fault n p line ≡ None → fits n line ≡ true
faultless n p line h =
    let (r, t) = either_none _ _ h in
    fits_from n line (blamed_none _ _ r) (blamed_none _ _ t)

-- A line that an edit lets pass.
pub record Passed (n p : ℕ) (line : Line) : Type 0 where
  pub below : p < n
  pub fitting : fits n line ≡ true
  pub last : p + 1 ≡ n → closes line ≡ true

pub edit_passed : (P : List Line) (p : ℕ) (line : Line) → edit_fault P p line ≡ None → Passed (length P) p line
edit_passed P p line h =
    let (b, r) = either_none _ _ h in
    let (f, l) = either_none _ _ r in
    record {
      below = ltb-true p (length P) (unless_none _ _ b);
      fitting = faultless (length P) p line f;
      last = λ e. ⊎_elim (λ n. absurd (both_ways _ (not-true _ n) (eq-eqb _ _ e))) (λ q. q) (or_cases (not (eqb (p + 1) (length P))) (closes line) (unless_none _ _ l));
    }

-- No stray target: every line's target is below n.
pub no_strays : (n p : ℕ) (P : List Line) → stray_target n p P ≡ None → (i : ℕ) → bad_target n (get_or P i Halt) ≡ None
no_strays n p [] h i = refl
no_strays n p (line ∷ P) h zero = blamed_none _ _ (either_none _ _ h).0
no_strays n p (line ∷ P) h (suc i) = no_strays n (p + 1) P (either_none (target_fault n p line) (stray_target n (p + 1) P) h).1 i

-- Lines that finishing lets pass.
pub record Complete (P : List Line) : Type 0 where
  pub some : 1 ≤ length P
  pub targets : (i : ℕ) → bad_target (length P) (at P i) ≡ None
  pub closed : closes (at P (length P - 1)) ≡ true

pub finish_passed : (P : List Line) → finish_fault P ≡ None → Complete P
finish_passed P h =
    let (s, r) = either_none _ _ h in
    let (t, l) = either_none _ _ r in
    let some = ltb-true 0 (length P) (unless_none _ _ s) in
    record { some = omega arith; targets = no_strays (length P) 0 P t; closed = unless_none _ _ l }

-- With some lines and no stray target, the last line decides.
pub finish_last : (P : List Line) → 1 ≤ length P → stray_target (length P) 0 P ≡ None → finish_fault P ≡ unless (closes (at P (length P - 1))) LastLine
finish_last P some strays =
    let k : 0 < length P = omega arith in
    rw (lt-ltb 0 (length P) k, strays)
