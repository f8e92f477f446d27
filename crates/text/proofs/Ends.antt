-- The end of a table, both ways.
use Rattle.std.proofs.Common.{◌≡◌, ℕ, suc, ◌+◌, ◌-◌, ◌<◌, ◌≤◌, Bool, true, false, ltb, List, [], ◌∷◌, length, Some, None, Ok, Err, Option, Result, sym, refl, ap, ◌∙◌, subst, arith}
use Rattle.std.specs.List.{AllByRecursion as All}
use Rattle.std.proofs.lemmas.Bool.{ltb-true}
use Rattle.drive.specs.declared.line.Line.{Line}
use Rattle.drive.specs.declared.line.Operand.{Operand}
use Rattle.drive.specs.declared.fault.Fault.{Fault}
use Rattle.drive.specs.declared.fault.Fault.TheVariants.{Target, NoLines, LastLine}
use Rattle.drive.specs.Lines.{either, bad_target, closes}
use Rattle.drive.specs.Faults.{unless, blamed}
use Rattle.drive.specs.declared.program.Program.{Program as Prog}
use Rattle.drive.specs.Programs.{at, lines_of}
use Rattle.drive.specs.Drafts.{stray_target, finish_fault, Finished}
use Rattle.drive.proofs.Checks.{finish_passed, finish_last}
use Rattle.text.specs.declared.fault.Refusal.{Refusal}
use Rattle.text.specs.declared.order.Order.{Order}
use Rattle.text.specs.declared.fault.Cause.TheVariants.{Program}
use Rattle.text.specs.Reading.{told, fault_line, ended, finish}
use Rattle.text.specs.Steps.{Within}
use Rattle.text.proofs.Fits.{Fit, Good, fit_from, fit_register, fit_target, fit_sixteen, all_from, all_at}

pub ended_met : {T : Type 0} (o : Order) (k n : ℕ) (f : Option Fault) (next : Result T Refusal) → f ≡ None → ended o k n f next ≡ next
unfolding ended
ended_met o k n f next e = rw e

pub ended_ok : {T : Type 0} (o : Order) (k n : ℕ) (f : Option Fault) (next : Result T Refusal) (v : T) → ended o k n f next ≡ Ok v → (f ≡ None) × (next ≡ Ok v)
unfolding ended
ended_ok o k n None next v e = (refl, e)
ended_ok o k n (Some fault) next v e = let z : ◌≡◌ {A = ℕ} 0 1 = cc in absurd (omega arith)

-- no line of a good program goes astray
no_strays : (n p : ℕ) (P : List Line) → All (Fit n) P → stray_target n p P ≡ None
no_strays n p [] h = refl
no_strays n p (l ∷ P) (s, h) = ap (λ t. either (blamed (Target p) t) (stray_target n (p + 1) P)) (fit_target n l s) ∙ no_strays n (p + 1) P h

pub faultless : (P : List Line) → Good P → finish_fault P ≡ None
faultless P g =
    let some = g.some in
    finish_last P (omega arith) (no_strays (length P) 0 P g.fit) ∙ ap (λ b. unless b LastLine) g.last

pub finish_met : {T : Type 0} (o : Order) (k : ℕ) (P : List Line) (next : Result T Refusal) → Good P → finish o k P next ≡ next
finish_met o k P next g = ended_met o k (length P) (finish_fault P) next (faultless P g)

pub finish_ok : {T : Type 0} (o : Order) (k : ℕ) (P : List Line) (next : Result T Refusal) (v : T) → length P ≤ 64 → All (Fit 64) P → finish o k P next ≡ Ok v → Good P × (next ≡ Ok v)
finish_ok o k P next v few h e =
    let (f, g) = ended_ok o k (length P) (finish_fault P) next v e in
    let c = finish_passed P f in
    let some = c.some in
    let wide : (i : ℕ) → Fit 64 (at P i) = all_at (Fit 64) P tt h in (
      record {
        some = omega arith;
        few = few;
        fit = all_from (Fit (length P)) P (λ i. fit_from (length P) (at P i) (fit_register 64 (at P i) (wide i)) (c.targets i) (fit_sixteen 64 (at P i) (wide i)));
        last = c.closed;
      },
      g,
    )

pub ended_told : {T : Type 0} (o : Order) (k n : ℕ) (f : Option Fault) (next : Result T Refusal) (fault : Fault) → f ≡ Some fault → ended o k n f next ≡ told o (fault_line k n fault) (Program fault)
unfolding ended
ended_told o k n f next fault e = rw e

-- What finishing answers says of its faults.
module _ (P : List Line) (old new : Prog) {U : Type 0} (r : Result U Fault) where
  pub finished_ok : (f : Option Fault) → Finished {U = U} P old new f r → ((fault : Fault) → r ≡ Err fault → ⊥) → (f ≡ None) × (lines_of new ≡ P)
  finished_ok None (h, s) ok = (refl, s)
  finished_ok (Some fault) (h, s) ok = absurd (ok fault h)

  pub finished_err : (f : Option Fault) (fault : Fault) → Finished {U = U} P old new f r → r ≡ Err fault → (f ≡ Some fault) × (new ≡ old)
  finished_err None fault ((u, h), s) e = let z : ◌≡◌ {A = ℕ} 0 1 = cc in absurd (omega arith)
  finished_err (Some g) fault (h, s) e = let same : g ≡ fault = cc in (ap Some same, s)

-- A fault of finishing blames one of the rows.
stray_within : (n p : ℕ) (P : List Line) (fault : Fault) → stray_target n p P ≡ Some fault → (q : ℕ) × (operand : Operand) × (fault ≡ Target q operand) × (q < p + length P)
stray_within n p [] fault e = let z : ◌≡◌ {A = ℕ} 0 1 = cc in absurd (omega arith)
stray_within n p (l ∷ P) fault e = go (bad_target n l) e (λ f. stray_within n (p + 1) P fault f)
  where
    go : (t : Option Operand) → either (blamed (Target p) t) (stray_target n (p + 1) P) ≡ Some fault
        → (stray_target n (p + 1) P ≡ Some fault → (q : ℕ) × (operand : Operand) × (fault ≡ Target q operand) × (q < p + 1 + length P))
        → (q : ℕ) × (operand : Operand) × (fault ≡ Target q operand) × (q < p + suc (length P))
    go None e more = let (q, operand, is, low) = more e in (q, operand, is, omega arith)
    go (Some operand) e more = let same : fault ≡ Target p operand = cc in (p, operand, same, omega arith)

pub within : (P : List Line) (fault : Fault) → finish_fault P ≡ Some fault → Within (length P) fault
within P fault e = none (ltb 0 (length P)) refl e
  where
    last : (t : Bool) → 0 < length P → unless t LastLine ≡ Some fault → Within (length P) fault
    last true some e = let z : ◌≡◌ {A = ℕ} 0 1 = cc in absurd (omega arith)
    last false some e = let same : LastLine ≡ fault = cc in subst (λ (f : Fault). Within (length P) f) same (omega arith)

    stray : (t : Option Fault) → stray_target (length P) 0 P ≡ t → 0 < length P → either t (unless (closes (at P (length P - 1))) LastLine) ≡ Some fault → Within (length P) fault
    stray None f some e = last (closes (at P (length P - 1))) some e
    stray (Some g) f some e =
        let same : g ≡ fault = cc in
        let (q, operand, is, low) = stray_within (length P) 0 P g f in
        subst (λ (f : Fault). Within (length P) f) (sym is ∙ same) (omega arith)

    none : (t : Bool) → ltb 0 (length P) ≡ t → either (unless t NoLines) (either (stray_target (length P) 0 P) (unless (closes (at P (length P - 1))) LastLine)) ≡ Some fault → Within (length P) fault
    none true f e = stray (stray_target (length P) 0 P) refl (ltb-true 0 (length P) f) e
    none false f e = let same : NoLines ≡ fault = cc in subst (λ (f : Fault). Within (length P) f) same tt
