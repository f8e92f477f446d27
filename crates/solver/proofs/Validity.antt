-- The calls keep the invariant of the theory, and it gives the parts of the claim.
use Rattle.std.proofs.Common.{◌≡◌, ℕ, true, false, is_some, Some, None, Ok, Err, Option, Result, OnOk, sym, ap, ◌∙◌, subst, ⊎_elim, arith}
use Rattle.equations.specs.Systems.{System}
use Rattle.equations.specs.Rules.{Lawful}
use Rattle.equations.specs.Edits.{Kept}
use Rattle.equations.specs.Semantics.{Semantics, system_of, AlwaysLawful}
use Rattle.equations.specs.Listings.{listed}
use Rattle.equations.specs.Notebook.{Notebook, empty}
use Rattle.equations.specs.Removals.{Removed, without}
use Rattle.equations.specs.Invariant.{Valid}
use Rattle.equations.proofs.Asks.{ask_valid, ask_keeps}
use Rattle.equations.proofs.Edits.{edit_valid, removed_chain, left_kept}
use Rattle.equations.proofs.Values.{empty_valid, valid_least, valid_solved, same_values}
use Rattle.solver.specs.declared.faults.Fault.{Fault}
use Rattle.solver.specs.declared.faults.EditFault.{EditFault}
use Rattle.solver.specs.declared.calls.Call.TheVariants.{Ask as ask_call, Edit as edit_call}
use Rattle.solver.specs.declared.calls.Answer.TheVariants.{Asked as asked_answer, Edited as edited_answer}
use Rattle.solver.specs.Calls.{Carried, Asked, Edited}
use Rattle.solver.specs.Claim.{Smallest, Solved, Made, Made.ask_refused, Made.ask_answered, Made.edit_refused, Made.edit_answered, said, AsNew}

moved : {V : Type 0} (E : System V) (N N' : Notebook V) → N' ≡ N → Valid E N → Valid E N'
moved {V} E N N' e valid = subst (λ (M : Notebook V). Valid E M) (sym e) valid

module _ {V : Type 0} (E : System V) (law : Lawful E) (N : Notebook V) (valid : Valid E N) where
  pub smallest : Smallest E N
  smallest = valid_least E N valid

  pub solved : Solved E N
  solved =
      let s = valid_solved E law N valid in
      record { closed = s.closed; equal = s.equal; entries = valid.entered; once = valid.once }

  module _ (q : ℕ) (N' : Notebook V) (carried : Carried E N q N') where
    pub carried_valid : Valid E N'
    carried_valid = ⊎_elim (λ s. moved E N N' s.1 valid) (λ a. ask_valid E law N N' q valid a) carried

    pub carried_keeps : (x : ℕ) (w : V) → N.value x ≡ Some w → N'.value x ≡ Some w
    carried_keeps x w e = ⊎_elim (λ s. ap (λ (M : Notebook V). M.value x) s.1 ∙ e) (λ a. (ask_keeps E N N' q valid a).value x (ap is_some e) ∙ e) carried

-- so an ask says the same of every valid notebook
pub as_new : {V : Type 0} (E : System V) → Lawful E → (c : ℕ) (N : Notebook V) → Valid E N → AsNew E c N
as_new {V} E law c N valid q N₁ N₂ r new a b = go r new a b
  where
    same_fault : {o : Option Fault} {f g : Fault} → o ≡ Some f → o ≡ Some g → f ≡ g
    same_fault p s = cc

    not_both : {A : Type 0} {o : Option Fault} {f : Fault} → o ≡ Some f → o ≡ None → A
    not_both p s = let z : ◌≡◌ {A = ℕ} 0 1 = cc in absurd (omega arith)

    go : (r new : Result (V × ℕ) Fault) → Asked E c N q N₁ r → Asked E c empty q N₂ new → said r ≡ said new
    go (Err f) (Err g) a b = ap (λ h. Err h) (same_fault a.0 b.0)
    go (Err f) (Ok (v, k)) a b = not_both a.0 b.0
    go (Ok (v, k)) (Err g) a b = not_both b.0 a.0
    go (Ok (v, k)) (Ok (w, j)) a b =
        ap (λ u. Ok u) (same_values E law N₁ N₂ (carried_valid E law N valid q N₁ a.1) (carried_valid E law empty (empty_valid E law) q N₂ b.1) q v w a.2 b.2)

module _ {S C V F : Type 0} (sem : Semantics S C V F) (changed : S → C → S → Type 0) (lawful : AlwaysLawful sem) (c : ℕ) (e : S) (N N' : Notebook V) (valid : Valid (system_of sem e) N) where
  pub ask_made : (q : ℕ) (r : Result (V × ℕ) Fault) → Asked (system_of sem e) c N q N' r → Made sem changed c e N (ask_call q) (asked_answer r) e N' × Valid (system_of sem e) N'
  ask_made q (Err f) h =
      (subst (λ (M : Notebook V). Made sem changed c e N (ask_call q) (asked_answer (Err f)) e M) (sym h.1) (ask_refused q h.0), moved (system_of sem e) N N' h.1 valid)
  ask_made q (Ok (v, k)) h = (
    ask_answered q h.0 (record { steps = h.1; keeps = carried_keeps (system_of sem e) (lawful e) N valid q N' h.1; value = h.2; added = h.3 }),
    carried_valid (system_of sem e) (lawful e) N valid q N' h.1,
  )

  module _ (change : C) (e' : S) (removed : Removed N (sem.touched e change) N') where
    chain_of : (x : ℕ) → listed N.value x ≡ true → listed N'.value x ≡ false → (t : ℕ) × Rattle.equations.specs.Chains.ChainOfAsks (system_of sem e) N x t × (sem.touched e change t ≡ true)
    chain_of x l g = removed_chain (system_of sem e) N (sem.touched e change) (lawful e) valid removed.gone removed.exactly x l (ap (λ M. listed M.value x) (sym removed.left) ∙ g)

    others_of : (x : ℕ) (v : V) → N'.value x ≡ Some v → N.value x ≡ Some v
    others_of x v p =
        let q : (without removed.gone N).value x ≡ Some v = ap (λ (M : Notebook V). M.value x) (sym removed.left) ∙ p in
        sym (left_kept N removed.gone x (ap is_some q)).0 ∙ q

    removed_valid : Kept (sem.meaning e) (sem.meaning e') (sem.touched e change) → Valid (system_of sem e') N'
    removed_valid kept = moved (system_of sem e') (without removed.gone N) N' removed.left
        (edit_valid sem.kind (sem.meaning e) (sem.meaning e') (sem.touched e change) N removed.gone (lawful e) valid kept removed.exactly)

  pub edit_made : (change : C) (e' : S) (r : Result ℕ (EditFault F)) → Edited (sem.meaning e) (sem.meaning e') (e' ≡ e) (sem.touched e change) (sem.refusal e change) c N N' r → OnOk r (changed e change e')
      → Made sem changed c e N (edit_call change) (edited_answer r) e' N' × Valid (system_of sem e') N'
  edit_made change e' (Err f) h made = (
    subst (λ (s : S). Made sem changed c e N (edit_call change) (edited_answer (Err f)) s N') (sym h.1)
        (subst (λ (M : Notebook V). Made sem changed c e N (edit_call change) (edited_answer (Err f)) e M) (sym h.2) (edit_refused change h.0)),
    subst (λ (s : S). Valid (system_of sem s) N') (sym h.1) (moved (system_of sem e) N N' h.2 valid),
  )
  edit_made change e' (Ok k) h made = (
    edit_answered change h.0 (record {
      made = made;
      equations = h.1;
      chain = chain_of change e' h.2;
      exactly = h.2;
      others = others_of change e' h.2;
      removed = h.3;
    }),
    removed_valid change e' h.2 h.1,
  )
