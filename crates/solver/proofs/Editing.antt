-- What an edit answers.
use Rattle.std.proofs.Common.{◌≡◌, ℕ, ◌+◌, ◌≤◌, Bool, true, cond, Some, None, Ok, Err, Option, Result, length, refl, ap, ◌∙◌, arith}
use Rattle.std.proofs.lemmas.Bool.{le-ltb}
use Rattle.std.specs.Option.{option_map}
use Rattle.std.specs.Result.{is_ok}
use Rattle.equations.specs.Systems.{Meaning}
use Rattle.equations.specs.Edits.{Kept, Outcome}
use Rattle.equations.specs.Notebook.{Notebook}
use Rattle.equations.specs.Removals.{Removed}
use Rattle.solver.specs.declared.faults.Fault.TheVariants.{TooSmall}
use Rattle.solver.specs.declared.faults.EditFault.TheVariants.{Notebook as ByNotebook, Equations as ByEquations}
use Rattle.solver.specs.Faults.{edit_refusal}
use Rattle.solver.specs.Calls.{Edited}

-- what the equations say when they accept
accepted : {V U F : Type 0} (before after : Meaning V) (same : Type 0) (touched : ℕ → Bool) (own : Option F) (r : Result U F) → is_ok r ≡ true
    → Outcome before after same touched own r → (own ≡ None) × Kept before after touched
accepted before after same touched (Some f) (Ok u) e h = let z : ◌≡◌ {A = ℕ} 0 1 = cc in absurd (omega arith)
accepted before after same touched None (Ok u) e h = (refl, h.1)
accepted before after same touched own (Err f) e h = let z : ◌≡◌ {A = ℕ} 0 1 = cc in absurd (omega arith)

-- with room for the unknowns, an edit that the equations accept is not refused
not_refused : {F : Type 0} (c n : ℕ) (own : Option F) → n ≤ c → own ≡ None → edit_refusal c n own ≡ None
not_refused c n own h e = ap (λ t. cond t (Some (ByNotebook TooSmall)) (option_map ByEquations own)) (le-ltb c n h) ∙ ap (option_map ByEquations) e

-- so an edit that they accept does as it should, where the entries went that it touches
pub edited : {S V U F : Type 0} (meaning : S → Meaning V) (e e' : S) (touched : ℕ → Bool) (own : Option F) (c : ℕ) (N N' : Notebook V) (k : ℕ) (r : Result U F) → is_ok r ≡ true
    → Outcome (meaning e) (meaning e') (e' ≡ e) touched own r → (meaning e).size ≤ c → Removed N touched N' → length N.entries ≡ length N'.entries + k
    → Edited (meaning e) (meaning e') (e' ≡ e) touched own c N N' (Ok k)
edited meaning e e' touched own c N N' k r ok outcome room removed count =
    let a = accepted (meaning e) (meaning e') (e' ≡ e) touched own r ok outcome in (not_refused c (meaning e).size own room a.0, a.1, removed, count)
