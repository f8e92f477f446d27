-- Histories: what a list of calls makes of a set of equations and of a notebook that was empty at first.
use Rattle.std.specs.Prelude.{◌≡◌, ℕ, ◌≤◌, true, List, [], ◌∷◌, ◌++◌, Some, None}
use Rattle.equations.specs.Edits.{Kept}
use Rattle.equations.specs.Semantics.{Semantics, system_of}
use Rattle.equations.specs.Listings.{listed}
use Rattle.equations.specs.Notebook.{Notebook, empty}
use Rattle.equations.specs.Steps.{Ask}
use Rattle.equations.specs.Removals.{Removed}

-- The calls on a notebook, with changes of the type C.
pub data Call (C : Type 0) : Type 0 where
  ask : ℕ → Call C
  look : ℕ → Call C
  edit : C → Call C
  clear : Call C

-- One call on the equations e and the notebook N, and what it makes of both. A look, a refused ask and a refused edit change nothing.
pub data Made {S C V F : Type 0} (sem : Semantics S C V F) (e : S) (N : Notebook V) : Call C → S → Notebook V → Type 0 where
  refused_ask : (q : ℕ) → (system_of sem e).size ≤ q → Made sem e N (ask q) e N
  known : (q : ℕ) → listed N.value q ≡ true → Made sem e N (ask q) e N
  asked : {N' : Notebook V} (q : ℕ) → Ask (system_of sem e) N q N' → Made sem e N (ask q) e N'
  looked : (x : ℕ) → Made sem e N (look x) e N
  refused_edit : {f : F} (change : C) → sem.refusal e change ≡ Some f → Made sem e N (edit change) e N
  edited : {e' : S} {N' : Notebook V} (change : C) → sem.refusal e change ≡ None → Kept (sem.meaning e) (sem.meaning e') (sem.touched e change)
      → Removed N (sem.touched e change) N' → Made sem e N (edit change) e' N'
  cleared : Made sem e N clear e empty

-- A list of calls from the equations e and the empty notebook on, to some equations and some notebook.
pub data History {S C V F : Type 0} (sem : Semantics S C V F) (e : S) : List (Call C) → S → Notebook V → Type 0 where
  begins : History sem e [] e empty
  goes_on : {calls : List (Call C)} {call : Call C} {e₁ e₂ : S} {N₁ N₂ : Notebook V}
      → History sem e calls e₁ N₁ → Made sem e₁ N₁ call e₂ N₂ → History sem e (calls ++ (call ∷ [])) e₂ N₂
