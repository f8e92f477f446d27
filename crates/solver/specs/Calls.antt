-- What an ask and an edit do, of any notebook and any equations.
use Rattle.std.specs.Prelude.{◌≡◌, ℕ, ◌+◌, Bool, true, ◌⊎◌, length, Some, None, Ok, Err, Option, Result}
use Rattle.equations.specs.Systems.{Meaning, System}
use Rattle.equations.specs.Edits.{Kept}
use Rattle.equations.specs.Listings.{listed}
use Rattle.equations.specs.Notebook.{Notebook}
use Rattle.equations.specs.Steps.{Ask}
use Rattle.equations.specs.Removals.{Removed}
use Rattle.solver.specs.declared.faults.Fault.{Fault}
use Rattle.solver.specs.declared.faults.EditFault.{EditFault}
use Rattle.solver.specs.Faults.{ask_refusal, edit_refusal}

-- An unknown that has an entry changes nothing; for another the steps of an ask are made, from N to N'.
abbrev pub Carried : {V : Type 0} → System V → Notebook V → ℕ → Notebook V → Type 0
Carried E N q N' = ((listed N.value q ≡ true) × (N' ≡ N)) ⊎ Ask E N q N'

-- An ask for q of a notebook with room for c unknowns. It answers its refusal, exactly if it has one, and then changes nothing; else the
-- value of q and how many entries were added.
abbrev pub Asked : {V : Type 0} → System V → ℕ → Notebook V → ℕ → Notebook V → Result (V × ℕ) Fault → Type 0
Asked E c N q N' (Err fault) = (ask_refusal c E.size q ≡ Some fault) × (N' ≡ N)
Asked E c N q N' (Ok (v, k)) = (ask_refusal c E.size q ≡ None) × Carried E N q N' × (N'.value q ≡ Some v) × (length N'.entries ≡ length N.entries + k)

-- An edit of equations that mean `before` and then `after`, with a notebook that has room for c unknowns; `own` is the refusal of the
-- equations, and `same` says that they are as they were. It answers its refusal, exactly if it has one, and then changes nothing; else how
-- many entries were removed: exactly those from which a chain of recorded reads leads to a touched unknown.
abbrev pub Edited : {V F : Type 0} → Meaning V → Meaning V → Type 0 → (ℕ → Bool) → Option F → ℕ → Notebook V → Notebook V → Result ℕ (EditFault F) → Type 0
Edited before after same touched own c N N' (Err fault) = (edit_refusal c before.size own ≡ Some fault) × same × (N' ≡ N)
Edited before after same touched own c N N' (Ok k) = (edit_refusal c before.size own ≡ None) × Kept before after touched × Removed N touched N'
    × (length N.entries ≡ length N'.entries + k)
