-- What an edit of a set of equations does.
use Rattle.std.specs.Prelude.{◌≡◌, ℕ, ◌<◌, Bool, false, List, Some, None, Ok, Err, Option, Result}
use Rattle.equations.specs.Systems.{Meaning}

-- An accepted edit keeps the number of unknowns, and the run of every unknown that it does not touch.
pub record Kept {V : Type 0} (before after : Meaning V) (touched : ℕ → Bool) : Type 0 where
  pub size : after.size ≡ before.size
  pub untouched : (x : ℕ) → x < before.size → touched x ≡ false → (given : List V) → after.moves x given ≡ before.moves x given

-- An edit answers its refusal, exactly if it has one, and changes nothing then (`same`); else it is accepted.
abbrev pub Outcome : {V U F : Type 0} → Meaning V → Meaning V → Type 0 → (ℕ → Bool) → Option F → Result U F → Type 0
Outcome {U = U} before after same touched (Some f) r = (r ≡ Err f) × same
Outcome {U = U} before after same touched None r = ((u : U) × (r ≡ Ok u)) × Kept before after touched
