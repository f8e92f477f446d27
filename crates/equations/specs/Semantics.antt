-- What a set of equations means, and what a change of it means.
use Rattle.std.specs.Prelude.{ℕ, Bool, Option}
use Rattle.lattice.specs.Kinds.{Kind}
use Rattle.equations.specs.Systems.{Meaning, System, system}
use Rattle.equations.specs.Rules.{Lawful}

-- What callers can say of a set of equations of the type S, with changes of the type C: its values, what it means, why it refuses a
-- change, if it does, and which unknowns a change touches.
pub record Semantics (S C V F : Type 0) : Type 0 where
  pub kind : Kind V
  pub meaning : S → Meaning V
  pub refusal : S → C → Option F
  pub touched : S → C → ℕ → Bool

abbrev pub semantics : {S C V F : Type 0} → Kind V → (S → Meaning V) → (S → C → Option F) → (S → C → ℕ → Bool) → Semantics S C V F
semantics kind meaning refusal touched = record { kind = kind; meaning = meaning; refusal = refusal; touched = touched }

abbrev pub system_of : {S C V F : Type 0} → Semantics S C V F → S → System V
system_of sem e = system sem.kind (sem.meaning e)

abbrev pub AlwaysLawful : {S C V F : Type 0} → Semantics S C V F → Type 0
AlwaysLawful {S} sem = (e : S) → Lawful (system_of sem e)
