-- Systems of equations: unknowns whose right-hand sides are runs that ask for unknowns one by one.
use Rattle.std.specs.Prelude.{ℕ, List}
use Rattle.lattice.specs.Kinds.{Kind, AtOrBelow}
use Rattle.equations.specs.declared.Move.{Move}

-- The meaning of a set of equations: the unknowns are the numbers below `size`, and `moves x given` is the next move of the run of x
-- after the list of values that it was given so far.
pub record Meaning (V : Type 0) : Type 0 where
  pub size : ℕ
  pub moves : ℕ → List V → Move V

-- The same over a value kind.
pub record System (V : Type 0) : Type 0 where
  pub kind : Kind V
  pub size : ℕ
  pub moves : ℕ → List V → Move V

abbrev pub system : {V : Type 0} → Kind V → Meaning V → System V
system kind meaning = record { kind = kind; size = meaning.size; moves = meaning.moves }

-- v is at or below w.
abbrev pub Below : {V : Type 0} → System V → V → V → Type 0
Below E v w = AtOrBelow E.kind v w
