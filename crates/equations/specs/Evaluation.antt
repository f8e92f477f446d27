-- A right-hand side over a list of values.
use Rattle.std.specs.Prelude.{ℕ, cond, List, length, Some, None, Option, nat_lt, slice_index_or}
use Rattle.equations.specs.Systems.{System}
use Rattle.equations.specs.Runs.{asked, answer}

-- The values of a list: bottom past its end.
abbrev pub on_list : {V : Type 0} → System V → List V → ℕ → V
on_list E values y = slice_index_or values y E.kind.bottom

-- The right-hand side of x under these values, and the number of asks of its run; none if x is no unknown.
abbrev pub evaluated : {V : Type 0} → System V → List V → ℕ → Option (V × ℕ)
evaluated E values x = cond (nat_lt x E.size) (Some (answer E x (on_list E values), length (asked E x (on_list E values)))) None
