-- A number that falls with each step of an ask.
use Rattle.std.specs.Prelude.{ℕ, zero, suc, ◌+◌, ◌-◌, ◌*◌, cond}
use Rattle.lattice.specs.Kinds.{height_limit}
use Rattle.equations.specs.Systems.{System}
use Rattle.equations.specs.Listings.{listed}
use Rattle.equations.specs.Notebook.{values}
use Rattle.equations.specs.Steps.{State}

-- What an unknown adds: most if it has no entry, else less the higher its value is and if it does not wait.
abbrev pub weight : {V : Type 0} → System V → State V → ℕ → ℕ
weight E s x = cond (listed s.notebook.value x)
    ((height_limit - E.kind.rank (values E s.notebook x)) * (E.size + 1) + cond (s.waiting x) 1 0)
    (height_limit * (E.size + 1) + 2)

-- The sum of f over the numbers below n.
abbrev pub total : (ℕ → ℕ) → ℕ → ℕ
total f zero = 0
total f (suc n) = total f n + f n

abbrev pub measure : {V : Type 0} → System V → State V → ℕ
measure E s = total (weight E s) E.size
