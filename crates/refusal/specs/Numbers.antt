-- Which layer's checks have which numbers.
use Rattle.std.specs.Prelude.{ℕ, Bool, cond, ◌&&◌, ◌||◌, ◌==◌, nat_le, Some, None, Option}
use Rattle.refusal.specs.declared.Layer.{Layer}
use Rattle.refusal.specs.declared.Layer.TheVariants.{Input, Program, Notebook, Output}

abbrev between : ℕ → ℕ → ℕ → Bool
between low high n = nat_le low n && nat_le n high

-- 1 to 4 are of the input, 5 to 9 and 12 of the program, 10 and 11 of the notebook, 13 of the output; no other number is used.
abbrev pub layer_of : ℕ → Option Layer
layer_of n =
    cond (between 1 4 n) (Some Input)
    (cond (between 5 9 n || n == 12) (Some Program)
    (cond (between 10 11 n) (Some Notebook)
    (cond (n == 13) (Some Output) None)))
