-- Constants as a value kind: `Never` below every number, every number below `Many`.
use Rattle.std.specs.Prelude.{ℕ, Bool, false, cond, ℤ, pos, negsuc, ◌==◌}
use Rattle.lattice.specs.Kinds.{Kind}
use Rattle.lattice.specs.declared.constant.Constant.{Constant}
use Rattle.lattice.specs.declared.constant.Constant.TheVariants.{Never, Number, Many}

-- Whether two numbers are equal, sign and all.
abbrev pub same_number : ℤ → ℤ → Bool
same_number (pos a) (pos b) = a == b
same_number (pos a) (negsuc b) = false
same_number (negsuc a) (pos b) = false
same_number (negsuc a) (negsuc b) = a == b

-- Two different numbers join to `Many`.
abbrev pub join_constants : Constant → Constant → Constant
join_constants Never w = w
join_constants Many w = Many
join_constants (Number a) Never = Number a
join_constants (Number a) Many = Many
join_constants (Number a) (Number b) = cond (same_number a b) (Number a) Many

abbrev pub rank_constant : Constant → ℕ
rank_constant Never = 0
rank_constant (Number a) = 1
rank_constant Many = 2

abbrev pub constants : Kind Constant
constants = record { bottom = Never; join = join_constants; rank = rank_constant }
