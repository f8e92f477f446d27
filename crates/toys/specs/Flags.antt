-- Flags as a value kind: down is below up.
use Rattle.std.specs.Prelude.{false, cond, ◌||◌}
use Rattle.lattice.specs.Kinds.{Kind}
use Rattle.toys.specs.declared.flag.Flag.{Flag}

abbrev pub either : Flag → Flag → Flag
either a b = record { up = a.up || b.up }

abbrev pub flags : Kind Flag
flags = record { bottom = record { up = false }; join = either; rank = λ a. cond a.up 1 0 }
