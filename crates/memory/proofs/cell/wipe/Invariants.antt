use Rattle.std.proofs.Common.{◌≡◌, ℕ, ◌<◌, None}
use Rattle.memory.specs.Layout.{stored}
use Rattle.memory.proofs.cell.wipe.Given as goal

abbrev pub invariant-loop-cell : goal.invariant-loop-cell
invariant-loop-cell g l = (x : ℕ) → x < l.cell-index → stored l.cells x ≡ None
