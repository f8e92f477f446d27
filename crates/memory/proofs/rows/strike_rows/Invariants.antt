use Rattle.std.proofs.Common.{◌≡◌, ℕ, ◌*◌, ◌<◌, not, ◌&&◌, take}
use Rattle.equations.specs.Runs.{has}
use Rattle.memory.specs.Bits.{bit}
use Rattle.memory.specs.Layout.{orders, linked}
use Rattle.memory.proofs.rows.strike_rows.Given as goal

abbrev pub invariant-loop-cell : goal.invariant-loop-cell
invariant-loop-cell g l =
    (x y : ℕ) → x < 64 * l.w → linked l.w l.words x y ≡ (linked l.w l.initial.words x y && not (has (take l.cell-index (orders l.cells)) y && bit l.gone.words x))
