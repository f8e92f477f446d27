use Rattle.std.proofs.Common.{◌≡◌, ℕ, ◌*◌, ◌<◌, ◌&&◌, ◌||◌, eqb, take}
use Rattle.equations.specs.Runs.{has}
use Rattle.memory.specs.Layout.{linked}
use Rattle.memory.proofs.rows.record.Given as goal

abbrev pub invariant-loop-y : goal.invariant-loop-y
invariant-loop-y l = (z y : ℕ) → z < 64 * l.w → linked l.w l.words z y ≡ (linked l.w l.initial.words z y || (eqb z l.x && has (take l.y-index l.asked) y))
