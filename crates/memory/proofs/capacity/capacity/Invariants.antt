use Rattle.std.proofs.Common.{ℕ, ◌*◌, ◌≤◌}
use Rattle.memory.specs.Capacity.{Fits}
use Rattle.memory.proofs.capacity.capacity.Given as goal

abbrev pub invariant-loop-w : goal.invariant-loop-w
invariant-loop-w l = (d : ℕ) → Fits l.cells l.links d → d ≤ 64 * l.w
