use Rattle.std.proofs.Common.{length}
use Rattle.memory.specs.Bits.{bit}
use Rattle.memory.specs.Contents.{contents}
use Rattle.memory.proofs.Spreading.{Spreading, left}
use Rattle.memory.proofs.entries.Entries.spread.Given as goal

abbrev pub invariant-loop-y : goal.invariant-loop-y
invariant-loop-y g l = Spreading (contents l.self) (bit l.initial.set.words) (bit l.pending.words) (bit l.set.words)

abbrev pub decreases-loop-y : goal.decreases-loop-y
decreases-loop-y g l = left (bit l.pending.words) (bit l.set.words) (length l.self.cells.now)
