use Rattle.std.proofs.Common.{take}
use Rattle.memory.specs.Layout.{orders}
use Rattle.memory.proofs.Filtering.{Filtered}
use Rattle.memory.proofs.entries.Entries.filter.Given as goal

abbrev pub invariant-loop-cell : goal.invariant-loop-cell
invariant-loop-cell g l = Filtered (λ z b. g.F.Fn.post l.test (z, tt) b) (take l.cell-index (orders l.self.cells.now)) l.set.words
