use Rattle.std.proofs.Common.{length}
use Rattle.text.specs.Names.{ahead}
use Rattle.text.proofs.Readings.{Underway}
use Rattle.text.proofs.table.read_program.Given as goal

abbrev pub invariant-loop-line : goal.invariant-loop-line
invariant-loop-line l = Underway l.initial.table l.table

abbrev pub decreases-loop-line : goal.decreases-loop-line
decreases-loop-line l = length (ahead l.table.reader)
