use Rattle.std.proofs.Common.{length}
use Rattle.text.specs.Names.{ahead}
use Rattle.drivecheck.proofs.tables.read.Given as goal

-- The lines that are left.
abbrev pub decreases-loop-line : goal.decreases-loop-line
decreases-loop-line l = length (ahead l.table.reader)
