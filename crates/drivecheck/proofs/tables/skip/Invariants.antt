use Rattle.std.proofs.Common.{length, drop}
use Rattle.fields.specs.Lines.{lines}
use Rattle.fields.specs.Readers.{text_of, place_of}
use Rattle.drivecheck.proofs.tables.skip.Given as goal

-- The lines that are left.
abbrev pub decreases-loop : goal.decreases-loop
decreases-loop l = length (lines (drop (place_of l.reader) (text_of l.reader)))
