-- The lines of a draft or a program: the first of a table of 64, with HALT in the rest.
use Rattle.std.specs.Prelude.{List, take}
use Rattle.drive.specs.declared.line.Line.{Line}
use Rattle.drive.specs.declared.rows.Rows.{Rows}

-- The lines in use, in order.
abbrev pub in_use : Rows → List Line
in_use rows = take rows.count rows.lines
