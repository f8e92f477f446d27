-- Every program keeps the rules, and its lines say all of it.
use Rattle.std.proofs.Common.{◌≡◌}
use mathlib.Core.HLevel.{is_prop→PathP}
use Rattle.drive.specs.declared.program.Program.{Program}
use Rattle.drive.specs.contracts.program.Program as program
use Rattle.drive.specs.contracts.rows.Rows as rows
use Rattle.drive.specs.Programs.{lines_of, Sound, KnownByLines}
use Rattle.drive.proofs.Tables.{same_rows}

pub sound : (p : Program) → Sound (lines_of p)
sound p = p.sound

-- A program has nothing beside its lines but facts, and a fact has one proof.
pub known_by_lines : KnownByLines
known_by_lines p q l =
    let r = same_rows p.rows q.rows l in
    let e : (program.struct).as_values p ≡ (program.struct).as_values q = λ i. (r i, tt) in
    λ i. (program.struct).make (e i)
    (is_prop→PathP (λ j. program.the_ghost (e j)) (λ j. program.the_propositions (rows.the_row).coded (e j))
    ((program.struct).ghosts p) ((program.struct).ghosts q) i)
