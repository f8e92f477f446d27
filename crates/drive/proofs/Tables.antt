-- A table of 64 lines whose first `count` are in use, with HALT in the rest.
use Rattle.std.proofs.Common.{◌≡◌, ◌++◌, length, replicate, ◌-◌, sym, ap, ◌∙◌, arith}
use mathlib.Core.HLevel.{is_prop→PathP}
use Rattle.std.proofs.lemmas.List.{length-take-le, take-append-drop}
use Rattle.drive.specs.declared.line.Line.TheVariants.{Halt}
use Rattle.drive.specs.declared.rows.Rows.{Rows}
use Rattle.drive.specs.contracts.line.Line as line
use Rattle.drive.specs.contracts.rows.Rows as rows
use Rattle.drive.specs.Rows.{in_use}

pub used : (r : Rows) → length (in_use r) ≡ r.count
used r = length-take-le r.count r.lines (omega (arith, r.table, r.few))

whole : (r : Rows) → r.lines ≡ in_use r ++ replicate (64 - r.count) Halt
whole r = sym (take-append-drop r.count r.lines) ∙ ap (λ rest. in_use r ++ rest) r.blank

-- Tables with the same lines in use are the same value: HALT stands past them, and the rest are facts.
pub same_rows : (p q : Rows) → in_use p ≡ in_use q → p ≡ q
same_rows p q e =
    let n : p.count ≡ q.count = sym (used p) ∙ ap length e ∙ used q in
    let l : p.lines ≡ q.lines = whole p ∙ (λ i. e i ++ replicate (64 - n i) Halt) ∙ sym (whole q) in
    let v : (rows.struct).as_values p ≡ (rows.struct).as_values q = λ i. (l i, (n i, tt)) in
    λ i. (rows.struct).make (v i)
    (is_prop→PathP (λ j. rows.the_ghost (v j)) (λ j. rows.the_propositions (line.the_row).coded (v j))
    ((rows.struct).ghosts p) ((rows.struct).ghosts q) i)
