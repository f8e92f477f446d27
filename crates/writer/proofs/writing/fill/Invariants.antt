use Rattle.std.proofs.Common.{◌≡◌, ℕ, ◌+◌, ◌*◌, ◌≤◌, length, take}
use Rattle.drive.specs.Programs.{at}
use Rattle.text.specs.declared.order.Order.TheVariants.{OpAB}
use Rattle.text.specs.Rendering.{render}
use Rattle.text.specs.Theory.{Sixteen}
use Rattle.writer.specs.Pages.{written}
use Rattle.writer.proofs.writing.fill.Given as goal

-- The lines passed so far are written.
abbrev pub invariant-loop-line : goal.invariant-loop-line
invariant-loop-line l = record {
  is : written l.page ≡ render OpAB (take l.line-index l.line-items);
  short : length (written l.page) ≤ 7 + 19 * l.line-index;
  numbers : (p : ℕ) → Sixteen (at (take l.line-index l.line-items) p);
}
