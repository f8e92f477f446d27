use Rattle.std.proofs.Common.{◌≡◌, ◌+◌, ◌*◌, ◌≤◌, length, arith, rules}
use Rattle.memory.specs.Layout.{orders}
use Rattle.memory.proofs.Cells.{row_at}
use Rattle.memory.proofs.Links.{row_struck}
use Rattle.memory.proofs.Removing.{struck_more}
use Rattle.memory.proofs.rows.strike_rows.Given as given
use Rattle.memory.proofs.rows.strike_rows.Goals as goal
use Rattle.memory.proofs.rows.strike_rows.Goals.{After-cell-item}

-- there are the words of its row
row : (g : given.Over) (c : After-cell-item g) → c.cell-item.result.order * c.args.w + c.args.w ≤ length c.args.words.now
row g c = let (_, _, room) = row_at c.args.cells.now c.args.w (length c.args.words.now) c.loop-cell.cell-index c.cell-item.result c.requires.rows c.cell-item.is (omega arith) in room

pub overflow_mul-start : goal.overflow_mul-start
overflow_mul-start g c = let h = row g c in search rules

pub overflow_add-start : goal.overflow_add-start
overflow_add-start g c = let h = row g c in search rules

pub offset_bounds-words-start : goal.offset_bounds-words-start
offset_bounds-words-start g c = let h = row g c in search rules

pub slice_bounds-strike-end : goal.slice_bounds-strike-end
slice_bounds-strike-end g c = let h = row g c in search rules

pub loop-cell-preserved : goal.loop-cell-preserved
loop-cell-preserved g c =
    let (m, y, row) = row_at c.args.cells.now c.args.w (length c.args.words.now) c.loop-cell.cell-index c.cell-item.result c.requires.rows c.cell-item.is (omega arith) in
    let size : length c.strike.new.row ≡ c.args.w = search rules in
    struck_more (orders c.args.cells.now) c.args.words.now c.loop-cell.words _ c.args.gone.now.words c.args.w c.loop-cell.cell-index c.cell-item.result.order m y c.loop-cell.invariant
    (row_struck c.loop-cell.words c.strike.new.row c.args.gone.now.words c.args.w c.cell-item.result.order _ (omega (arith, row, c.loop-cell.auto.words)) size (omega arith) c.strike.ensures)
