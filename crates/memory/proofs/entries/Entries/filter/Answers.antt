use Rattle.std.proofs.Common.{◌<◌, ◌≡◌, length, arith}
use Rattle.std.proofs.lemmas.List.{length-map, length-take-le}
use Rattle.memory.specs.Layout.{orders}
use Rattle.memory.proofs.Shape.{rules_of, entry_at}
use Rattle.memory.proofs.Filtering.{item_at, filtered_none, filtered_in, filtered_out, filtered_entries, filtered_others}
use Rattle.memory.proofs.entries.Entries.filter.Goals as goal
use Rattle.memory.proofs.entries.Entries.filter.Goals.{then-test, else-test}

pub loop-cell-init : goal.loop-cell-init
loop-cell-init g c = filtered_none _ _ c.new-set.ensures

pub insert-requires : goal.insert-requires
insert-requires g c =
    let (h, is) = item_at c.args.self.now.cells.now c.args.self.now.count c.loop-cell.cell-index c.cell-item.result c.args.self.now.room.2 c.loop-cell-test.true c.cell-item.is in
    omega (arith, is, entry_at c.args.self.now.cells.now c.args.self.now.links.now c.args.self.now.count (rules_of c.args.self.now) c.loop-cell.cell-index h, c.args.self.now.room.0)

pub loop-cell-preserved : goal.loop-cell-preserved
loop-cell-preserved g c =
    let (h, is) = item_at c.args.self.now.cells.now c.args.self.now.count c.loop-cell.cell-index c.cell-item.result c.args.self.now.room.2 c.loop-cell-test.true c.cell-item.is in
    let m : c.loop-cell.cell-index < length (orders c.args.self.now.cells.now) = omega (arith, h, c.args.self.now.room.2, length-map c.args.self.now.cells.now (λ c. c.order)) in
    elim c.if-test.branch [
      | then-test w ↦ rw w.set-is (filtered_in _ (orders c.args.self.now.cells.now) c.loop-cell.set.words c.loop-cell.cell-index c.cell-item.result.order m is c.loop-cell.invariant
          w.insert.new.self.words (rw w.if-test.true at c.test.ensures) w.insert.ensures)
      | else-test w ↦ rw w.set-is (filtered_out _ (orders c.args.self.now.cells.now) c.loop-cell.set.words c.loop-cell.cell-index c.cell-item.result.order m is c.loop-cell.invariant
          (rw w.if-test.false at c.test.ensures))
    ]

pub returns : goal.returns
returns g c =
    let e : c.loop-cell.cell-index ≡ c.args.self.now.count = omega (arith, length-take-le c.args.self.now.count c.args.self.now.cells.now c.args.self.now.room.2) in
    record {
      entries = filtered_entries _ c.args.self.now.cells.now c.args.self.now.count c.loop-cell.cell-index c.loop-cell.set.words c.args.self.now.listed e c.loop-cell.invariant;
      others = filtered_others _ c.args.self.now.cells.now c.args.self.now.count c.loop-cell.cell-index c.loop-cell.set.words c.args.self.now.listed e c.loop-cell.invariant;
    }
