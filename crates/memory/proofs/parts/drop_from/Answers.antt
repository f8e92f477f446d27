use Rattle.std.proofs.Common.{sym, ◌∙◌, arith}
use Rattle.memory.proofs.Cells.{orders_get_or}
use Rattle.memory.proofs.Removing.{gap_keep, gap_drop, next_inside}
use Rattle.memory.proofs.parts.drop_from.Goals as goal
use Rattle.memory.proofs.parts.drop_from.Goals.{then-contains, else-contains}

pub set_value-requires : goal.set_value-requires
set_value-requires g c = next_inside c.args.cells.now c.loop-k.cells c.args.gone.now.words c.loop-k.left c.loop-k.k c.args.count c.index-cells-k.result c.loop-k.invariant c.loop-k.auto.cells c.requires.count c.requires.inside (omega arith)

pub settle_in-requires : goal.settle_in-requires
settle_in-requires g c = (omega (arith, c.loop-k.invariant.keeping.behind, c.loop-k.auto.cells, c.requires.count), next_inside c.args.cells.now c.loop-k.cells c.args.gone.now.words c.loop-k.left c.loop-k.k c.args.count c.index-cells-k.result c.loop-k.invariant c.loop-k.auto.cells c.requires.count c.requires.inside (omega arith))

pub loop-k-preserved : goal.loop-k-preserved
loop-k-preserved g c =
    let at = orders_get_or c.loop-k.cells c.loop-k.k c.index-cells-k.result (omega (arith, c.loop-k.auto.cells, c.requires.count)) in
    elim c.if-contains.branch [
      | then-contains w ↦ rw (w.cells-is, w.left-is)
          (gap_drop c.args.cells.now c.args.gone.now.words c.loop-k.cells w.set_value.new.cells c.loop-k.left c.loop-k.k _ c.args.count c.loop-k.invariant c.loop-k.auto.cells (omega (arith, c.loop-k.auto.cells, c.requires.count)) at
          (sym c.contains.ensures ∙ w.if-contains.true) w.set_value.ensures.values w.set_value.ensures.orders w.set_value.ensures.places)
      | else-contains w ↦ rw (w.cells-is, w.left-is)
          (gap_keep c.args.cells.now c.args.gone.now.words c.loop-k.cells w.settle_in.new.cells c.loop-k.left c.loop-k.k _ c.args.count c.loop-k.invariant c.loop-k.auto.cells (omega (arith, c.loop-k.auto.cells, c.requires.count)) at
          c.requires.placed (omega arith) (next_inside c.args.cells.now c.loop-k.cells c.args.gone.now.words c.loop-k.left c.loop-k.k c.args.count c.index-cells-k.result c.loop-k.invariant c.loop-k.auto.cells c.requires.count c.requires.inside (omega arith))
          (sym c.contains.ensures ∙ w.if-contains.false) w.settle_in.ensures.values w.settle_in.ensures.orders w.settle_in.ensures.places)
    ]
