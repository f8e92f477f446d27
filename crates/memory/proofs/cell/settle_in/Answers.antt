use Rattle.std.proofs.Common.{set, sym, ap, ◌∙◌}
use Rattle.memory.proofs.Cells.{stored_same, stored_get_or, orders_set, orders_same, orders_get_or, places_set, places_same, places_get_or, set_inside}
use Rattle.memory.proofs.cell.settle_in.Goals as goal

pub returns : goal.returns
returns g c =
    let inside = set_inside c.args.cells.now c.args.k c.args.x _ c.requires.1 in
    record {
      values = λ z. stored_same _ c.args.x _ inside (sym (stored_get_or _ c.args.x _ inside)) z
          ∙ stored_same c.args.cells.now c.args.k _ c.requires.0 (sym (stored_get_or c.args.cells.now c.args.k _ c.requires.0)) z;
      orders = orders_same _ c.args.x _ (orders_get_or _ c.args.x _ inside) ∙ orders_set c.args.cells.now c.args.k _;
      places = places_set _ c.args.x _
          ∙ ap (λ ps. set ps c.args.x c.args.k) (places_same c.args.cells.now c.args.k _ (places_get_or c.args.cells.now c.args.k _ c.requires.0));
    }
