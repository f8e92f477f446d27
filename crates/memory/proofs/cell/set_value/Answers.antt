use Rattle.memory.proofs.Cells.{stored_set, orders_same, orders_get_or, places_same, places_get_or}
use Rattle.memory.proofs.cell.set_value.Goals as goal

pub returns : goal.returns
returns g c = record {
  values = stored_set c.args.cells.now c.args.x _ c.requires;
  orders = orders_same c.args.cells.now c.args.x _ (orders_get_or c.args.cells.now c.args.x _ c.requires);
  places = places_same c.args.cells.now c.args.x _ (places_get_or c.args.cells.now c.args.x _ c.requires);
}
