use Rattle.std.proofs.Common.{◌≡◌, length, arith}
use Rattle.memory.specs.Bits.{bit}
use Rattle.memory.specs.Layout.{width}
use Rattle.memory.proofs.Shape.{entry_at, row_room}
use Rattle.memory.proofs.Removing.{removes, left_inside}
use Rattle.memory.proofs.parts.remove_from.Goals as goal

pub drop_from-left-requires : goal.drop_from-left-requires
drop_from-left-requires g c = record {
  count = c.requires.rules.room.2;
  inside = entry_at c.args.cells.now c.args.links.now c.args.count c.requires.rules;
  placed = c.requires.rules.placed;
}

pub strike_rows-requires : goal.strike_rows-requires
strike_rows-requires g c =
    let e : c.row_words-w.result ≡ width (length c.args.cells.now) = c.row_words-w.ensures in
    record {
      few = omega (arith, e, c.requires.rules.room.0);
      rows = λ y h. rw e (row_room _ _ _ y c.requires.rules.room (left_inside c.args.cells.now c.drop_from-left.new.cells c.args.links.now c.args.links.now c.args.count c.drop_from-left.result (bit c.args.gone.now.words) c.requires.rules c.drop_from-left.ensures.orders y h));
    }

pub returns : goal.returns
returns g c = record {
  taken_out = removes c.args.cells.now c.drop_from-left.new.cells c.args.links.now c.strike_rows.new.words c.args.count c.drop_from-left.result (bit c.args.gone.now.words) c.requires.rules
      c.row_words-w.result c.drop_from-left.auto.cells c.strike_rows.auto.words c.drop_from-left.ensures.few
      c.drop_from-left.ensures.values c.drop_from-left.ensures.orders c.drop_from-left.ensures.placed c.row_words-w.ensures c.strike_rows.ensures c.requires.closed;
  few = c.drop_from-left.ensures.few;
}
