use Rattle.std.proofs.Common.{◌≡◌, length, set, ap, ◌∙◌, arith}
use Rattle.memory.specs.Layout.{width}
use Rattle.memory.proofs.Shape.{row_room, room_left}
use Rattle.memory.proofs.Entering.{enters}
use Rattle.memory.proofs.parts.enter_in.Goals as goal

pub wipe_row-requires : goal.wipe_row-requires
wipe_row-requires g c =
    let e : c.row_words-w.result ≡ width (length c.args.cells.now) = c.row_words-w.ensures in
    rw e (row_room _ _ _ c.args.y c.requires.rules.room c.requires.unknown)

pub settle_in-requires : goal.settle_in-requires
settle_in-requires g c =
    let l = room_left c.args.cells.now c.args.count c.args.y c.requires.rules.listed c.requires.rules.room.2 c.requires.unknown c.requires.unlisted in
    (omega (arith, l, c.set_value.auto.cells), omega (arith, c.requires.unknown, c.set_value.auto.cells))

pub returns : goal.returns
returns g c = record {
  entered = enters c.args.cells.now c.set_value.new.cells c.settle_in.new.cells c.args.links.now c.wipe_row.new.words
      c.args.count c.args.y c.row_words-w.result c.bottom.result g.V.Lattice.kind.bottom c.requires.rules
      c.set_value.auto.cells c.settle_in.auto.cells c.wipe_row.auto.words
      c.set_value.ensures.values c.set_value.ensures.orders c.set_value.ensures.places
      c.settle_in.ensures.values c.settle_in.ensures.orders c.settle_in.ensures.places
      c.row_words-w.ensures c.wipe_row.ensures c.bottom.ensures c.requires.unknown c.requires.unlisted;
  orders = c.settle_in.ensures.orders ∙ ap (λ os. set os c.args.count c.args.y) c.set_value.ensures.orders;
  places = c.settle_in.ensures.places ∙ ap (λ ps. set ps c.args.y c.args.count) c.set_value.ensures.places;
}
