use Rattle.std.proofs.Common.{◌≡◌, length, refl, ◌∙◌}
use Rattle.equations.proofs.Bridge.{same_notebook}
use Rattle.memory.specs.Layout.{width}
use Rattle.memory.proofs.Shape.{rules_of, inside, in_row, row_room, few_words}
use Rattle.memory.proofs.Settling.{settles_with, recorded_clean}
use Rattle.memory.proofs.entries.Entries.settle.Goals as goal

pub record-requires : goal.record-requires
record-requires g c =
    let e : c.row_words-w.result ≡ width (length c.args.self.now.cells.now) = c.row_words-w.ensures in
    record {
      column = rw e (in_row _ c.args.x (inside c.args.self.now.cells.now c.args.x c.requires.listed));
      few = few_words _ _ _ c.args.self.now.room;
      rows = λ y h. rw e (row_room _ _ _ y c.args.self.now.room (inside c.args.self.now.cells.now y (c.requires.found y h)));
    }

pub set_value-requires : goal.set_value-requires
set_value-requires g c = inside c.args.self.now.cells.now c.args.x c.requires.listed

pub invariant_of-self : goal.invariant_of-self
invariant_of-self g c = record {
  room = (c.args.self.now.room.0, c.record.auto.words ∙ c.args.self.now.room.1, c.args.self.now.room.2);
  listed = c.args.self.now.listed;
  placed = c.args.self.now.placed;
  clean = recorded_clean c.args.self.now.cells.now c.args.self.now.links.now c.record.new.words c.args.x c.row_words-w.result c.args.asked.now c.args.self.now.clean c.row_words-w.ensures c.record.ensures c.requires.listed;
}

pub invariant_of-self-2 : goal.invariant_of-self-2
invariant_of-self-2 g c =
    let e = settles_with c.args.self.now.cells.now c.set_value.new.cells c.args.self.now.links.now c.record.new.words
    c.args.self.now.count c.args.x c.row_words-w.result c.args.value c.args.asked.now (rules_of c.args.self.now) c.set_value.auto.cells c.record.auto.words
    c.set_value.ensures.values c.set_value.ensures.orders c.set_value.ensures.places c.row_words-w.ensures c.record.ensures c.requires.listed c.requires.found in
    record { room = e.rules.room; listed = e.rules.listed; placed = e.rules.placed; clean = e.rules.clean }

pub returns : goal.returns
returns g c =
    let e = settles_with c.args.self.now.cells.now c.set_value.new.cells c.args.self.now.links.now c.record.new.words
    c.args.self.now.count c.args.x c.row_words-w.result c.args.value c.args.asked.now (rules_of c.args.self.now) c.set_value.auto.cells c.record.auto.words
    c.set_value.ensures.values c.set_value.ensures.orders c.set_value.ensures.places c.row_words-w.ensures c.record.ensures c.requires.listed c.requires.found in
    record {
      notebook = same_notebook _ _ e.value e.entries e.reads;
      capacity = c.set_value.auto.cells;
      orders = c.set_value.ensures.orders;
      places = c.set_value.ensures.places;
      count = refl;
    }
