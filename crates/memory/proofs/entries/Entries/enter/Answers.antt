use Rattle.std.proofs.Common.{refl}
use Rattle.equations.proofs.Bridge.{same_notebook}
use Rattle.memory.proofs.Shape.{rules_of, room_left}
use Rattle.memory.proofs.entries.Entries.enter.Goals as goal

pub enter_in-requires : goal.enter_in-requires
enter_in-requires g c = record { rules = rules_of c.args.self.now; unknown = c.requires.unknown; unlisted = c.requires.unlisted }

pub invariant_of-self : goal.invariant_of-self
invariant_of-self g c =
    let r = c.enter_in.ensures.entered.rules in
    record { room = r.room; listed = r.listed; placed = r.placed; clean = r.clean }

pub returns : goal.returns
returns g c =
    let e = c.enter_in.ensures.entered in
    record {
      notebook = same_notebook _ _ e.value e.entries e.reads;
      capacity = c.enter_in.auto.cells;
      orders = c.enter_in.ensures.orders;
      places = c.enter_in.ensures.places;
      count = (refl, room_left c.args.self.now.cells.now c.args.self.now.count c.args.y c.args.self.now.listed c.args.self.now.room.2 c.requires.unknown c.requires.unlisted);
    }
