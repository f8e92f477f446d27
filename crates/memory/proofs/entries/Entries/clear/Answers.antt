use Rattle.std.proofs.Common.{refl}
use Rattle.equations.proofs.Bridge.{same_notebook}
use Rattle.memory.proofs.Shape.{none_room, none_listed, none_placed, none_clean, none_reads}
use Rattle.memory.proofs.entries.Entries.clear.Goals as goal

pub invariant_of-self : goal.invariant_of-self
invariant_of-self g c = record {
  room = none_room _ _ _ _ c.wipe.auto.cells c.args.self.now.room;
  listed = none_listed _ c.wipe.ensures;
  placed = none_placed _ c.wipe.ensures;
  clean = none_clean _ c.wipe.ensures _;
}

pub returns : goal.returns
returns g c = record { empty = same_notebook _ _ c.wipe.ensures refl (none_reads _ c.wipe.ensures _); capacity = c.wipe.auto.cells }
