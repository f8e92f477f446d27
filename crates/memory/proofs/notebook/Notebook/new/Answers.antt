use Rattle.std.proofs.Common.{◌≡◌, ◌*◌, length, take, refl, rules}
use Rattle.equations.proofs.Bridge.{same_notebook}
use Rattle.memory.specs.Layout.{Room}
use Rattle.memory.proofs.Shape.{none_listed, none_placed, none_clean, none_reads}
use Rattle.memory.proofs.notebook.Notebook.new.Goals as goal

pub invariant_of-result : goal.invariant_of-result
invariant_of-result g c =
    let room : Room (length c.wipe.new.cells) (length (take (c.capacity-c.result * c.row_words.result) c.args.links.now)) 0 = search rules in
    record { room = room; listed = none_listed _ c.wipe.ensures; placed = none_placed _ c.wipe.ensures; clean = none_clean _ c.wipe.ensures _ }

pub returns : goal.returns
returns g c = record {
  capacity = let e : length c.wipe.new.cells ≡ c.capacity-c.result = search rules in rw e c.capacity-c.ensures;
  empty = same_notebook _ _ c.wipe.ensures refl (none_reads _ c.wipe.ensures _);
}
