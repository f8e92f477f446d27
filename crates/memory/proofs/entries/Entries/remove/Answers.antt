use Rattle.equations.proofs.Bridge.{same_notebook}
use Rattle.memory.proofs.Shape.{rules_of}
use Rattle.memory.proofs.entries.Entries.remove.Goals as goal

pub remove_from-self-requires : goal.remove_from-self-requires
remove_from-self-requires g c = record { rules = rules_of c.args.self.now; closed = c.requires }

pub invariant_of-self : goal.invariant_of-self
invariant_of-self g c =
    let r = c.remove_from-self.ensures.taken_out.rules in
    record { room = r.room; listed = r.listed; placed = r.placed; clean = r.clean }

pub returns : goal.returns
returns g c =
    let e = c.remove_from-self.ensures.taken_out in
    record { notebook = same_notebook _ _ e.value e.entries e.reads; capacity = c.remove_from-self.auto.cells; count = c.remove_from-self.ensures.few }
