use Rattle.std.proofs.Common.{refl}
use Rattle.equations.specs.Semantics.{Semantics, semantics}
use Rattle.memory.specs.Notebooks.{held}
use Rattle.solver.proofs.Validity.{ask_made, edit_made}
use Rattle.solver.proofs.Replaying.{look_made, clear_made, none_valid}
use Rattle.solver.proofs.replays.perform.Goals as goal

pub returns-in-Ask : goal.returns-in-Ask
returns-in-Ask g c =
    let sem : Semantics g.row.E.Denot g.row.E-Change.Denot g.row.V.Denot g.row.E-Fault.Denot = semantics g.V.Lattice.kind g.E.Equations.meaning g.E.Equations.refusal g.E.Equations.touched in
    let h = ask_made sem g.E.Equations.changed g.met.E.Equations.lawful _ c.args.equations.now _ _ c.requires c.in-Ask.q c.ask.result c.ask.ensures.asked in
    record { made = rw c.in-Ask.is h.0; valid = h.1; capacity = c.ask.ensures.capacity }

pub returns-in-Look : goal.returns-in-Look
returns-in-Look g c =
    let sem : Semantics g.row.E.Denot g.row.E-Change.Denot g.row.V.Denot g.row.E-Fault.Denot = semantics g.V.Lattice.kind g.E.Equations.meaning g.E.Equations.refusal g.E.Equations.touched in
    record {
      made = rw c.in-Look.is (look_made sem g.E.Equations.changed _ c.args.equations.now _ c.in-Look.x c.look.result c.look.ensures);
      valid = c.requires;
      capacity = refl;
    }

pub returns-in-Edit : goal.returns-in-Edit
returns-in-Edit g c =
    let sem : Semantics g.row.E.Denot g.row.E-Change.Denot g.row.V.Denot g.row.E-Fault.Denot = semantics g.V.Lattice.kind g.E.Equations.meaning g.E.Equations.refusal g.E.Equations.touched in
    let h = edit_made sem g.E.Equations.changed g.met.E.Equations.lawful _ c.args.equations.now _ _ c.requires c.in-Edit.change c.edit.new.equations c.edit.result c.edit.ensures.edited c.edit.ensures.made in
    record { made = rw c.in-Edit.is h.0; valid = h.1; capacity = c.edit.ensures.capacity }

pub returns-in-Clear : goal.returns-in-Clear
returns-in-Clear g c =
    let sem : Semantics g.row.E.Denot g.row.E-Change.Denot g.row.V.Denot g.row.E-Fault.Denot = semantics g.V.Lattice.kind g.E.Equations.meaning g.E.Equations.refusal g.E.Equations.touched in
    record {
      made = rw c.in-Clear.is (clear_made sem g.E.Equations.changed _ c.args.equations.now _ (held c.clear.new.self) c.clear.ensures.empty);
      valid = none_valid sem g.E.Equations.changed g.met.E.Equations.lawful c.args.equations.now (held c.clear.new.self) c.clear.ensures.empty;
      capacity = c.clear.ensures.capacity;
    }
