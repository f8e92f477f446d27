use Rattle.std.proofs.Common.{arith}
use Rattle.equations.specs.Semantics.{Semantics, semantics}
use Rattle.memory.specs.Notebooks.{held, room_of}
use Rattle.solver.proofs.Replaying.{whole}
use Rattle.solver.proofs.replays.replay.Goals as goal

pub returns : goal.returns
returns g c =
    let sem : Semantics g.row.E.Denot g.row.E-Change.Denot g.row.V.Denot g.row.E-Fault.Denot = semantics g.V.Lattice.kind g.E.Equations.meaning g.E.Equations.refusal g.E.Equations.touched in
    record {
      capacity = room_of c.new-notebook.result;
      largest = c.new-notebook.ensures.capacity;
      notebook = held c.perform_all.new.notebook;
      replayed = whole sem g.E.Equations.changed g.met.E.Equations.lawful (room_of c.new-notebook.result) c.args.equations.now c.perform_all.result c.in_ok-answers.answers.len c.args.calls.now
          c.as_mut_slice.result.now c.perform_all.new.answers _ c.perform_all.new.equations (held c.perform_all.new.notebook)
          c.perform_all.ensures.count c.perform_all.ensures.length c.as_mut_slice.ensures.len (omega (arith, c.in_ok-answers.ensures.len)) c.perform_all.ensures.claim;
    }
