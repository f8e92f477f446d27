use Rattle.std.proofs.Common.{ap, arith}
use Rattle.equations.specs.Notebook.{Notebook}
use Rattle.equations.proofs.Bridge.{same_state}
use Rattle.memory.proofs.Places.{enter_waits}
use Rattle.memory.proofs.solving.Solving.enter.Goals as goal

pub returns-clause-entered : goal.returns-clause-entered
returns-clause-entered g c =
    same_state _ _ c.enter.ensures.notebook
    (enter_waits c.args.self.now.entries.now.cells.now c.args.self.now.entries.now.count c.args.self.now.entries.now.room.2 c.args.self.now.entries.now.listed c.args.self.now.entries.now.placed c.enter.new.self.cells.now c.args.self.now.waiting.words c.insert.new.self.words c.args.y g.V.Lattice.kind.bottom
    (omega (arith, c.requires.unknown, c.args.self.now.room)) (λ z. ap (λ (N : Notebook g.row.V.Denot). N.value z) c.enter.ensures.notebook) c.enter.ensures.places c.insert.ensures)
