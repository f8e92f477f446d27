use Rattle.std.proofs.Common.{rules, sym, ap, ◌∙◌, arith}
use Rattle.std.specs.Result.{is_ok}
use Rattle.memory.specs.Notebooks.{held, room_of, marked}
use Rattle.memory.proofs.Marking.{gone_touched}
use Rattle.solver.proofs.Editing.{edited}
use Rattle.solver.proofs.edits.edit.Goals as goal

pub returns-clause-edited : goal.returns-clause-edited
returns-clause-edited g c =
    let touched = g.E.Equations.touched c.args.equations.now c.args.change in
    edited g.E.Equations.meaning c.args.equations.now _ touched (g.E.Equations.refusal c.args.equations.now c.args.change) (room_of c.args.notebook.now) (held c.args.notebook.now) (held c.remove.new.self)
    c.remove.result _ (sym c.map_err.ensures.variant ∙ ap is_ok c.in_ok-map_err.was) (search rules) (omega (arith, c.count.ensures, c.capacity.ensures))
    (record {
      gone = c.remove.ensures.removed.gone;
      exactly = gone_touched c.args.notebook.now.entries touched (marked c.mark-marks.result) c.mark-marks.ensures c.remove.ensures.removed.gone c.remove.ensures.removed.exactly;
      left = c.remove.ensures.removed.left;
    })
    c.remove.ensures.count
