use Rattle.std.proofs.Common.{None, ◌∙◌, ⊎_elim, arith, below_more}
use Rattle.std.proofs.lemmas.Bool.{cases_lt}
use Rattle.std.proofs.lemmas.Map.{update_here, update_apart}
use Rattle.memory.specs.Layout.{stored}
use Rattle.memory.proofs.Cells.{stored_set, stored_past}
use Rattle.memory.proofs.cell.wipe.Goals as goal

pub loop-cell-preserved : goal.loop-cell-preserved
loop-cell-preserved g c =
    below_more _ _
    (λ z h. stored_set c.loop-cell.cells c.loop-cell.cell-index _ (omega arith) z ∙ update_apart (stored c.loop-cell.cells) c.loop-cell.cell-index None z (omega arith) ∙ c.loop-cell.invariant z h)
    (stored_set c.loop-cell.cells c.loop-cell.cell-index _ (omega arith) c.loop-cell.cell-index ∙ update_here (stored c.loop-cell.cells) c.loop-cell.cell-index None)

pub returns : goal.returns
returns g c x = ⊎_elim (λ h. c.loop-cell.invariant x h) (λ h. stored_past c.loop-cell.cells x (omega arith)) (cases_lt x c.loop-cell.cell-index)
