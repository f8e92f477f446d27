use Rattle.std.proofs.Common.{arith, rules}
use Rattle.memory.proofs.Lists.{has_item}
use Rattle.memory.proofs.Links.{recorded_more}
use Rattle.memory.proofs.rows.record.Goals as goal

pub overflow_mul-y : goal.overflow_mul-y
overflow_mul-y c = let h = c.requires.rows _ (has_item c.args.asked.now c.loop-y.y-index (omega arith)) in search rules

pub overflow_mul-y-in-loop-y : goal.overflow_mul-y-in-loop-y
overflow_mul-y-in-loop-y c = let h = c.requires.rows _ (has_item c.args.asked.now c.loop-y.y-index (omega arith)) in search rules

pub overflow_add-y : goal.overflow_add-y
overflow_add-y c = let h = c.requires.rows _ (has_item c.args.asked.now c.loop-y.y-index (omega arith)) in search rules

pub put-requires : goal.put-requires
put-requires c = let h = c.requires.rows _ (has_item c.args.asked.now c.loop-y.y-index (omega arith)) in omega arith

pub loop-y-preserved : goal.loop-y-preserved
loop-y-preserved c = recorded_more _ _ _ c.args.w c.args.x c.args.asked.now c.loop-y.y-index 0 c.requires.column (omega arith) c.loop-y.invariant c.put.ensures
