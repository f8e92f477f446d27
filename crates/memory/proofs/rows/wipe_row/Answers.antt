use Rattle.std.proofs.Common.{◌≡◌, replicate, arith, rules}
use Rattle.memory.proofs.Links.{row_wiped}
use Rattle.memory.proofs.rows.wipe_row.Goals as goal

pub returns : goal.returns
returns c =
    let e : c.fill.new.self ≡ replicate c.args.w 0 = search rules in
    row_wiped c.args.words.now c.fill.new.self c.args.w c.args.y _ c.requires e (omega arith)
