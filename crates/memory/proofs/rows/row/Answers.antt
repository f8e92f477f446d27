use Rattle.std.proofs.Common.{rules}
use Rattle.memory.proofs.Links.{row_bits}
use Rattle.memory.proofs.rows.row.Goals as goal

pub returns : goal.returns
returns c = record { size = search rules; bits = row_bits c.args.words.now c.args.w c.args.y }
