use Rattle.std.proofs.Common.{sym}
use Rattle.memory.proofs.Cells.{stored_get_or}
use Rattle.memory.proofs.entries.Entries.value.Goals as goal

pub returns : goal.returns
returns g c = sym (stored_get_or c.args.self.now.cells.now c.args.x _ c.requires)
