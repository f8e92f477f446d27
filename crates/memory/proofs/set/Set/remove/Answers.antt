use Rattle.std.proofs.Common.{arith}
use Rattle.memory.proofs.Words.{take_bit}
use Rattle.memory.proofs.set.Set.remove.Goals as goal

pub returns : goal.returns
returns c = take_bit c.args.self.now.words c.args.i (omega arith)
