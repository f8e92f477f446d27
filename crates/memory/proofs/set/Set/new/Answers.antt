use Rattle.memory.proofs.Words.{no_bits}
use Rattle.memory.proofs.set.Set.new.Goals as goal

pub returns : goal.returns
returns c = no_bits 8
