use Rattle.memory.proofs.Words.{put_bit}
use Rattle.memory.proofs.set.put.Goals as goal

pub returns : goal.returns
returns c = put_bit c.args.words.now c.args.i c.requires
