use Rattle.fields.specs.Fields.{fields}
use Rattle.fields.specs.Readers.{next_of}
use Rattle.text.proofs.Marks.{GoodBefore}
use Rattle.text.proofs.names.bad_name.Given as goal

abbrev pub invariant-loop-n : goal.invariant-loop-n
invariant-loop-n l = GoodBefore l.n-iterator.start l.had (fields (next_of l.reader))
