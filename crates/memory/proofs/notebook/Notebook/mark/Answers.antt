use Rattle.std.proofs.Common.{is_some, rules}
use Rattle.memory.specs.Layout.{stored}
use Rattle.memory.proofs.Bools.{and_cases}
use Rattle.memory.proofs.notebook.Notebook.mark.Goals as goal

pub returns : goal.returns
returns g c x = and_cases (is_some (stored c.args.self.now.entries.cells.now x)) _ _ (λ h. let p = c.filter.ensures.entries x h in search rules) (c.filter.ensures.others x)
