use Rattle.std.proofs.Common.{◌≤◌, length}
use Rattle.vectors.proofs.cases.run_all.Given as goal

-- No line ends more than one record.
abbrev pub invariant-loop-line : goal.invariant-loop-line
invariant-loop-line l = l.tally.records ≤ length l.yielded
