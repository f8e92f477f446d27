-- The lines that may run just before a line.
use Rattle.std.specs.Prelude.{ℕ, zero, suc, ◌+◌, ◌-◌, Bool, cond, List, [], ◌∷◌, length}
use Rattle.equations.specs.Runs.{has}
use Rattle.drive.specs.declared.line.Line.{Line}
use Rattle.drive.specs.Lines.{successors}
use Rattle.drive.specs.Programs.{at}

-- Whether p is a successor of line q.
abbrev pub leads_to : List Line → ℕ → ℕ → Bool
leads_to P p q = has (successors (at P q) q) p

-- Those of the `left` numbers from q on that pass a test, in rising order.
abbrev pub passing : (ℕ → Bool) → ℕ → ℕ → List ℕ
passing test zero q = []
passing test (suc left) q = cond (test q) (q ∷ passing test left (q + 1)) (passing test left (q + 1))

-- The lines from q on that have p as a successor, in rising order, and all of them.
abbrev pub predecessors_from : List Line → ℕ → ℕ → List ℕ
predecessors_from P p q = passing (leads_to P p) (length P - q) q

abbrev pub predecessors : List Line → ℕ → List ℕ
predecessors P p = predecessors_from P p 0
