use Rattle.std.proofs.Common.{◌≡◌, ℕ, ◌<◌, List, length, None, Ok, slice_index_or, slice_set, rules, arith}
use Rattle.std.proofs.lemmas.List.{set-set, get_or-set_same}
use Rattle.equations.specs.Edits.{Outcome}
use Rattle.equations.specs.Plans.{planned}
use Rattle.toys.specs.declared.graph.Edges.{Edges}
use Rattle.toys.specs.declared.graph.Graph.{Graph}
use Rattle.toys.specs.Reach.{plan, refusal, touched}
use Rattle.toys.specs.Reaching.{accepted}
use Rattle.toys.proofs.reach.GraphEquations.edit.Goals as goal

-- A table that differs at the node alone, in however many writes it was made.
written : (g : Graph) (node : ℕ) (table : List Edges) (same : Type 0) → node < 8
    → table ≡ slice_set g.edges node (slice_index_or table node (record { first = None; second = None }))
    → Outcome {U = Unit {0}} (planned 8 (plan g)) (planned 8 (plan (record { edges = table; goal = g.goal }))) same (touched node) (refusal node) (Ok tt)
written g node table same h e = rw e (accepted g node (slice_index_or table node (record { first = None; second = None })) same h)

pub returns-clause-outcome : goal.returns-clause-outcome
returns-clause-outcome c =
    let inside : c.args.change.node < length c.args.self.now.edges = omega arith in
    written c.args.self.now c.args.change.node _ _ c.if-change-ge-NODES.false (search (set-set, get_or-set_same, rules))

pub returns-clause-made : goal.returns-clause-made
returns-clause-made c =
    let inside : c.args.change.node < length c.args.self.now.edges = omega arith in
    search (set-set, get_or-set_same, rules)
