-- Reachability of a goal in a graph of eight nodes.
use Rattle.std.specs.Prelude.{◌≡◌, ℕ, Bool, cond, ◌&&◌, List, [], ◌∷◌, Some, None, Option, ◌==◌, nat_lt, slice_index_or, slice_set}
use Rattle.equations.specs.Plans.{Plan, done, ask, collect}
use Rattle.toys.specs.declared.flag.Flag.{Flag}
use Rattle.toys.specs.declared.graph.Edges.{Edges}
use Rattle.toys.specs.declared.graph.Graph.{Graph}
use Rattle.toys.specs.declared.graph.NoSuchNode.{NoSuchNode}
use Rattle.toys.specs.declared.graph.Walk.{Walk}
use Rattle.toys.specs.Flags.{either}

-- The node that an edge leads to: none from 8 on.
abbrev pub edge : Option ℕ → Option ℕ
edge None = None
edge (Some s) = cond (nat_lt s 8) (Some s) None

-- The edges that leave a node.
abbrev pub leaving : Graph → ℕ → Edges
leaving g x = slice_index_or g.edges x (record { first = None; second = None })

-- Two nodes, of which each may be missing, as a list.
abbrev pub both : Option ℕ → Option ℕ → List ℕ
both None None = []
both None (Some t) = t ∷ []
both (Some s) None = s ∷ []
both (Some s) (Some t) = s ∷ (t ∷ [])

-- Whether the goal is reached so far, joined with what each node answers, asked in turn.
abbrev pub reaching : List ℕ → Bool → Plan Flag Flag
reaching nodes so_far = collect either (λ s. ask s done) nodes (record { up = so_far })

-- The right-hand side of x: x is the goal, or a successor of x reaches it.
abbrev pub successors : Graph → ℕ → List ℕ
successors g x = both (edge (leaving g x).first) (edge (leaving g x).second)

abbrev pub plan : Graph → ℕ → Plan Flag Flag
plan g x = reaching (successors g x) (x == g.goal)

-- What a run has yet to do.
abbrev pub rest : Walk → Plan Flag Flag
rest run = reaching (both run.left.first run.left.second) run.reached

-- A change of a node that is not there is refused, with its number; another touches that node alone.
abbrev pub refusal : ℕ → Option NoSuchNode
refusal node = cond (nat_lt node 8) None (Some (record { 0 = node }))

abbrev pub touched : ℕ → ℕ → Bool
touched node x = nat_lt node 8 && x == node

-- The node has the new edges, and all else is as it was.
pub record Changed (before : Graph) (node : ℕ) (edges : Edges) (after : Graph) : Type 0 where
  pub table : after.edges ≡ slice_set before.edges node edges
  pub goal : after.goal ≡ before.goal
