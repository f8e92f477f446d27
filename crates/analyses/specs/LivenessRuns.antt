-- The runs of liveness: the plan of a right-hand side, and what is left of it at each stage of a run.
use Rattle.std.specs.Prelude.{ℕ, List, length}
use Rattle.lattice.specs.declared.members.Members.{Members}
use Rattle.lattice.specs.Sets.{union, sets}
use Rattle.equations.specs.Systems.{Meaning}
use Rattle.equations.specs.Plans.{Plan, done, ask, then, collect, planned}
use Rattle.drive.specs.declared.line.Line.{Line}
use Rattle.drive.specs.Lines.{successors, in_order}
use Rattle.drive.specs.Programs.{at}
use Rattle.analyses.specs.declared.liveness.run.Run.{Run}
use Rattle.analyses.specs.Liveness.{live_before}

-- What is live at these lines, asked in turn, is live after the line; so much is known so far.
abbrev pub asking : Line → List ℕ → Members → Plan Members Members
asking line ss so_far = then (collect union (λ s. ask s done) ss so_far) (λ live. done (live_before line live))

-- The right-hand side of a line, and the equations of a program.
abbrev pub plan : List Line → ℕ → Plan Members Members
plan P p = asking (at P p) (successors (at P p) p) sets.bottom

abbrev pub liveness : List Line → Meaning Members
liveness P = planned (length P) (plan P)

-- What is left of a run.
abbrev pub rest : Run → Plan Members Members
rest run = asking run.line (in_order run.left) run.live
