use Rattle.std.proofs.Common.{◌≡◌}
use Rattle.memory.specs.Contents.{contents}
use Rattle.memory.proofs.Waking.{Waking}
use Rattle.memory.proofs.solving.Solving.rouse.Given as goal

abbrev pub invariant-loop-z : goal.invariant-loop-z
invariant-loop-z g l =
    Waking l.self.entries.now.cells.now l.self.entries.now.count l.self.size (λ z. (contents l.self.entries.now).reads z l.x) l.initial.self.waiting.words
    l.left.words l.self.waiting.words l.end
    × (l.self.entries.now ≡ l.initial.self.entries.now)
    × (l.self.size ≡ l.initial.self.size)
    × (l.self.equations ≡ l.initial.self.equations)
    × (l.self.entries.ghost_name ≡ l.initial.self.entries.ghost_name)

abbrev pub decreases-loop-z : goal.decreases-loop-z
decreases-loop-z g l = l.end
