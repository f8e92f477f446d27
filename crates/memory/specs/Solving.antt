-- An ask under way.
use Rattle.std.specs.Prelude.{◌≡◌, length}
use Rattle.equations.specs.Steps.{State}
use Rattle.memory.specs.declared.solving.Solving.{Solving}
use Rattle.memory.specs.Contents.{state}

-- What it has come to.
abbrev pub reached : {V E : Type 0} → Solving V E → State V
reached s = state s.entries.now s.waiting.words

-- It goes on with the same equations, in the same memory.
abbrev pub Kept : {V E : Type 0} → Solving V E → Solving V E → Type 0
Kept s t = (t.size ≡ s.size) × (t.equations ≡ s.equations) × (t.entries.ghost_name ≡ s.entries.ghost_name) × (length t.entries.now.cells.now ≡ length s.entries.now.cells.now)
