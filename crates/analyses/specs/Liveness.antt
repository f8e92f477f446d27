-- Liveness: which registers are still read, on entry to a line.
use Rattle.std.specs.Prelude.{ℕ, Bool, false, not, ◌&&◌, ◌||◌, List, [], ◌∷◌, map, ◌==◌}
use Rattle.lattice.specs.declared.members.Members.{Members}
use Rattle.lattice.specs.Sets.{has, set_of, union, sets}
use Rattle.equations.specs.Plans.{joined}
use Rattle.drive.specs.declared.line.Line.{Line}
use Rattle.drive.specs.declared.line.Line.TheVariants.{Set, Copy, Add, Sub, Neg, In, Out, Jmp, Jz, Jneg, Halt}
use Rattle.drive.specs.Lines.{successors}
use Rattle.drive.specs.Programs.{at}

-- Whether a line reads register r, and whether it writes it.
abbrev pub uses : Line → ℕ → Bool
uses (Set a b) r = false
uses (Copy a b) r = r == b
uses (Add a b) r = r == a || r == b
uses (Sub a b) r = r == a || r == b
uses (Neg a) r = r == a
uses (In a) r = false
uses (Out a) r = r == a
uses (Jmp a) r = false
uses (Jz a b) r = r == a
uses (Jneg a b) r = r == a
uses Halt r = false

abbrev pub defines : Line → ℕ → Bool
defines (Set a b) r = r == a
defines (Copy a b) r = r == a
defines (Add a b) r = r == a
defines (Sub a b) r = r == a
defines (Neg a) r = r == a
defines (In a) r = r == a
defines (Out a) r = false
defines (Jmp a) r = false
defines (Jz a b) r = false
defines (Jneg a b) r = false
defines Halt r = false

-- What is live before a line, if these are live after it: what it uses, and what it leaves alone.
abbrev pub live_before : Line → Members → Members
live_before line live = set_of (λ r. uses line r || (not (defines line r) && has live r))

-- The equation of line p: what is live after it is what is live at any of its successors.
abbrev pub equation : List Line → (ℕ → Members) → ℕ → Members
equation P live p = live_before (at P p) (joined union sets.bottom (map live (successors (at P p) p)))

-- The same by members: whether register r is live on entry to line p.
abbrev pub at_any : (ℕ → Members) → List ℕ → ℕ → Bool
at_any live [] r = false
at_any live (s ∷ ss) r = has (live s) r || at_any live ss r

abbrev pub is_live : List Line → (ℕ → Members) → ℕ → ℕ → Bool
is_live P live p r = uses (at P p) r || (not (defines (at P p) r) && at_any live (successors (at P p) p) r)
