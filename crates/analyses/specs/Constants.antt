-- Constants: which number always stands in a register on entry to a line. V p r is what is known of register r at line p.
use Rattle.std.specs.Prelude.{ℕ, ◌+◌, ◌*◌, cond, List, [], ◌∷◌, map, pos, Option, ◌==◌}
use Rattle.std.specs.Option.{unwrap_or}
use Rattle.lattice.specs.declared.constant.Constant.{Constant}
use Rattle.lattice.specs.declared.constant.Constant.TheVariants.{Never, Number, Many}
use Rattle.lattice.specs.Constants.{join_constants}
use Rattle.equations.specs.Plans.{joined, concat}
use Rattle.drive.specs.declared.line.Line.{Line}
use Rattle.drive.specs.declared.line.Line.TheVariants.{Set, Copy, Add, Sub, Neg, In, Out, Jmp, Jz, Jneg, Halt}
use Rattle.drive.specs.Programs.{at}
use Rattle.analyses.specs.declared.constants.Start.{Start}
use Rattle.analyses.specs.declared.constants.Start.TheVariants.{Zero, Any}
use Rattle.analyses.specs.Predecessors.{predecessors}
use Rattle.analyses.specs.Transfer.{is_zero, is_negative, permits, contribution}

-- The start that is chosen, or zero if none is.
abbrev pub chosen : Option Start → Start
chosen start = unwrap_or start Zero

-- What stands in every register when the drive starts, at line 0.
abbrev pub start_value : Start → Constant
start_value Zero = Number (pos 0)
start_value Any = Many

abbrev pub start_at : Start → ℕ → Constant
start_at start p = cond (p == 0) (start_value start) Never

-- The equation of register r at line p: the start value at line 0, joined with what each line that has p as a successor contributes.
abbrev pub equation : List Line → Start → (ℕ → ℕ → Constant) → ℕ → ℕ → Constant
equation P start V p r = joined join_constants (start_at start p) (map (λ q. contribution (at P q) q p (V q) r) (predecessors P p))

-- The registers that line q asks for, in order, to tell its contribution to register r at p: a second operand only if the first is
-- not `never`, and behind a branch only if it permits p.
abbrev pub second : Constant → ℕ → List ℕ
second Never s = []
second (Number a) s = s ∷ []
second Many s = s ∷ []

abbrev pub asks : Line → ℕ → ℕ → (ℕ → Constant) → ℕ → List ℕ
asks (Set a b) q p V r = r ∷ []
asks (Copy a b) q p V r = cond (a == r) b r ∷ []
asks (Add a b) q p V r = r ∷ cond (a == r) (second (V r) b) []
asks (Sub a b) q p V r = r ∷ cond (a == r) (second (V r) b) []
asks (Neg a) q p V r = r ∷ []
asks (In a) q p V r = r ∷ []
asks (Out a) q p V r = r ∷ []
asks (Jmp a) q p V r = r ∷ []
asks (Jz a b) q p V r = a ∷ cond (permits is_zero b (q + 1) p (V a)) (r ∷ []) []
asks (Jneg a b) q p V r = a ∷ cond (permits is_negative b (q + 1) p (V a)) (r ∷ []) []
asks Halt q p V r = r ∷ []

-- The unknown of register r at line p.
abbrev pub unknown : ℕ → ℕ → ℕ
unknown p r = 8 * p + r

-- The unknowns that the run of register r at line p asks for, in order: line by line, each time that a line names one.
abbrev pub asks_of : List Line → (ℕ → ℕ → Constant) → ℕ → ℕ → List ℕ
asks_of P V p r = concat (map (λ q. map (unknown q) (asks (at P q) q p (V q) r)) (predecessors P p))
