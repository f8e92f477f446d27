-- The runs of constants: the plan of a right-hand side, and what is left of it at each stage of a run.
use Rattle.std.specs.Prelude.{◌≡◌, ℕ, ◌+◌, ◌*◌, ◌/◌, ◌%◌, ◌<◌, cond, List, [], ◌∷◌, length, ◌+ℤ◌, ◌-ℤ◌, Some, None, Option, ◌==◌}
use Rattle.lattice.specs.declared.constant.Constant.{Constant}
use Rattle.lattice.specs.declared.constant.Constant.TheVariants.{Never, Number, Many}
use Rattle.lattice.specs.Constants.{join_constants}
use Rattle.equations.specs.declared.Move.{Move}
use Rattle.equations.specs.declared.Move.TheVariants.{Ask, Answer}
use Rattle.equations.specs.Systems.{Meaning}
use Rattle.equations.specs.Plans.{Plan, done, ask, then, collect, planned}
use Rattle.drive.specs.declared.line.Line.{Line}
use Rattle.drive.specs.declared.line.Line.TheVariants.{Set, Copy, Add, Sub, Neg, In, Out, Jmp, Jz, Jneg, Halt}
use Rattle.drive.specs.Programs.{at}
use Rattle.analyses.specs.declared.constants.Start.{Start}
use Rattle.analyses.specs.declared.constants.run.Run.{Run}
use Rattle.analyses.specs.declared.constants.run.Pending.{Pending}
use Rattle.analyses.specs.Predecessors.{predecessors_from}
use Rattle.analyses.specs.Transfer.{unless_never, combine, negate, is_zero, is_negative, permits}
use Rattle.analyses.specs.Constants.{start_at, unknown}

-- How the line at q comes to its contribution to register r at p. It asks for one register first.
abbrev pub first : Line → ℕ → ℕ
first (Set a b) r = r
first (Copy a b) r = cond (a == r) b r
first (Add a b) r = r
first (Sub a b) r = r
first (Neg a) r = r
first (In a) r = r
first (Out a) r = r
first (Jmp a) r = r
first (Jz a b) r = a
first (Jneg a b) r = a
first Halt r = r

-- Given its value v, the line asks for a second register or contributes.
abbrev pub operand : ℕ → Constant → ℕ → Move Constant
operand q Never s = Answer Never
operand q (Number a) s = Ask (unknown q s)
operand q Many s = Ask (unknown q s)

abbrev pub needed : Line → ℕ → ℕ → ℕ → Constant → Move Constant
needed (Set a b) q p r v = Answer (cond (a == r) (unless_never v (Number b)) v)
needed (Copy a b) q p r v = Answer v
needed (Add a b) q p r v = cond (a == r) (operand q v b) (Answer v)
needed (Sub a b) q p r v = cond (a == r) (operand q v b) (Answer v)
needed (Neg a) q p r v = Answer (cond (a == r) (negate v) v)
needed (In a) q p r v = Answer (cond (a == r) (unless_never v Many) v)
needed (Out a) q p r v = Answer v
needed (Jmp a) q p r v = Answer v
needed (Jz a b) q p r v = cond (permits is_zero b (q + 1) p v) (Ask (unknown q r)) (Answer Never)
needed (Jneg a b) q p r v = cond (permits is_negative b (q + 1) p v) (Ask (unknown q r)) (Answer Never)
needed Halt q p r v = Answer v

-- Given the value w of the second register too, it contributes this.
abbrev pub last : Line → Constant → Constant → Constant
last (Set a b) v w = w
last (Copy a b) v w = w
last (Add a b) v w = combine ◌+ℤ◌ v w
last (Sub a b) v w = combine ◌-ℤ◌ v w
last (Neg a) v w = w
last (In a) v w = w
last (Out a) v w = w
last (Jmp a) v w = w
last (Jz a b) v w = w
last (Jneg a b) v w = w
last Halt v w = w

-- The same as a plan, after the first value and from the start.
abbrev pub needing : (Constant → Constant) → Move Constant → Plan Constant Constant
needing k (Ask y) = ask y (λ w. done (k w))
needing k (Answer c) = done c

abbrev pub after_first : Line → ℕ → ℕ → ℕ → Constant → Plan Constant Constant
after_first line q p r v = needing (last line v) (needed line q p r v)

abbrev pub contributing : Line → ℕ → ℕ → ℕ → Plan Constant Constant
contributing line q p r = ask (unknown q (first line r)) (after_first line q p r)

abbrev pub part : List Line → ℕ → ℕ → ℕ → Plan Constant Constant
part P p r q = contributing (at P q) q p r

-- The lines make their parts one after the other, and what they contribute is joined.
abbrev pub lines_from : List Line → ℕ → ℕ → ℕ → Constant → Plan Constant Constant
lines_from P p r q = collect join_constants (part P p r) (predecessors_from P p q)

-- The right-hand side of register r at line p, and the equations of a program.
abbrev pub right_hand_side : List Line → Start → ℕ → ℕ → Plan Constant Constant
right_hand_side P start p r = lines_from P p r 0 (start_at start p)

abbrev pub plan : List Line → Start → ℕ → Plan Constant Constant
plan P start x = right_hand_side P start (x / 8) (x % 8)

abbrev pub constancy : List Line → Start → Meaning Constant
constancy P start = planned (8 * length P) (plan P start)

-- What a line that waits for a value does with it: the first value, or the second after the first.
abbrev pub resumed : Option Constant → Line → ℕ → ℕ → ℕ → Constant → Plan Constant Constant
resumed None line q p r v = after_first line q p r v
resumed (Some u) line q p r v = done (last line u v)

abbrev pub resume : Pending → ℕ → ℕ → Constant → Plan Constant Constant
resume k p r v = resumed k.first k.line k.q p r v

-- What is left of a run: it waits for a value for a line, after which the lines from the next on make their parts; or it is done.
abbrev pub waiting : List Line → ℕ → ℕ → Option Pending → Constant → Plan Constant Constant
waiting P p r None so_far = done so_far
waiting P p r (Some k) so_far = ask k.unknown (λ v. then (resume k p r v) (λ c. lines_from P p r (k.q + 1) (join_constants so_far c)))

abbrev pub rest : List Line → Run → Plan Constant Constant
rest P run = waiting P run.place.p run.place.r run.pending run.so_far

-- The first line from q on that has p as a successor.
abbrev pub Found : List Line → ℕ → ℕ → Option ℕ → Type 0
Found P p q None = predecessors_from P p q ≡ []
Found P p q (Some j) = (j < length P) × (predecessors_from P p q ≡ j ∷ predecessors_from P p (j + 1))
