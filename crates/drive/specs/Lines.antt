-- What is right and wrong with a line by itself, and where it may go.
use Rattle.std.specs.Prelude.{ℕ, ◌+◌, Bool, true, false, cond, ◌&&◌, List, [], ◌∷◌, Some, None, Option, ◌==◌, nat_lt}
use Rattle.drive.specs.declared.line.Line.{Line}
use Rattle.drive.specs.declared.line.Line.TheVariants.{Set, Copy, Add, Sub, Neg, In, Out, Jmp, Jz, Jneg, Halt}
use Rattle.drive.specs.declared.line.Operand.{Operand}
use Rattle.drive.specs.declared.line.Operand.TheVariants.{A, B}
use Rattle.drive.specs.declared.successors.Successors.{Successors}
use Rattle.drive.specs.declared.successors.Successors.TheVariants.{Nowhere, One, Two}

-- The operand, if a number is not below a limit.
abbrev pub beyond : ℕ → Operand → ℕ → Option Operand
beyond limit operand n = cond (nat_lt n limit) None (Some operand)

-- The first of two answers.
abbrev pub either : {T : Type 0} → Option T → Option T → Option T
either None second = second
either (Some x) second = Some x

-- The first operand that is a register above 7.
abbrev pub bad_register : Line → Option Operand
bad_register (Set a b) = beyond 8 A a
bad_register (Copy a b) = either (beyond 8 A a) (beyond 8 B b)
bad_register (Add a b) = either (beyond 8 A a) (beyond 8 B b)
bad_register (Sub a b) = either (beyond 8 A a) (beyond 8 B b)
bad_register (Neg a) = beyond 8 A a
bad_register (In a) = beyond 8 A a
bad_register (Out a) = beyond 8 A a
bad_register (Jmp a) = None
bad_register (Jz a b) = beyond 8 A a
bad_register (Jneg a b) = beyond 8 A a
bad_register Halt = None

-- The operand that is a target not below n.
abbrev pub bad_target : ℕ → Line → Option Operand
bad_target n (Set a b) = None
bad_target n (Copy a b) = None
bad_target n (Add a b) = None
bad_target n (Sub a b) = None
bad_target n (Neg a) = None
bad_target n (In a) = None
bad_target n (Out a) = None
bad_target n (Jmp a) = beyond n A a
bad_target n (Jz a b) = beyond n B b
bad_target n (Jneg a b) = beyond n B b
bad_target n Halt = None

abbrev pub none : {T : Type 0} → Option T → Bool
none None = true
none (Some x) = false

-- A line whose registers are 0 to 7 and whose target is below n.
abbrev pub fits : ℕ → Line → Bool
fits n line = none (bad_register line) && none (bad_target n line)

-- A line that may be the last: JMP or HALT.
abbrev pub closes : Line → Bool
closes (Set a b) = false
closes (Copy a b) = false
closes (Add a b) = false
closes (Sub a b) = false
closes (Neg a) = false
closes (In a) = false
closes (Out a) = false
closes (Jmp a) = true
closes (Jz a b) = false
closes (Jneg a b) = false
closes Halt = true

-- The lines that may run after this one at number p: a jump's target first, then the next line, once if they are equal.
abbrev pub branch : ℕ → ℕ → List ℕ
branch b next = cond (b == next) (b ∷ []) (b ∷ (next ∷ []))

abbrev pub successors : Line → ℕ → List ℕ
successors (Set a b) p = (p + 1) ∷ []
successors (Copy a b) p = (p + 1) ∷ []
successors (Add a b) p = (p + 1) ∷ []
successors (Sub a b) p = (p + 1) ∷ []
successors (Neg a) p = (p + 1) ∷ []
successors (In a) p = (p + 1) ∷ []
successors (Out a) p = (p + 1) ∷ []
successors (Jmp a) p = a ∷ []
successors (Jz a b) p = branch b (p + 1)
successors (Jneg a b) p = branch b (p + 1)
successors Halt p = []

-- The successors as a list.
abbrev pub in_order : Successors → List ℕ
in_order Nowhere = []
in_order (One p) = p ∷ []
in_order (Two p q) = p ∷ (q ∷ [])
