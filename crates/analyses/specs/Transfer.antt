-- Transfer functions: what a line makes of what is known of the registers. V s is what is known of register s on entry to the line.
use Rattle.std.specs.Prelude.{ℕ, ◌+◌, Bool, true, false, cond, ℤ, pos, ◌+ℤ◌, ◌-ℤ◌, neg_ℤ, ◌==◌, int_lt}
use Rattle.lattice.specs.declared.constant.Constant.{Constant}
use Rattle.lattice.specs.declared.constant.Constant.TheVariants.{Never, Number, Many}
use Rattle.lattice.specs.Constants.{same_number}
use Rattle.drive.specs.declared.line.Line.{Line}
use Rattle.drive.specs.declared.line.Line.TheVariants.{Set, Copy, Add, Sub, Neg, In, Out, Jmp, Jz, Jneg, Halt}
use Rattle.drive.specs.Wrap.{W}

-- w, unless nothing comes here.
abbrev pub unless_never : Constant → Constant → Constant
unless_never Never w = Never
unless_never (Number a) w = w
unless_never Many w = w

-- A sum or difference, wrapped to 16 bits, of what is known of its operands.
abbrev pub combine : (ℤ → ℤ → ℤ) → Constant → Constant → Constant
combine op Never w = Never
combine op (Number a) Never = Never
combine op (Number a) (Number b) = Number (W (op a b))
combine op (Number a) Many = Many
combine op Many Never = Never
combine op Many (Number b) = Many
combine op Many Many = Many

abbrev pub negate : Constant → Constant
negate Never = Never
negate (Number a) = Number (W (neg_ℤ a))
negate Many = Many

-- The registers, with a changed to c.
abbrev pub update : (ℕ → Constant) → ℕ → Constant → ℕ → Constant
update V a c r = cond (a == r) c (V r)

-- The registers after the line.
abbrev pub effect : Line → (ℕ → Constant) → ℕ → Constant
effect (Set a b) V = update V a (unless_never (V a) (Number b))
effect (Copy a b) V = update V a (V b)
effect (Add a b) V = update V a (combine ◌+ℤ◌ (V a) (V b))
effect (Sub a b) V = update V a (combine ◌-ℤ◌ (V a) (V b))
effect (Neg a) V = update V a (negate (V a))
effect (In a) V = update V a (unless_never (V a) Many)
effect (Out a) V = V
effect (Jmp a) V = V
effect (Jz a b) V = V
effect (Jneg a b) V = V
effect Halt V = V

abbrev pub is_zero : ℤ → Bool
is_zero c = same_number c (pos 0)

abbrev pub is_negative : ℤ → Bool
is_negative c = int_lt c (pos 0)

-- Whether a branch permits its successor p. It goes to b if its register passes the test, else to the next line.
abbrev pub permits : (ℤ → Bool) → ℕ → ℕ → ℕ → Constant → Bool
permits test b next p Never = false
permits test b next p (Number c) = cond (test c) b next == p
permits test b next p Many = true

-- Whether the line at q, as far as is known, can be followed by its successor p.
abbrev pub feasible : Line → ℕ → ℕ → (ℕ → Constant) → Bool
feasible (Set a b) q p V = true
feasible (Copy a b) q p V = true
feasible (Add a b) q p V = true
feasible (Sub a b) q p V = true
feasible (Neg a) q p V = true
feasible (In a) q p V = true
feasible (Out a) q p V = true
feasible (Jmp a) q p V = true
feasible (Jz a b) q p V = permits is_zero b (q + 1) p (V a)
feasible (Jneg a b) q p V = permits is_negative b (q + 1) p (V a)
feasible Halt q p V = true

-- What the line at q contributes to register r at its successor p.
abbrev pub contribution : Line → ℕ → ℕ → (ℕ → Constant) → ℕ → Constant
contribution line q p V r = cond (feasible line q p V) (effect line V r) Never
