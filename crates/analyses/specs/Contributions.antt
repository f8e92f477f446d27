-- A line's plan comes to its contribution, and asks for its registers.
use Rattle.std.specs.Prelude.{◌≡◌, ℕ, ◌+◌, ◌*◌, ◌<◌, Bool, true, false, cond, [], ◌∷◌, map, ℤ, ◌+ℤ◌, ◌-ℤ◌, ◌==◌, refl}
use Rattle.std.proofs.Common.{sym, ◌∙◌, ap, arith}
use Rattle.std.proofs.lemmas.Bool.{eqb-true}
use Rattle.lattice.specs.declared.constant.Constant.{Constant}
use Rattle.lattice.specs.declared.constant.Constant.TheVariants.{Never, Number, Many}
use Rattle.equations.specs.declared.Move.{Move}
use Rattle.equations.specs.declared.Move.TheVariants.{Ask, Answer}
use Rattle.equations.specs.Plans.{value, reads, Within, Short}
use Rattle.drive.specs.declared.line.Line.{Line}
use Rattle.drive.specs.declared.line.Line.TheVariants.{Set, Copy, Add, Sub, Neg, In, Out, Jmp, Jz, Jneg, Halt}
use Rattle.drive.specs.declared.line.Operand.TheVariants.{A}
use Rattle.drive.specs.Lines.{none, bad_register}
use Rattle.analyses.specs.Transfer.{unless_never, combine, negate, is_zero, is_negative, permits, contribution}
use Rattle.analyses.specs.Constants.{second, asks, unknown}
use Rattle.analyses.specs.ConstantRuns.{first, operand, needed, last, needing, contributing}
use Rattle.analyses.specs.Sound.{below, both_below}

module _ (q : ℕ) (ρ : ℕ → Constant) where
  -- What is known of the registers on entry to line q.
  abbrev V : ℕ → Constant
  V s = ρ (unknown q s)

  -- Where a is r, it makes no difference which of them is read.
  written : (f : Constant → Constant) (a r : ℕ) → cond (a == r) (f (V r)) (V r) ≡ cond (a == r) (f (V a)) (V r)
  written f a r = go (a == r) refl
    where
      go : (t : Bool) → (a == r) ≡ t → cond t (f (V r)) (V r) ≡ cond t (f (V a)) (V r)
      go true e = ap (λ s. f (V s)) (sym (eqb-true a r e))
      go false e = refl

  copied : (t : Bool) (b r : ℕ) → V (cond t b r) ≡ cond t (V b) (V r)
  copied true b r = refl
  copied false b r = refl

  combined : (op : ℤ → ℤ → ℤ) (t : Bool) (b : ℕ) (v : Constant)
      → value (needing (combine op v) (cond t (operand q v b) (Answer v))) ρ ≡ cond t (combine op v (V b)) v
  combined op true b Never = refl
  combined op true b (Number a) = refl
  combined op true b Many = refl
  combined op false b v = refl

  branched : (t : Bool) (r : ℕ) → value (needing (λ w. w) (cond t (Ask (unknown q r)) (Answer Never))) ρ ≡ cond t (V r) Never
  branched true r = refl
  branched false r = refl

  pub contributed : (line : Line) (p r : ℕ) → value (contributing line q p r) ρ ≡ contribution line q p V r
  contributed (Set a b) p r = written (λ v. unless_never v (Number b)) a r
  contributed (Copy a b) p r = copied (a == r) b r
  contributed (Add a b) p r = combined ◌+ℤ◌ (a == r) b (V r) ∙ written (λ v. combine ◌+ℤ◌ v (V b)) a r
  contributed (Sub a b) p r = combined ◌-ℤ◌ (a == r) b (V r) ∙ written (λ v. combine ◌-ℤ◌ v (V b)) a r
  contributed (Neg a) p r = written negate a r
  contributed (In a) p r = written (λ v. unless_never v Many) a r
  contributed (Out a) p r = refl
  contributed (Jmp a) p r = refl
  contributed (Jz a b) p r = branched (permits is_zero b (q + 1) p (V a)) r
  contributed (Jneg a b) p r = branched (permits is_negative b (q + 1) p (V a)) r
  contributed Halt p r = refl

  second_read : (k : Constant → Constant) (t : Bool) (b : ℕ) (v : Constant)
      → reads (needing k (cond t (operand q v b) (Answer v))) ρ ≡ map (unknown q) (cond t (second v b) [])
  second_read k true b Never = refl
  second_read k true b (Number a) = refl
  second_read k true b Many = refl
  second_read k false b v = refl

  branch_read : (t : Bool) (r : ℕ) → reads (needing (λ w. w) (cond t (Ask (unknown q r)) (Answer Never))) ρ ≡ map (unknown q) (cond t (r ∷ []) [])
  branch_read true r = refl
  branch_read false r = refl

  pub contribution_reads : (line : Line) (p r : ℕ) → reads (contributing line q p r) ρ ≡ map (unknown q) (asks line q p V r)
  contribution_reads (Set a b) p r = refl
  contribution_reads (Copy a b) p r = refl
  contribution_reads (Add a b) p r = ap (λ ys. unknown q r ∷ ys) (second_read (combine ◌+ℤ◌ (V r)) (a == r) b (V r))
  contribution_reads (Sub a b) p r = ap (λ ys. unknown q r ∷ ys) (second_read (combine ◌-ℤ◌ (V r)) (a == r) b (V r))
  contribution_reads (Neg a) p r = refl
  contribution_reads (In a) p r = refl
  contribution_reads (Out a) p r = refl
  contribution_reads (Jmp a) p r = refl
  contribution_reads (Jz a b) p r = ap (λ ys. unknown q a ∷ ys) (branch_read (permits is_zero b (q + 1) p (V a)) r)
  contribution_reads (Jneg a b) p r = ap (λ ys. unknown q a ∷ ys) (branch_read (permits is_negative b (q + 1) p (V a)) r)
  contribution_reads Halt p r = refl

-- It asks for registers of line q, which is one of n lines, and twice at most.
abbrev AsksBelow : ℕ → Move Constant → Type 0
AsksBelow limit (Ask y) = y < limit
AsksBelow limit (Answer c) = Unit {0}

module _ (r : ℕ) (small : r < 8) where
  first_small : (line : Line) → none (bad_register line) ≡ true → first line r < 8
  first_small (Set a b) h = small
  first_small (Copy a b) h = go (a == r)
    where
      go : (t : Bool) → cond t b r < 8
      go true = (both_below a b h).1
      go false = small
  first_small (Add a b) h = small
  first_small (Sub a b) h = small
  first_small (Neg a) h = small
  first_small (In a) h = small
  first_small (Out a) h = small
  first_small (Jmp a) h = small
  first_small (Jz a b) h = below 8 A a h
  first_small (Jneg a b) h = below 8 A a h
  first_small Halt h = small

  module _ (n q : ℕ) (inside : q < n) where
    operand_small : (t : Bool) (v : Constant) (b : ℕ) → b < 8 → AsksBelow (8 * n) (cond t (operand q v b) (Answer v))
    operand_small true Never b k = tt
    operand_small true (Number a) b k = omega arith
    operand_small true Many b k = omega arith
    operand_small false v b k = tt

    branch_small : (t : Bool) → AsksBelow (8 * n) (cond t (Ask (unknown q r)) (Answer Never))
    branch_small true = omega arith
    branch_small false = tt

    needed_small : (line : Line) (p : ℕ) (v : Constant) → none (bad_register line) ≡ true → AsksBelow (8 * n) (needed line q p r v)
    needed_small (Set a b) p v h = tt
    needed_small (Copy a b) p v h = tt
    needed_small (Add a b) p v h = operand_small (a == r) v b (both_below a b h).1
    needed_small (Sub a b) p v h = operand_small (a == r) v b (both_below a b h).1
    needed_small (Neg a) p v h = tt
    needed_small (In a) p v h = tt
    needed_small (Out a) p v h = tt
    needed_small (Jmp a) p v h = tt
    needed_small (Jz a b) p v h = branch_small (permits is_zero b (q + 1) p v)
    needed_small (Jneg a b) p v h = branch_small (permits is_negative b (q + 1) p v)
    needed_small Halt p v h = tt

  pub contributing_within : (n q p : ℕ) (line : Line) → q < n → none (bad_register line) ≡ true → Within (8 * n) (contributing line q p r)
  contributing_within n q p line l h =
      let s = first_small line h in
      (omega arith, λ v. go (last line v) (needed line q p r v) (needed_small n q l line p v h))
    where
      go : (k : Constant → Constant) (m : Move Constant) → AsksBelow (8 * n) m → Within (8 * n) (needing k m)
      go k (Ask y) below = (below, λ v. tt)
      go k (Answer c) below = tt

pub contributing_short : (line : Line) (q p r : ℕ) → Short 2 (contributing line q p r)
contributing_short line q p r = λ v. go (last line v) (needed line q p r v)
  where
    go : (k : Constant → Constant) (m : Move Constant) → Short 1 (needing k m)
    go k (Ask y) = λ v. tt
    go k (Answer c) = tt
