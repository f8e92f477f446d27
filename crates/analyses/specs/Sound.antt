-- What the rules of programs say of a line: its registers are below 8, and its successors are lines of the program.
use Rattle.std.specs.Prelude.{◌≡◌, ℕ, ◌+◌, ◌-◌, ◌<◌, Bool, true, false, cond, List, [], ◌∷◌, length, Some, None, ◌==◌, nat_lt, refl}
use Rattle.std.proofs.Common.{⊎_elim, arith}
use Rattle.std.proofs.lemmas.Bool.{cases_eq, ltb-true, and_parts, false≢true}
use Rattle.equations.proofs.Planned.{Each}
use Rattle.drive.specs.declared.line.Line.{Line}
use Rattle.drive.specs.declared.line.Line.TheVariants.{Set, Copy, Add, Sub, Neg, In, Out, Jmp, Jz, Jneg, Halt}
use Rattle.drive.specs.declared.line.Operand.{Operand}
use Rattle.drive.specs.declared.line.Operand.TheVariants.{A, B}
use Rattle.drive.specs.Lines.{beyond, either, none, bad_register, bad_target, closes, branch, successors}
use Rattle.drive.specs.Programs.{at, Sound}

pub below : (limit : ℕ) (operand : Operand) (n : ℕ) → none (beyond limit operand n) ≡ true → n < limit
below limit operand n h = go (nat_lt n limit) refl h
  where
    go : (t : Bool) → nat_lt n limit ≡ t → none (cond t None (Some operand)) ≡ true → n < limit
    go true e h = ltb-true n limit e
    go false e h = absurd (false≢true h)

pub both_below : (a b : ℕ) → none (either (beyond 8 A a) (beyond 8 B b)) ≡ true → (a < 8) × (b < 8)
both_below a b h = go (nat_lt a 8) refl h
  where
    go : (t : Bool) → nat_lt a 8 ≡ t → none (either (cond t None (Some A)) (beyond 8 B b)) ≡ true → (a < 8) × (b < 8)
    go true e h = (ltb-true a 8 e, below 8 B b h)
    go false e h = absurd (false≢true h)

next_below : (n p : ℕ) → p < n → (p + 1 ≡ n → false ≡ true) → p + 1 < n
next_below n p k last = ⊎_elim (λ e. absurd (false≢true (last e))) (λ ne. omega arith) (cases_eq (p + 1) n)

branch_below : (n b next : ℕ) → b < n → next < n → Each (λ s. s < n) (branch b next)
branch_below n b next k l = go (b == next)
  where
    go : (t : Bool) → Each (λ s. s < n) (cond t (b ∷ []) (b ∷ (next ∷ [])))
    go true = (k, tt)
    go false = (k, (l, tt))

line_below : (n p : ℕ) (line : Line) → p < n → none (bad_target n line) ≡ true → (p + 1 ≡ n → closes line ≡ true) → Each (λ s. s < n) (successors line p)
line_below n p (Set a b) k t last = (next_below n p k last, tt)
line_below n p (Copy a b) k t last = (next_below n p k last, tt)
line_below n p (Add a b) k t last = (next_below n p k last, tt)
line_below n p (Sub a b) k t last = (next_below n p k last, tt)
line_below n p (Neg a) k t last = (next_below n p k last, tt)
line_below n p (In a) k t last = (next_below n p k last, tt)
line_below n p (Out a) k t last = (next_below n p k last, tt)
line_below n p (Jmp a) k t last = (below n A a t, tt)
line_below n p (Jz a b) k t last = branch_below n b (p + 1) (below n B b t) (next_below n p k last)
line_below n p (Jneg a b) k t last = branch_below n b (p + 1) (below n B b t) (next_below n p k last)
line_below n p Halt k t last = tt

module _ (P : List Line) (sound : Sound P) where
  parts : (p : ℕ) → (none (bad_register (at P p)) ≡ true) × (none (bad_target (length P) (at P p)) ≡ true)
  parts p = and_parts (none (bad_register (at P p))) (none (bad_target (length P) (at P p))) (sound.fitting p)

  pub registers : (p : ℕ) → none (bad_register (at P p)) ≡ true
  registers p = (parts p).0

  pub successors_below : (p : ℕ) → p < length P → Each (λ s. s < length P) (successors (at P p) p)
  successors_below p k = line_below (length P) p (at P p) k (parts p).1
      (λ e. let q : p ≡ length P - 1 = omega arith in rw q sound.closed)
