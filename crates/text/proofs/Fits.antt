-- A line of a program of n lines, by its operands; and the programs that texts spell.
use Rattle.std.proofs.Common.{◌≡◌, ℕ, zero, suc, ◌-◌, ◌^◌, ◌<◌, ◌≤◌, Bool, true, false, cond, ltb, List, [], ◌∷◌, length, Some, None, Option, refl, arith}
use lib.Signed.{mag}
use Rattle.std.specs.List.{AllByRecursion as All}
use Rattle.std.proofs.lemmas.Bool.{and_parts, lt-ltb, ltb-true}
use Rattle.drive.specs.declared.line.Line.{Line}
use Rattle.drive.specs.declared.line.Line.TheVariants.{Set, Copy, Add, Sub, Neg, In, Out, Jmp, Jz, Jneg, Halt}
use Rattle.drive.specs.declared.line.Operand.{Operand}
use Rattle.drive.specs.Lines.{beyond, either, none, bad_register, bad_target, fits, closes}
use Rattle.drive.specs.Programs.{at}
use Rattle.drive.proofs.Checks.{fits_from, fits_register}
use Rattle.text.specs.Theory.{Sixteen, Valid}

-- Registers are 0 to 7, a target is below n, and SET's number is one of 16 bits.
abbrev pub Fit : ℕ → Line → Type 0
Fit n (Set a b) = (a < 8) × (mag b < 2 ^ 15)
Fit n (Copy a b) = (a < 8) × (b < 8)
Fit n (Add a b) = (a < 8) × (b < 8)
Fit n (Sub a b) = (a < 8) × (b < 8)
Fit n (Neg a) = a < 8
Fit n (In a) = a < 8
Fit n (Out a) = a < 8
Fit n (Jmp a) = a < n
Fit n (Jz a b) = (a < 8) × (b < n)
Fit n (Jneg a b) = (a < 8) × (b < n)
Fit n Halt = Unit {0}

pub record Good (P : List Line) : Type 0 where
  pub some : 0 < length P
  pub few : length P ≤ 64
  pub fit : All (Fit (length P)) P
  pub last : closes (at P (length P - 1)) ≡ true

below : (n m : ℕ) (operand : Operand) → beyond m operand n ≡ None → n < m
below n m operand e = go (ltb n m) refl e
  where
    go : (t : Bool) → ltb n m ≡ t → cond t None (Some operand) ≡ None → n < m
    go true h e = ltb-true n m h
    go false h e = let z : ◌≡◌ {A = ℕ} 0 1 = cc in absurd (omega arith)

both : {T : Type 0} (x y : Option T) → either x y ≡ None → (x ≡ None) × (y ≡ None)
both None y e = (refl, e)
both (Some v) y e = let z : ◌≡◌ {A = ℕ} 0 1 = cc in absurd (omega arith)

not_beyond : (n m : ℕ) (operand : Operand) → n < m → beyond m operand n ≡ None
not_beyond n m operand h = rw (lt-ltb n m h)

both_none : {T : Type 0} (x y : Option T) → x ≡ None → y ≡ None → either x y ≡ None
both_none x y e f = rw e f

-- by the program layer's checks
pub fit_from : (n : ℕ) (l : Line) → bad_register l ≡ None → bad_target n l ≡ None → Sixteen l → Fit n l
fit_from n (Set a b) r t s = (below a 8 _ r, s)
fit_from n (Copy a b) r t s = let (p, q) = both _ _ r in (below a 8 _ p, below b 8 _ q)
fit_from n (Add a b) r t s = let (p, q) = both _ _ r in (below a 8 _ p, below b 8 _ q)
fit_from n (Sub a b) r t s = let (p, q) = both _ _ r in (below a 8 _ p, below b 8 _ q)
fit_from n (Neg a) r t s = below a 8 _ r
fit_from n (In a) r t s = below a 8 _ r
fit_from n (Out a) r t s = below a 8 _ r
fit_from n (Jmp a) r t s = below a n _ t
fit_from n (Jz a b) r t s = (below a 8 _ r, below b n _ t)
fit_from n (Jneg a b) r t s = (below a 8 _ r, below b n _ t)
fit_from n Halt r t s = tt

pub fit_register : (n : ℕ) (l : Line) → Fit n l → bad_register l ≡ None
fit_register n (Set a b) h = not_beyond a 8 _ h.0
fit_register n (Copy a b) h = both_none _ _ (not_beyond a 8 _ h.0) (not_beyond b 8 _ h.1)
fit_register n (Add a b) h = both_none _ _ (not_beyond a 8 _ h.0) (not_beyond b 8 _ h.1)
fit_register n (Sub a b) h = both_none _ _ (not_beyond a 8 _ h.0) (not_beyond b 8 _ h.1)
fit_register n (Neg a) h = not_beyond a 8 _ h
fit_register n (In a) h = not_beyond a 8 _ h
fit_register n (Out a) h = not_beyond a 8 _ h
fit_register n (Jmp a) h = refl
fit_register n (Jz a b) h = not_beyond a 8 _ h.0
fit_register n (Jneg a b) h = not_beyond a 8 _ h.0
fit_register n Halt h = refl

pub fit_target : (n : ℕ) (l : Line) → Fit n l → bad_target n l ≡ None
fit_target n (Set a b) h = refl
fit_target n (Copy a b) h = refl
fit_target n (Add a b) h = refl
fit_target n (Sub a b) h = refl
fit_target n (Neg a) h = refl
fit_target n (In a) h = refl
fit_target n (Out a) h = refl
fit_target n (Jmp a) h = not_beyond a n _ h
fit_target n (Jz a b) h = not_beyond b n _ h.1
fit_target n (Jneg a b) h = not_beyond b n _ h.1
fit_target n Halt h = refl

pub fit_sixteen : (n : ℕ) (l : Line) → Fit n l → Sixteen l
fit_sixteen n (Set a b) h = h.1
fit_sixteen n (Copy a b) h = tt
fit_sixteen n (Add a b) h = tt
fit_sixteen n (Sub a b) h = tt
fit_sixteen n (Neg a) h = tt
fit_sixteen n (In a) h = tt
fit_sixteen n (Out a) h = tt
fit_sixteen n (Jmp a) h = tt
fit_sixteen n (Jz a b) h = tt
fit_sixteen n (Jneg a b) h = tt
fit_sixteen n Halt h = tt

-- What is known of each line, and of the line at each place.
pub all_from : (Q : Line → Type 0) (P : List Line) → ((i : ℕ) → Q (at P i)) → All Q P
all_from Q [] h = tt
all_from Q (l ∷ P) h = (h 0, all_from Q P (λ i. h (suc i)))

pub all_at : (Q : Line → Type 0) (P : List Line) → Q Halt → All Q P → (i : ℕ) → Q (at P i)
all_at Q [] none h i = none
all_at Q (l ∷ P) none (s, h) zero = s
all_at Q (l ∷ P) none (s, h) (suc i) = all_at Q P none h i

fit_wider : (m : ℕ) (l : Line) → m ≤ 64 → Fit m l → Fit 64 l
fit_wider m (Set x y) d h = h
fit_wider m (Copy x y) d h = h
fit_wider m (Add x y) d h = h
fit_wider m (Sub x y) d h = h
fit_wider m (Neg x) d h = h
fit_wider m (In x) d h = h
fit_wider m (Out x) d h = h
fit_wider m (Jmp x) d h = omega arith
fit_wider m (Jz x y) d h = omega arith
fit_wider m (Jneg x y) d h = omega arith
fit_wider m Halt d h = tt

pub all_wider : (m : ℕ) (P : List Line) → m ≤ 64 → All (Fit m) P → All (Fit 64) P
all_wider m [] d h = tt
all_wider m (l ∷ P) d (s, h) = (fit_wider m l d s, all_wider m P d h)

-- Both descriptions of a program.
target_none : (n : ℕ) (l : Line) → fits n l ≡ true → bad_target n l ≡ None
target_none n l h = go (bad_target n l) refl (and_parts (none (bad_register l)) (none (bad_target n l)) h).1
  where
    go : (o : Option Operand) → bad_target n l ≡ o → none o ≡ true → o ≡ None
    go None e h = refl
    go (Some x) e h = let z : ◌≡◌ {A = ℕ} 0 1 = cc in absurd (omega arith)

pub good : (P : List Line) → Valid P → Good P
good P v =
    let s = v.sound in
    let some = s.some in
    record {
      some = omega arith;
      few = s.few;
      fit = all_from (Fit (length P)) P (λ i. fit_from (length P) (at P i) (fits_register (length P) (at P i) (s.fitting i)) (target_none (length P) (at P i) (s.fitting i)) (v.numbers i));
      last = s.closed;
    }

pub valid : (P : List Line) → Good P → Valid P
valid P g =
    let n = length P in
    let fit : (i : ℕ) → Fit n (at P i) = all_at (Fit n) P tt g.fit in
    let some = g.some in
    record {
      sound = record {
        some = omega arith;
        few = g.few;
        fitting = λ i. fits_from n (at P i) (fit_register n (at P i) (fit i)) (fit_target n (at P i) (fit i));
        closed = g.last;
      };
      numbers = λ i. fit_sixteen n (at P i) (fit i);
    }
