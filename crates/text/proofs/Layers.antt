-- A value line by its fields, and by layers.
use Rattle.std.proofs.Common.{◌≡◌, ℕ, ◌<◌, ◌≤◌, min, Bool, true, false, cond, eqb, ltb, ◌⊎◌, List, length, pos, negsuc, Some, None, Ok, Err, Option, Result, sym, refl, ap, ◌∙◌, inl, inr, arith}
use Rattle.std.proofs.lemmas.Bool.{lt-ltb, le-ltb, ltb-true, cases_lt}
use Rattle.drive.specs.declared.line.Line.{Line}
use Rattle.drive.specs.declared.line.Line.TheVariants.{Set, Copy, Add, Sub, Neg, In, Out, Jmp, Jz, Jneg, Halt}
use Rattle.drive.specs.declared.line.Operand.{Operand}
use Rattle.drive.specs.declared.line.Operand.TheVariants.{A, B}
use Rattle.drive.specs.declared.fault.Fault.{Fault}
use Rattle.drive.specs.declared.fault.Fault.TheVariants.{TooManyLines, Register, Target}
use Rattle.drive.specs.Lines.{beyond, either}
use Rattle.drive.specs.Faults.{blamed, line_fault}
use Rattle.fields.specs.Fields.{fields}
use Rattle.fields.specs.Kinds.{Kind, Kind.Word, Kind.Number, Kind.Dash, kind}
use Rattle.text.specs.declared.fault.InputFault.TheVariants.{Count, Operand as BadOperand}
use Rattle.text.specs.declared.fault.Cause.{Cause}
use Rattle.text.specs.declared.fault.Cause.TheVariants.{Input, Program}
use Rattle.text.specs.declared.fault.Refusal.{Refusal}
use Rattle.text.specs.declared.op.Op.{Op}
use Rattle.text.specs.declared.op.Op.TheVariants.{SET, COPY, ADD, SUB, NEG, IN, OUT, JMP, JZ, JNEG, HALT}
use Rattle.text.specs.declared.order.Column.TheVariants.{Op as op, A as a, B as b}
use Rattle.text.specs.declared.order.Order.{Order}
use Rattle.text.specs.Ops.{op_named, role_a, role_b}
use Rattle.text.specs.Reading.{need, cell, is_number, is_below, fits, register_fits, target_fits, signed_of, size_of, line_of, operands, with_op, row}
use Rattle.text.specs.Layers.{byte_of, byte_line, made, converted_op, passed, layered, row_cause, located}

need_same : {T : Type 0} (t : Bool) (f : Cause) (o : Order) (k : ℕ) (x y : Result T Refusal) → (t ≡ true → x ≡ y) → need t f o k x ≡ need t f o k y
unfolding need
need_same true f o k x y h = h refl
need_same false f o k x y h = refl

-- Checks 6 and 8, by which of them pass.
abbrev tests : Order → ℕ → ℕ → Bool → Bool → Bool → Bool → Line → Result Line Refusal
tests o k n ra rb ta tb l =
    need ra (Program (Register n A)) o k (need rb (Program (Register n B)) o k (need ta (Program (Target n A)) o k (need tb (Program (Target n B)) o k (Ok l))))

abbrev first : Bool → Bool → Option Operand
first s t = either (cond s None (Some A)) (cond t None (Some B))

abbrev faults : ℕ → Bool → Bool → Bool → Bool → Option Fault
faults n ra rb ta tb = either (blamed (Register n) (first ra rb)) (blamed (Target n) (first ta tb))

tests_are : (o : Order) (k n : ℕ) (ra rb ta tb : Bool) (l : Line) → tests o k n ra rb ta tb l ≡ located o k (passed (faults n ra rb ta tb) l)
unfolding need
tests_are o k n false rb ta tb l = refl
tests_are o k n true false ta tb l = refl
tests_are o k n true true false tb l = refl
tests_are o k n true true true false l = refl
tests_are o k n true true true true l = refl

tests_same : (o : Order) (k n : ℕ) {ra rb ta tb ra' rb' ta' tb' : Bool} {l l' : Line} → ra ≡ ra' → rb ≡ rb' → ta ≡ ta' → tb ≡ tb'
    → (ra ≡ true → rb ≡ true → ta ≡ true → tb ≡ true → l ≡ l') → tests o k n ra rb ta tb l ≡ tests o k n ra' rb' ta' tb' l'
tests_same o k n {ra} {rb} {ta} {tb} {ra'} {rb'} {ta'} {tb'} {l} {l'} e f g i h =
    need_same ra _ _ _ _ _ (λ p. need_same rb _ _ _ _ _ (λ q. need_same ta _ _ _ _ _ (λ r. need_same tb _ _ _ _ _ (λ s. ap Ok (h p q r s)))))
    ∙ (λ j. tests o k n (e j) (f j) (g j) (i j) l')

ltb_min : (n m : ℕ) → m ≤ 255 → ltb n m ≡ ltb (min n 255) m
ltb_min n m h = go (cases_lt n m)
  where
    go : (n < m) ⊎ (m ≤ n) → ltb n m ≡ ltb (min n 255) m
    go (inl d) = lt-ltb n m d ∙ sym (lt-ltb (min n 255) m (omega arith))
    go (inr d) = le-ltb n m d ∙ sym (le-ltb (min n 255) m (omega arith))

below_byte : (m : ℕ) (x : Kind) → m ≤ 255 → is_number x ≡ true → is_below m x ≡ ltb (byte_of x) m
below_byte m (Word w) d e = let z : ◌≡◌ {A = ℕ} 0 1 = cc in absurd (omega arith)
below_byte m (Number (pos n)) d e = ltb_min n m d
below_byte m (Number (negsuc n)) d e = sym (le-ltb 255 m d)
below_byte m Dash d e = let z : ◌≡◌ {A = ℕ} 0 1 = cc in absurd (omega arith)

size_byte : (m : ℕ) (x : Kind) → m ≤ 255 → is_below m x ≡ true → size_of x ≡ byte_of x
size_byte m (Word w) d e = let z : ◌≡◌ {A = ℕ} 0 1 = cc in absurd (omega arith)
size_byte m (Number (pos n)) d e = let h = ltb-true n m e in omega arith
size_byte m (Number (negsuc n)) d e = let z : ◌≡◌ {A = ℕ} 0 1 = cc in absurd (omega arith)
size_byte m Dash d e = let z : ◌≡◌ {A = ℕ} 0 1 = cc in absurd (omega arith)

two : (f : ℕ → ℕ → Line) {x x' y y' : ℕ} → x ≡ x' → y ≡ y' → f x y ≡ f x' y'
two f p q = λ j. f (p j) (q j)

-- The program layer's faults of a line, by the tests of its bytes.
one_register : (n : ℕ) (t : Bool) → faults n t true true true ≡ either (blamed (Register n) (cond t None (Some A))) None
one_register n true = refl
one_register n false = refl

two_registers : (n : ℕ) (s t : Bool) → faults n s t true true ≡ either (blamed (Register n) (first s t)) None
two_registers n true true = refl
two_registers n true false = refl
two_registers n false t = refl

one_target : (n : ℕ) (t : Bool) → faults n true true t true ≡ blamed (Target n) (cond t None (Some A))
one_target n true = refl
one_target n false = refl

register_target : (n : ℕ) (s t : Bool) → faults n s true true t ≡ either (blamed (Register n) (cond s None (Some A))) (blamed (Target n) (cond t None (Some B)))
register_target n true true = refl
register_target n true false = refl
register_target n false t = refl

module _ (o : Order) (k n : ℕ) (x y : Kind) where
  -- one register, two of them, one target, a register and a target
  at_one : (f : ℕ → Line) → line_fault 64 n (f (byte_of x)) ≡ either (blamed (Register n) (beyond 8 A (byte_of x))) None → is_number x ≡ true
      → tests o k n (is_below 8 x) true true true (f (size_of x)) ≡ located o k (passed (line_fault 64 n (f (byte_of x))) (f (byte_of x)))
  at_one f e h =
      tests_same o k n (below_byte 8 x (omega arith) h) refl refl refl (λ p q r s. ap f (size_byte 8 x (omega arith) p))
      ∙ tests_are o k n (ltb (byte_of x) 8) true true true (f (byte_of x))
      ∙ ap (λ g. located o k (passed g (f (byte_of x)))) (one_register n (ltb (byte_of x) 8) ∙ sym e)

  at_two : (f : ℕ → ℕ → Line) → line_fault 64 n (f (byte_of x) (byte_of y)) ≡ either (blamed (Register n) (either (beyond 8 A (byte_of x)) (beyond 8 B (byte_of y)))) None → is_number x ≡ true → is_number y ≡ true
      → tests o k n (is_below 8 x) (is_below 8 y) true true (f (size_of x) (size_of y)) ≡ located o k (passed (line_fault 64 n (f (byte_of x) (byte_of y))) (f (byte_of x) (byte_of y)))
  at_two f e h i =
      tests_same o k n (below_byte 8 x (omega arith) h) (below_byte 8 y (omega arith) i) refl refl (λ p q r s. two f (size_byte 8 x (omega arith) p) (size_byte 8 y (omega arith) q))
      ∙ tests_are o k n (ltb (byte_of x) 8) (ltb (byte_of y) 8) true true (f (byte_of x) (byte_of y))
      ∙ ap (λ g. located o k (passed g (f (byte_of x) (byte_of y)))) (two_registers n (ltb (byte_of x) 8) (ltb (byte_of y) 8) ∙ sym e)

  at_target : is_number x ≡ true → tests o k n true true (is_below 64 x) true (Jmp (size_of x)) ≡ located o k (passed (line_fault 64 n (Jmp (byte_of x))) (Jmp (byte_of x)))
  at_target h =
      tests_same o k n refl refl (below_byte 64 x (omega arith) h) refl (λ p q r s. ap Jmp (size_byte 64 x (omega arith) r))
      ∙ tests_are o k n true true (ltb (byte_of x) 64) true (Jmp (byte_of x))
      ∙ ap (λ g. located o k (passed g (Jmp (byte_of x)))) (one_target n (ltb (byte_of x) 64))

  at_branch : (f : ℕ → ℕ → Line) → line_fault 64 n (f (byte_of x) (byte_of y)) ≡ either (blamed (Register n) (beyond 8 A (byte_of x))) (blamed (Target n) (beyond 64 B (byte_of y))) → is_number x ≡ true → is_number y ≡ true
      → tests o k n (is_below 8 x) true true (is_below 64 y) (f (size_of x) (size_of y)) ≡ located o k (passed (line_fault 64 n (f (byte_of x) (byte_of y))) (f (byte_of x) (byte_of y)))
  at_branch f e h i =
      tests_same o k n (below_byte 8 x (omega arith) h) refl refl (below_byte 64 y (omega arith) i) (λ p q r s. two f (size_byte 8 x (omega arith) p) (size_byte 64 y (omega arith) s))
      ∙ tests_are o k n (ltb (byte_of x) 8) true true (ltb (byte_of y) 64) (f (byte_of x) (byte_of y))
      ∙ ap (λ g. located o k (passed g (f (byte_of x) (byte_of y)))) (register_target n (ltb (byte_of x) 8) (ltb (byte_of y) 64) ∙ sym e)

  added : (p : Op) → fits (role_a p) x ≡ true → fits (role_b p) y ≡ true
      → tests o k n (register_fits (role_a p) x) (register_fits (role_b p) y) (target_fits (role_a p) x) (target_fits (role_b p) y) (line_of p x y)
      ≡ located o k (passed (line_fault 64 n (byte_line p x y)) (byte_line p x y))
  added SET h i = at_one (λ m. Set m (signed_of y)) refl h
  added COPY h i = at_two Copy refl h i
  added ADD h i = at_two Add refl h i
  added SUB h i = at_two Sub refl h i
  added NEG h i = at_one Neg refl h
  added IN h i = at_one In refl h
  added OUT h i = at_one Out refl h
  added JMP h i = at_target h
  added JZ h i = at_branch Jz refl h i
  added JNEG h i = at_branch Jneg refl h i
  added HALT h i = tests_are o k n true true true true Halt

  operands_by_layer : (p : Op) → operands o k n p x y ≡ located o k (layered n (made p x y))
  unfolding operands need
  operands_by_layer p = go (fits (role_a p) x) refl (fits (role_b p) y) refl
    where
      go : (s : Bool) → fits (role_a p) x ≡ s → (t : Bool) → fits (role_b p) y ≡ t
          → need s (Input (BadOperand A)) o k (need t (Input (BadOperand B)) o k (tests o k n (register_fits (role_a p) x) (register_fits (role_b p) y) (target_fits (role_a p) x) (target_fits (role_b p) y) (line_of p x y)))
          ≡ located o k (layered n (cond s (cond t (Ok (byte_line p x y)) (Err (BadOperand B))) (Err (BadOperand A))))
      go false e t f = refl
      go true e false f = refl
      go true e true f = added p e f

op_by_layer : (o : Order) (k n : ℕ) (l : List ℕ) (found : Option Op) → with_op o k n l found ≡ located o k (layered n (converted_op (kind (cell o a l)) (kind (cell o b l)) found))
unfolding with_op
op_by_layer o k n l None = refl
op_by_layer o k n l (Some p) = operands_by_layer o k n (kind (cell o a l)) (kind (cell o b l)) p

-- A row: room for it, then the text's checks, then the program layer's.
pub row_by_layer : (o : Order) (k n : ℕ) (l : List ℕ) → row o k n l ≡ located o k (row_cause o n l)
unfolding row need
row_by_layer o k n l = go (ltb n 64) (eqb (length (fields l)) 3)
  where
    go : (s t : Bool) → need s (Program TooManyLines) o k (need t (Input Count) o k (with_op o k n l (op_named (cell o op l))))
        ≡ located o k (cond s (layered n (cond t (converted_op (kind (cell o a l)) (kind (cell o b l)) (op_named (cell o op l))) (Err Count))) (Err (Program TooManyLines)))
    go false t = refl
    go true false = refl
    go true true = op_by_layer o k n l (op_named (cell o op l))
