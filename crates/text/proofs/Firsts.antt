-- Every refusal is of the first thing that is wrong.
use Rattle.std.proofs.Common.{◌≡◌, ℕ, suc, ◌+◌, ◌<◌, Bool, true, false, ◌⊎◌, List, [], ◌∷◌, ◌++◌, map, length, drop, Some, None, Ok, Err, Option, Result, sym, refl, ap, ◌∙◌, subst, inl, inr, arith}
use Rattle.std.specs.List.{AllByRecursion as All}
use Rattle.std.proofs.lemmas.Bool.{ltb-true, eqb-true}
use Rattle.drive.specs.declared.line.Line.{Line}
use Rattle.drive.specs.declared.line.Operand.{Operand}
use Rattle.drive.specs.declared.line.Operand.TheVariants.{A, B}
use Rattle.drive.specs.declared.fault.Fault.{Fault}
use Rattle.drive.specs.declared.fault.Fault.TheVariants.{TooManyLines, Register as BadRegister, Target as BadTarget}
use Rattle.drive.specs.Programs.{at}
use Rattle.drive.specs.Drafts.{finish_fault}
use Rattle.drive.proofs.Checks.{fits_from}
use Rattle.fields.specs.Lines.{lines, line_at}
use Rattle.fields.specs.Fields.{fields}
use Rattle.fields.specs.Kinds.{Kind, kind}
use Rattle.text.specs.declared.fault.Cause.{Cause}
use Rattle.text.specs.declared.fault.Cause.TheVariants.{Input, Program}
use Rattle.text.specs.declared.fault.InputFault.TheVariants.{Count, Operand as BadOperand}
use Rattle.text.specs.declared.fault.Refusal.{Refusal}
use Rattle.text.specs.declared.op.Op.{Op}
use Rattle.text.specs.declared.op.Role.{Role}
use Rattle.text.specs.declared.op.Role.TheVariants.{Register, Target, Value, Nothing}
use Rattle.text.specs.declared.order.Column.TheVariants.{Op as op, A as a, B as b}
use Rattle.text.specs.declared.order.Order.{Order}
use Rattle.text.specs.Columns.{field_of, column_of}
use Rattle.text.specs.Ops.{op_named, role_a, role_b}
use Rattle.text.specs.Rendering.{names, value_line}
use Rattle.text.specs.Reading.{told, need, and_then, order_of, cell, fits, is_below, register_fits, target_fits, line_of, operands, with_op, row, rows, fault_line, ended, finish, table, after_names, read_lines, read}
use Rattle.text.specs.Names.{named, names_read}
use Rattle.text.specs.Laws.{Stops, GoodRows, FirstWrong, FirstWrong.at_names, FirstWrong.at_row, FirstWrong.at_end, FirstRefusal, role_of, WrongRegister, RegisterRule}
use Rattle.text.proofs.Fits.{Fit, fit_register, fit_target, all_at}
use Rattle.text.proofs.Rows.{find_is, row_read}

each_fits : (P : List Line) → All (Fit 64) P → (i : ℕ) → Rattle.drive.specs.Lines.fits 64 (at P i) ≡ true
each_fits P h i = let f : Fit 64 (at P i) = all_at (Fit 64) P tt h i in fits_from 64 (at P i) (fit_register 64 (at P i) f) (fit_target 64 (at P i) f)

then_err : {T U : Type 0} (x : Result T Refusal) (f : T → U) (r : Refusal) → and_then x (λ v. Ok (f v)) ≡ Err r → x ≡ Err r
unfolding and_then
then_err (Ok v) f r e = let z : ◌≡◌ {A = ℕ} 0 1 = cc in absurd (omega arith)
then_err (Err q) f r e = let same : q ≡ r = cc in ap Err same

-- A refused row, and the rows before it.
record RefusedRow (o : Order) (k n : ℕ) (ls : List (List ℕ)) (r : Refusal) : Type 0 where
  before : List Line
  row_bytes : List ℕ
  rest : List (List ℕ)
  are : ls ≡ map (value_line o) before ++ row_bytes ∷ rest
  fit : All (Fit 64) before
  here : row o (k + length before) (n + length before) row_bytes ≡ Err r

refused_row : (o : Order) (k n : ℕ) (ls : List (List ℕ)) (r : Refusal) → rows o k n ls ≡ Err r → RefusedRow o k n ls r
unfolding rows and_then
refused_row o k n [] r e = let z : ◌≡◌ {A = ℕ} 0 1 = cc in absurd (omega arith)
refused_row o k n ([] ∷ ls) r e = let z : ◌≡◌ {A = ℕ} 0 1 = cc in absurd (omega arith)
refused_row o k n ((c ∷ cs) ∷ ls) r e = go (row o k n (c ∷ cs)) refl e (λ f. refused_row o (k + 1) (n + 1) ls r f)
  where
    go : (x : Result Line Refusal) → row o k n (c ∷ cs) ≡ x → and_then x (λ l. and_then (rows o (k + 1) (n + 1) ls) (λ P. Ok (l ∷ P))) ≡ Err r
        → (rows o (k + 1) (n + 1) ls ≡ Err r → RefusedRow o (k + 1) (n + 1) ls r) → RefusedRow o k n ((c ∷ cs) ∷ ls) r
    go (Err q) f e ih =
        let same : q ≡ r = cc in
        let k₀ : k + 0 ≡ k = omega arith in
        let n₀ : n + 0 ≡ n = omega arith in
        record { before = []; row_bytes = c ∷ cs; rest = ls; are = refl; fit = tt; here = (λ j. row o (k₀ j) (n₀ j) (c ∷ cs)) ∙ f ∙ ap Err same }
    go (Ok l) f e ih =
        let later = ih (then_err (rows o (k + 1) (n + 1) ls) (λ P. l ∷ P) r e) in
        let w = row_read o k n (c ∷ cs) l f in
        let k₁ : k + suc (length later.before) ≡ k + 1 + length later.before = omega arith in
        let n₁ : n + suc (length later.before) ≡ n + 1 + length later.before = omega arith in
        record {
          before = l ∷ later.before;
          row_bytes = later.row_bytes;
          rest = later.rest;
          are = λ j. sym w.written j ∷ later.are j;
          fit = (w.sound, later.fit);
          here = (λ j. row o (k₁ j) (n₁ j) later.row_bytes) ∙ later.here;
        }

-- All rows of a table.
record AllRows (o : Order) (ls : List (List ℕ)) (P : List Line) : Type 0 where
  rest : List (List ℕ)
  are : ls ≡ map (value_line o) P ++ rest
  stops : Stops rest
  fit : All (Fit 64) P

none_left : (o : Order) (ls : List (List ℕ)) (P : List Line) → Stops ls → P ≡ [] → AllRows o ls P
none_left o ls P s e = subst (λ (Q : List Line). AllRows o ls Q) (sym e) (record { rest = ls; are = refl; stops = s; fit = tt })

all_rows : (o : Order) (k n : ℕ) (ls : List (List ℕ)) (P : List Line) → rows o k n ls ≡ Ok P → AllRows o ls P
unfolding rows and_then
all_rows o k n [] P e = none_left o [] P tt (cc)
all_rows o k n ([] ∷ ls) P e = none_left o ([] ∷ ls) P tt (cc)
all_rows o k n ((c ∷ cs) ∷ ls) P e = go (row o k n (c ∷ cs)) refl (rows o (k + 1) (n + 1) ls) refl e (λ Q f. all_rows o (k + 1) (n + 1) ls Q f)
  where
    go : (x : Result Line Refusal) → row o k n (c ∷ cs) ≡ x → (y : Result (List Line) Refusal) → rows o (k + 1) (n + 1) ls ≡ y
        → and_then x (λ l. and_then y (λ Q. Ok (l ∷ Q))) ≡ Ok P → ((Q : List Line) → rows o (k + 1) (n + 1) ls ≡ Ok Q → AllRows o ls Q) → AllRows o ((c ∷ cs) ∷ ls) P
    go (Err q) f y g e ih = let z : ◌≡◌ {A = ℕ} 0 1 = cc in absurd (omega arith)
    go (Ok l) f (Err q) g e ih = let z : ◌≡◌ {A = ℕ} 0 1 = cc in absurd (omega arith)
    go (Ok l) f (Ok Q) g e ih =
        let same : l ∷ Q ≡ P = cc in
        let later = ih Q g in
        let w = row_read o k n (c ∷ cs) l f in
        subst (λ (X : List Line). AllRows o ((c ∷ cs) ∷ ls) X) same
        (record { rest = later.rest; are = λ j. sym w.written j ∷ later.are j; stops = later.stops; fit = (w.sound, later.fit) })

ended_err : {T : Type 0} (o : Order) (k n : ℕ) (f : Option Fault) (v : T) (r : Refusal) → ended o k n f (Ok v) ≡ Err r
    → (fault : Fault) × (f ≡ Some fault) × (◌≡◌ {A = Result Line Refusal} (Err r) (told o (fault_line k n fault) (Program fault)))
unfolding ended
ended_err o k n None v r e = let z : ◌≡◌ {A = ℕ} 0 1 = cc in absurd (omega arith)
ended_err o k n (Some fault) v r e = (fault, refl, let same : r ≡ record { cause = Program fault; line = fault_line k n fault; field = field_of o (Program fault) } = cc in ap Err same)

module _ (t : List ℕ) (p : ℕ) (r : Refusal) (l : List ℕ) (ls : List (List ℕ)) (first : lines (drop p t) ≡ l ∷ ls) (o : Order) (found : order_of l ≡ Some o) where
  good_rows : (P : List Line) (rest : List (List ℕ)) → ls ≡ map (value_line o) P ++ rest → All (Fit 64) P → GoodRows t p o P rest
  good_rows P rest are fit = record { are = first ∙ (λ j. sym (find_is names l _ o found) j ∷ are j); good = each_fits P fit }

  past_names : and_then (rows o (line_at t p + 1) 0 ls) (λ P. finish o (line_at t p + 1) P (Ok (table p (drop p t) P))) ≡ Err r → FirstWrong t p r
  unfolding and_then
  past_names e = go (rows o (line_at t p + 1) 0 ls) refl e
    where
      go : (x : Result (List Line) Refusal) → rows o (line_at t p + 1) 0 ls ≡ x → and_then x (λ P. finish o (line_at t p + 1) P (Ok (table p (drop p t) P))) ≡ Err r → FirstWrong t p r
      go (Err q) f e =
          let same : q ≡ r = cc in
          let w = refused_row o (line_at t p + 1) 0 ls r (f ∙ ap Err same) in
          let n₀ : 0 + length w.before ≡ length w.before = omega arith in
          at_row o w.before w.row_bytes w.rest (good_rows w.before (w.row_bytes ∷ w.rest) w.are w.fit)
          ((λ j. row o (line_at t p + 1 + length w.before) (sym n₀ j) w.row_bytes) ∙ w.here)
      go (Ok P) f e =
          let w = all_rows o (line_at t p + 1) 0 ls P f in
          let (fault, bad, told-so) = ended_err o (line_at t p + 1) (length P) (finish_fault P) _ r e in
          at_end o P w.rest (good_rows P w.rest w.are w.fit) w.stops fault bad told-so

pub first_refusal : FirstRefusal
unfolding read read_lines after_names
first_refusal t p r e = from_lines (lines (drop p t)) refl e
  where
    from_order : (l : List ℕ) (ls : List (List ℕ)) → lines (drop p t) ≡ l ∷ ls → (found : Option Order) → order_of l ≡ found → after_names (line_at t p) p (drop p t) l ls found ≡ Err r → FirstWrong t p r
    from_order l ls d None f e = at_names (ap (names_read (line_at t p)) d ∙ ap (named (line_at t p) l) f ∙ (let same : _ ≡ r = cc in ap Err same))
    from_order l ls d (Some o) f e = past_names t p r l ls d o f e

    from_lines : (ls : List (List ℕ)) → lines (drop p t) ≡ ls → read_lines (line_at t p) p (drop p t) ls ≡ Err r → FirstWrong t p r
    from_lines [] d e = at_names (ap (names_read (line_at t p)) d ∙ (let same : _ ≡ r = cc in ap Err same))
    from_lines (l ∷ ls) d e = from_order l ls d (order_of l) refl e

-- A check that refuses, or lets the next one refuse.
need_err : {T : Type 0} (t : Bool) (f : Cause) (o : Order) (k : ℕ) (next : Result T Refusal) (r : Refusal) → need t f o k next ≡ Err r
    → ((t ≡ false) × (r ≡ record { cause = f; line = k; field = field_of o f })) ⊎ ((t ≡ true) × (next ≡ Err r))
unfolding need
need_err true f o k next r e = inr (refl, e)
need_err false f o k next r e = inl (refl, cc)

is_register : (role : Role) (x : Kind) → register_fits role x ≡ false → (role ≡ Register) × (is_below 8 x ≡ false)
is_register Register x e = (refl, e)
is_register Target x e = let z : ◌≡◌ {A = ℕ} 0 1 = cc in absurd (omega arith)
is_register Value x e = let z : ◌≡◌ {A = ℕ} 0 1 = cc in absurd (omega arith)
is_register Nothing x e = let z : ◌≡◌ {A = ℕ} 0 1 = cc in absurd (omega arith)

-- A refusal with another cause.
other : (r : Refusal) (f g : Cause) (k c : ℕ) → r ≡ record { cause = f; line = k; field = c } → r.cause ≡ g → f ≡ g
other r f g k c e h = sym (ap (λ x. x.cause) e) ∙ h

module _ (o : Order) (k n : ℕ) (l : List ℕ) (r : Refusal) (m : ℕ) (operand : Operand) (is : r.cause ≡ Program (BadRegister m operand))
    (room : n < 64) (three : length (fields l) ≡ 3) (p : Op) (found : op_named (cell o op l) ≡ Some p)
    (fits_a : fits (role_a p) (kind (cell o a l)) ≡ true) (fits_b : fits (role_b p) (kind (cell o b l)) ≡ true) where
  told_of : (q : Operand) → register_fits (role_of q p) (kind (cell o (column_of q) l)) ≡ false
      → r ≡ record { cause = Program (BadRegister n q); line = k; field = field_of o (Program (BadRegister n q)) } → WrongRegister o k n l r operand
  told_of q bad e =
      let h = other r (Program (BadRegister n q)) (Program (BadRegister m operand)) k _ e is in
      let same : q ≡ operand = cc in
      let (register, wrong) = is_register (role_of q p) (kind (cell o (column_of q) l)) bad in
      subst (λ (x : Operand). WrongRegister o k n l r x) same (record {
        room = room;
        three = three;
        operation = p;
        named = found;
        fits_a = fits_a;
        fits_b = fits_b;
        register = register;
        wrong = wrong;
        line = ap (λ x. x.line) e;
        field_is = ap (λ x. x.field) e;
      })

-- One check less, unless it is the one that refuses.
passes : {T : Type 0} (t : Bool) (f : Cause) (o : Order) (k : ℕ) (next : Result T Refusal) (r : Refusal) (g : Cause) → need t f o k next ≡ Err r → r.cause ≡ g → (f ≡ g → ⊥)
    → (t ≡ true) × (next ≡ Err r)
passes t f o k next r g e is ne = go (need_err t f o k next r e)
  where
    go : ((t ≡ false) × (r ≡ record { cause = f; line = k; field = field_of o f })) ⊎ ((t ≡ true) × (next ≡ Err r)) → (t ≡ true) × (next ≡ Err r)
    go (inl (h, d)) = absurd (ne (other r f g k (field_of o f) d is))
    go (inr h) = h

not_room : (m : ℕ) (q : Operand) → Program TooManyLines ≡ Program (BadRegister m q) → ⊥
not_room m q e = let z : ◌≡◌ {A = ℕ} 0 1 = cc in omega arith

not_target : (n m : ℕ) (x q : Operand) → Program (BadTarget n x) ≡ Program (BadRegister m q) → ⊥
not_target n m x q e = let z : ◌≡◌ {A = ℕ} 0 1 = cc in omega arith

not_count : (m : ℕ) (q : Operand) → Input Count ≡ Program (BadRegister m q) → ⊥
not_count m q e = let z : ◌≡◌ {A = ℕ} 0 1 = cc in omega arith

not_operand : (m : ℕ) (x q : Operand) → Input (BadOperand x) ≡ Program (BadRegister m q) → ⊥
not_operand m x q e = let z : ◌≡◌ {A = ℕ} 0 1 = cc in omega arith

ok_err : (v : Line) (r : Refusal) → ◌≡◌ {A = Result Line Refusal} (Ok v) (Err r) → ⊥
ok_err v r e = let z : ◌≡◌ {A = ℕ} 0 1 = cc in omega arith

wrong_operand : (o : Order) (k n : ℕ) (l : List ℕ) (r : Refusal) (m : ℕ) (operand : Operand) → r.cause ≡ Program (BadRegister m operand) → n < 64 → length (fields l) ≡ 3
    → (p : Op) → op_named (cell o op l) ≡ Some p → operands o k n p (kind (cell o a l)) (kind (cell o b l)) ≡ Err r → WrongRegister o k n l r operand
unfolding operands
wrong_operand o k n l r m operand is room three p found e =
    let (fits_a, e₁) = passes _ _ _ _ _ r _ e is (not_operand m A operand) in
    let (fits_b, e₂) = passes _ _ _ _ _ r _ e₁ is (not_operand m B operand) in
    registers fits_a fits_b e₂
  where
    targets : need (target_fits (role_a p) (kind (cell o a l))) (Program (BadTarget n A)) o k (need (target_fits (role_b p) (kind (cell o b l))) (Program (BadTarget n B)) o k (Ok (line_of p (kind (cell o a l)) (kind (cell o b l))))) ≡ Err r → WrongRegister o k n l r operand
    targets e =
        let (h₁, e₁) = passes _ _ _ _ _ r _ e is (not_target n m A operand) in
        let (h₂, e₂) = passes _ _ _ _ _ r _ e₁ is (not_target n m B operand) in
        absurd (ok_err _ r e₂)

    registers : fits (role_a p) (kind (cell o a l)) ≡ true → fits (role_b p) (kind (cell o b l)) ≡ true
        → need (register_fits (role_a p) (kind (cell o a l))) (Program (BadRegister n A)) o k (need (register_fits (role_b p) (kind (cell o b l))) (Program (BadRegister n B)) o k
        (need (target_fits (role_a p) (kind (cell o a l))) (Program (BadTarget n A)) o k (need (target_fits (role_b p) (kind (cell o b l))) (Program (BadTarget n B)) o k (Ok (line_of p (kind (cell o a l)) (kind (cell o b l))))))) ≡ Err r
        → WrongRegister o k n l r operand
    registers fits_a fits_b e = elim (need_err _ _ _ _ _ r e) [
      | inl h ↦ told_of o k n l r m operand is room three p found fits_a fits_b A h.0 h.1
      | inr h ↦ elim (need_err _ _ _ _ _ r h.1) [
        | inl g ↦ told_of o k n l r m operand is room three p found fits_a fits_b B g.0 g.1
        | inr g ↦ targets g.1
      ]
    ]

pub register_rule : RegisterRule
unfolding row with_op
register_rule o k n l r m operand e is =
    let (t₁, e₁) = passes _ _ _ _ _ r _ e is (not_room m operand) in
    let (t₂, e₂) = passes _ _ _ _ _ r _ e₁ is (not_count m operand) in
    go (ltb-true n 64 t₁) (eqb-true (length (fields l)) 3 t₂) (op_named (cell o op l)) refl e₂
  where
    go : n < 64 → length (fields l) ≡ 3 → (q : Option Op) → op_named (cell o op l) ≡ q → with_op o k n l q ≡ Err r → WrongRegister o k n l r operand
    go room three None f e = let z : ◌≡◌ {A = ℕ} 0 1 = cc in absurd (omega arith)
    go room three (Some p) f e = wrong_operand o k n l r m operand is room three p f e
