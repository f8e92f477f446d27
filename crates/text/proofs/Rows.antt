-- One value line, both ways.
use Rattle.std.proofs.Common.{◌≡◌, ℕ, ◌^◌, ◌<◌, Bool, true, false, cond, List, [], ◌∷◌, length, get_or, pos, negsuc, Some, None, Ok, Option, Result, sym, refl, ap, ◌∙◌, subst, arith}
use lib.Signed.{mag}
use Rattle.std.specs.Str.{bytes_eq}
use Rattle.std.proofs.lemmas.Slice.Eq.{bytes_eq-Decides}
use Rattle.std.proofs.lemmas.Bool.{lt-ltb, ltb-true, eqb-true, eq-eqb}
use Rattle.drive.specs.declared.line.Line.{Line}
use Rattle.drive.specs.declared.line.Line.TheVariants.{Set, Copy, Add, Sub, Neg, In, Out, Jmp, Jz, Jneg, Halt}
use Rattle.text.specs.declared.op.Op.{Op}
use Rattle.text.specs.declared.op.Op.TheVariants.{SET, COPY, ADD, SUB, NEG, IN, OUT, JMP, JZ, JNEG, HALT}
use Rattle.text.specs.declared.order.Order.{Order}
use Rattle.text.specs.declared.order.Order.TheVariants.{OpAB, OpBA, AOpB, BOpA, ABOp, BAOp}
use Rattle.fields.specs.Fields.{fields, spaced}
use Rattle.fields.specs.Kinds.{Kind, Kind.Word, Kind.Number, Kind.Dash, kind, text}
use Rattle.text.specs.declared.fault.Cause.{Cause}
use Rattle.text.specs.declared.fault.Refusal.{Refusal}
use Rattle.text.specs.declared.order.Column.TheVariants.{Op as op, A as a, B as b}
use Rattle.text.specs.Columns.{arrange, place}
use Rattle.text.specs.Ops.{find, word, ops, op_of, a_of, b_of, role_a, role_b}
use Rattle.text.specs.Rendering.{value_line}
use Rattle.text.specs.Reading.{need, cell, is_below, is_value, is_dash, fits, register_fits, target_fits, signed_of, size_of, line_of, operands, with_op, row}
use Rattle.text.proofs.Fits.{Fit}
use Rattle.fields.proofs.Numbers.{text_kind}
use Rattle.fields.proofs.Splits.{spaced_fields}
use Rattle.text.proofs.Written.{line_fields, kind_text, a_written, b_written}

pub need_ok : {A : Type 0} (t : Bool) (f : Cause) (o : Order) (k : ℕ) (next : Result A Refusal) (v : A) → need t f o k next ≡ Ok v → (t ≡ true) × (next ≡ Ok v)
unfolding need
need_ok true f o k next v e = (refl, e)
need_ok false f o k next v e = let z : ◌≡◌ {A = ℕ} 0 1 = cc in absurd (omega arith)

pub need_met : {A : Type 0} (t : Bool) (f : Cause) (o : Order) (k : ℕ) (next : Result A Refusal) → t ≡ true → need t f o k next ≡ next
unfolding need
need_met t f o k next e = rw e

pub find_is : {A : Type 0} (f : A → List ℕ) (w : List ℕ) (xs : List A) (x : A) → find f w xs ≡ Some x → f x ≡ w
unfolding find
find_is f w [] x e = let z : ◌≡◌ {A = ℕ} 0 1 = cc in absurd (omega arith)
find_is {A} f w (y ∷ ys) x e = go (bytes_eq (f y) w) refl (find_is f w ys x) e
  where
    go : (t : Bool) → bytes_eq (f y) w ≡ t → (find f w ys ≡ Some x → f x ≡ w) → cond t (Some y) (find f w ys) ≡ Some x → f x ≡ w
    go true d ih e = let p : y ≡ x = cc in ap f (sym p) ∙ (bytes_eq-Decides (f y) w).0 d
    go false d ih e = ih e

pub op_found : (p : Op) → find word (word p) ops ≡ Some p
unfolding find
op_found SET = refl
op_found COPY = refl
op_found ADD = refl
op_found SUB = refl
op_found NEG = refl
op_found IN = refl
op_found OUT = refl
op_found JMP = refl
op_found JZ = refl
op_found JNEG = refl
op_found HALT = refl

-- the cells of three fields
pub cells : (o : Order) (fs : List (List ℕ)) → length fs ≡ 3 → arrange o (get_or fs (place o op) []) (get_or fs (place o a) []) (get_or fs (place o b) []) ≡ fs
cells o [] e = absurd (omega arith)
cells o (x ∷ []) e = absurd (omega arith)
cells o (x ∷ (y ∷ [])) e = absurd (omega arith)
cells OpAB (x ∷ (y ∷ (z ∷ []))) e = refl
cells OpBA (x ∷ (y ∷ (z ∷ []))) e = refl
cells AOpB (x ∷ (y ∷ (z ∷ []))) e = refl
cells BOpA (x ∷ (y ∷ (z ∷ []))) e = refl
cells ABOp (x ∷ (y ∷ (z ∷ []))) e = refl
cells BAOp (x ∷ (y ∷ (z ∷ []))) e = refl
cells o (x ∷ (y ∷ (z ∷ (u ∷ us)))) e = absurd (omega arith)

cell_op : (o : Order) (w x y : List ℕ) → get_or (arrange o w x y) (place o op) [] ≡ w
cell_op OpAB w x y = refl
cell_op OpBA w x y = refl
cell_op AOpB w x y = refl
cell_op BOpA w x y = refl
cell_op ABOp w x y = refl
cell_op BAOp w x y = refl

cell_a : (o : Order) (w x y : List ℕ) → get_or (arrange o w x y) (place o a) [] ≡ x
cell_a OpAB w x y = refl
cell_a OpBA w x y = refl
cell_a AOpB w x y = refl
cell_a BOpA w x y = refl
cell_a ABOp w x y = refl
cell_a BAOp w x y = refl

cell_b : (o : Order) (w x y : List ℕ) → get_or (arrange o w x y) (place o b) [] ≡ y
cell_b OpAB w x y = refl
cell_b OpBA w x y = refl
cell_b AOpB w x y = refl
cell_b BOpA w x y = refl
cell_b ABOp w x y = refl
cell_b BAOp w x y = refl

arranged_three : (o : Order) (w x y : List ℕ) → length (arrange o w x y) ≡ 3
arranged_three OpAB w x y = refl
arranged_three OpBA w x y = refl
arranged_three AOpB w x y = refl
arranged_three BOpA w x y = refl
arranged_three ABOp w x y = refl
arranged_three BAOp w x y = refl

-- all checks of the operands
pub record Checks (p : Op) (x y : Kind) : Type 0 where
  pub fits_a : fits (role_a p) x ≡ true
  pub fits_b : fits (role_b p) y ≡ true
  pub register_a : register_fits (role_a p) x ≡ true
  pub register_b : register_fits (role_b p) y ≡ true
  pub target_a : target_fits (role_a p) x ≡ true
  pub target_b : target_fits (role_b p) y ≡ true

pub operands_ok : (o : Order) (k n : ℕ) (p : Op) (x y : Kind) (l : Line) → operands o k n p x y ≡ Ok l → Checks p x y × (line_of p x y ≡ l)
unfolding operands
operands_ok o k n p x y l e =
    let (h₁, e₁) = need_ok _ _ _ _ _ _ e in
    let (h₂, e₂) = need_ok _ _ _ _ _ _ e₁ in
    let (h₃, e₃) = need_ok _ _ _ _ _ _ e₂ in
    let (h₄, e₄) = need_ok _ _ _ _ _ _ e₃ in
    let (h₅, e₅) = need_ok _ _ _ _ _ _ e₄ in
    let (h₆, e₆) = need_ok _ _ _ _ _ _ e₅ in
    (record { fits_a = h₁; fits_b = h₂; register_a = h₃; register_b = h₄; target_a = h₅; target_b = h₆ }, cc)

pub operands_met : (o : Order) (k n : ℕ) (p : Op) (x y : Kind) → Checks p x y → operands o k n p x y ≡ Ok (line_of p x y)
unfolding operands
operands_met o k n p x y c =
    need_met _ _ _ _ _ c.fits_a ∙ need_met _ _ _ _ _ c.fits_b ∙ need_met _ _ _ _ _ c.register_a
    ∙ need_met _ _ _ _ _ c.register_b ∙ need_met _ _ _ _ _ c.target_a ∙ need_met _ _ _ _ _ c.target_b

below_is : (n : ℕ) (x : Kind) → is_below n x ≡ true → (Number (pos (size_of x)) ≡ x) × (size_of x < n)
below_is n (Word w) e = let z : ◌≡◌ {A = ℕ} 0 1 = cc in absurd (omega arith)
below_is n (Number (pos m)) e = (refl, ltb-true m n e)
below_is n (Number (negsuc m)) e = let z : ◌≡◌ {A = ℕ} 0 1 = cc in absurd (omega arith)
below_is n Dash e = let z : ◌≡◌ {A = ℕ} 0 1 = cc in absurd (omega arith)

value_is : (y : Kind) → is_value y ≡ true → (Number (signed_of y) ≡ y) × (mag (signed_of y) < 2 ^ 15)
value_is (Word w) e = let z : ◌≡◌ {A = ℕ} 0 1 = cc in absurd (omega arith)
value_is (Number z) e = (refl, ltb-true (mag z) (2 ^ 15) e)
value_is Dash e = let z : ◌≡◌ {A = ℕ} 0 1 = cc in absurd (omega arith)

dash_is : (y : Kind) → is_dash y ≡ true → Dash ≡ y
dash_is (Word w) e = let z : ◌≡◌ {A = ℕ} 0 1 = cc in absurd (omega arith)
dash_is (Number z) e = let z : ◌≡◌ {A = ℕ} 0 1 = cc in absurd (omega arith)
dash_is Dash e = refl

-- the line has the operation and operands that it was made of
pub record Made (p : Op) (x y : Kind) (l : Line) : Type 0 where
  pub op_is : op_of l ≡ p
  pub a_is : a_of l ≡ x
  pub b_is : b_of l ≡ y
  pub sound : Fit 64 l

pub made : (p : Op) (x y : Kind) → Checks p x y → Made p x y (line_of p x y)
made SET x y c = let (e, h) = below_is 8 x c.register_a in let (f, i) = value_is y c.fits_b in record { op_is = refl; a_is = e; b_is = f; sound = (h, i) }
made COPY x y c = let (e, h) = below_is 8 x c.register_a in let (f, i) = below_is 8 y c.register_b in record { op_is = refl; a_is = e; b_is = f; sound = (h, i) }
made ADD x y c = let (e, h) = below_is 8 x c.register_a in let (f, i) = below_is 8 y c.register_b in record { op_is = refl; a_is = e; b_is = f; sound = (h, i) }
made SUB x y c = let (e, h) = below_is 8 x c.register_a in let (f, i) = below_is 8 y c.register_b in record { op_is = refl; a_is = e; b_is = f; sound = (h, i) }
made NEG x y c = let (e, h) = below_is 8 x c.register_a in record { op_is = refl; a_is = e; b_is = dash_is y c.fits_b; sound = h }
made IN x y c = let (e, h) = below_is 8 x c.register_a in record { op_is = refl; a_is = e; b_is = dash_is y c.fits_b; sound = h }
made OUT x y c = let (e, h) = below_is 8 x c.register_a in record { op_is = refl; a_is = e; b_is = dash_is y c.fits_b; sound = h }
made JMP x y c = let (e, h) = below_is 64 x c.target_a in record { op_is = refl; a_is = e; b_is = dash_is y c.fits_b; sound = h }
made JZ x y c = let (e, h) = below_is 8 x c.register_a in let (f, i) = below_is 64 y c.target_b in record { op_is = refl; a_is = e; b_is = f; sound = (h, i) }
made JNEG x y c = let (e, h) = below_is 8 x c.register_a in let (f, i) = below_is 64 y c.target_b in record { op_is = refl; a_is = e; b_is = f; sound = (h, i) }
made HALT x y c = record { op_is = refl; a_is = dash_is x c.fits_a; b_is = dash_is y c.fits_b; sound = tt }

pub line_again : (l : Line) → line_of (op_of l) (a_of l) (b_of l) ≡ l
line_again (Set x y) = refl
line_again (Copy x y) = refl
line_again (Add x y) = refl
line_again (Sub x y) = refl
line_again (Neg x) = refl
line_again (In x) = refl
line_again (Out x) = refl
line_again (Jmp x) = refl
line_again (Jz x y) = refl
line_again (Jneg x y) = refl
line_again Halt = refl

pub checked : (l : Line) → Fit 64 l → Checks (op_of l) (a_of l) (b_of l)
checked (Set x y) (h, i) = record { fits_a = refl; fits_b = lt-ltb (mag y) (2 ^ 15) i; register_a = lt-ltb x 8 h; register_b = refl; target_a = refl; target_b = refl }
checked (Copy x y) (h, i) = record { fits_a = refl; fits_b = refl; register_a = lt-ltb x 8 h; register_b = lt-ltb y 8 i; target_a = refl; target_b = refl }
checked (Add x y) (h, i) = record { fits_a = refl; fits_b = refl; register_a = lt-ltb x 8 h; register_b = lt-ltb y 8 i; target_a = refl; target_b = refl }
checked (Sub x y) (h, i) = record { fits_a = refl; fits_b = refl; register_a = lt-ltb x 8 h; register_b = lt-ltb y 8 i; target_a = refl; target_b = refl }
checked (Neg x) h = record { fits_a = refl; fits_b = refl; register_a = lt-ltb x 8 h; register_b = refl; target_a = refl; target_b = refl }
checked (In x) h = record { fits_a = refl; fits_b = refl; register_a = lt-ltb x 8 h; register_b = refl; target_a = refl; target_b = refl }
checked (Out x) h = record { fits_a = refl; fits_b = refl; register_a = lt-ltb x 8 h; register_b = refl; target_a = refl; target_b = refl }
checked (Jmp x) h = record { fits_a = refl; fits_b = refl; register_a = refl; register_b = refl; target_a = lt-ltb x 64 h; target_b = refl }
checked (Jz x y) (h, i) = record { fits_a = refl; fits_b = refl; register_a = lt-ltb x 8 h; register_b = refl; target_a = refl; target_b = lt-ltb y 64 i }
checked (Jneg x y) (h, i) = record { fits_a = refl; fits_b = refl; register_a = lt-ltb x 8 h; register_b = refl; target_a = refl; target_b = lt-ltb y 64 i }
checked Halt h = record { fits_a = refl; fits_b = refl; register_a = refl; register_b = refl; target_a = refl; target_b = refl }

with_some : (o : Order) (k n : ℕ) (bs : List ℕ) (p : Op) → with_op o k n bs (Some p) ≡ operands o k n p (kind (cell o a bs)) (kind (cell o b bs))
unfolding with_op
with_some o k n bs p = refl

-- a written line is read
pub row_reads : (o : Order) (k n : ℕ) (l : Line) → n < 64 → Fit 64 l → row o k n (value_line o l) ≡ Ok l
unfolding row
row_reads o k n l small h =
    let fs = line_fields o l h in
    let p : cell o op (value_line o l) ≡ word (op_of l) = ap (λ gs. get_or gs (place o op) []) fs ∙ cell_op o _ _ _ in
    let q : cell o a (value_line o l) ≡ text (a_of l) = ap (λ gs. get_or gs (place o a) []) fs ∙ cell_a o _ _ _ in
    let r : cell o b (value_line o l) ≡ text (b_of l) = ap (λ gs. get_or gs (place o b) []) fs ∙ cell_b o _ _ _ in
    need_met _ _ _ _ _ (lt-ltb n 64 small)
    ∙ need_met _ _ _ _ _ (eq-eqb (length (fields (value_line o l))) 3 (ap length fs ∙ arranged_three o _ _ _))
    ∙ ap (λ w. with_op o k n (value_line o l) (find word w ops)) p
    ∙ ap (λ w. with_op o k n (value_line o l) w) (op_found (op_of l))
    ∙ with_some o k n (value_line o l) (op_of l)
    ∙ ap (λ w. operands o k n (op_of l) (kind w) (kind (cell o b (value_line o l)))) q
    ∙ ap (λ w. operands o k n (op_of l) (kind (text (a_of l))) (kind w)) r
    ∙ ap (λ f. operands o k n (op_of l) f (kind (text (b_of l)))) (kind_text (a_of l) (a_written l h))
    ∙ ap (λ f. operands o k n (op_of l) (a_of l) f) (kind_text (b_of l) (b_written l h))
    ∙ operands_met o k n (op_of l) (a_of l) (b_of l) (checked l h)
    ∙ ap Ok (line_again l)

-- what is read as a line is that line, written
pub record RowRead (o : Order) (n : ℕ) (bs : List ℕ) (l : Line) : Type 0 where
  pub small : n < 64
  pub sound : Fit 64 l
  pub written : value_line o l ≡ bs

pub row_read : (o : Order) (k n : ℕ) (bs : List ℕ) (l : Line) → row o k n bs ≡ Ok l → RowRead o n bs l
unfolding row with_op
row_read o k n bs l e =
    let (h₁, e₁) = need_ok _ _ _ _ _ _ e in
    let (h₂, e₂) = need_ok _ _ _ _ _ _ e₁ in
    go (find word (cell o op bs) ops) refl (ltb-true n 64 h₁) (eqb-true (length (fields bs)) 3 h₂) e₂
  where
    go : (found : Option Op) → find word (cell o op bs) ops ≡ found → n < 64 → length (fields bs) ≡ 3 → with_op o k n bs found ≡ Ok l → RowRead o n bs l
    go None f small three e = let z : ◌≡◌ {A = ℕ} 0 1 = cc in absurd (omega arith)
    go (Some p) f small three e =
        let (c, g) = operands_ok o k n p (kind (cell o a bs)) (kind (cell o b bs)) l e in
        let m : Made p (kind (cell o a bs)) (kind (cell o b bs)) l = subst (λ (x : Line). Made p (kind (cell o a bs)) (kind (cell o b bs)) x) g (made p _ _ c) in
        record {
          small = small;
          sound = m.sound;
          written =
              ap (λ x. spaced (arrange o x (text (a_of l)) (text (b_of l)))) (ap word m.op_is ∙ find_is word (cell o op bs) ops p f)
              ∙ ap (λ x. spaced (arrange o (cell o op bs) x (text (b_of l)))) (ap text m.a_is ∙ text_kind (cell o a bs))
              ∙ ap (λ x. spaced (arrange o (cell o op bs) (cell o a bs) x)) (ap text m.b_is ∙ text_kind (cell o b bs))
              ∙ ap spaced (cells o (fields bs) three)
              ∙ spaced_fields bs;
        }
