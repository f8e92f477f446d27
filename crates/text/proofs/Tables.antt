-- The value lines and the end of a table, both ways.
use Rattle.std.proofs.Common.{◌≡◌, ℕ, suc, ◌+◌, ◌<◌, ◌≤◌, List, [], ◌∷◌, ◌++◌, map, length, Ok, Err, Result, sym, refl, ap, ◌∙◌, subst, append_assoc, append-nil, arith, length-append}
use Rattle.std.specs.List.{AllByRecursion as All}
use Rattle.drive.specs.declared.line.Line.{Line}
use Rattle.text.specs.declared.order.Order.{Order}
use Rattle.fields.specs.Lines.{lines, after}
use Rattle.text.specs.declared.fault.Refusal.{Refusal}
use Rattle.text.specs.Rendering.{value_line, value_lines}
use Rattle.text.specs.Reading.{and_then, row, rows}
use Rattle.fields.proofs.Positions.{lines_alone}
use Rattle.fields.proofs.Splits.{lines_line, lines_none, Begins, Begins.whole, Begins.part, begins, after_line, after_last}
use Rattle.text.proofs.Written.{lacks_line, length_arranged}
use Rattle.text.proofs.Fits.{Fit}
use Rattle.text.proofs.Rows.{row_reads, row_read}

pub and_then_ok : {A B : Type 0} (r : Result A Refusal) (next : A → Result B Refusal) (v : B) → and_then r next ≡ Ok v → (x : A) × (r ≡ Ok x) × (next x ≡ Ok v)
unfolding and_then
and_then_ok (Ok x) next v e = (x, refl, e)
and_then_ok (Err f) next v e = let z : ◌≡◌ {A = ℕ} 0 1 = cc in absurd (omega arith)

pub and_then_next : {A B : Type 0} (x : A) (next : A → Result B Refusal) → and_then (Ok x) next ≡ next x
unfolding and_then
and_then_next x next = refl

-- all but the last byte
abbrev pub trim : List ℕ → List ℕ
trim [] = []
trim (c ∷ []) = []
trim (c ∷ (d ∷ ds)) = c ∷ trim (d ∷ ds)

trim_more : (c : ℕ) (cs : List ℕ) → 0 < length cs → trim (c ∷ cs) ≡ c ∷ trim cs
trim_more c [] h = absurd (omega arith)
trim_more c (d ∷ ds) h = refl

pub trim_push : (t : List ℕ) (c : ℕ) → trim (t ++ c ∷ []) ≡ t
trim_push [] c = refl
trim_push (d ∷ ds) c = trim_more d (ds ++ c ∷ []) (simp length-append (omega arith)) ∙ ap (λ x. d ∷ x) (trim_push ds c)

pub trim_append : (xs ys : List ℕ) → 0 < length ys → trim (xs ++ ys) ≡ xs ++ trim ys
trim_append [] ys h = refl
trim_append (x ∷ xs) ys h = trim_more x (xs ++ ys) (simp length-append (omega arith)) ∙ ap (λ zs. x ∷ zs) (trim_append xs ys h)

length_line : (o : Order) (l : Line) → 0 < length (value_line o l)
length_line o l = length_arranged o _ _ _

-- a first value line in front of what follows
pub first_line : (o : Order) (l : Line) (P : List Line) (tail : List ℕ) → value_lines o (l ∷ P) ++ tail ≡ value_line o l ++ 10 ∷ (value_lines o P ++ tail)
first_line o l P tail = append_assoc (value_line o l ++ 10 ∷ []) (value_lines o P) tail ∙ append_assoc (value_line o l) (10 ∷ []) (value_lines o P ++ tail)

pub first_line_alone : (o : Order) (l : Line) (P : List Line) → value_lines o (l ∷ P) ≡ value_line o l ++ 10 ∷ value_lines o P
first_line_alone o l P = append_assoc (value_line o l) (10 ∷ []) (value_lines o P)

pub lines_before : (o : Order) (P : List Line) (tail : List ℕ) → All (Fit 64) P → lines (value_lines o P ++ tail) ≡ map (value_line o) P ++ lines tail
lines_before o [] tail h = refl
lines_before o (l ∷ P) tail (s, h) =
    ap lines (first_line o l P tail) ∙ lines_line (value_line o l) (value_lines o P ++ tail) (lacks_line o l s)
    ∙ ap (λ x. value_line o l ∷ x) (lines_before o P tail h)

pub after_before : (o : Order) (P : List Line) (tail : List ℕ) → All (Fit 64) P → after (suc (length P)) (value_lines o P ++ tail) ≡ after 1 tail
after_before o [] tail h = refl
after_before o (l ∷ P) tail (s, h) =
    ap (after (suc (suc (length P)))) (first_line o l P tail) ∙ after_line (suc (length P)) (value_line o l) (value_lines o P ++ tail) (lacks_line o l s)
    ∙ after_before o P tail h

-- the same without the last byte
trim_first : (o : Order) (l m : Line) (P : List Line) → trim (value_lines o (l ∷ (m ∷ P))) ≡ value_line o l ++ 10 ∷ trim (value_lines o (m ∷ P))
trim_first o l m P =
    let some : 0 < length (value_lines o (m ∷ P)) = rw (first_line_alone o m P) (simp length-append (omega arith)) in
    ap trim (first_line_alone o l (m ∷ P)) ∙ trim_append (value_line o l) (10 ∷ value_lines o (m ∷ P)) (omega arith)
    ∙ ap (λ x. value_line o l ++ x) (trim_more 10 (value_lines o (m ∷ P)) some)

trim_one : (o : Order) (l : Line) → trim (value_lines o (l ∷ [])) ≡ value_line o l
trim_one o l = ap trim (append-nil (value_line o l ++ 10 ∷ [])) ∙ trim_push (value_line o l) 10

pub lines_trim : (o : Order) (l : Line) (P : List Line) → All (Fit 64) (l ∷ P) → lines (trim (value_lines o (l ∷ P))) ≡ map (value_line o) (l ∷ P)
lines_trim o l [] (s, h) = ap lines (trim_one o l) ∙ lines_alone (value_line o l) (length_line o l) (lacks_line o l s)
lines_trim o l (m ∷ P) (s, h) =
    ap lines (trim_first o l m P) ∙ lines_line (value_line o l) (trim (value_lines o (m ∷ P))) (lacks_line o l s)
    ∙ ap (λ x. value_line o l ∷ x) (lines_trim o m P h)

pub after_trim : (o : Order) (l : Line) (P : List Line) → All (Fit 64) (l ∷ P) → after (suc (length (l ∷ P))) (trim (value_lines o (l ∷ P))) ≡ []
after_trim o l [] (s, h) = ap (after 2) (trim_one o l) ∙ after_last 1 (value_line o l) (lacks_line o l s)
after_trim o l (m ∷ P) (s, h) =
    ap (after (suc (suc (suc (length P))))) (trim_first o l m P)
    ∙ after_line (suc (suc (length P))) (value_line o l) (trim (value_lines o (m ∷ P))) (lacks_line o l s)
    ∙ after_trim o m P h

-- ROWS
pub rows_line : (o : Order) (k n : ℕ) (bs : List ℕ) (ls : List (List ℕ)) → 0 < length bs
    → rows o k n (bs ∷ ls) ≡ and_then (row o k n bs) (λ l. and_then (rows o (k + 1) (n + 1) ls) (λ P. Ok (l ∷ P)))
unfolding rows
rows_line o k n [] ls h = absurd (omega arith)
rows_line o k n (c ∷ cs) ls h = refl

pub rows_read : (o : Order) (k n : ℕ) (P : List Line) (ls : List (List ℕ)) → ((k n : ℕ) → rows o k n ls ≡ Ok []) → n + length P ≤ 64 → All (Fit 64) P
    → rows o k n (map (value_line o) P ++ ls) ≡ Ok P
rows_read o k n [] ls stop few h = stop k n
rows_read o k n (l ∷ P) ls stop few (s, h) =
    rows_line o k n (value_line o l) (map (value_line o) P ++ ls) (length_line o l)
    ∙ ap (λ r. and_then r (λ l. and_then (rows o (k + 1) (n + 1) (map (value_line o) P ++ ls)) (λ P. Ok (l ∷ P)))) (row_reads o k n l (omega arith) s)
    ∙ and_then_next l _
    ∙ ap (λ r. and_then r (λ P. Ok (l ∷ P))) (rows_read o (k + 1) (n + 1) P ls stop (omega arith) h)
    ∙ and_then_next P _

-- the text of the rows of P, and what may follow it
pub data Ends (o : Order) (P : List Line) (t : List ℕ) : Type 0 where
  unended : t ++ 10 ∷ [] ≡ value_lines o P → Ends o P t
  ended : t ≡ value_lines o P → Ends o P t
  followed : (rest : List ℕ) → t ≡ value_lines o P ++ 10 ∷ rest → Ends o P t

pub record RowsRead (o : Order) (n : ℕ) (t : List ℕ) (P : List Line) : Type 0 where
  pub few : n + length P ≤ 64
  pub sound : All (Fit 64) P
  pub spells : Ends o P t

rows_none : (o : Order) (n : ℕ) (t : List ℕ) (P : List Line) → n ≤ 64 → P ≡ [] → Ends o [] t → RowsRead o n t P
rows_none o n t P h e s = subst (λ (Q : List Line). RowsRead o n t Q) (sym e) (record { few = omega arith; sound = tt; spells = s })

rows_first : (o : Order) (t : List ℕ) (l : Line) (P : List Line) (rest : List ℕ) → t ≡ value_line o l ++ 10 ∷ rest → Ends o P rest → Ends o (l ∷ P) t
rows_first o t l P rest e (unended f) =
    unended (ap (λ x. x ++ 10 ∷ []) e ∙ append_assoc (value_line o l) (10 ∷ rest) (10 ∷ []) ∙ ap (λ x. value_line o l ++ 10 ∷ x) f ∙ sym (first_line_alone o l P))
rows_first o t l P rest e (ended f) = ended (e ∙ ap (λ x. value_line o l ++ 10 ∷ x) f ∙ sym (first_line_alone o l P))
rows_first o t l P rest e (followed more f) = followed more (e ∙ ap (λ x. value_line o l ++ 10 ∷ x) f ∙ sym (first_line o l P (10 ∷ more)))

pub rows_back : (o : Order) (k n : ℕ) (t : List ℕ) (ls : List (List ℕ)) → lines t ≡ ls → n ≤ 64 → (P : List Line) → rows o k n ls ≡ Ok P → RowsRead o n t P
unfolding rows
rows_back o k n t [] d h P e = rows_none o n t P h (cc) (ended (lines_none t d))
rows_back o k n t ([] ∷ ls) d h P e = rows_none o n t P h (cc) (go (begins t [] ls d))
  where
    go : Begins t [] ls → Ends o [] t
    go (whole f g i) = absurd (omega arith)
    go (part rest f g) = followed rest f
rows_back o k n t ((c ∷ cs) ∷ ls) d h P e =
    let (l, f, g) = and_then_ok (row o k n (c ∷ cs)) _ P e in
    let (Q, i, j) = and_then_ok (rows o (k + 1) (n + 1) ls) _ P g in
    let r = row_read o k n (c ∷ cs) l f in
    let same : l ∷ Q ≡ P = cc in
    let small = r.small in
    subst (λ (X : List Line). RowsRead o n t X) same (go l Q r.small r.sound r.written (begins t (c ∷ cs) ls d) i (λ rest m. rows_back o (k + 1) (n + 1) rest ls m (omega arith) Q i))
  where
    go : (l : Line) (Q : List Line) → n < 64 → Fit 64 l → value_line o l ≡ c ∷ cs → Begins t (c ∷ cs) ls → rows o (k + 1) (n + 1) ls ≡ Ok Q
        → ((rest : List ℕ) → lines rest ≡ ls → RowsRead o (n + 1) rest Q) → RowsRead o n t (l ∷ Q)
    go l Q small s w (whole f g i) q ih =
        let none : Q ≡ [] = let z : rows o (k + 1) (n + 1) [] ≡ Ok Q = rw i at q in cc in
        rw none (record { few = omega arith; sound = (s, tt); spells = unended (ap (λ x. x ++ 10 ∷ []) (f ∙ sym w) ∙ sym (append-nil (value_line o l ++ 10 ∷ []))) })
    go l Q small s w (part rest f g) q ih =
        let r = ih rest (sym g) in
        let few = r.few in
        record { few = omega arith; sound = (s, r.sound); spells = rows_first o t l Q rest (f ∙ ap (λ x. x ++ 10 ∷ rest) (sym w)) r.spells }
