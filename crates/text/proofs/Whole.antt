-- The theorems.
use Rattle.std.proofs.Common.{◌≡◌, ℕ, suc, ◌+◌, ◌-◌, ◌<◌, min, ◌↔◌, List, [], ◌∷◌, ◌++◌, map, length, drop, Some, None, Ok, Option, Result, sym, refl, ap, ◌∙◌, subst, append_assoc, append-nil, arith, length-append}
use Rattle.std.specs.List.{AllByRecursion as All}
use Rattle.drive.specs.declared.line.Line.{Line}
use Rattle.text.specs.declared.order.Order.{Order}
use Rattle.fields.specs.Lines.{lines, after, line_at}
use Rattle.text.specs.declared.fault.Refusal.{Refusal}
use Rattle.text.specs.Rendering.{names, value_line, value_lines, render}
use Rattle.text.specs.Reading.{order_of, and_then, rows, finish, Table, table, after_names, read_lines, read, reading}
use Rattle.text.specs.Theory.{Valid, Spells, Spells.unended, Spells.ended, Spells.followed, spelled, Spelled, Accepting}
use Rattle.fields.proofs.Positions.{lines_end}
use Rattle.fields.proofs.Splits.{Begins, Begins.whole, Begins.part, begins, lines_line, after_line, after_nothing}
use Rattle.text.proofs.Written.{lacks_names}
use Rattle.text.proofs.Rows.{find_is}
use Rattle.text.proofs.Named.{order_found}
use Rattle.text.proofs.Fits.{Fit, Good, good, valid, all_wider}
use Rattle.text.proofs.Ends.{finish_met, finish_ok}
use Rattle.text.proofs.Tables as T

-- the lines of a text that spells P
record Laid (o : Order) (P : List Line) (t : List ℕ) : Type 0 where
  rest : List (List ℕ)
  split : lines t ≡ names o ∷ (map (value_line o) P ++ rest)
  stop : (k n : ℕ) → rows o k n rest ≡ Ok []
  used : length t - length (after (length P + 2) t) ≡ min (length t) (length (render o P) + 1)

two_more : (P : List Line) → length P + 2 ≡ suc (suc (length P))
two_more P = omega arith

at_end : (o : Order) (k n : ℕ) → rows o k n [] ≡ Ok []
unfolding rows
at_end o k n = refl

at_empty : (o : Order) (ls : List (List ℕ)) (k n : ℕ) → rows o k n ([] ∷ ls) ≡ Ok []
unfolding rows
at_empty o ls k n = refl

after_empty : (rest : List ℕ) → after 1 (10 ∷ rest) ≡ rest
unfolding after
after_empty rest = refl

module _ (o : Order) (P : List Line) (some : 0 < length P) (sound : All (Fit 64) P) (t : List ℕ) where
  -- the text after the names line
  names_first : (body : List ℕ) → t ≡ names o ++ 10 ∷ body → (lines t ≡ names o ∷ lines body) × (after (length P + 2) t ≡ after (suc (length P)) body)
  names_first body e = (
    ap lines e ∙ lines_line (names o) body (lacks_names o),
    ap (λ n. after n t) (two_more P) ∙ ap (after (suc (suc (length P)))) e ∙ after_line (suc (length P)) (names o) body (lacks_names o),
  )

  laid_ended : t ≡ render o P → Laid o P t
  laid_ended e =
      let (s, a) = names_first (value_lines o P) e in
      let b : lines (value_lines o P) ≡ map (value_line o) P ++ [] = ap lines (sym (append-nil (value_lines o P))) ∙ T.lines_before o P [] sound ∙ ap (λ x. map (value_line o) P ++ x) lines_end in
      let c : after (suc (length P)) (value_lines o P) ≡ [] = ap (after (suc (length P))) (sym (append-nil (value_lines o P))) ∙ T.after_before o P [] sound ∙ after_nothing 1 in
      let d = ap length (a ∙ c) in
      let f = ap length e in
      record { rest = []; split = s ∙ ap (λ x. names o ∷ x) b; stop = at_end o; used = omega arith }

  laid_followed : (rest : List ℕ) → t ≡ render o P ++ 10 ∷ rest → Laid o P t
  laid_followed rest e =
      let (s, a) = names_first (value_lines o P ++ 10 ∷ rest) (e ∙ append_assoc (names o) (10 ∷ value_lines o P) (10 ∷ rest)) in
      let b : lines (value_lines o P ++ 10 ∷ rest) ≡ map (value_line o) P ++ [] ∷ lines rest = T.lines_before o P (10 ∷ rest) sound ∙ ap (λ x. map (value_line o) P ++ x) (lines_line [] rest tt) in
      let c : after (suc (length P)) (value_lines o P ++ 10 ∷ rest) ≡ rest = T.after_before o P (10 ∷ rest) sound ∙ after_empty rest in
      let d = ap length (a ∙ c) in
      let f : length t ≡ length (render o P) + suc (length rest) = ap length e ∙ length-append (render o P) (10 ∷ rest) in
      record { rest = [] ∷ lines rest; split = s ∙ ap (λ x. names o ∷ x) b; stop = at_empty o (lines rest); used = omega arith }

-- without the last byte
render_trim : (o : Order) (l : Line) (P : List Line) (t : List ℕ) → t ++ 10 ∷ [] ≡ render o (l ∷ P) → t ≡ names o ++ 10 ∷ T.trim (value_lines o (l ∷ P))
render_trim o l P t e =
    let some : 0 < length (value_lines o (l ∷ P)) = rw (T.first_line_alone o l P) (simp length-append (omega arith)) in
    sym (T.trim_push t 10) ∙ ap T.trim e ∙ T.trim_append (names o) (10 ∷ value_lines o (l ∷ P)) (omega arith)
    ∙ ap (λ x. names o ++ x) (T.trim_append (10 ∷ []) (value_lines o (l ∷ P)) some)

laid_unended : (o : Order) (P : List Line) → 0 < length P → All (Fit 64) P → (t : List ℕ) → t ++ 10 ∷ [] ≡ render o P → Laid o P t
laid_unended o [] some sound t e = absurd (omega arith)
laid_unended o (l ∷ P) some sound t e =
    let (s, a) = names_first o (l ∷ P) some sound t (T.trim (value_lines o (l ∷ P))) (render_trim o l P t e) in
    let b = T.lines_trim o l P sound ∙ sym (append-nil (map (value_line o) (l ∷ P))) in
    let d = ap length (a ∙ T.after_trim o l P sound) in
    let f : length t + 1 ≡ length (render o (l ∷ P)) = sym (length-append t (10 ∷ [])) ∙ ap length e in
    record { rest = []; split = s ∙ ap (λ x. names o ∷ x) b; stop = at_end o; used = omega arith }

laid : (o : Order) (P : List Line) (t : List ℕ) → 0 < length P → All (Fit 64) P → Spells o P t → Laid o P t
laid o P t some sound (unended e) = laid_unended o P some sound t e
laid o P t some sound (ended e) = laid_ended o P some sound t e
laid o P t some sound (followed rest e) = laid_followed o P some sound t rest e

some_order : (k p : ℕ) (t l : List ℕ) (ls : List (List ℕ)) (o : Order) → after_names k p t l ls (Some o) ≡ and_then (rows o (k + 1) 0 ls) (λ P. finish o (k + 1) P (Ok (table p t P)))
unfolding after_names
some_order k p t l ls o = refl

with_lines : (k p : ℕ) (t l : List ℕ) (ls : List (List ℕ)) → read_lines k p t (l ∷ ls) ≡ after_names k p t l ls (order_of l)
unfolding read_lines
with_lines k p t l ls = refl

pub read_accepts : (k p : ℕ) (t : List ℕ) (o : Order) (P : List Line) → Good P → Spells o P t → read k p t ≡ Ok (spelled o P p t)
unfolding read
read_accepts k p t o P v s =
    let sound = all_wider (length P) P v.few v.fit in
    let d = laid o P t v.some sound s in
    let few = v.few in
    ap (read_lines k p t) d.split
    ∙ with_lines k p t (names o) _
    ∙ ap (after_names k p t (names o) (map (value_line o) P ++ d.rest)) (order_found o)
    ∙ some_order k p t (names o) _ o
    ∙ ap (λ r. and_then r (λ P. finish o (k + 1) P (Ok (table p t P)))) (T.rows_read o (k + 1) 0 P d.rest d.stop (omega arith) sound)
    ∙ T.and_then_next P _
    ∙ finish_met o (k + 1) P (Ok (table p t P)) v
    ∙ ap (λ n. Ok (record { rows = length P; place = p + n; program = P })) d.used

-- what is accepted
spells_from : (o : Order) (P : List Line) (t rest : List ℕ) → t ≡ names o ++ 10 ∷ rest → T.Ends o P rest → Spells o P t
spells_from o P t rest e (T.Ends.unended f) = unended (ap (λ x. x ++ 10 ∷ []) e ∙ append_assoc (names o) (10 ∷ rest) (10 ∷ []) ∙ ap (λ x. names o ++ 10 ∷ x) f)
spells_from o P t rest e (T.Ends.ended f) = ended (e ∙ ap (λ x. names o ++ 10 ∷ x) f)
spells_from o P t rest e (T.Ends.followed more f) = followed more (e ∙ ap (λ x. names o ++ 10 ∷ x) f ∙ sym (append_assoc (names o) (10 ∷ value_lines o P) (10 ∷ more)))

accepted_rows : (k p : ℕ) (t l : List ℕ) (ls : List (List ℕ)) (o : Order) (A : Table) → names o ≡ l → Begins t l ls
    → and_then (rows o (k + 1) 0 ls) (λ P. finish o (k + 1) P (Ok (table p t P))) ≡ Ok A → Good A.program × ((o : Order) × Spells o A.program t)
accepted_rows k p t l ls o A w (whole e f g) h =
    let (P, i, j) = T.and_then_ok (rows o (k + 1) 0 ls) _ A h in
    let none : ◌≡◌ {A = Result (List Line) Refusal} (Ok P) (Ok []) = sym i ∙ ap (rows o (k + 1) 0) g ∙ at_end o (k + 1) 0 in
    let empty : P ≡ [] = cc in
    let bad : finish o (k + 1) [] (Ok (table p t [])) ≡ Ok A = subst (λ (X : List Line). finish o (k + 1) X (Ok (table p t X)) ≡ Ok A) empty j in
    let v = (finish_ok o (k + 1) [] (Ok (table p t [])) A (omega arith) tt bad).0 in
    let some = v.some in
    absurd (omega arith)
accepted_rows k p t l ls o A w (part rest e g) h =
    let (P, i, j) = T.and_then_ok (rows o (k + 1) 0 ls) _ A h in
    let r = T.rows_back o (k + 1) 0 rest ls (sym g) (omega arith) P i in
    let few = r.few in
    let (v, m) = finish_ok o (k + 1) P (Ok (table p t P)) A (omega arith) r.sound j in
    let same : table p t P ≡ A = cc in
    subst (λ (X : Table). Good X.program × ((o : Order) × Spells o X.program t)) same
    (v, (o, spells_from o P t rest (e ∙ ap (λ x. x ++ 10 ∷ rest) (sym w)) r.spells))

pub read_accepted : (k p : ℕ) (t : List ℕ) (A : Table) → read k p t ≡ Ok A → Good A.program × ((o : Order) × Spells o A.program t)
unfolding read read_lines after_names
read_accepted k p t A h = from_lines (lines t) refl h
  where
    from_order : (l : List ℕ) (ls : List (List ℕ)) → lines t ≡ l ∷ ls → (found : Option Order) → order_of l ≡ found → after_names k p t l ls found ≡ Ok A → Good A.program × ((o : Order) × Spells o A.program t)
    from_order l ls d None f h = let z : ◌≡◌ {A = ℕ} 0 1 = cc in absurd (omega arith)
    from_order l ls d (Some o) f h = accepted_rows k p t l ls o A (find_is names l _ o f) (begins t l ls d) h

    from_lines : (ls : List (List ℕ)) → lines t ≡ ls → read_lines k p t ls ≡ Ok A → Good A.program × ((o : Order) × Spells o A.program t)
    from_lines [] d h = let z : ◌≡◌ {A = ℕ} 0 1 = cc in absurd (omega arith)
    from_lines (l ∷ ls) d h = from_order l ls d (order_of l) refl h

-- the statements of the theory
pub accepts : (t : List ℕ) (p : ℕ) (o : Order) (P : List Line) → Valid P → Spells o P (drop p t) → reading t p ≡ Ok (spelled o P p (drop p t))
accepts t p o P v s = read_accepts (line_at t p) p (drop p t) o P (good P v) s

pub accepted : (t : List ℕ) (p : ℕ) (A : Table) → reading t p ≡ Ok A → Spelled t p A.program
accepted t p A h = let (g, s) = read_accepted (line_at t p) p (drop p t) A h in (valid A.program g, s)

pub exactly : (t : List ℕ) (p : ℕ) (P : List Line) → ((A : Table) × (reading t p ≡ Ok A) × (A.program ≡ P)) ↔ Spelled t p P
exactly t p P = (
  (λ h. subst (λ (X : List Line). Spelled t p X) h.2 (accepted t p h.0 h.1)),
  (λ h. (spelled h.1.0 P p (drop p t), accepts t p h.1.0 P h.0 h.1.1, refl)),
)

same_order : (o o' : Order) → names o ≡ names o' → o ≡ o'
same_order o o' e = let f = order_found o in let g = order_found o' in let h = ap order_of e in cc

-- the first line of a text that spells a program
first_names : (t : List ℕ) (o : Order) (P : List Line) → Good P → Spells o P t → (ls : List (List ℕ)) × (lines t ≡ names o ∷ ls)
first_names t o P v s =
    let d = laid o P t v.some (all_wider (length P) P v.few v.fit) s in
    (map (value_line o) P ++ d.rest, d.split)

pub unique : (t : List ℕ) (o o' : Order) (P P' : List Line) → Valid P → Valid P' → Spells o P t → Spells o' P' t → (o ≡ o') × (P ≡ P')
unique t o o' P P' v v' s s' =
    let g₁ = good P v in let g₂ = good P' v' in
    let e = read_accepts 1 0 t o P g₁ s in
    let f = read_accepts 1 0 t o' P' g₂ s' in
    let g : spelled o P 0 t ≡ spelled o' P' 0 t = cc in
    let (ls, h) = first_names t o P g₁ s in
    let (ls', i) = first_names t o' P' g₂ s' in
    let j : names o ≡ names o' = cc in
    (same_order o o' j, ap (λ (X : Table). X.program) g)

pub round_trip : (o : Order) (P : List Line) → Valid P → reading (render o P) 0 ≡ Ok (record { rows = length P; place = length (render o P); program = P })
round_trip o P v =
    let e : 0 + min (length (render o P)) (length (render o P) + 1) ≡ length (render o P) = omega arith in
    accepts (render o P) 0 o P v (ended refl) ∙ ap (λ n. Ok (record { rows = length P; place = n; program = P })) e

pub accepting : Accepting
accepting = record { accepts = accepts; accepted = accepted; exactly = exactly; unique = unique }
