-- The names line: one of six exactly if no name is missing, repeated or unknown.
use Rattle.std.proofs.Common.{◌≡◌, ℕ, ◌+◌, ◌<◌, ◌≤◌, Bool, true, false, cond, not, ◌&&◌, ◌⊎◌, ◌↔◌, List, [], ◌∷◌, length, Some, None, codes, Option, sym, refl, ap, ◌∙◌, inl, inr, ⊎_elim, arith}
use Rattle.std.specs.Str.{bytes_eq}
use Rattle.std.proofs.lemmas.Slice.Eq.{bytes_eq-Decides}
use Rattle.std.proofs.lemmas.Bool.{or_cases, and_parts, not-true, true≢false, cases_lt}
use Rattle.text.specs.declared.order.Order.{Order}
use Rattle.text.specs.declared.order.Order.TheVariants.{OpAB, OpBA, AOpB, BOpA, ABOp, BAOp}
use Rattle.fields.specs.Lines.{onto}
use Rattle.fields.specs.Fields.{split, fields, spaced}
use Rattle.text.specs.declared.order.Column.{Column}
use Rattle.text.specs.declared.order.Column.TheVariants.{Op as op, A as a, B as b}
use Rattle.text.specs.Columns.{arrange}
use Rattle.text.specs.Ops.{find}
use Rattle.text.specs.Rendering.{names}
use Rattle.text.specs.Reading.{order_of, has, known, bad_name}
use Rattle.fields.proofs.Splits.{spaced_fields}
use Rattle.text.proofs.Rows.{find_is}

abbrev pub name : Column → List ℕ
name op = codes "op"
name a = codes "a"
name b = codes "b"

pub known_is : (w : List ℕ) → known w ≡ true → (c : Column) × (w ≡ name c)
known_is w h = ⊎_elim (λ e. (op, sym ((bytes_eq-Decides (codes "op") w).0 e))) (λ h. ⊎_elim (λ e. (a, sym ((bytes_eq-Decides (codes "a") w).0 e))) (λ h. ⊎_elim (λ e. (b, sym ((bytes_eq-Decides (codes "b") w).0 e))) (λ e. absurd (true≢false (sym e))) (or_cases (bytes_eq (codes "b") w) false h)) (or_cases (bytes_eq (codes "a") w) _ h)) (or_cases (bytes_eq (codes "op") w) _ h)

record Good (k : ℕ) (had : List (List ℕ)) (w : List ℕ) (ws : List (List ℕ)) : Type 0 where
  column : Column
  is : w ≡ name column
  new : has had w ≡ false
  rest : bad_name (k + 1) (w ∷ had) ws ≡ 0

good : (k : ℕ) (had : List (List ℕ)) (w : List ℕ) (ws : List (List ℕ)) → bad_name k had (w ∷ ws) ≡ 0 → Good k had w ws
unfolding bad_name
good k had w ws e = go (known w && not (has had w)) refl e
  where
    go : (t : Bool) → (known w && not (has had w)) ≡ t → cond t (bad_name (k + 1) (w ∷ had) ws) (k + 1) ≡ 0 → Good k had w ws
    go true h e =
        let (p, q) = and_parts (known w) (not (has had w)) h in
        let (c, i) = known_is w p in
        record { column = c; is = i; new = not-true (has had w) q; rest = e }
    go false h e = absurd (omega arith)

pick : (x y z : Column) → has (name x ∷ []) (name y) ≡ false → has (name y ∷ (name x ∷ [])) (name z) ≡ false → (o : Order) × (name x ∷ (name y ∷ (name z ∷ [])) ≡ arrange o (codes "op") (codes "a") (codes "b"))
pick op op z p q = absurd (true≢false p)
pick op a op p q = absurd (true≢false q)
pick op a a p q = absurd (true≢false q)
pick op a b p q = (OpAB, refl)
pick op b op p q = absurd (true≢false q)
pick op b a p q = (OpBA, refl)
pick op b b p q = absurd (true≢false q)
pick a op op p q = absurd (true≢false q)
pick a op a p q = absurd (true≢false q)
pick a op b p q = (AOpB, refl)
pick a a z p q = absurd (true≢false p)
pick a b op p q = (ABOp, refl)
pick a b a p q = absurd (true≢false q)
pick a b b p q = absurd (true≢false q)
pick b op op p q = absurd (true≢false q)
pick b op a p q = (BOpA, refl)
pick b op b p q = absurd (true≢false q)
pick b a op p q = (BAOp, refl)
pick b a a p q = absurd (true≢false q)
pick b a b p q = absurd (true≢false q)
pick b b z p q = absurd (true≢false p)

fourth : (x y z u : Column) → has (name x ∷ []) (name y) ≡ false → has (name y ∷ (name x ∷ [])) (name z) ≡ false → has (name z ∷ (name y ∷ (name x ∷ []))) (name u) ≡ false → ⊥
fourth op op z u p q r = true≢false p
fourth op a op u p q r = true≢false q
fourth op a a u p q r = true≢false q
fourth op a b op p q r = true≢false r
fourth op a b a p q r = true≢false r
fourth op a b b p q r = true≢false r
fourth op b op u p q r = true≢false q
fourth op b a op p q r = true≢false r
fourth op b a a p q r = true≢false r
fourth op b a b p q r = true≢false r
fourth op b b u p q r = true≢false q
fourth a op op u p q r = true≢false q
fourth a op a u p q r = true≢false q
fourth a op b op p q r = true≢false r
fourth a op b a p q r = true≢false r
fourth a op b b p q r = true≢false r
fourth a a z u p q r = true≢false p
fourth a b op op p q r = true≢false r
fourth a b op a p q r = true≢false r
fourth a b op b p q r = true≢false r
fourth a b a u p q r = true≢false q
fourth a b b u p q r = true≢false q
fourth b op op u p q r = true≢false q
fourth b op a op p q r = true≢false r
fourth b op a a p q r = true≢false r
fourth b op a b p q r = true≢false r
fourth b op b u p q r = true≢false q
fourth b a op op p q r = true≢false r
fourth b a op a p q r = true≢false r
fourth b a op b p q r = true≢false r
fourth b a a u p q r = true≢false q
fourth b a b u p q r = true≢false q
fourth b b z u p q r = true≢false p

-- three names, each known and new
names_good : (fs : List (List ℕ)) → 3 ≤ length fs → bad_name 0 [] fs ≡ 0 → (o : Order) × (fs ≡ arrange o (codes "op") (codes "a") (codes "b"))
names_good [] h e = absurd (omega arith)
names_good (x ∷ []) h e = absurd (omega arith)
names_good (x ∷ (y ∷ [])) h e = absurd (omega arith)
names_good (x ∷ (y ∷ (z ∷ us))) h e =
    let f = good 0 [] x (y ∷ (z ∷ us)) e in
    let g = good 1 (x ∷ []) y (z ∷ us) f.rest in
    let i = good 2 (y ∷ (x ∷ [])) z us g.rest in
    go us f.column g.column i.column f.is g.is i.is g.new i.new i.rest
  where
    go : (us : List (List ℕ)) (c d e : Column) → x ≡ name c → y ≡ name d → z ≡ name e → has (x ∷ []) y ≡ false → has (y ∷ (x ∷ [])) z ≡ false → bad_name 3 (z ∷ (y ∷ (x ∷ []))) us ≡ 0
        → (o : Order) × (x ∷ (y ∷ (z ∷ us)) ≡ arrange o (codes "op") (codes "a") (codes "b"))
    go [] c d e p q r s t u =
        let (o, same) = pick c d e ((λ j. has (sym p j ∷ []) (sym q j)) ∙ s) ((λ j. has (sym q j ∷ (sym p j ∷ [])) (sym r j)) ∙ t) in
        (o, (λ j. p j ∷ (q j ∷ (r j ∷ []))) ∙ same)
    go (w ∷ ws) c d e p q r s t u =
        let g = good 3 (z ∷ (y ∷ (x ∷ []))) w ws u in
        absurd (fourth c d e g.column ((λ j. has (sym p j ∷ []) (sym q j)) ∙ s) ((λ j. has (sym q j ∷ (sym p j ∷ [])) (sym r j)) ∙ t)
        ((λ j. has (sym r j ∷ (sym q j ∷ (sym p j ∷ []))) (sym g.is j)) ∙ g.new))

pub order_found : (o : Order) → order_of (names o) ≡ Some o
unfolding find spaced
order_found OpAB = refl
order_found OpBA = refl
order_found AOpB = refl
order_found BOpA = refl
order_found ABOp = refl
order_found BAOp = refl

names_none_bad : (o : Order) → (bad_name 0 [] (fields (names o)) ≡ 0) × (length (fields (names o)) ≡ 3)
unfolding spaced fields split onto bad_name
names_none_bad OpAB = (refl, refl)
names_none_bad OpBA = (refl, refl)
names_none_bad AOpB = (refl, refl)
names_none_bad BOpA = (refl, refl)
names_none_bad ABOp = (refl, refl)
names_none_bad BAOp = (refl, refl)

-- refused exactly if a name is unknown or had before, or one is missing
pub names_rule : (l : List ℕ) → (order_of l ≡ None) ↔ ((0 < bad_name 0 [] (fields l)) ⊎ (length (fields l) < 3))
names_rule l = (λ e. there e (cases_lt 0 (bad_name 0 [] (fields l))) (cases_lt (length (fields l)) 3), λ h. back (order_of l) refl h)
  where
    there : order_of l ≡ None → (0 < bad_name 0 [] (fields l)) ⊎ (bad_name 0 [] (fields l) ≤ 0) → (length (fields l) < 3) ⊎ (3 ≤ length (fields l)) → (0 < bad_name 0 [] (fields l)) ⊎ (length (fields l) < 3)
    there e (inl p) q = inl p
    there e (inr p) (inl q) = inr q
    there e (inr p) (inr q) =
        let (o, f) = names_good (fields l) q (omega arith) in
        let g : l ≡ names o = sym (spaced_fields l) ∙ ap spaced f in
        let h = ap order_of g ∙ order_found o in
        let z : ◌≡◌ {A = ℕ} 0 1 = cc in absurd (omega arith)

    back : (found : Option Order) → order_of l ≡ found → (0 < bad_name 0 [] (fields l)) ⊎ (length (fields l) < 3) → found ≡ None
    back None e h = refl
    back (Some o) e h =
        let (p, q) = names_none_bad o in
        let same : names o ≡ l = find_is names l _ o e in
        let p' = ap (λ x. bad_name 0 [] (fields x)) same in
        let q' = ap (λ x. length (fields x)) same in
        absurd (⊎_elim (λ (d : 0 < bad_name 0 [] (fields l)). bad p p' d) (λ (d : length (fields l) < 3). few q q' d) h)
      where
        bad : bad_name 0 [] (fields (names o)) ≡ 0 → bad_name 0 [] (fields (names o)) ≡ bad_name 0 [] (fields l) → 0 < bad_name 0 [] (fields l) → ⊥
        bad p q d = omega arith

        few : length (fields (names o)) ≡ 3 → length (fields (names o)) ≡ length (fields l) → length (fields l) < 3 → ⊥
        few p q d = omega arith
