-- The rows of a table, read one after another into a draft.
use Rattle.std.proofs.Common.{◌≡◌, ℕ, ◌+◌, List, [], ◌∷◌, ◌++◌, length, Some, None, Ok, Err, Result, sym, refl, ap, ◌∙◌, append_assoc, append-nil, arith}
use Rattle.std.proofs.lemmas.List.{length_push}
use Rattle.drive.specs.declared.line.Line.{Line}
use Rattle.text.specs.declared.fault.Refusal.{Refusal}
use Rattle.text.specs.declared.order.Order.{Order}
use Rattle.text.specs.Reading.{and_then, row, rows}
use Rattle.text.specs.Steps.{next_row}
use Rattle.text.proofs.Tables.{rows_line}

-- The lines D are in the draft already.
abbrev pub onto_draft : List Line → Result (List Line) Refusal → Result (List Line) Refusal
onto_draft D (Ok P) = Ok (D ++ P)
onto_draft D (Err r) = Err r

pub draft_none : (r : Result (List Line) Refusal) → onto_draft [] r ≡ r
draft_none (Ok P) = refl
draft_none (Err r) = refl

push_draft : (D : List Line) (l : Line) (r : Result (List Line) Refusal) → onto_draft D (and_then r (λ P. Ok (l ∷ P))) ≡ onto_draft (D ++ l ∷ []) r
unfolding and_then
push_draft D l (Ok P) = ap Ok (sym (append_assoc D (l ∷ []) P))
push_draft D l (Err r) = refl

-- what the next row says of all rows
module _ (o : Order) (k : ℕ) (D : List Line) where
  pub at_none : (ls : List (List ℕ)) → Ok None ≡ next_row o k (length D) ls → onto_draft D (rows o k (length D) ls) ≡ Ok D
  unfolding rows and_then
  at_none [] e = ap Ok (append-nil D)
  at_none ([] ∷ ls) e = ap Ok (append-nil D)
  at_none ((c ∷ cs) ∷ ls) e = go (row o k (length D) (c ∷ cs)) e
    where
      go : (r : Result Line Refusal) → Ok None ≡ and_then r (λ l. Ok (Some l)) → onto_draft D (and_then r (λ l. and_then (rows o (k + 1) (length D + 1) ls) (λ P. Ok (l ∷ P)))) ≡ Ok D
      go (Ok l) e = let z : ◌≡◌ {A = ℕ} 0 1 = cc in absurd (omega arith)
      go (Err r) e = let z : ◌≡◌ {A = ℕ} 0 1 = cc in absurd (omega arith)

  pub at_row : (first : List ℕ) (ls : List (List ℕ)) (l : Line) → Ok (Some l) ≡ next_row o k (length D) (first ∷ ls)
      → onto_draft D (rows o k (length D) (first ∷ ls)) ≡ onto_draft (D ++ l ∷ []) (rows o (k + 1) (length (D ++ l ∷ [])) ls)
  unfolding and_then
  at_row [] ls l e = let z : ◌≡◌ {A = ℕ} 0 1 = cc in absurd (omega arith)
  at_row (c ∷ cs) ls l e = ap (onto_draft D) (rows_line o k (length D) (c ∷ cs) ls (omega arith)) ∙ go (row o k (length D) (c ∷ cs)) e
    where
      go : (r : Result Line Refusal) → Ok (Some l) ≡ and_then r (λ l. Ok (Some l))
          → onto_draft D (and_then r (λ l. and_then (rows o (k + 1) (length D + 1) ls) (λ P. Ok (l ∷ P)))) ≡ onto_draft (D ++ l ∷ []) (rows o (k + 1) (length (D ++ l ∷ [])) ls)
      go (Ok m) e =
          let same : m ≡ l = cc in
          ap (λ x. onto_draft D (and_then (rows o (k + 1) (length D + 1) ls) (λ P. Ok (x ∷ P)))) same
          ∙ push_draft D l (rows o (k + 1) (length D + 1) ls)
          ∙ ap (λ n. onto_draft (D ++ l ∷ []) (rows o (k + 1) n ls)) (sym (length_push D l))
      go (Err r) e = let z : ◌≡◌ {A = ℕ} 0 1 = cc in absurd (omega arith)

  pub at_refused : (ls : List (List ℕ)) (r : Refusal) → Err r ≡ next_row o k (length D) ls → onto_draft D (rows o k (length D) ls) ≡ Err r
  unfolding rows and_then
  at_refused [] r e = let z : ◌≡◌ {A = ℕ} 0 1 = cc in absurd (omega arith)
  at_refused ([] ∷ ls) r e = let z : ◌≡◌ {A = ℕ} 0 1 = cc in absurd (omega arith)
  at_refused ((c ∷ cs) ∷ ls) r e = go (row o k (length D) (c ∷ cs)) e
    where
      go : (x : Result Line Refusal) → Err r ≡ and_then x (λ l. Ok (Some l)) → onto_draft D (and_then x (λ l. and_then (rows o (k + 1) (length D + 1) ls) (λ P. Ok (l ∷ P)))) ≡ Err r
      go (Ok l) e = let z : ◌≡◌ {A = ℕ} 0 1 = cc in absurd (omega arith)
      go (Err x) e = let same : x ≡ r = cc in ap Err same
