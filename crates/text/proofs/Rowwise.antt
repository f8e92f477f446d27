-- One row of a table: what its parts answer, put together.
use Rattle.std.proofs.Common.{◌≡◌, ℕ, Bool, true, false, cond, ltb, List, [], ◌∷◌, length, get_or, drop, Some, None, Ok, Err, Option, Result, sym, refl, ap, ◌∙◌, subst, arith}
use Rattle.std.specs.Result.{MatchResult, IsErrAnd}
use Rattle.std.proofs.lemmas.Result.{err_from_is_err_and}
use Rattle.drive.specs.declared.line.Line.{Line}
use Rattle.drive.specs.declared.fault.Fault.{Fault}
use Rattle.drive.specs.declared.fault.Fault.TheVariants.{TooManyLines}
use Rattle.drive.specs.declared.draft.Draft.{Draft}
use Rattle.drive.specs.Lines.{either}
use Rattle.drive.specs.Faults.{unless, line_fault}
use Rattle.drive.specs.Drafts.{Checked, Added, room_fault, add_fault}
use Rattle.fields.specs.declared.reader.Reader.{Reader}
use Rattle.fields.specs.Lines.{after}
use Rattle.fields.specs.Readers.{text_of, place_of}
use Rattle.fields.proofs.Splits.{lines_none, after_nothing}
use Rattle.text.specs.declared.fault.Cause.{Cause}
use Rattle.text.specs.declared.fault.Cause.TheVariants.{Program}
use Rattle.text.specs.declared.order.Order.{Order}
use Rattle.text.specs.Reading.{told, and_then, row}
use Rattle.text.specs.Layers.{converted, passed, layered, row_cause, located}
use Rattle.text.specs.Names.{ahead, Past}
use Rattle.text.specs.Steps.{next_row}
use Rattle.text.proofs.Layers.{row_by_layer}

-- What the draft's answers say of its faults.
pub room_passed : (D : List Line) {U : Type 0} (r : Result U Fault) (u : U) → Checked (room_fault D) r → r ≡ Ok u → ltb (length D) 64 ≡ true
room_passed D {U} r u h e = go (ltb (length D) 64) refl h
  where
    go : (t : Bool) → ltb (length D) 64 ≡ t → Checked {U = U} (unless t TooManyLines) r → t ≡ true
    go true f h = refl
    go false f h = let z : ◌≡◌ {A = ℕ} 0 1 = cc in absurd (omega arith)

pub add_refused : (before now : Draft) (line : Line) (f : Option Fault) {U : Type 0} (r : Result U Fault) (fault : Fault) → Added {U = U} before now line f r → r ≡ Err fault → (f ≡ Some fault) × (now ≡ before)
add_refused before now line (Some g) r fault (h, s) e = let same : g ≡ fault = cc in (ap Some same, s)
add_refused before now line None r fault ((u, h), s) e = let z : ◌≡◌ {A = ℕ} 0 1 = cc in absurd (omega arith)

pub refused_by_draft : (o : Order) (D : List Line) (l : List ℕ) (line : Line) (fault : Fault) → ltb (length D) 64 ≡ true → Ok line ≡ converted o l → add_fault D line ≡ Some fault
    → Err (Program fault) ≡ row_cause o (length D) l
refused_by_draft o D l line fault room made bad =
    let n = length D in
    let bad' : line_fault 64 n line ≡ Some fault = ap (λ t. either (unless t TooManyLines) (line_fault 64 n line)) (sym room) ∙ bad in
    sym (ap (λ t. cond t (layered n (converted o l)) (Err (Program TooManyLines))) room ∙ ap (layered n) (sym made) ∙ ap (λ f. passed f line) bad')

-- A result whose error is told: it is Ok where the result was, and its error is told of the error that was.
pub told_ok : {T E D : Type 0} (r : Result T E) (m : Result T D) (P : E → D → Type 0) → MatchResult r (λ x. m ≡ Ok x) (λ e. IsErrAnd m (P e)) → (x : T) → m ≡ Ok x → r ≡ Ok x
told_ok (Ok y) m P h x f = let same : y ≡ x = cc in ap Ok same
told_ok {D = D} (Err e) m P h x f = let (d, is, told) = err_from_is_err_and m h in let z : ◌≡◌ {A = ℕ} 0 1 = cc in absurd (omega arith)

pub told_err : {T E D : Type 0} (r : Result T E) (m : Result T D) (P : E → D → Type 0) → MatchResult r (λ x. m ≡ Ok x) (λ e. IsErrAnd m (P e)) → (d : D) → m ≡ Err d
    → (e : E) × (r ≡ Err e) × P e d
told_err (Ok y) m P h d f = let z : ◌≡◌ {A = ℕ} 0 1 = cc in absurd (omega arith)
told_err {D = D} (Err e) m P h d f = let (d', is, told) = err_from_is_err_and m h in let same : d' ≡ d = cc in (e, refl, subst (λ (x : D). P e x) same told)

-- The next row, by what its line came to.
module _ (o : Order) (k n : ℕ) (ls : List (List ℕ)) where
  module _ (l : List ℕ) (rest : List (List ℕ)) (is : ls ≡ l ∷ rest) where
    some_line : (length l ≡ 0 → ⊥) → next_row o k n ls ≡ and_then (row o k n l) (λ m. Ok (Some m))
    some_line h = rw is (go l h)
      where
        go : (l : List ℕ) → (length l ≡ 0 → ⊥) → next_row o k n (l ∷ rest) ≡ and_then (row o k n l) (λ m. Ok (Some m))
        go [] h = absurd (h refl)
        go (c ∷ cs) h = refl

    by_cause : (length l ≡ 0 → ⊥) → next_row o k n ls ≡ and_then (located o k (row_cause o n (get_or ls 0 []))) (λ m. Ok (Some m))
    by_cause h = some_line h ∙ ap (λ r. and_then r (λ m. Ok (Some m))) (row_by_layer o k n l ∙ ap (λ ws. located o k (row_cause o n (get_or ws 0 []))) (sym is))

    pub row_taken : (length l ≡ 0 → ⊥) → (m : Line) → Ok m ≡ row_cause o n (get_or ls 0 []) → Ok (Some m) ≡ next_row o k n ls
    unfolding and_then
    row_taken h m e = ap (λ r. and_then (located o k r) (λ m. Ok (Some m))) e ∙ sym (by_cause h)

    pub row_refused : (length l ≡ 0 → ⊥) → (cause : Cause) → Err cause ≡ row_cause o n (get_or ls 0 []) → told o k cause ≡ next_row o k n ls
    unfolding and_then
    row_refused h cause e = ap (λ r. and_then (located o k r) (λ m. Ok (Some m))) e ∙ sym (by_cause h)

-- At the end of a text there is no line to take.
pub at_end : (reader : Reader) → ahead reader ≡ [] → Past 1 reader reader
at_end reader e =
    let none = lines_none (drop (place_of reader) (text_of reader)) e in
    record { over = refl; left = none ∙ sym (ap (after 1) none ∙ after_nothing 1) }
