-- A whole reading, from its steps.
use Rattle.std.proofs.Common.{◌≡◌, ℕ, zero, suc, ◌+◌, ◌-◌, ◌≤◌, Bool, true, false, cond, eqb, List, [], ◌∷◌, length, drop, Some, None, Ok, Err, Option, Result, sym, refl, ap, ◌∙◌, subst, arith}
use Rattle.std.proofs.lemmas.List.{length-drop, length_push}
use Rattle.drive.specs.declared.line.Line.{Line}
use Rattle.drive.specs.declared.fault.Fault.{Fault}
use Rattle.drive.specs.declared.program.Program.{Program}
use Rattle.drive.specs.Drafts.{typed, finish_fault}
use Rattle.fields.specs.declared.reader.Reader.{Reader}
use Rattle.fields.specs.Lines.{after}
use Rattle.fields.specs.Readers.{text_of, place_of, number_of}
use Rattle.fields.proofs.Positions.{after_more}
use Rattle.text.specs.declared.fault.Refusal.{Refusal}
use Rattle.text.specs.declared.order.Order.{Order}
use Rattle.text.specs.declared.table.TableReader.{TableReader}
use Rattle.text.specs.Reading.{and_then, order_of, rows, ended, finish, Table, table, after_names, read_lines, read, reading}
use Rattle.text.specs.Names.{ahead, Past, PastNames, named, names_read}
use Rattle.text.specs.Steps.{next_row, Goes, Ends, ending, Reads}
use Rattle.text.proofs.Onward.{onto_draft, draft_none, at_none, at_row, at_refused}

-- Readers that go on.
pub past_more : (m : ℕ) (x y z : Reader) → Past m x y → Past 1 y z → Past (m + 1) x z
past_more m x y z p q =
    let step : drop (place_of z) (text_of x) ≡ after 1 (drop (place_of y) (text_of x)) =
    subst (λ (r : _). drop (place_of z) r.now ≡ after 1 (drop (place_of y) r.now)) p.over q.left in
    let one : suc m ≡ m + 1 = omega arith in
    record {
      over = q.over ∙ p.over;
      left = step ∙ ap (after 1) p.left ∙ sym (after_more m (drop (place_of x) (text_of x))) ∙ ap (λ n. after n (drop (place_of x) (text_of x))) one;
    }

after_none : (u : List ℕ) → after 0 u ≡ u
unfolding after
after_none u = refl

pub past_add : (m : ℕ) (x y z : Reader) → Past 1 x y → Past m y z → Past (m + 1) x z
past_add m x y z p q =
    let t = text_of x in
    let step : drop (place_of z) t ≡ after m (drop (place_of y) t) =
    subst (λ (r : _). drop (place_of z) r.now ≡ after m (drop (place_of y) r.now)) p.over q.left in
    record { over = q.over ∙ p.over; left = step ∙ ap (after m) p.left ∙ after_both m 1 (drop (place_of x) t) }
  where
    after_both : (m n : ℕ) (u : List ℕ) → after m (after n u) ≡ after (m + n) u
    after_both zero n u = after_none (after n u) ∙ ap (λ k. after k u) (let e : n ≡ 0 + n = omega arith in e)
    after_both (suc m) n u =
        after_more m (after n u) ∙ ap (after 1) (after_both m n u) ∙ sym (after_more (m + n) u)
        ∙ ap (λ k. after k u) (let e : suc (m + n) ≡ suc m + n = omega arith in e)

-- What is left is no more than there was.
after_short : (n : ℕ) (u : List ℕ) → length (after n u) ≤ length u
unfolding after
after_short zero u = omega arith
after_short (suc n) [] = omega arith
after_short (suc n) (c ∷ cs) = go (eqb c 10) (after_short n cs) (after_short (suc n) cs)
  where
    go : (b : Bool) → length (after n cs) ≤ length cs → length (after (suc n) cs) ≤ length cs → length (cond b (after n cs) (after (suc n) cs)) ≤ suc (length cs)
    go true p q = omega arith
    go false p q = omega arith

pub placed : (m : ℕ) (x z : Reader) → Past m x z → place_of x + (length (drop (place_of x) (text_of x)) - length (after m (drop (place_of x) (text_of x)))) ≡ place_of z
placed m x z p =
    let t = text_of x in
    let l = ap length p.left in
    let size = ap (λ r. length r.now) p.over in
    let a = length-drop (place_of x) t in
    let b = length-drop (place_of z) t in
    let short = after_short m (drop (place_of x) t) in
    let here = x.within in
    let there = z.within in
    omega arith

-- The names line, and then the rows.
module _ (x : Reader) (ls : List (List ℕ)) (l : List ℕ) (first : ahead x ≡ l ∷ ls) (o : Order) (names : Ok o ≡ names_read (number_of x) (ahead x)) where
  order_is : order_of l ≡ Some o
  order_is = go (order_of l) refl (names ∙ ap (names_read (number_of x)) first)
    where
      go : (found : Option Order) → order_of l ≡ found → Ok o ≡ named (number_of x) l found → found ≡ Some o
      go None e h = let z : ◌≡◌ {A = ℕ} 0 1 = cc in absurd (omega arith)
      go (Some q) e h = let same : q ≡ o = cc in ap Some same

  abbrev rest : List Line → Result Table Refusal
  rest P = finish o (number_of x + 1) P (Ok (table (place_of x) (drop (place_of x) (text_of x)) P))

  pub reading_rows : reading (text_of x) (place_of x) ≡ and_then (rows o (number_of x + 1) 0 ls) rest
  unfolding read read_lines after_names
  reading_rows =
      ap (read_lines (number_of x) (place_of x) (drop (place_of x) (text_of x))) first
      ∙ ap (after_names (number_of x) (place_of x) (drop (place_of x) (text_of x)) l ls) order_is

  pub rows_refused : (r : Refusal) → rows o (number_of x + 1) 0 ls ≡ Err r → reading (text_of x) (place_of x) ≡ Err r
  unfolding and_then
  rows_refused r e = reading_rows ∙ ap (λ v. and_then v rest) e

  pub rows_taken : (P : List Line) → rows o (number_of x + 1) 0 ls ≡ Ok P → reading (text_of x) (place_of x) ≡ rest P
  unfolding and_then
  rows_taken P e = reading_rows ∙ ap (λ v. and_then v rest) e

-- Refused names refuse the reading.
pub names_refused : (x : Reader) (r : Refusal) → Err r ≡ names_read (number_of x) (ahead x) → reading (text_of x) (place_of x) ≡ Err r
unfolding read read_lines after_names
names_refused x r e = go (ahead x) e
  where
    go : (ls : List (List ℕ)) → Err r ≡ names_read (number_of x) ls → read_lines (number_of x) (place_of x) (drop (place_of x) (text_of x)) ls ≡ Err r
    go [] e = let same : _ ≡ r = cc in ap Err same
    go (l ∷ ls) e = found (order_of l) e
      where
        found : (o : Option Order) → Err r ≡ named (number_of x) l o → after_names (number_of x) (place_of x) (drop (place_of x) (text_of x)) l ls o ≡ Err r
        found None e = let same : _ ≡ r = cc in ap Err same
        found (Some o) e = let z : ◌≡◌ {A = ℕ} 0 1 = cc in absurd (omega arith)

pub refused : (x : Reader) (program : Program) (v : Result Table Refusal) (r : Refusal) → v ≡ Err r → Reads x x program program v (Err r)
refused x program v r e = subst (λ (w : Result Table Refusal). Reads x x program program w (Err r)) (sym e) (refl, refl, refl)

-- The end of the table is the end of the reading.
module _ (x now : Reader) (old new : Program) (end : TableReader) (over : end.reader.text ≡ x.text) (A : Table)
    (rows_are : A.rows ≡ length (typed end.draft)) (place_is : A.place ≡ place_of end.reader) (program-is : A.program ≡ typed end.draft) (r : Result (ℕ × ℕ) Refusal) where
  pub ends_reading : Ends end x now old new (ending end) r → Reads x now old new (finish end.order (number_of end.first) (typed end.draft) (Ok A)) r
  unfolding ended
  ends_reading h = go (finish_fault (typed end.draft)) h
    where
      go : (f : Option Fault) → Ends end x now old new (ended end.order (number_of end.first) (length (typed end.draft)) f (Ok (length (typed end.draft), place_of end.reader))) r
          → Reads x now old new (ended end.order (number_of end.first) (length (typed end.draft)) f (Ok A)) r
      go None (e, same, filled) =
          (e ∙ (λ j. Ok (sym rows_are j, sym place_is j)), ap (λ z. z.text) same ∙ over, ap place_of same ∙ sym place_is, filled ∙ sym program-is)
      go (Some fault) h = h

-- THE ROWS. Those so far are in the draft, and with those that are left they are all rows of the table.
pub record Underway (start now : TableReader) : Type 0 where
  pub order : now.order ≡ start.order
  pub first : now.first ≡ start.first
  pub past : Past (length (typed now.draft)) start.reader now.reader
  pub number : number_of now.reader ≡ number_of start.reader + length (typed now.draft)
  pub all : onto_draft (typed now.draft) (rows start.order (number_of now.reader) (length (typed now.draft)) (ahead now.reader))
      ≡ rows start.order (number_of start.reader) 0 (ahead start.reader)

pub no_rows_yet : (start : TableReader) → typed start.draft ≡ [] → Underway start start
no_rows_yet start e =
    let x = start.reader in
    let none = ap length e in
    record {
      order = refl;
      first = refl;
      past = record { over = refl; left = sym (ap (λ n. after n (drop (place_of x) (text_of x))) none ∙ after_none (drop (place_of x) (text_of x))) };
      number = omega arith;
      all = (λ j. onto_draft (e j) (rows start.order (number_of x) (length (e j)) (ahead x))) ∙ draft_none _;
    }

module _ (start before : TableReader) (u : Underway start before) where
  abbrev D : List Line
  D = typed before.draft

  -- the order is the start's
  in_order : (r : Result (Option Line) Refusal) → r ≡ next_row before.order (number_of before.reader) (length D) (ahead before.reader)
      → r ≡ next_row start.order (number_of before.reader) (length D) (ahead before.reader)
  in_order r e = e ∙ ap (λ o. next_row o (number_of before.reader) (length D) (ahead before.reader)) u.order

  pub one_row : (now : TableReader) (line : Line) → Ok (Some line) ≡ next_row before.order (number_of before.reader) (length D) (ahead before.reader)
      → Goes before now (Ok (Some line)) → Underway start now
  one_row now line e (went, (l, is), numbered) =
      let more : length (typed now.draft) ≡ length D + 1 = ap length went.rows ∙ length_push D line in
      let n = u.number in
      let k = number_of before.reader in
      record {
        order = went.order ∙ u.order;
        first = went.first ∙ u.first;
        past = subst (λ (m : ℕ). Past m start.reader now.reader) (sym more) (past_more (length D) start.reader before.reader now.reader u.past went.past);
        number = omega arith;
        all =
            (λ j. onto_draft (went.rows j) (rows start.order (numbered j) (length (went.rows j)) (ahead now.reader)))
            ∙ sym (at_row start.order k D l (ahead now.reader) line (in_order _ e ∙ ap (next_row start.order k (length D)) is))
            ∙ ap (λ ls. onto_draft D (rows start.order k (length D) ls)) (sym is)
            ∙ u.all;
      }

  pub row_refuses : (r : Refusal) → Err r ≡ next_row before.order (number_of before.reader) (length D) (ahead before.reader)
      → rows start.order (number_of start.reader) 0 (ahead start.reader) ≡ Err r
  row_refuses r e = sym u.all ∙ at_refused start.order (number_of before.reader) D (ahead before.reader) r (in_order _ e)

  -- past the end of the rows
  pub record Over (now : TableReader) : Type 0 where
    pub order : now.order ≡ start.order
    pub first : now.first ≡ start.first
    pub past : Past (length (typed now.draft) + 1) start.reader now.reader
    pub all : rows start.order (number_of start.reader) 0 (ahead start.reader) ≡ Ok (typed now.draft)

  pub no_row : (now : TableReader) → Ok None ≡ next_row before.order (number_of before.reader) (length D) (ahead before.reader)
      → Goes before now (Ok None) → Over now
  no_row now e went = record {
    order = went.order ∙ u.order;
    first = went.first ∙ u.first;
    past = subst (λ (m : ℕ). Past (m + 1) start.reader now.reader) (ap length (sym went.rows)) (past_more (length D) start.reader before.reader now.reader u.past went.past);
    all = sym u.all ∙ at_none start.order (number_of before.reader) D (ahead before.reader) (in_order _ e) ∙ ap Ok (sym went.rows);
  }

-- From the names to the end.
module _ (x : Reader) (start : TableReader) (o : Order) (names : Ok o ≡ names_read (number_of x) (ahead x)) (past : PastNames x start.reader) (is-order : start.order ≡ o) where
  all_rows : (v : Result (List Line) Refusal) → rows start.order (number_of start.reader) 0 (ahead start.reader) ≡ v → rows o (number_of x + 1) 0 (ahead start.reader) ≡ v
  all_rows v e = (λ j. rows (sym is-order j) (sym past.numbered j) 0 (ahead start.reader)) ∙ e

  pub refused_row : (program : Program) (r : Refusal) → rows start.order (number_of start.reader) 0 (ahead start.reader) ≡ Err r → Reads x x program program (reading (text_of x) (place_of x)) (Err r)
  refused_row program r e =
      refused x program (reading (text_of x) (place_of x)) r
      (rows_refused x (ahead start.reader) past.names.0 past.names.1 o names r (all_rows (Err r) e))

  pub whole : (before : TableReader) (u : Underway start before) (end : TableReader) → Over start before u end → start.first ≡ start.reader
      → (now : Reader) (old new : Program) (r : Result (ℕ × ℕ) Refusal) → Ends end x now old new (ending end) r → Reads x now old new (reading (text_of x) (place_of x)) r
  whole before u end over from now old new r h =
      let P = typed end.draft in
      let A = table (place_of x) (drop (place_of x) (text_of x)) P in
      let two : length P + 1 + 1 ≡ length P + 2 = omega arith in
      let far : Past (length P + 2) x end.reader = subst (λ (m : ℕ). Past m x end.reader) two (past_add (length P + 1) x start.reader end.reader past.past over.past) in
      let k : number_of end.first ≡ number_of x + 1 = ap number_of (over.first ∙ from) ∙ past.numbered in
      let same : reading (text_of x) (place_of x) ≡ finish end.order (number_of end.first) P (Ok A) =
      rows_taken x (ahead start.reader) past.names.0 past.names.1 o names P (all_rows (Ok P) over.all)
      ∙ (λ j. finish (sym (over.order ∙ is-order) j) (sym k j) P (Ok A)) in
      subst (λ (v : Result Table Refusal). Reads x now old new v r) (sym same)
      (ends_reading x now old new end far.over A refl (placed (length P + 2) x end.reader far) refl r h)
