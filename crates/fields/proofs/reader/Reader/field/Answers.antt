use Rattle.std.proofs.Common.{rules, ◌≡◌, ℕ, ◌+◌, ◌-◌, List, [], length, take, drop, Some, None, Option, Bor, eqb, sym, refl, ap, ◌∙◌, subst}
use borrow.Author.Tests.{tests}
use Rattle.std.specs.List.{slice_get, slice_split}
use Rattle.std.specs.Option.{option_map, MatchOption, IsSomeAnd}
use Rattle.std.proofs.lemmas.List.{take_rest}
use Rattle.std.proofs.lemmas.Option.{same_Some, none-some}
use Rattle.std.proofs.lemmas.Iterator.Consumers.{nth_from_yields_List}
use Rattle.std.proofs.lemmas.Iterator.Splits.{YieldsList-from_slice_split}
use Rattle.fields.specs.declared.field.Field.{Field}
use Rattle.fields.specs.Fields.{fields, start}
use Rattle.fields.specs.Kinds.{kind, text}
use Rattle.fields.specs.Readers.{said, next_line, field_at, Stands}
use Rattle.fields.proofs.Numbers.{text_kind}
use Rattle.fields.proofs.Parts.{first_is, field_stands}
use Rattle.fields.proofs.reader.Reader.field.Goals as goal

-- `split` gives the next line first
line_is : (c : goal.After-map) → c.in_ok-line.line.now ≡ next_line c.args.self.now.text.now c.args.self.now.at
line_is c =
    let u = drop c.args.self.now.at c.args.self.now.text.now in
    let first : Some c.in_ok-line.line.now ≡ slice_get (slice_split (λ b. eqb b 10) u) 0 =
    nth_from_yields_List (Some c.in_ok-line.line) c.next.new.self 0 ([], (c.split.result, refl, c.in_ok-line.ensures.steps), refl)
    (YieldsList-from_slice_split _ (λ b. eqb b 10) u (c.split.ensures.rest ∙ take_rest c.args.self.now.text.now c.args.self.now.at) c.split.ensures.done c.split.ensures.closure (λ x b q k. search (rules, tests))) in
    same_Some _ _ (first ∙ first_is u)

-- the part that is there is the field, where it is
module _ (t : List ℕ) (p n : ℕ) where
  answer : (part : Option (Bor (List ℕ))) (r : Option Field) → MatchOption part (r ≡ None) (λ x. IsSomeAnd r (λ f. said f ≡ kind x.now)) → option_map (λ w. w.now) part ≡ field_at (fields (next_line t p)) n
      → (option_map said r ≡ option_map kind (field_at (fields (next_line t p)) n)) × Stands t (p + start (n - 1) (fields (next_line t p))) r
  answer None None h g = (ap (option_map kind) g, tt)
  answer None (Some f) h g = absurd (none-some f (sym h))
  answer (Some x) None h g = absurd h
  answer (Some x) (Some f) h g =
      let same : x.now ≡ text (said f) = sym (ap text h ∙ text_kind x.now) in
      (ap Some h ∙ ap (option_map kind) g, subst (λ (w : List ℕ). take (length w) (drop (p + start (n - 1) (fields (next_line t p))) t) ≡ w) same (field_stands t p n x.now g))

both : (c : goal.After-map) → (option_map said c.map.result ≡ option_map kind (field_at (fields (next_line c.args.self.now.text.now c.args.self.now.at)) c.args.n))
    × Stands c.args.self.now.text.now (c.args.self.now.at + start (c.args.n - 1) (fields (next_line c.args.self.now.text.now c.args.self.now.at))) c.map.result
both c = answer c.args.self.now.text.now c.args.self.now.at c.args.n c.part.result c.map.result c.map.ensures.cases (c.part.ensures ∙ ap (λ l. field_at (fields l) c.args.n) (line_is c))

pub returns-clause-value : goal.returns-clause-value
returns-clause-value c = (both c).0

pub returns-clause-place : goal.returns-clause-place
returns-clause-place c = (both c).1
