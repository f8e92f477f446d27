use Rattle.std.proofs.Common.{rules, ◌≡◌, ◌∷◌, [], sym, ap, ◌∙◌, arith, to_z, of_z, w32}
use Rattle.std.proofs.lemmas.Bool.Decides.{Decides-eqb}
use Rattle.std.proofs.lemmas.Grind.{common_steps}
use Rattle.std.proofs.lemmas.Int.{ints}
use Rattle.std.proofs.lemmas.List.{nil_from_length}
use Rattle.std.proofs.lemmas.Option.{MatchOption-at_some, MatchOption-at_none}
use Rattle.std.proofs.lemmas.Slice.Eq.{strip_prefix_is}
use Rattle.fields.specs.Kinds.{Kind.Word, Kind.Number, kind}
use Rattle.fields.proofs.Numbers.{kind_dash, Spells, number_unsigned, number_zero_minus, number_minus, negated}
use Rattle.fields.proofs.field.Field.of.Goals.{in-Some-eq48, in-Some, in-None}
use Rattle.fields.proofs.field.Field.of.Goals as goal

pub returns-in-Some-empty : goal.returns-in-Some-empty
returns-in-Some-empty c =
    let front = strip_prefix_is Decides-eqb c.args.bytes.now (45 ∷ []) c.strip_prefix.result c.strip_prefix.ensures.cases in
    let none : c.in-Some-empty.field-0.now ≡ [] = nil_from_length _ (omega arith) in
    sym (ap kind (MatchOption-at_some _ _ _ c.in-Some-empty.is front ∙ ap (λ ds. 45 ∷ ds) none) ∙ kind_dash)

pub returns-in-Some-number : goal.returns-in-Some-number
returns-in-Some-number c =
    let bs = c.args.bytes.now in
    let front = strip_prefix_is Decides-eqb bs (45 ∷ []) c.strip_prefix.result c.strip_prefix.ensures.cases in
    let is : Spells bs c.match-strip_prefix.number = elim c.match-strip_prefix.branch [
      | in-Some-eq48 w ↦ number_zero_minus bs _ _ (MatchOption-at_some _ _ _ w.in-Some-eq48.is front) (omega arith) (search rules) (grind (arith, common_steps))
      | in-Some w ↦ number_minus bs _ _ (MatchOption-at_some _ _ _ w.in-Some.is front) (omega arith) (search rules) (w.number-is ∙ negated _ _ _ _ (λ n z h k. grind (arith, ints)) w.digits_value.ensures w.map-number.ensures.cases)
      | in-None w ↦ number_unsigned bs _ (MatchOption-at_none _ _ w.in-None.is front) (w.number-is ∙ w.digits_value-number.ensures)
    ] in
    let back : to_z w32 (of_z w32 c.in-Some-number.n) ≡ c.in-Some-number.n = omega (arith, ints) in
    ap Number back ∙ MatchOption-at_some (Word bs ≡ kind bs) (λ z. Number z ≡ kind bs) c.in-Some-number.n c.in-Some-number.is is

pub returns-in-None-number : goal.returns-in-None-number
returns-in-None-number c =
    let bs = c.args.bytes.now in
    let front = strip_prefix_is Decides-eqb bs (45 ∷ []) c.strip_prefix.result c.strip_prefix.ensures.cases in
    let is : Spells bs c.match-strip_prefix.number = elim c.match-strip_prefix.branch [
      | in-Some-eq48 w ↦ number_zero_minus bs _ _ (MatchOption-at_some _ _ _ w.in-Some-eq48.is front) (omega arith) (search rules) (grind (arith, common_steps))
      | in-Some w ↦ number_minus bs _ _ (MatchOption-at_some _ _ _ w.in-Some.is front) (omega arith) (search rules) (w.number-is ∙ negated _ _ _ _ (λ n z h k. grind (arith, ints)) w.digits_value.ensures w.map-number.ensures.cases)
      | in-None w ↦ number_unsigned bs _ (MatchOption-at_none _ _ w.in-None.is front) (w.number-is ∙ w.digits_value-number.ensures)
    ] in
    MatchOption-at_none (Word bs ≡ kind bs) (λ z. Number z ≡ kind bs) c.in-None-number.is is
