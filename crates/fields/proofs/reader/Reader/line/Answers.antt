use Rattle.std.proofs.Common.{rules, ◌≡◌, ◌+◌, [], length, drop, sym, refl, ap, ◌∙◌, arith}
use borrow.Author.Tests.{tests}
use Rattle.std.proofs.lemmas.Bool.Decides.{Decides-eqb}
use Rattle.std.proofs.lemmas.Fn.{always_returns_same}
use Rattle.std.proofs.lemmas.List.{nil_from_length, take_rest}
use Rattle.std.proofs.lemmas.Slice.Eq.{strip_suffix_is}
use Rattle.fields.specs.Lines.{lines}
use Rattle.fields.proofs.Positions.{lines_end}
use Rattle.fields.proofs.Readers.{number_few, Piece, piece_from, bare, kept, taken}
use Rattle.fields.proofs.reader.Reader.line.Goals as goal

pub returns-in_err-line-clause-taken : goal.returns-in_err-line-clause-taken
returns-in_err-line-clause-taken c =
    let t = c.args.self.now.text.now in
    let p = c.args.self.now.at in
    let none : drop p t ≡ [] = nil_from_length (drop p t) (ap length (sym (c.split_inclusive.ensures.rest ∙ take_rest t p)) ∙ c.in_err-line.ensures.steps.0) in
    rw c.from_residual.ensures (ap lines none ∙ lines_end, refl)

pub invariant_of-self : goal.invariant_of-self
invariant_of-self c =
    let self = c.args.self.now in
    let t = self.text.now in
    let piece : Piece (drop self.at t) c.in_ok-line.line.now =
    piece_from _ _ _ _ _ _ _ (c.split_inclusive.ensures.rest ∙ take_rest t self.at) (always_returns_same _ _ _ (λ a r q k. search (rules, tests))) c.in_ok-line.ensures.steps in
    let (within, begins, counted) = kept t self.at c.in_ok-line.line.now self.begins piece in
    record { within = within; begins = begins; counted = ap (λ n. n + 1) self.counted ∙ counted; few = omega (arith, number_few t (self.at + length c.in_ok-line.line.now) within, self.counted, counted) }

pub returns-clause-taken : goal.returns-clause-taken
returns-clause-taken c =
    let self = c.args.self.now in
    let t = self.text.now in
    let piece : Piece (drop self.at t) c.in_ok-line.line.now =
    piece_from _ _ _ _ _ _ _ (c.split_inclusive.ensures.rest ∙ take_rest t self.at) (always_returns_same _ _ _ (λ a r q k. search (rules, tests))) c.in_ok-line.ensures.steps in
    let line = bare (drop self.at t) c.in_ok-line.line.now piece c.in_ok-line.line c.strip_suffix.result refl (strip_suffix_is Decides-eqb _ _ _ c.strip_suffix.ensures.cases) in
    taken t self.at c.in_ok-line.line.now self.begins piece c.unwrap_or.result (ap (λ l. l.now) c.unwrap_or.ensures ∙ line)
