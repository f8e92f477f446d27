use Rattle.std.proofs.Common.{rules, ◌≡◌, eqb, ap, ◌∙◌}
use borrow.Author.Tests.{tests}
use Rattle.std.specs.List.{slice_split, slice_get}
use Rattle.std.specs.Option.{option_map}
use Rattle.std.proofs.lemmas.Iterator.Consumers.{nth_from_yields_List}
use Rattle.std.proofs.lemmas.Iterator.Splits.{YieldsList-from_slice_split}
use Rattle.fields.proofs.Splits.{split_is}
use Rattle.fields.proofs.reader.calls.nth_part.Goals as goal

pub returns : goal.returns
returns c =
    let bytes = c.args.bytes.now in
    let got : option_map (λ w. w.now) c.nth.result ≡ slice_get (slice_split (λ b. eqb b 32) bytes) c.args.k =
    nth_from_yields_List c.nth.result c.nth.new.self c.args.k c.nth.ensures.ran
    (YieldsList-from_slice_split _ (λ b. eqb b 32) bytes c.split.ensures.rest c.split.ensures.done c.split.ensures.closure (λ x b q k. search (rules, tests))) in
    got ∙ ap (λ ws. slice_get ws c.args.k) (split_is bytes)
