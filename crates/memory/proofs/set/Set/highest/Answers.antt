use Rattle.std.proofs.Common.{◌≡◌, ◌<◌, get_or, length, take, sym, ◌∙◌, arith}
use Rattle.std.proofs.lemmas.List.{get_or-take, length-take-le}
use Rattle.memory.proofs.Words.{highest_in, highest_none}
use Rattle.memory.proofs.set.Set.highest.Goals as goal

pub returns-in_err-i : goal.returns-in_err-i
returns-in_err-i c =
    let words : length (take c.row_words.result c.args.self.now.words) ≡ c.row_words.result = length-take-le c.row_words.result c.args.self.now.words (omega arith) in
    rw c.from_residual.ensures (highest_none c.args.self.now.words c.row_words.result c.args.end (omega arith) c.requires.below
    (λ m h. sym (get_or-take c.row_words.result c.args.self.now.words m 0 h) ∙ c.in_err-i.ensures.none m (omega arith)))

pub returns : goal.returns
returns c =
    let words : length (take c.row_words.result c.args.self.now.words) ≡ c.row_words.result = length-take-le c.row_words.result c.args.self.now.words (omega arith) in
    let i : c.in_ok-i.i < c.row_words.result = omega (arith, c.in_ok-i.ensures.some.0) in
    let same : get_or (take c.row_words.result c.args.self.now.words) c.in_ok-i.i 0 ≡ get_or c.args.self.now.words c.in_ok-i.i 0 = get_or-take c.row_words.result c.args.self.now.words c.in_ok-i.i 0 i in
    highest_in c.args.self.now.words c.row_words.result c.args.end (omega arith) c.requires.below c.in_ok-i.i c.ilog2.result
    (λ m a h. sym (get_or-take c.row_words.result c.args.self.now.words m 0 h) ∙ c.in_ok-i.ensures.last m a (omega arith))
    (omega (arith, same, c.ilog2.ensures.power_le)) (omega (arith, same, c.ilog2.ensures.next_power_gt)) c.ilog2.ensures.bound
