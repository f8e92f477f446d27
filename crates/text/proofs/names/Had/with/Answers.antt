use Rattle.std.proofs.Common.{ℕ, List, subst}
use Rattle.text.specs.Names.{Adds}
use Rattle.text.proofs.Worded.{word_is, no_name}
use Rattle.text.proofs.names.Had.with.Goals as goal

pub returns-in-Word : goal.returns-in-Word
returns-in-Word c = λ w e. subst (λ (x : List ℕ). Adds c.args.self x c.with_word.result) (word_is c.in-Word.word c.args.name w c.in-Word.is e) c.with_word.ensures

pub returns-in_default : goal.returns-in_default
returns-in_default c = λ w e ws m. let same = no_name c.args.name w c.in_default.not-Word e in rw same
