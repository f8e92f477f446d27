use Rattle.std.proofs.Common.{◌≡◌, ℕ, zero, suc, true, List, [], ◌∷◌, ◌++◌, get_or, refl, sym, ap, ◌∙◌}
use Rattle.std.specs.Result.{result_err}
use Rattle.drive.specs.declared.line.Line.{Line}
use Rattle.drive.specs.declared.line.Line.TheVariants.{Halt}
use Rattle.drive.specs.Lines.{fits}
use Rattle.drive.specs.Rows.{in_use}
use Rattle.drive.proofs.Checks.{faultless}
use Rattle.drive.proofs.draft.Draft.add.Goals as goal

-- All lines fit after one more that does.
all_fit : (P : List Line) (line : Line) → fits 64 line ≡ true → ((i : ℕ) → fits 64 (get_or P i Halt) ≡ true) → (i : ℕ) → fits 64 (get_or (P ++ line ∷ []) i Halt) ≡ true
all_fit [] line here all zero = here
all_fit [] line here all (suc i) = refl
all_fit (l ∷ P) line here all zero = all 0
all_fit (l ∷ P) line here all (suc i) = all_fit P line here (λ j. all (suc j)) i

pub invariant_of-self : goal.invariant_of-self
invariant_of-self c =
    let fitting : fits 64 c.args.line ≡ true = faultless 64 c.count.result c.args.line (sym c.check.ensures ∙ ap result_err c.in_ok-check.was) in
    record { sound = rw c.push.ensures (all_fit (in_use c.args.self.now.rows) c.args.line fitting c.args.self.now.sound) }
