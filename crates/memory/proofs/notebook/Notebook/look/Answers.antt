use Rattle.std.proofs.Common.{sym, ap, ◌∙◌, ⊎_elim}
use Rattle.std.proofs.lemmas.Bool.{cases_lt, lt-ltb, ltb-true, both_ways}
use Rattle.memory.proofs.Cells.{stored_past, stored_get_or}
use Rattle.memory.proofs.notebook.Notebook.look.Goals as goal

pub returns-in_err-get : goal.returns-in_err-get
returns-in_err-get g c =
    c.from_residual.ensures ∙ sym (stored_past _ c.args.x (⊎_elim (λ l. absurd (both_ways _ (sym c.in_err-get.ensures.lookup.0) (lt-ltb c.args.x _ l))) (λ l. l) (cases_lt c.args.x _)))

pub returns : goal.returns
returns g c =
    let l = c.in_ok-get.ensures.lookup in
    ap (λ d. d.value) l.1 ∙ sym (stored_get_or _ c.args.x _ (ltb-true c.args.x _ (sym l.0)))
