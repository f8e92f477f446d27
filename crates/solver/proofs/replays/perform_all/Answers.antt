use Rattle.std.proofs.Common.{rules, ◌≡◌, ℕ, ◌+◌, ◌<◌, length, drop, refl, ◌∙◌, subst, arith}
use Rattle.std.proofs.lemmas.List.{get_or-take, drop-set-lt}
use Rattle.std.proofs.lemmas.Grind.{drop_more_same}
use Rattle.equations.specs.Semantics.{Semantics, semantics}
use Rattle.memory.specs.Notebooks.{held, room_of}
use Rattle.solver.specs.Claim.{Made, ClaimOn}
use Rattle.solver.proofs.Replaying.{none_valid, replayed_none, place, ended, replayed_more}
use Rattle.solver.proofs.replays.perform_all.Goals as goal

pub loop-k-init : goal.loop-k-init
loop-k-init g c =
    let sem : Semantics g.row.E.Denot g.row.E-Change.Denot g.row.V.Denot g.row.E-Fault.Denot = semantics g.V.Lattice.kind g.E.Equations.meaning g.E.Equations.refusal g.E.Equations.touched in (
      none_valid sem g.E.Equations.changed g.met.E.Equations.lawful c.args.equations.now _ (search rules),
      replayed_none sem g.E.Equations.changed g.met.E.Equations.lawful (room_of c.args.notebook.now) c.args.equations.now _ (search rules),
      search rules,
      refl,
    )

pub offset_bounds-answers-k : goal.offset_bounds-answers-k
offset_bounds-answers-k g c = let h : c.loop-k.k < length c.args.answers.now = omega (arith, place _ _ c.args.calls.now c.loop-k-test.true, c.min-m.ensures) in search rules

pub loop-k-preserved : goal.loop-k-preserved
loop-k-preserved g c =
    let sem : Semantics g.row.E.Denot g.row.E-Change.Denot g.row.V.Denot g.row.E-Fault.Denot = semantics g.V.Lattice.kind g.E.Equations.meaning g.E.Equations.refusal g.E.Equations.touched in
    let h = place _ _ c.args.calls.now c.loop-k-test.true in
    let made = subst (λ (n : ℕ). Made sem g.E.Equations.changed n c.loop-k.equations (held c.loop-k.notebook) c.call-item.result c.perform.result c.perform.new.equations (held c.perform.new.notebook))
    c.loop-k.invariant.2 c.perform.ensures.made in (
      c.perform.ensures.valid,
      replayed_more sem g.E.Equations.changed g.met.E.Equations.lawful (room_of c.args.notebook.now) c.args.equations.now c.args.calls.now c.loop-k.answers
          c.loop-k.k c.call-item.result c.perform.result c.loop-k.equations c.perform.new.equations (held c.loop-k.notebook) (held c.perform.new.notebook)
          h.1 (omega (arith, h.0, c.min-m.ensures, c.loop-k.auto.answers)) (c.call-item.is ∙ get_or-take _ c.args.calls.now c.loop-k.k c.call-item.result h.0) c.loop-k.invariant.1 made c.perform.ensures.valid,
      c.perform.ensures.capacity ∙ c.loop-k.invariant.2,
      drop-set-lt (c.loop-k.k + 1) c.loop-k.answers c.loop-k.k c.perform.result (omega arith) ∙ drop_more_same c.loop-k.answers c.args.answers.now c.loop-k.k c.loop-k.invariant.3,
    )

pub returns-clause-claim : goal.returns-clause-claim
returns-clause-claim g c =
    let sem : Semantics g.row.E.Denot g.row.E-Change.Denot g.row.V.Denot g.row.E-Fault.Denot = semantics g.V.Lattice.kind g.E.Equations.meaning g.E.Equations.refusal g.E.Equations.touched in
    subst (λ (m : ℕ). ClaimOn sem g.E.Equations.changed (room_of c.args.notebook.now) m c.args.equations.now c.args.calls.now c.loop-k.answers c.loop-k.equations (held c.loop-k.notebook))
    (omega (arith, ended _ _ c.args.calls.now c.loop-k-test.false c.loop-k.auto.k-end, c.min-m.ensures)) c.loop-k.invariant.1

pub returns-clause-rest : goal.returns-clause-rest
returns-clause-rest g c = subst (λ (m : ℕ). drop m c.loop-k.answers ≡ drop m c.args.answers.now) (omega (arith, ended _ _ c.args.calls.now c.loop-k-test.false c.loop-k.auto.k-end, c.min-m.ensures)) c.loop-k.invariant.3
