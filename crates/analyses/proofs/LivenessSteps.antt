-- The steps of a run of liveness, and what an edit of a line leaves alone.
use Rattle.std.proofs.Common.{◌≡◌, ℕ, ◌<◌, not, ◌&&◌, ◌||◌, List, [], ◌∷◌, length, set, Some, None, Option, Result, unwrap_or, sym, ap, ◌∙◌}
use Rattle.std.proofs.lemmas.List.{length-set, get_or-set_other}
use Rattle.std.proofs.lemmas.Bool.{eqb-false, lt-ltb}
use Rattle.lattice.specs.declared.members.Members.{Members}
use Rattle.lattice.specs.Sets.{has, union, sets}
use Rattle.lattice.specs.SetLaws.{is_set_of}
use Rattle.equations.specs.Edits.{Outcome, Kept}
use Rattle.equations.specs.Plans.{step, play, move_of}
use Rattle.drive.specs.declared.line.Line.{Line}
use Rattle.drive.specs.declared.line.Line.TheVariants.{Halt}
use Rattle.drive.specs.declared.fault.Fault.{Fault}
use Rattle.drive.specs.Lines.{successors}
use Rattle.drive.specs.Programs.{lines_of, at, line_at, edit_fault, Edited}
use Rattle.analyses.specs.declared.liveness.Liveness.{Liveness}
use Rattle.analyses.specs.Liveness.{uses, defines, live_before}
use Rattle.analyses.specs.LivenessRuns.{asking, plan, liveness}
use Rattle.analyses.specs.Edits.{touched_liveness}

-- A set with what the line uses, and before that without what it defines, is the set of what is live before it.
pub is_live_before : (line : Line) (live kept all : Members)
    → ((r : ℕ) → r < 64 → has kept r ≡ (not (defines line r) && has live r))
    → ((r : ℕ) → r < 64 → has all r ≡ (uses line r || has kept r))
    → all ≡ live_before line live
is_live_before line live kept all h k = is_set_of all (λ r. uses line r || (not (defines line r) && has live r))
    (λ r l. k r l ∙ ap (λ b. uses line r || b) (h r l))

-- A run that begins has its line and its successors, and nothing is live yet.
pub begun : (P : List Line) (x : ℕ) (line : Line) (left : List ℕ) (live : Members) → x < length P
    → line ≡ unwrap_or (line_at P x) Halt → left ≡ successors (at P x) x → live ≡ sets.bottom → plan P x ≡ asking line left live
begun P x line left live k l s e =
    let here : line ≡ at P x = l ∙ (rw (lt-ltb x (length P) k)) in
    sym (λ i. asking (here i) (s i) (e i))

-- A run is given the value of the line that it asks for; one that has answered stays as it is.
module _ (line : Line) (live v : Members) where
  pub given_one : (left : List ℕ) (s : ℕ) (ss : List ℕ) (w : Members) → left ≡ s ∷ ss → w ≡ union live v → step (asking line left live) v ≡ asking line ss w
  given_one left s ss w l e = ap (λ l. step (asking line l live) v) l ∙ ap (asking line ss) (sym e)

  pub stays : (left : List ℕ) → left ≡ [] → step (asking line left live) v ≡ asking line left live
  stays left l = ap (λ l. step (asking line l live) v) l ∙ ap (λ l. asking line l live) (sym l)

kept : (P : List Line) (p : ℕ) (line : Line) → edit_fault P p line ≡ None → Kept (liveness P) (liveness (set P p line)) (touched_liveness P p line)
kept P p line passed = record {
  size = length-set P p line;
  untouched = λ x k t given.
      let ne : x ≡ p → ⊥ = eqb-false x p (rw passed at t) in
      ap (λ l. move_of (play (asking l (successors l x) sets.bottom) given)) (get_or-set_other P p x line Halt ne);
}

pub edited : {U : Type 0} (old new : Liveness) (p : ℕ) (line : Line) (refused : Option Fault) (r : Result U Fault)
    → edit_fault (lines_of old.program) p line ≡ refused → Edited old.program new.program p line refused r
    → Outcome (liveness (lines_of old.program)) (liveness (lines_of new.program)) (new ≡ old) (touched_liveness (lines_of old.program) p line) refused r
edited old new p line (Some f) r n e = (e.0, λ i. record { program = e.1 i })
edited old new p line None r n e = (e.0, rw e.1 (kept (lines_of old.program) p line n))
