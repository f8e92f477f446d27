-- The constants of a program keep the rules of a set of equations, and their runs answer the equations.
use Rattle.std.specs.Prelude.{◌≡◌, ℕ, ◌+◌, ◌-◌, ◌*◌, ◌/◌, ◌%◌, ◌<◌, ◌≤◌, List, map, length}
use Rattle.std.proofs.Common.{◌∙◌, ap, arith, mod-lt}
use Rattle.lattice.specs.declared.constant.Constant.{Constant}
use Rattle.lattice.specs.Constants.{join_constants, constants}
use Rattle.lattice.specs.ConstantLaws.{constants_laws, join_idem}
use Rattle.equations.specs.Systems.{system}
use Rattle.equations.specs.Rules.{Lawful}
use Rattle.equations.specs.Plans.{joined, concat, value, reads, Within, Short}
use Rattle.equations.proofs.Planned.{short_up, value_collect, reads_collect, within_collect, short_collect, planned_lawful, planned_answer, planned_asked, joined_mono}
use Rattle.drive.specs.declared.line.Line.{Line}
use Rattle.drive.specs.Programs.{at, Sound}
use Rattle.analyses.specs.declared.constants.Start.{Start}
use Rattle.analyses.specs.Predecessors.{leads_to, predecessors}
use Rattle.analyses.specs.Transfer.{contribution}
use Rattle.analyses.specs.Constants.{start_at, equation, asks_of, unknown}
use Rattle.analyses.specs.ConstantRuns.{part, right_hand_side, plan, constancy}
use Rattle.analyses.specs.Theorems.{ConstantsAnswer}
use Rattle.analyses.specs.Sound.{registers}
use Rattle.analyses.specs.Before.{each_passing, few_passing}
use Rattle.analyses.specs.Monotone.{contribution_mono}
use Rattle.analyses.specs.Contributions.{contributed, contribution_reads, contributing_within, contributing_short}

module _ (P : List Line) (sound : Sound P) (start : Start) where
  within : (x : ℕ) → Within (8 * length P) (plan P start x)
  within x = within_collect join_constants (part P (x / 8) (x % 8)) (8 * length P) (predecessors P (x / 8))
      (each_passing (leads_to P (x / 8)) (λ q. Within (8 * length P) (part P (x / 8) (x % 8) q)) (length P)
      (λ q l t. contributing_within (x % 8) (mod-lt x (omega arith)) (length P) q (x / 8) (at P q) l (registers P sound q))
      (length P - 0) 0 (omega arith))
      (start_at start (x / 8))

  -- At most 64 lines ask twice each.
  short : (x : ℕ) → Short 1024 (plan P start x)
  short x =
      let few : length (predecessors P (x / 8)) * 2 ≤ 1024 = omega (arith, few_passing (leads_to P (x / 8)) (length P - 0) 0, sound.few) in
      short_up (length (predecessors P (x / 8)) * 2) 1024 (plan P start x) few
      (short_collect join_constants (part P (x / 8) (x % 8)) 2 (predecessors P (x / 8)) (λ q. contributing_short (at P q) q (x / 8) (x % 8)) (start_at start (x / 8)))

  module _ (ρ : ℕ → Constant) where
    abbrev V : ℕ → ℕ → Constant
    V q s = ρ (unknown q s)

    valued : (p r : ℕ) → value (right_hand_side P start p r) ρ ≡ equation P start V p r
    valued p r =
        value_collect join_constants (part P p r) (predecessors P p) (start_at start p) ρ
        ∙ (λ i. joined join_constants (start_at start p) (map (λ q. contributed q ρ (at P q) p r i) (predecessors P p)))

    read : (p r : ℕ) → reads (right_hand_side P start p r) ρ ≡ asks_of P V p r
    read p r =
        reads_collect join_constants (part P p r) (predecessors P p) (start_at start p) ρ
        ∙ (λ i. concat (map (λ q. contribution_reads q ρ (at P q) p r i) (predecessors P p)))

  -- An unknown says its line and its register.
  unpacked : (p r : ℕ) → r < 8 → plan P start (unknown p r) ≡ right_hand_side P start p r
  unpacked p r k =
      let line : (8 * p + r) / 8 ≡ p = omega arith in
      let register : (8 * p + r) % 8 ≡ r = omega arith in
      λ i. right_hand_side P start (line i) (register i)

  pub constants_answer : ConstantsAnswer P start
  constants_answer = record {
    answers = λ ρ p r k.
        planned_answer constants (8 * length P) (plan P start) (unknown p r) (short (unknown p r)) ρ
        ∙ ap (λ t. value t ρ) (unpacked p r k) ∙ valued ρ p r;
    asks = λ ρ p r k.
        planned_asked constants (8 * length P) (plan P start) (unknown p r) (short (unknown p r)) ρ
        ∙ ap (λ t. reads t ρ) (unpacked p r k) ∙ read ρ p r;
  }

  pub constants_lawful : Lawful (system constants (constancy P start))
  constants_lawful = planned_lawful constants (8 * length P) (plan P start) constants_laws (λ x k. within x) (λ x k. short x)
      (λ x k ρ σ h. rw (valued ρ (x / 8) (x % 8), valued σ (x / 8) (x % 8))
      (joined_mono constants constants_laws
      (λ q. contribution (at P q) q (x / 8) (V ρ q) (x % 8)) (λ q. contribution (at P q) q (x / 8) (V σ q) (x % 8))
      (λ q. contribution_mono (V ρ q) (V σ q) (λ s. h (unknown q s)) (at P q) q (x / 8) (x % 8))
      (predecessors P (x / 8)) (start_at start (x / 8)) (start_at start (x / 8)) (join_idem (start_at start (x / 8)))))
