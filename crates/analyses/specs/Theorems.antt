-- What is proved of the two sets of equations, above the moves of their runs.
use Rattle.std.specs.Prelude.{◌≡◌, ℕ, ◌<◌, List}
use Rattle.lattice.specs.declared.constant.Constant.{Constant}
use Rattle.lattice.specs.declared.members.Members.{Members}
use Rattle.lattice.specs.Constants.{constants}
use Rattle.lattice.specs.Sets.{has, sets}
use Rattle.equations.specs.Systems.{system}
use Rattle.equations.specs.Runs.{asked, answer}
use Rattle.drive.specs.declared.line.Line.{Line}
use Rattle.drive.specs.Lines.{successors}
use Rattle.drive.specs.Programs.{at}
use Rattle.analyses.specs.declared.constants.Start.{Start}
use Rattle.analyses.specs.Constants as constant
use Rattle.analyses.specs.Constants.{unknown}
use Rattle.analyses.specs.ConstantRuns.{constancy}
use Rattle.analyses.specs.Liveness as live
use Rattle.analyses.specs.LivenessRuns.{liveness}

-- Under any values, the run of register r at line p answers what its equation says, and asks for these unknowns, in this order.
pub record ConstantsAnswer (P : List Line) (start : Start) : Type 0 where
  pub answers : (ρ : ℕ → Constant) (p r : ℕ) → r < 8
      → answer (system constants (constancy P start)) (unknown p r) ρ ≡ constant.equation P start (λ q s. ρ (unknown q s)) p r
  pub asks : (ρ : ℕ → Constant) (p r : ℕ) → r < 8
      → asked (system constants (constancy P start)) (unknown p r) ρ ≡ constant.asks_of P (λ q s. ρ (unknown q s)) p r

-- Under any values, the run of line p answers what its equation says, which is: register r is live on entry to p exactly if line p
-- uses it, or does not define it and it is live at a successor. It asks for the successors, in order.
pub record LivenessAnswers (P : List Line) : Type 0 where
  pub answers : (ρ : ℕ → Members) (p : ℕ) → answer (system sets (liveness P)) p ρ ≡ live.equation P ρ p
  pub members : (ρ : ℕ → Members) (p r : ℕ) → r < 64 → has (answer (system sets (liveness P)) p ρ) r ≡ live.is_live P ρ p r
  pub asks : (ρ : ℕ → Members) (p : ℕ) → asked (system sets (liveness P)) p ρ ≡ successors (at P p) p
