-- The number and the layer of each fault of a notebook, and when a call is refused.
use Rattle.std.specs.Prelude.{ℕ, cond, Some, None, Option, nat_lt}
use Rattle.std.specs.Option.{option_map}
use Rattle.refusal.specs.declared.Layer.{Layer}
use Rattle.refusal.specs.declared.Layer.TheVariants.{Notebook}
use Rattle.solver.specs.declared.faults.Fault.{Fault}
use Rattle.solver.specs.declared.faults.Fault.TheVariants.{TooSmall, NoSuchUnknown}
use Rattle.solver.specs.declared.faults.EditFault.{EditFault}
use Rattle.solver.specs.declared.faults.EditFault.TheVariants.{Notebook as ByNotebook, Equations as ByEquations}

-- What a refusal is known by.
pub record Refusal : Type 0 where
  pub number : ℕ
  pub layer : Layer

abbrev pub refusal : Fault → Refusal
refusal TooSmall = record { number = 11; layer = Notebook }
refusal NoSuchUnknown = record { number = 10; layer = Notebook }

abbrev pub number : Fault → ℕ
number fault = (refusal fault).number

abbrev pub layer : Fault → Layer
layer fault = (refusal fault).layer

-- Why an ask for q is refused, if it is, by a notebook with room for c unknowns, where the equations have n: for want of room, or else
-- because q is none of them.
abbrev pub ask_refusal : ℕ → ℕ → ℕ → Option Fault
ask_refusal c n q = cond (nat_lt c n) (Some TooSmall) (cond (nat_lt q n) None (Some NoSuchUnknown))

-- Why an edit is refused, if it is: for want of room, or else as the equations refuse it.
abbrev pub edit_refusal : {F : Type 0} → ℕ → ℕ → Option F → Option (EditFault F)
edit_refusal c n own = cond (nat_lt c n) (Some (ByNotebook TooSmall)) (option_map ByEquations own)
