-- The number of each fault of a notebook is one of the notebook layer's.
use Rattle.std.specs.Prelude.{◌≡◌, Some, refl}
use Rattle.refusal.specs.Numbers.{layer_of}
use Rattle.solver.specs.declared.faults.Fault.{Fault}
use Rattle.solver.specs.declared.faults.Fault.TheVariants.{TooSmall, NoSuchUnknown}
use Rattle.solver.specs.Faults.{number, layer}

pub filed : (fault : Fault) → layer_of (number fault) ≡ Some (layer fault)
filed TooSmall = refl
filed NoSuchUnknown = refl
