-- The number of a refusal of a writing is the output layer's.
use Rattle.std.specs.Prelude.{◌≡◌, Some, refl}
use Rattle.refusal.specs.Numbers.{layer_of}
use Rattle.writer.specs.declared.fault.OutputFault.{OutputFault}
use Rattle.writer.specs.declared.fault.OutputFault.TheVariants.{Short}
use Rattle.writer.specs.Faults.{number, layer}

pub filed : (fault : OutputFault) → layer_of (number fault) ≡ Some (layer fault)
filed Short = refl
