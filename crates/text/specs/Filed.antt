-- The number of each refusal of a reading is one of its layer's.
use Rattle.std.specs.Prelude.{◌≡◌, Some, refl}
use Rattle.refusal.specs.Numbers.{layer_of}
use Rattle.drive.specs.Filed as program
use Rattle.text.specs.declared.fault.InputFault.{InputFault}
use Rattle.text.specs.declared.fault.InputFault.TheVariants.{Names, Count, Op, Operand}
use Rattle.text.specs.declared.fault.Cause.{Cause}
use Rattle.text.specs.declared.fault.Cause.TheVariants.{Input, Program}
use Rattle.text.specs.Faults.{number, layer, input_number, input_layer}

pub input_filed : (fault : InputFault) → layer_of (input_number fault) ≡ Some (input_layer fault)
input_filed Names = refl
input_filed Count = refl
input_filed Op = refl
input_filed (Operand operand) = refl

pub filed : (cause : Cause) → layer_of (number cause) ≡ Some (layer cause)
filed (Input fault) = input_filed fault
filed (Program fault) = program.filed fault
