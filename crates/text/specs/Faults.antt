-- The number and the layer of each refusal of a reading.
use Rattle.std.specs.Prelude.{ℕ}
use Rattle.refusal.specs.declared.Layer.{Layer}
use Rattle.refusal.specs.declared.Layer.TheVariants.{Input as input}
use Rattle.drive.specs.Faults as program
use Rattle.text.specs.declared.fault.InputFault.{InputFault}
use Rattle.text.specs.declared.fault.InputFault.TheVariants.{Names, Count, Op, Operand}
use Rattle.text.specs.declared.fault.Cause.{Cause}
use Rattle.text.specs.declared.fault.Cause.TheVariants.{Input, Program}

abbrev pub input_number : InputFault → ℕ
input_number Names = 1
input_number Count = 2
input_number Op = 3
input_number (Operand operand) = 4

abbrev pub input_layer : InputFault → Layer
input_layer fault = input

-- A fault of the program layer keeps the number and the layer that it has there.
abbrev pub number : Cause → ℕ
number (Input fault) = input_number fault
number (Program fault) = program.number fault

abbrev pub layer : Cause → Layer
layer (Input fault) = input_layer fault
layer (Program fault) = program.layer fault
