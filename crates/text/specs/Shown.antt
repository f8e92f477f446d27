-- How the faults of a text are shown to a person, as bytes.
use Rattle.std.specs.Prelude.{ℕ, List, codes}
use Rattle.drive.specs.Shown.{shown_fault}
use Rattle.text.specs.declared.fault.InputFault.{InputFault}
use Rattle.text.specs.declared.fault.InputFault.TheVariants.{Names, Count, Op, Operand}
use Rattle.text.specs.declared.fault.Cause.{Cause}
use Rattle.text.specs.declared.fault.Cause.TheVariants.{Input, Program}

abbrev pub shown_input : InputFault → List ℕ
shown_input Names = codes "the names are not op, a and b, each once"
shown_input Count = codes "a value line has three fields"
shown_input Op = codes "no such op"
shown_input (Operand operand) = codes "not an operand that the op takes here"

abbrev pub shown_cause : Cause → List ℕ
shown_cause (Input fault) = shown_input fault
shown_cause (Program fault) = shown_fault fault
