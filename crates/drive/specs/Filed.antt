-- The number of each fault of programs is one of the program layer's.
use Rattle.std.specs.Prelude.{◌≡◌, Some, refl}
use Rattle.refusal.specs.Numbers.{layer_of}
use Rattle.drive.specs.declared.fault.Fault.{Fault}
use Rattle.drive.specs.declared.fault.Fault.TheVariants.{TooManyLines, Register, Target, NoLines, LastLine, NoSuchLine}
use Rattle.drive.specs.Faults.{number, layer}

pub filed : (fault : Fault) → layer_of (number fault) ≡ Some (layer fault)
filed TooManyLines = refl
filed (Register line operand) = refl
filed NoLines = refl
filed (Target line operand) = refl
filed LastLine = refl
filed NoSuchLine = refl
