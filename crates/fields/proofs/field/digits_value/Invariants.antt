use Rattle.std.proofs.Common.{◌≡◌, take, pos}
use Rattle.std.specs.Str.Parse.{digits_value, AllDigits}
use Rattle.fields.proofs.field.digits_value.Given as goal

abbrev pub invariant-loop-digit : goal.invariant-loop-digit
invariant-loop-digit l = record { digits : AllDigits 10 (take l.digit-index l.digits); is : l.value ≡ pos (digits_value 10 (take l.digit-index l.digits)) }
