-- What is written on a page, and what an output holds after writing.
use Rattle.std.specs.Prelude.{◌≡◌, ℕ, cond, List, ◌++◌, length, drop, ℤ, Some, None, Ok, Err, Option, Result, nat_le}
use Rattle.arrayvec.specs.ArrayString.{ArrayString}
use Rattle.drive.specs.declared.program.Program.{Program}
use Rattle.fields.specs.Kinds.{Kind, Kind.Number, Kind.Dash}
use Rattle.writer.specs.declared.fault.OutputFault.{OutputFault}
use Rattle.writer.specs.declared.fault.OutputFault.TheVariants.{Short}

abbrev pub written : ArrayString → List ℕ
written page = page.bytes

-- An operand as a field: a dash where there is none.
abbrev pub shown : Option ℤ → Kind
shown (Some z) = Number z
shown None = Dash

-- Writing bytes to an output answers their count, or is refused where the output is too short.
abbrev pub answer : List ℕ → List ℕ → Result ℕ OutputFault
answer bytes out = cond (nat_le (length bytes) (length out)) (Ok (length bytes)) (Err Short)

-- The bytes come to the front and the rest stays; a refused output stays whole.
abbrev pub output : List ℕ → List ℕ → List ℕ
output bytes out = cond (nat_le (length bytes) (length out)) (bytes ++ drop (length bytes) out) out

-- Read back, the program is the one that was written; where writing is refused, nothing is read.
abbrev pub ReadsBack : Program → Program → Program → Result ℕ OutputFault → Type 0
ReadsBack program old new (Ok place) = new ≡ program
ReadsBack program old new (Err fault) = new ≡ old
