-- What an accepted edit makes of a program.
use Rattle.std.proofs.Common.{◌≡◌, ℕ, Some, None, Option, Result, arith}
use Rattle.drive.specs.declared.fault.Fault.{Fault}
use Rattle.drive.specs.declared.line.Line.{Line}
use Rattle.drive.specs.declared.program.Program.{Program}
use Rattle.drive.specs.Programs.{Edited}
use Rattle.analyses.specs.Edits.{Replaced}

pub accepted_replaces : {U : Type 0} (old new : Program) (p : ℕ) (line : Line) (refused : Option Fault) (r : Result U Fault)
    → Edited old new p line refused r → refused ≡ None → Replaced old p line new
accepted_replaces old new p line None r e n = e.1
accepted_replaces old new p line (Some f) r e n = let z : ◌≡◌ {A = ℕ} 0 1 = cc in absurd (omega arith)
