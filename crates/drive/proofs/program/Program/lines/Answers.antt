use Rattle.drive.proofs.Programs.{known_by_lines}
use Rattle.drive.proofs.program.Program.lines.Goals as goal

pub returns-clause-known : goal.returns-clause-known
returns-clause-known c = known_by_lines
