use Rattle.std.proofs.Common.{arith}
use Rattle.std.proofs.Math.Seq.{take-set-lt}
use Rattle.drive.proofs.Tables.{used}
use Rattle.drive.proofs.rows.Rows.set.Goals as goal

pub returns : goal.returns
returns c =
    let rows = c.args.self.now in
    let n = used rows in
    take-set-lt rows.count rows.lines c.args.p c.args.line (omega arith)
