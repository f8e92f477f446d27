use Rattle.std.proofs.Common.{◌+◌, ◌-◌, ◌<◌, replicate, drop, sym, ap, ◌∙◌, arith}
use Rattle.std.proofs.Math.ListN.{length-set}
use Rattle.std.proofs.lemmas.List.{drop-set-lt, drop-drop, drop-replicate}
use Rattle.drive.specs.declared.line.Line.TheVariants.{Halt}
use Rattle.drive.proofs.Tables.{used}
use Rattle.drive.proofs.rows.Rows.push.Goals as goal

pub invariant_of-self : goal.invariant_of-self
invariant_of-self c =
    let rows = c.args.self.now in
    let n = used rows in
    let room : rows.count < 64 = omega arith in
    record {
      table = length-set rows.lines rows.count c.args.line ∙ rows.table;
      few = omega arith;
      -- one line fewer past those in use
      blank =
          drop-set-lt (rows.count + 1) rows.lines rows.count c.args.line (omega arith)
          ∙ sym (drop-drop 1 rows.count rows.lines)
          ∙ ap (drop 1) rows.blank
          ∙ drop-replicate 1 (64 - rows.count) Halt
          ∙ ap (λ k. replicate k Halt) (omega arith);
    }
