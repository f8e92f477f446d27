-- The lines of a draft.
use Rattle.std.proofs.Common.{◌≡◌, length}
use Rattle.drive.specs.declared.draft.Draft.{Draft}
use Rattle.drive.specs.Drafts.{typed}
use Rattle.drive.proofs.Tables.{used}

pub counted : (d : Draft) → length (typed d) ≡ d.rows.count
counted d = used d.rows
