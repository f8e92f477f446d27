use Rattle.std.proofs.Common.{◌≡◌, length, drop}
use Rattle.drive.specs.Drafts.{typed, stray_target}
use Rattle.drive.proofs.draft.Draft.check_targets.Given as goal

-- The lines passed so far have no stray target.
abbrev pub invariant-loop-p : goal.invariant-loop-p
invariant-loop-p l =
    let P = typed l.self in
    stray_target (length P) 0 P ≡ stray_target (length P) l.p (drop l.p P)
