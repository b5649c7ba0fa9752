use Rattle.std.proofs.Common.{◌≡◌, drop}
use Rattle.std.specs.Prelude.{fold}
use Rattle.clone_memdisk.specs.Recorded.{laid}
use Rattle.clone_memdisk.proofs.recording.lay_all.Given as goal

-- what is left of the changes makes of the image so far what all make of it
abbrev pub invariant-loop-entry : goal.invariant-loop-entry
invariant-loop-entry l = fold (laid l.choice) l.image (drop l.entry-index l.changes) ≡ fold (laid l.choice) l.fn.image l.changes
