use Rattle.std.proofs.Common.{◌≡◌, take}
use Rattle.clone_follow.proofs.donor.copied_changes.Given as goal

abbrev pub invariant-loop-change : goal.invariant-loop-change
invariant-loop-change l = l.changes ≡ take l.change-index l.from
