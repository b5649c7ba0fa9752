use Rattle.std.proofs.Common.{◌≡◌, drop}
use Rattle.clone_recover.specs.Meetings.{met}
use Rattle.clone_recover.proofs.redo.met_at.Given as goal

abbrev pub invariant-loop-meeting : goal.invariant-loop-meeting
invariant-loop-meeting l = met (drop l.meeting-index l.meetings) l.space l.number ≡ met l.meetings l.space l.number
