use Rattle.std.proofs.Common.{◌≡◌, drop}
use Rattle.clone_buffer.proofs.Common.{after_records}
use Rattle.clone_buffer.proofs.buffer.change_frames.Given as goal

-- what the records that are left make of the frames is what all of them make of the first frames
abbrev pub invariant-loop-entry : goal.invariant-loop-entry
invariant-loop-entry l = after_records (drop l.entry-index l.records) l.start l.end l.pool ≡ after_records l.records l.start l.end l.fn.pool
