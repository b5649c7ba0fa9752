use Rattle.std.proofs.Common.{◌≡◌, ◌+◌, ◌-◌}
use Rattle.clone_wire.specs.Reading.{any_unset}
use Rattle.clone_wire.proofs.taken.any_unset.Given as goal

abbrev pub invariant-loop-chunk : goal.invariant-loop-chunk
invariant-loop-chunk l = any_unset l.bitmap l.chunk (l.last + 1 - l.chunk) ≡ any_unset l.bitmap l.first (l.last + 1 - l.first)
