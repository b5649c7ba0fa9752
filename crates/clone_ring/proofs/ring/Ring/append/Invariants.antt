use Rattle.std.proofs.Common.{◌≡◌, ◌≤◌, ◌-◌, length, take}
use Rattle.clone_ring.specs.Window.{appended, free_in}
use Rattle.clone_ring.proofs.ring.Ring.append.Given as goal

abbrev pub invariant-loop-done : goal.invariant-loop-done
invariant-loop-done l = record {
  within : l.done ≤ length l.bytes;
  free : length l.bytes - l.done ≤ free_in l.self;
  appended : l.self ≡ appended (take l.done l.bytes) l.fn.self;
}

abbrev pub decreases-loop-done : goal.decreases-loop-done
decreases-loop-done l = length l.bytes - l.done
