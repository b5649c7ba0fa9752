use Rattle.std.proofs.Common.{◌≡◌, ◌≤◌, ◌+◌, ◌-◌, ◌++◌, length, take, drop}
use Rattle.clone_archive.proofs.blocks.Blocks.append.Given as goal

abbrev pub invariant-loop-at : goal.invariant-loop-at
invariant-loop-at l = record {
  above : l.from ≤ l.at;
  within : l.at ≤ l.until;
  room : length l.self.bytes + (l.until - l.at) ≤ l.self.room;
  appended : l.self.bytes ≡ l.fn.self.bytes ++ take (l.at - l.from) (drop (l.from - l.ring.floor) l.ring.bytes);
}

abbrev pub decreases-loop-at : goal.decreases-loop-at
decreases-loop-at l = l.until - l.at
