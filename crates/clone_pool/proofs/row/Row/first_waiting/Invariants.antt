use Rattle.std.proofs.Common.{◌≡◌, ◌<◌, ◌≤◌, ◌-◌, ℕ, false, length}
use Rattle.clone_pool.specs.Frames.{frame_at, is_waiting}
use Rattle.clone_pool.specs.Row.{frame_in}
use Rattle.clone_pool.proofs.row.Row.first_waiting.Given as goal

abbrev pub invariant-loop-place : goal.invariant-loop-place
invariant-loop-place l = record {
  within : l.place ≤ length l.self-inside.row.items;
  before : (i : ℕ) → i < l.place → is_waiting (frame_at l.frames (frame_in l.self-inside.row.items i)) ≡ false;
}

abbrev pub decreases-loop-place : goal.decreases-loop-place
decreases-loop-place l = length l.self-inside.row.items - l.place
