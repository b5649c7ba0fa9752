use Rattle.std.proofs.Common.{◌<◌, ◌≢◌, ◌-◌, ℕ, length}
use Rattle.clone_pool.specs.Row.{frame_in}
use Rattle.clone_pool.proofs.row.place_of.Given as goal

abbrev pub invariant-loop-place : goal.invariant-loop-place
invariant-loop-place l = record {
  within : l.place < length l.row.items;
  before : (i : ℕ) → i < l.place → frame_in l.row.items i ≢ l.at;
}

abbrev pub decreases-loop-place : goal.decreases-loop-place
decreases-loop-place l = length l.row.items - l.place
