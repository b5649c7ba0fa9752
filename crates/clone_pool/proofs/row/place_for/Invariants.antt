use Rattle.std.proofs.Common.{◌≡◌, ◌<◌, ◌≤◌, ℕ, length, true}
use Rattle.clone_pool.specs.Tournament.{is_before}
use Rattle.clone_pool.specs.Row.{rank_in}
use Rattle.clone_pool.proofs.row.place_for.Given as goal

abbrev pub invariant-loop-place : goal.invariant-loop-place
invariant-loop-place l = record {
  within : l.place ≤ length l.row.items;
  before : (i : ℕ) → l.place ≤ i → i < length l.row.items → is_before l.rank (rank_in l.ranks l.row.items i) ≡ true;
}

abbrev pub decreases-loop-place : goal.decreases-loop-place
decreases-loop-place l = l.place
