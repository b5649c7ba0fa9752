use Rattle.std.proofs.Common.{◌≡◌, ℕ, ◌<◌, ◌≤◌, true}
use Rattle.clone_chunk.specs.Chunks.{is_kept}
use Rattle.clone_snapshot.proofs.resets.all_kept.Given as goal

abbrev pub invariant-loop-block : goal.invariant-loop-block
invariant-loop-block l = (b : ℕ) → l.from ≤ b → b < l.block → is_kept l.mask b ≡ true
