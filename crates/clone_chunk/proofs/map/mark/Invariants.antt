use Rattle.std.proofs.Common.{◌≡◌, ℕ, ◌<◌, Some, if◌then◌else◌}
use Rattle.std.specs.List.{slice_get}
use Rattle.clone_chunk.specs.Chunks.{has_bit}
use Rattle.clone_chunk.specs.declared.chunk.Chunk.TheVariants.{Free, Finished}
use Rattle.clone_chunk.proofs.map.mark.Given as goal

abbrev pub invariant-loop-chunk : goal.invariant-loop-chunk
invariant-loop-chunk l = (i : ℕ) → i < l.chunk → slice_get l.states i ≡ Some (if has_bit l.bitmap i then Finished else Free)
