-- The chunks of a stage after a reset, and which block is the last that is sent of a chunk.
use Rattle.std.specs.Prelude.{ℕ, ◌≡◌, ◌<◌, ◌||◌, List, length, Some, true}
use Rattle.std.specs.Prelude.{slice_get, slice_index, if◌then◌else◌}
use Rattle.clone_chunk.specs.Chunks.{has_bit, is_kept, is_whole, within}
use Rattle.clone_chunk.specs.Partials.{mask_of}
use Rattle.clone_chunk.specs.declared.chunk.Chunk.{Chunk}
use Rattle.clone_chunk.specs.declared.chunk.Chunk.TheVariants.{Free, Finished}
use Rattle.clone_chunk.specs.declared.partials.PartialChunk.{PartialChunk}
use Rattle.clone_snapshot.specs.StageLists.{StageList, chunk_count, block_count}

-- THE CHUNKS ARE RESET to what a requester has. A chunk is finished where its bit is set, or each
-- of its blocks is in its mask, and free elsewhere. As far as a chunk has the blocks in its mask,
-- they are kept.
pub record IsReset (list : StageList) (bitmap : List ℕ) (partials : List PartialChunk)
    (chunks : List Chunk) (kept : List ℕ) : Type 0 where
  pub count : length chunks ≡ chunk_count list
  pub masks : length kept ≡ chunk_count list
  pub chunk : (i : ℕ) → i < chunk_count list → slice_get chunks i
      ≡ Some (if has_bit bitmap i || is_whole (mask_of partials i) (block_count list i)
      then Finished else Free)
  pub mask : (i : ℕ) → i < chunk_count list → slice_index kept i
      ≡ within (mask_of partials i) (block_count list i)

-- The block is its chunk's last that isn't kept.
pub record IsLast (list : StageList) (kept : List ℕ) (chunk block : ℕ) : Type 0 where
  pub there : block < block_count list chunk
  pub later : (b : ℕ) → block < b → b < block_count list chunk
      → is_kept (slice_index kept chunk) b ≡ true
