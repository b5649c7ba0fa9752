-- Which blocks of the chunks of a stage were taken.
use Rattle.std.specs.Prelude.{ℕ, ◌≡◌, ◌+◌, ◌-◌, ◌^◌, ◌<◌, ◌≤◌, ◌==◌, ◌&&◌, not, nat_lt, bit_or}
use Rattle.std.specs.Prelude.{Bool, true, false, List, [], ◌∷◌, ◌++◌, All, length, map, count_by}
use Rattle.std.specs.Prelude.{slice_get, slice_index, if◌then◌else◌}
use Rattle.std.specs.Int.{bit_at}
use Rattle.std.specs.Option.{option_map_or}
use Rattle.clone_chunk.specs.declared.bitmap.TheConstants.{MOST_CHUNKS}
use Rattle.clone_chunk.specs.declared.partials.PartialChunk.{PartialChunk}
use Rattle.clone_marks.specs.declared.chunk_marks.ChunkMarks.{ChunkMarks}

-- ---- a chunk

-- block b was taken where the bit of value 2 ^ b is set
abbrev pub has_block : ℕ → ChunkMarks → Bool
has_block block c = bit_at c.taken block == 1

-- there is such a block, and it wasn't taken
abbrev pub lacks_block : ℕ → ChunkMarks → Bool
lacks_block block c = nat_lt block c.blocks && not (has_block block c)

-- the mask of so many blocks
abbrev pub full : ℕ → ℕ
full blocks = 2 ^ blocks - 1

-- each block was taken
abbrev pub is_finished : ChunkMarks → Bool
is_finished c = c.taken == full c.blocks

-- some were taken, and some weren't
abbrev pub is_partial : ChunkMarks → Bool
is_partial c = not (c.taken == 0) && not (is_finished c)

-- with one more block
abbrev pub with_block : ChunkMarks → ℕ → ChunkMarks
with_block c block = record { blocks = c.blocks; taken = bit_or c.taken (2 ^ block) }

-- ---- all chunks

-- A BLOCK WAS TAKEN
abbrev pub is_taken : List ChunkMarks → ℕ → ℕ → Bool
is_taken marks chunk block = option_map_or (has_block block) (slice_get marks chunk) false

-- there is such a block, and it wasn't taken
abbrev pub is_left : List ChunkMarks → ℕ → ℕ → Bool
is_left marks chunk block = option_map_or (lacks_block block) (slice_get marks chunk) false

-- how many blocks each chunk has
abbrev pub blocks_of : List ChunkMarks → List ℕ
blocks_of marks = map (λ c. c.blocks) marks

-- each block of each chunk was taken
abbrev pub AreAllTaken : List ChunkMarks → Type 0
AreAllTaken marks =
    (chunk block : ℕ) → block < slice_index (blocks_of marks) chunk →
    is_taken marks chunk block ≡ true

abbrev pub is_finished_at : List ChunkMarks → ℕ → Bool
is_finished_at marks chunk = option_map_or is_finished (slice_get marks chunk) false

abbrev pub finished_count : List ChunkMarks → ℕ
finished_count marks = count_by is_finished marks

abbrev pub all_finished : List ChunkMarks → Bool
all_finished marks = finished_count marks == length marks

-- the partial ones among chunks that are numbered from here on, each with its mask
abbrev pub partial_at : ℕ → ChunkMarks → List PartialChunk
partial_at chunk c = if is_partial c then (record { chunk = chunk; mask = c.taken }) ∷ [] else []

abbrev pub partials_from : ℕ → List ChunkMarks → List PartialChunk
partials_from chunk [] = []
partials_from chunk (c ∷ marks) = partial_at chunk c ++ partials_from (chunk + 1) marks

abbrev pub partials_of : List ChunkMarks → List PartialChunk
partials_of marks = partials_from 0 marks

-- ---- what marks keep

-- 1 to 8 blocks, and no bit but theirs is set
pub record IsChunk (c : ChunkMarks) : Type 0 where
  pub some : 1 ≤ c.blocks
  pub few : c.blocks ≤ 8
  pub within : c.taken < 2 ^ c.blocks

pub record AreMarks (marks : List ChunkMarks) (finished : ℕ) : Type 0 where
  pub chunks : All IsChunk marks
  pub few : length marks ≤ MOST_CHUNKS
  pub count : finished ≡ finished_count marks
