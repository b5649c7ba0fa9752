-- How many blocks the chunks of a stage have.
use Rattle.std.specs.Prelude.{ℕ, ◌*◌, ◌-◌, min, List, length, map, replicate}
use Rattle.std.specs.Int.{div_ceil}
use Rattle.std.specs.List.{range_with_len}
use Rattle.clone_chunk.specs.declared.spaces.SpaceSize.{SpaceSize}
use Rattle.clone_snapshot.specs.StageLists.{StageList, Pages, chunks_of, blocks_of}
use Rattle.clone_marks.specs.declared.chunk_marks.ChunkMarks.{ChunkMarks}

-- spaces, each with its number of pages
abbrev pub pairs_of : List SpaceSize → List (ℕ × ℕ)
pairs_of spaces = map (λ s. (s.space, s.pages)) spaces

-- so many pages, of which it isn't known yet which they are
abbrev pub counted_pages : ℕ → StageList
counted_pages count = Pages (replicate count (0, 0))

-- THE BLOCKS of each chunk
abbrev pub block_counts : StageList → List ℕ
block_counts list = map (λ chunk. length (blocks_of chunk)) (chunks_of list)

-- those of so many pages or bytes, where a chunk and a block have so many
abbrev pub run_counts : ℕ → ℕ → ℕ → List ℕ
run_counts units chunk block =
    map (λ i. div_ceil (min chunk (units - chunk * i)) block)
    (range_with_len 0 (div_ceil units chunk))

-- none of the blocks was taken
abbrev pub unmarked : List ℕ → List ChunkMarks
unmarked counts = map (λ n. record { blocks = n; taken = 0 }) counts
