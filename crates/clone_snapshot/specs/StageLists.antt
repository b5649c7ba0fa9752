-- What a stage copies, and how it is cut into chunks, and these into blocks.
use Rattle.std.specs.Prelude.{ℕ, ◌+◌, ◌*◌, ◌-◌, ◌<◌, ◌≤◌, min, length, take, drop, map, sum_by}
use Rattle.std.specs.Prelude.{List, [], slice_get}
use Rattle.std.specs.declared.option.Option.{Option}
use Rattle.std.specs.Int.{div_ceil}
use Rattle.std.specs.List.{range_with_len, flat_map}
use Rattle.std.specs.Option.{option_map_or}
use Rattle.clone_chunk.specs.declared.stage.Stage.{Stage}
use Rattle.clone_chunk.specs.declared.stage.Stage.TheVariants.{FileCopy, PageCopy, RedoCopy, Done}
use Rattle.clone_base.specs.declared.limits.TheConstants.{BLOCK_PAGES, BLOCK_BYTES}
use Rattle.clone_snapshot.specs.declared.sizes.TheConstants.{CHUNK_PAGES, CHUNK_BYTES}

-- what a stage copies
pub data StageList : Type 0 where
  -- spaces, each with its number of pages
  Files : List (ℕ × ℕ) → StageList
  -- pages, each as its space and its number there
  Pages : List (ℕ × ℕ) → StageList
  -- the bytes of the log from this LSN up to that one
  Redo : ℕ → ℕ → StageList
  Nothing : StageList

abbrev pub stage_of : StageList → Stage
stage_of (Files spaces) = FileCopy
stage_of (Pages pages) = PageCopy
stage_of (Redo start end) = RedoCopy
stage_of Nothing = Done

-- a part of what is copied: some pages, or so many bytes of the log from an LSN on
pub data Part : Type 0 where
  PagePart : List (ℕ × ℕ) → Part
  RedoPart : (from count : ℕ) → Part

-- how many pages or bytes it has
abbrev pub size_of : Part → ℕ
size_of (PagePart pages) = length pages
size_of (RedoPart from count) = count

-- piece i, where a part is cut into pieces of this size
abbrev pub piece : ℕ → Part → ℕ → Part
piece size (PagePart pages) i = PagePart (take size (drop (size * i) pages))
piece size (RedoPart from count) i = RedoPart (from + size * i) (min size (count - size * i))

-- its pieces in order. The last one has what is left.
abbrev pub cut : ℕ → Part → List Part
cut size part = map (piece size part) (range_with_len 0 (div_ceil (size_of part) size))

-- so many pages of a space, from one on
abbrev pub run : ℕ → ℕ → ℕ → List (ℕ × ℕ)
run space first count = map (λ number. (space, number)) (range_with_len first count)

-- all pages of a space
abbrev pub pages_of_space : ℕ × ℕ → List (ℕ × ℕ)
pages_of_space space = run space.0 0 space.1

-- THE CHUNKS of a stage, from chunk 0 on. One of files has pages of one space.
abbrev pub chunks_of : StageList → List Part
chunks_of (Files spaces) =
    flat_map (λ space. cut CHUNK_PAGES (PagePart (pages_of_space space))) spaces
chunks_of (Pages pages) = cut CHUNK_PAGES (PagePart pages)
chunks_of (Redo start end) = cut CHUNK_BYTES (RedoPart start (end - start))
chunks_of Nothing = []

-- how many there are
abbrev pub chunk_count : StageList → ℕ
chunk_count (Files spaces) = sum_by (λ space. div_ceil space.1 CHUNK_PAGES) spaces
chunk_count (Pages pages) = div_ceil (length pages) CHUNK_PAGES
chunk_count (Redo start end) = div_ceil (end - start) CHUNK_BYTES
chunk_count Nothing = 0

-- THE BLOCKS of a chunk
abbrev pub blocks_of : Part → List Part
blocks_of (PagePart pages) = cut BLOCK_PAGES (PagePart pages)
blocks_of (RedoPart from count) = cut BLOCK_BYTES (RedoPart from count)

-- those of the chunk with this number, or none where there is no such chunk
abbrev pub blocks_at : StageList → ℕ → List Part
blocks_at list chunk = option_map_or blocks_of (slice_get (chunks_of list) chunk) []

abbrev pub block_count : StageList → ℕ → ℕ
block_count list chunk = length (blocks_at list chunk)

-- the block with this number, if the chunk has it
abbrev pub block_of : StageList → ℕ → ℕ → Option Part
block_of list chunk block = slice_get (blocks_at list chunk) block

-- a block has a page or a byte at least, and at most so many
abbrev pub IsBlockSized : Part → Type 0
IsBlockSized (PagePart pages) = (0 < length pages) × (length pages ≤ BLOCK_PAGES)
IsBlockSized (RedoPart from count) = (0 < count) × (count ≤ BLOCK_BYTES)

-- the pages of a part in their order, and those of a whole list
abbrev pub pages_of : Part → List (ℕ × ℕ)
pages_of (PagePart pages) = pages
pages_of (RedoPart from count) = []

abbrev pub all_pages : StageList → List (ℕ × ℕ)
all_pages (Files spaces) = flat_map pages_of_space spaces
all_pages (Pages pages) = pages
all_pages (Redo start end) = []
all_pages Nothing = []

-- the LSNs of the bytes of a part, and those of a whole list
abbrev pub bytes_of : Part → List ℕ
bytes_of (PagePart pages) = []
bytes_of (RedoPart from count) = range_with_len from count

abbrev pub all_bytes : StageList → List ℕ
all_bytes (Files spaces) = []
all_bytes (Pages pages) = []
all_bytes (Redo start end) = range_with_len start (end - start)
all_bytes Nothing = []
