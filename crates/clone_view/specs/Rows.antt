-- THE BLOCKS OF A STAGE IN ONE ROW: those of chunk 0 first, then those of chunk 1, and so on.
use Rattle.std.specs.Prelude.{ℕ, zero, suc, ◌+◌, ◌-◌, nat_lt, Bool, false, List, [], ◌∷◌}
use Rattle.std.specs.Prelude.{if◌then◌else◌}
use Rattle.clone_chunk.specs.Chunks.{is_kept}
use Rattle.clone_marks.specs.declared.chunk_marks.ChunkMarks.{ChunkMarks}
use Rattle.clone_marks.specs.Blocks.{has_block}

-- how many places there are, where the chunks have so many blocks
abbrev pub places : List ℕ → ℕ
places [] = 0
places (n ∷ counts) = n + places counts

-- the place of a block of a chunk
abbrev pub place_of : List ℕ → (chunk block : ℕ) → ℕ
place_of [] chunk block = block
place_of (n ∷ counts) zero block = block
place_of (n ∷ counts) (suc chunk) block = n + place_of counts chunk block

-- the block at a place was taken
abbrev pub taken_at : List ChunkMarks → ℕ → Bool
taken_at [] place = false
taken_at (c ∷ marks) place =
    if nat_lt place c.blocks then has_block place c else taken_at marks (place - c.blocks)

-- so many blocks of a chunk from one on, by the place of the chunk's first: those that aren't kept
abbrev pub left_from : (first kept block count : ℕ) → List ℕ
left_from first kept block zero = []
left_from first kept block (suc count) =
    if is_kept kept block then left_from first kept (block + 1) count
    else (first + block) ∷ left_from first kept (block + 1) count
