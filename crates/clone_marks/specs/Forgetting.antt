-- What a loss leaves of the blocks that were taken.
use Rattle.std.specs.Prelude.{ℕ, ◌-◌, ◌==◌, ◌&&◌, List, [], ◌∷◌, if◌then◌else◌}
use Rattle.clone_marks.specs.declared.chunk_marks.ChunkMarks.{ChunkMarks}
use Rattle.clone_marks.specs.Blocks.{is_partial}

-- none of its blocks was taken
abbrev pub emptied : ChunkMarks → ChunkMarks
emptied c = record { blocks = c.blocks; taken = 0 }

-- a partial chunk loses its blocks where no more may keep theirs
abbrev pub left_of : ℕ → ChunkMarks → ChunkMarks
left_of kept c = if is_partial c && (kept == 0) then emptied c else c

-- how many may keep theirs after it
abbrev pub kept_after : ℕ → ChunkMarks → ℕ
kept_after kept c = if is_partial c then kept - 1 else kept

-- WHAT IS LEFT: the first so many partial chunks keep their blocks
abbrev pub forgotten : ℕ → List ChunkMarks → List ChunkMarks
forgotten kept [] = []
forgotten kept (c ∷ marks) = left_of kept c ∷ forgotten (kept_after kept c) marks
