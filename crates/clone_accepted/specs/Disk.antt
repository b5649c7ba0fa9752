-- What a recipient's disk holds, by what it accepted.
use Rattle.std.specs.Prelude.{ℕ, ◌+◌, ◌*◌, List, [], ◌∷◌}
use Rattle.clone_outside.specs.Disk.{DiskImage}
use Rattle.clone_lay.specs.Laid.{laid_pages, with_room}
use Rattle.clone_lay.specs.Redo.{laid_redo}
use Rattle.clone_base.specs.declared.limits.TheConstants.{BLOCK_BYTES}
use Rattle.clone_snapshot.specs.declared.sizes.TheConstants.{CHUNK_BYTES}
use Rattle.clone_accepted.specs.Answers.{Answer, Item, Moves, PageBlock, RedoBlock, Stage, Takes, Told, ToldDone, ToldFiles, ToldPages, ToldRedo}

-- room is made for each of these spaces in turn
abbrev pub with_rooms : List (ℕ × ℕ) → DiskImage → DiskImage
with_rooms [] m = m
with_rooms (space ∷ spaces) m = with_rooms spaces (with_room space.0 space.1 m)

-- spaces that were made since the files were listed get zero pages
abbrev pub with_told : Told → DiskImage → DiskImage
with_told (ToldFiles spaces) m = m
with_told (ToldPages count made) m = with_rooms made m
with_told (ToldRedo checkpoint lsn position) m = m
with_told ToldDone m = m

-- how far from the checkpoint a block of redo stands
abbrev pub distance_of : (chunk block : ℕ) → ℕ
distance_of chunk block = CHUNK_BYTES * chunk + BLOCK_BYTES * block

-- THE DISK, once an answer was accepted
abbrev pub with_answer : Answer → DiskImage → DiskImage
with_answer (Stage told) m = with_told told m
with_answer (PageBlock stage chunk block pages) m = laid_pages pages m
with_answer (RedoBlock chunk block from bytes) m = laid_redo (distance_of chunk block) bytes m

abbrev pub with_item : Item → DiskImage → DiskImage
with_item (Moves told) m = with_told told m
with_item (Takes answer) m = with_answer answer m

-- and once all of these were
abbrev pub laid : List Item → DiskImage → DiskImage
laid [] m = m
laid (item ∷ items) m = laid items (with_item item m)
