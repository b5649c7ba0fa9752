-- Redo bytes that are laid on a disk, each at its distance from the checkpoint.
use Rattle.std.specs.Prelude.{ℕ, ◌-◌, ◌*◌, ◌/◌, List, [], ◌∷◌, ◌++◌, length, take, drop, map, replicate}
use Rattle.std.specs.Int.{div_ceil}
use Rattle.std.specs.List.{range_with_len}
use Rattle.clone_base.specs.declared.limits.TheConstants.{PAGE_SIZE, REDO_SPACE}
use Rattle.clone_outside.specs.Disk.{DiskImage, whole}
use Rattle.clone_outside.specs.declared.disk.Held.{Held}
use Rattle.clone_lay.specs.declared.laying.TheConstants.{REDO_BLOCK}
use Rattle.clone_lay.specs.Laid.{with_laid}

-- how many pages so many bytes take
abbrev pub pages_for : ℕ → ℕ
pages_for bytes = div_ceil bytes PAGE_SIZE

-- the bytes of a page, and zero bytes behind them up to its end
abbrev pub filled : List ℕ → List ℕ
filled bytes = bytes ++ replicate (PAGE_SIZE - length bytes) 0

-- the redo page of this number
abbrev pub redo_page : List ℕ → ℕ → List ℕ
redo_page redo number = filled (take PAGE_SIZE (drop (PAGE_SIZE * number) redo))

-- the pages of redo bytes, the last one filled with zero bytes
abbrev pub redo_pages : List ℕ → List Held
redo_pages redo =
    map (λ number. whole (redo_page redo number)) (range_with_len 0 (pages_for (length redo)))

-- redo bytes stand in the redo's space, so many bytes from where it begins
abbrev pub laid_redo : ℕ → List ℕ → DiskImage → DiskImage
laid_redo distance bytes m = with_laid REDO_SPACE (distance / PAGE_SIZE) (redo_pages bytes) m

-- the block of redo bytes that has this number
abbrev pub redo_block : List ℕ → ℕ → List ℕ
redo_block redo number = take REDO_BLOCK (drop (REDO_BLOCK * number) redo)

-- the blocks that have these numbers were laid, one after the other
abbrev pub laid_blocks : List ℕ → List ℕ → DiskImage → DiskImage
laid_blocks redo [] m = m
laid_blocks redo (k ∷ ks) m = laid_blocks redo ks (laid_redo (REDO_BLOCK * k) (redo_block redo k) m)
