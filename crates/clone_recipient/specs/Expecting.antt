-- WHICH ANSWERS A TASK MAY TAKE.
use Rattle.std.specs.Prelude.{ℕ, ◌+◌, ◌-◌, ◌*◌, ◌==◌, ◌&&◌, nat_lt, nat_le, Bool, true, false, List}
use Rattle.std.specs.Prelude.{[], ◌∷◌, length, None, Some}
use Rattle.std.specs.declared.option.Option.{Option}
use Rattle.std.specs.Int.{div_ceil}
use Rattle.std.specs.Option.{option_map_or}
use Rattle.clone_base.specs.declared.limits.TheConstants.{LSN_LIMIT}
use Rattle.clone_model.specs.declared.line.TheConstants.{MOST_PAGES}
use Rattle.clone_chunk.specs.Plans as plans
use Rattle.clone_chunk.specs.declared.copy_stage.CopyStage.{CopyStage}
use Rattle.clone_chunk.specs.declared.copy_stage.CopyStage.TheVariants as copy
use Rattle.clone_chunk.specs.declared.plan.StagePlan.{StagePlan}
use Rattle.clone_chunk.specs.declared.plan.StagePlan.TheVariants.{FileCopy, PageCopy, RedoCopy}
use Rattle.clone_chunk.specs.declared.plan.StagePlan.TheVariants.{Done}
use Rattle.clone_chunk.specs.declared.spaces.SpaceSize.{SpaceSize}
use Rattle.clone_snapshot.specs.StageLists.{StageList, Files, Redo, Part, PagePart, RedoPart}
use Rattle.clone_snapshot.specs.StageLists.{block_of, chunk_count, size_of}
use Rattle.clone_snapshot.specs.declared.sizes.TheConstants.{CHUNK_PAGES, CHUNK_BYTES}
use Rattle.clone_accepted.specs.Disk.{distance_of}
use Rattle.clone_marks.specs.Counts.{counted_pages, pairs_of}
use Rattle.clone_page.specs.declared.pages.PageAt.{PageAt}
use Rattle.clone_wire.specs.declared.frame.Frame.{Frame}
use Rattle.clone_wire.specs.declared.frame.Frame.TheVariants as frame
use Rattle.clone_wire.specs.declared.stage.PageStage.{PageStage}
use Rattle.clone_wire.specs.declared.stage.PageStage.TheVariants as page
use Rattle.clone_tasks.specs.Awaiting.{is_present, awaits_stage, awaits_block, awaits_end_of}
use Rattle.clone_tasks.specs.Tables.{standing_of, awaits}
use Rattle.clone_recipient.specs.declared.limits.TheConstants.{MOST_SPACE, MOST_COPIED}
use Rattle.clone_recipient.specs.Receptions.{Reception}

-- ---- a STAGE

-- a space has a number that isn't below the least, and 1 to 65,536 pages
abbrev pub is_space : ℕ → SpaceSize → Bool
is_space least s =
    nat_le least s.space && nat_le s.space MOST_SPACE && nat_le 1 s.pages
    && nat_le s.pages MOST_PAGES

-- such spaces, which ascend
abbrev pub are_spaces : ℕ → List SpaceSize → Bool
are_spaces least [] = true
are_spaces least (s ∷ spaces) = is_space least s && are_spaces (s.space + 1) spaces

-- THE NUMBERS OF A STAGE fit one another
abbrev pub fits : StagePlan → Bool
fits (FileCopy chunks spaces) =
    are_spaces 0 spaces && (chunks == chunk_count (Files (pairs_of spaces)))
fits (PageCopy chunks position spaces) =
    are_spaces 0 spaces && nat_le position MOST_COPIED
    && (chunks == div_ceil position CHUNK_PAGES)
fits (RedoCopy chunks checkpoint lsn position) =
    nat_le checkpoint lsn && nat_lt lsn LSN_LIMIT
    && (chunks == div_ceil (lsn - checkpoint) CHUNK_BYTES)
fits (Done checkpoint lsn position) = true

-- ---- a block

-- how many pages or bytes a block has, 0 where there is no such block
abbrev pub size_at : StageList → ℕ → ℕ → ℕ
size_at list chunk block = option_map_or size_of (block_of list chunk block) 0

abbrev pub is_at : ℕ × ℕ → PageAt → Bool
is_at place p = (p.space == place.0) && (p.number == place.1)

-- the pages have these places, in their order
abbrev pub are_at : List (ℕ × ℕ) → List PageAt → Bool
are_at [] [] = true
are_at [] (p ∷ pages) = false
are_at (place ∷ places) [] = false
are_at (place ∷ places) (p ∷ pages) = is_at place p && are_at places pages

-- the pages are those of the block
abbrev pub are_pages_of : Option Part → List PageAt → Bool
are_pages_of None pages = false
are_pages_of (Some (PagePart places)) pages = are_at places pages
are_pages_of (Some (RedoPart from count)) pages = false

-- pages of all spaces are ordered by their spaces, and in a space by their numbers
abbrev pub place_of : PageAt → ℕ
place_of p = MOST_PAGES * p.space + p.number

-- a page may be one of a space, and its place isn't below the least
abbrev pub is_page : ℕ → PageAt → Bool
is_page least p =
    nat_le least (place_of p) && nat_le p.space MOST_SPACE && nat_lt p.number MOST_PAGES

-- such pages, which ascend
abbrev pub are_pages : ℕ → List PageAt → Bool
are_pages least [] = true
are_pages least (p ∷ pages) = is_page least p && are_pages (place_of p + 1) pages

-- THE PAGES OF A BLOCK: they ascend, in FILE COPY they are known, and in PAGE COPY their number is
abbrev pub fits_block : PageStage → Reception → ℕ → ℕ → List PageAt → Bool
fits_block page.FileCopy r chunk block pages =
    are_pages_of (block_of (Files r.files) chunk block) pages
fits_block page.PageCopy r chunk block pages =
    length pages == size_at (counted_pages r.pages) chunk block

abbrev pub fits_pages : PageStage → Reception → ℕ → ℕ → List PageAt → Bool
fits_pages stage r chunk block pages = are_pages 0 pages && fits_block stage r chunk block pages

-- THE REDO OF A BLOCK has its place and its length
abbrev pub fits_redo : Reception → ℕ → ℕ → ℕ → List ℕ → Bool
fits_redo r chunk block from bytes =
    (from == r.checkpoint + distance_of chunk block)
    && (length bytes == size_at (Redo r.checkpoint r.lsn) chunk block)

-- the stage of pages among those in which something is copied
abbrev pub copied_in : PageStage → CopyStage
copied_in page.FileCopy = copy.FileCopy
copied_in page.PageCopy = copy.PageCopy

-- ---- THE ANSWER that a task may take next
abbrev pub is_expected : Reception → ℕ → Frame → Bool
is_expected r task (frame.Init attempt version page_size compressed tasks) = false
is_expected r task (frame.Attach attempt other) = false
is_expected r task (frame.Reinit attempt stage finished) = false
is_expected r task (frame.Reinit2 attempt stage taken) = false
is_expected r task (frame.Execute stage) = false
is_expected r task (frame.Ack stage floor) = false
is_expected r task frame.Exit = false
is_expected r task (frame.Stage attempt plan) =
    is_present r.table attempt && awaits_stage r.table task (plans.stage_of plan) && fits plan
is_expected r task (frame.Pages attempt stage chunk block pages) =
    is_present r.table attempt && awaits_block r.table task (copied_in stage) chunk block
    && fits_pages stage r chunk block pages
is_expected r task (frame.Redo attempt chunk block from bytes) =
    is_present r.table attempt && awaits_block r.table task copy.RedoCopy chunk block
    && fits_redo r chunk block from bytes
is_expected r task (frame.End attempt stage) =
    is_present r.table attempt && awaits_end_of r.table task stage
is_expected r task (frame.Refused cause) = awaits (standing_of r.table task)
