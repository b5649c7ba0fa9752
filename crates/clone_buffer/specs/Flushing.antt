-- What a flush does to the page of one frame, and to what is kept beside a buffer.
use Rattle.std.specs.Prelude.{ℕ, ◌≡◌, ◌≤◌, ◌⊎◌, true, false, List, take, None, Some, IsSome, if◌then◌else◌}
use Rattle.std.specs.declared.option.Option.{Option}
use Rattle.clone_outside.specs.Disk as disk
use Rattle.clone_outside.specs.Disk.{DiskImage}
use Rattle.clone_outside.specs.declared.disk.Held.{Held}
use Rattle.clone_outside.specs.declared.disk.TheConstants.{HALF_PAGE}
use Rattle.clone_law.specs.Since.{ends}
use Rattle.clone_law.specs.Machine.{noted}
use Rattle.clone_pool.specs.declared.frame.Frame.{Frame}
use Rattle.clone_pool.specs.declared.frame.PageName.{PageName}
use Rattle.clone_pool.specs.Index.{is_name_of}
use Rattle.clone_pool.specs.Frames.{frame_at, name_of, is_waiting, IsInFlight, begun, landed, failed}
use Rattle.clone_pool.specs.Pool.{IsPool, AreClean, IsOldest, with_frame}
use Rattle.clone_buffer.specs.Buffered.{Buffered}
use Rattle.clone_buffer.specs.OnePage.{Beside, Copies}
use Rattle.clone_buffer.specs.Keeping.{IsKept}

-- the image of the page that is on its way to the disk, or none any more
abbrev pub with_image : PageName → Option (List ℕ) → Beside → Beside
with_image page image beside = record beside {
  image = λ space number.
      if is_name_of page (Some (record { space = space; number = number }))
      then image
      else beside.image space number;
}

-- a clone's tracker has noted the page
abbrev pub with_noted : PageName → Copies → Copies
with_noted page copies = λ space number.
    if is_name_of page (Some (record { space = space; number = number }))
    then noted (copies space number)
    else copies space number

-- the page's flush has begun with this image, and a clone's tracker has noted it
abbrev pub with_begun : PageName → List ℕ → Beside → Beside
with_begun page image beside =
    record (with_image page (Some image) beside) { copy = with_noted page beside.copy }

-- the frame with this number has become another one
abbrev pub with_change : ℕ → (Frame → Frame) → Buffered → Buffered
with_change at change v = record v { pool = with_frame at change v.pool }

-- the page's frame is the one with this number, in a pool that is one after the change too
pub record Changes (v : Buffered) (page : PageName) (at : ℕ) (change : Frame → Frame) : Type 0 where
  pub old : IsPool v.pool
  pub new : IsPool (with_frame at change v.pool)
  pub name : name_of (frame_at v.pool.frames at) ≡ Some page

-- a flush of a page begins: its image is what the frame has then, and a clone's tracker notes it
abbrev pub BeginKeeps : Type 0
BeginKeeps =
    (v : Buffered) (beside : Beside) (m : DiskImage) (page : PageName) (at : ℕ)
    → Changes v page at begun → is_waiting (frame_at v.pool.frames at) ≡ true
    → IsKept v beside m
    → IsKept (with_change at begun v)
    (with_begun page (frame_at v.pool.frames at).page beside) m

-- while a flush of a page is under way, its write may be opened, over any bytes
abbrev pub OpenKeeps : Type 0
OpenKeeps =
    (v : Buffered) (beside : Beside) (m : DiskImage) (page : PageName) (at : ℕ)
    (edit : Held → Held)
    → IsPool v.pool → name_of (frame_at v.pool.frames at) ≡ Some page
    → IsInFlight (frame_at v.pool.frames at)
    → IsSome (disk.page_of m page.space page.number) → ((held : Held) → (edit held).writing ≡ true)
    → IsKept v beside m → IsKept v beside (disk.with_page m page.space page.number edit)

-- the write that closes makes the disk's page the image, and the flush lands
abbrev pub LandKeeps : Type 0
LandKeeps =
    (v : Buffered) (beside : Beside) (m : DiskImage) (page : PageName) (at : ℕ) (image : List ℕ)
    (held : Held) (edit : Held → Held)
    → Changes v page at landed → IsInFlight (frame_at v.pool.frames at)
    → beside.image page.space page.number ≡ Some image
    → disk.page_of m page.space page.number ≡ Some held
    → edit held ≡ record { bytes = image; writing = false }
    → IsKept v beside m
    → IsKept (with_change at landed v) (with_image page None beside)
    (disk.with_page m page.space page.number edit)

-- the rest of an image makes the disk's page the image, where its first half is there
abbrev pub RestLands : Type 0
RestLands =
    (image : List ℕ) (held : Held) → take HALF_PAGE held.bytes ≡ take HALF_PAGE image
    → disk.rest_written image held ≡ record { bytes = image; writing = false }

-- a flush fails, whatever the disk has of the page
abbrev pub FailKeeps : Type 0
FailKeeps =
    (v : Buffered) (beside : Beside) (m : DiskImage) (page : PageName) (at : ℕ)
    → Changes v page at failed → IsInFlight (frame_at v.pool.frames at)
    → IsKept v beside m → IsKept (with_change at failed v) (with_image page None beside) m

-- a flush begins and fails before any of the page is written
abbrev pub FaultKeeps : Type 0
FaultKeeps =
    (v : Buffered) (beside : Beside) (m : DiskImage) (page : PageName) (at : ℕ)
    → Changes v page at begun → Changes (with_change at begun v) page at failed
    → is_waiting (frame_at v.pool.frames at) ≡ true
    → IsKept v beside m → IsKept (with_change at failed (with_change at begun v)) beside m

-- the file of a space gets longer by zero pages, if it has fewer
abbrev pub LengthenKeeps : Type 0
LengthenKeeps =
    (v : Buffered) (beside : Beside) (m : DiskImage) (space pages : ℕ) → IsKept v beside m
    → IsKept v beside (disk.with_extended m space pages)

-- the oldest change that isn't on the disk begins there, or there is none and the log ends there
abbrev pub IsReached : Buffered → ℕ → Type 0
IsReached v lsn = IsOldest v.pool.frames lsn ⊎ (AreClean v.pool.frames × (lsn ≡ ends v.log))

-- the checkpoint rises as far as all is on the disk, at most to the log's end
abbrev pub CheckpointKeeps : Type 0
CheckpointKeeps =
    (v : Buffered) (beside : Beside) (m : DiskImage) (lsn : ℕ) → IsPool v.pool → IsReached v lsn
    → IsKept v beside m → (beside.checkpoint ≤ lsn) × (lsn ≤ ends v.log)
    × IsKept v (record beside { checkpoint = lsn }) m
