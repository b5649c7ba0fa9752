-- What the law of one page has of a read, and of the pages whose write counts as open.
use Rattle.std.specs.Prelude.{ℕ, ◌≡◌, false, List, None, Some, IsSome}
use Rattle.std.specs.declared.option.Option.{Option}
use Rattle.std.specs.List.{Contains}
use Rattle.clone_outside.specs.Disk as disk
use Rattle.clone_outside.specs.Disk.{DiskImage, ForTold, GivesQuiet}
use Rattle.clone_image.specs.Image.{page_of}
use Rattle.clone_image.specs.Redone.{redone}
use Rattle.clone_law.specs.Machine.{PageEngine, Allowed, HasSpace, FileRead, PageRead}
use Rattle.clone_buffer.specs.Buffered.{Buffered, IsBuffer, image_of}
use Rattle.clone_buffer.specs.OnePage.{Beside, engine_of, world_of}
use Rattle.clone_buffer.specs.Keeping.{IsKept}

-- no write of the page is open, and no flush of it is under way
pub record IsClosed (e : PageEngine) : Type 0 where
  pub closed : e.writing ≡ false
  pub grounded : e.flight ≡ None

-- each page that isn't listed is closed
abbrev pub OthersAreClosed : Buffered → Beside → DiskImage → List (ℕ × ℕ) → Type 0
OthersAreClosed v beside m pages =
    (space number : ℕ) → (Contains pages (space, number) → ⊥)
    → IsClosed (engine_of v beside m space number)

-- the bytes are the page now, and the law of the page allows that they were read in PAGE COPY
pub record IsLatest (v : Buffered) (beside : Beside) (m : DiskImage) (space number : ℕ)
    (bytes : List ℕ) : Type 0 where
  pub page : page_of (image_of v) space number ≡ Some bytes
  pub allowed : Allowed space number (world_of v beside m space number) (PageRead bytes)

-- where the buffer stands over a disk, and the log makes the page
abbrev pub ReadsLatest : Buffered → Option DiskImage → ℕ → ℕ → List ℕ → Type 0
ReadsLatest v told space number bytes =
    ForTold told (λ m. (beside : Beside) → IsKept v beside m
    → IsSome (page_of (image_of v) space number) → IsLatest v beside m space number bytes)

-- What a disk gives of a page that is there, and whose space the log makes, the law of the page
-- allows as read in FILE COPY.
abbrev pub FileReadAllowed : Type 0
FileReadAllowed =
    (v : Buffered) (beside : Beside) (m : DiskImage) (space number : ℕ) (bytes : List ℕ)
    → IsBuffer v → IsKept v beside m → HasSpace (redone space number v.log)
    → IsSome (disk.page_of m space number) → GivesQuiet m space number bytes
    → Allowed space number (world_of v beside m space number) (FileRead bytes)
