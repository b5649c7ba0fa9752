-- What is read of a donor's pages, for a clone.
use Rattle.std.specs.Prelude.{ℕ, ◌≡◌, ◌≤◌, List, Some, IsSome, Result, Ok, Err}
use Rattle.clone_outside.specs.Disk.{ForTold, GivesQuiet}
use Rattle.clone_outside.specs.declared.Refusal.{Refusal}
use Rattle.clone_image.specs.Image.{page_of}
use Rattle.clone_law.specs.Machine.{Event, Allowed, FileRead, PageRead}
use Rattle.clone_buffer.specs.Buffered.{image_of}
use Rattle.clone_buffer.specs.OnePage.{Copies, world_of}
use Rattle.clone_buffer.specs.Reading.{OthersAreClosed}
use Rattle.clone_flush.specs.Flights.{beside_of}
use Rattle.clone_plain.specs.declared.refusal.Cause.TheVariants.{DiskFault}
use Rattle.clone_plain.specs.declared.refusal.EngineRefusal.{EngineRefusal}
use Rattle.clone_plain.specs.declared.refusal.EngineRefusal.TheVariants.{Because}
use Rattle.clone_engine.specs.Engine.{Engine, IsInFile}

-- where the disk tells what it holds, the law of the page allows the event, whatever a clone has of
-- the page
abbrev pub MayHappen : Engine → ℕ → ℕ → Event → Type 0
MayHappen e space number event =
    ForTold e.disk.told (λ m. (copies : Copies)
    → Allowed space number (world_of e.buffer (beside_of e.flights copies) m space number) event)

-- The bytes are those of the disk, unless a write of the page is open there. They may be read of a
-- page within its file in FILE COPY.
pub record ReadsFile (e : Engine) (space number : ℕ) (bytes : List ℕ) : Type 0 where
  pub quiet : ForTold e.disk.told (λ m. GivesQuiet m space number bytes)
  pub allowed : IsInFile e space number → MayHappen e space number (FileRead bytes)

-- The bytes are the page as it is, if the log makes it. They may be read of it in PAGE COPY.
pub record ReadsPage (e : Engine) (space number : ℕ) (bytes : List ℕ) : Type 0 where
  pub page : IsSome (page_of (image_of e.buffer) space number)
      → ForTold e.disk.told (λ m. page_of (image_of e.buffer) space number ≡ Some bytes)
  pub allowed : IsSome (page_of (image_of e.buffer) space number)
      → MayHappen e space number (PageRead bytes)

-- each page that isn't listed is closed, where the disk tells what it holds
abbrev pub ListsOpen : Engine → List (ℕ × ℕ) → Type 0
ListsOpen e pages =
    ForTold e.disk.told (λ m. (copies : Copies)
    → OthersAreClosed e.buffer (beside_of e.flights copies) m pages)

-- nothing has changed but the disk's count of faults, which hasn't fallen
pub record OnlyVisits (s t : Engine) : Type 0 where
  pub same : t ≡ record s { disk = record s.disk { failures = t.disk.failures } }
  pub later : s.disk.failures ≤ t.disk.failures

-- what a read of a page answers
abbrev pub read_answer : {X : Type 0} → Result X Refusal → Result X EngineRefusal
read_answer (Ok x) = Ok x
read_answer (Err refusal) = Err (Because DiskFault)
