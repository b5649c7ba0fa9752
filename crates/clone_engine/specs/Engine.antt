-- An engine as contracts see it: the plain donor that it is, its pages, its flushes and its disk.
use Rattle.std.specs.Prelude.{ℕ, ◌≡◌, ◌≢◌, ◌<◌, ◌≤◌, ◌+◌, Some, IsSome}
use Rattle.std.specs.FinMap as finite
use Rattle.clone_outside.specs.Disk.{ForTold}
use Rattle.clone_image.specs.Image.{page_of}
use Rattle.clone_model.specs.declared.line.TheConstants.{MOST_PAGES}
use Rattle.clone_buffer.specs.Buffered.{Buffered, image_of}
use Rattle.clone_buffer.specs.OnePage.{Copies, no_copies}
use Rattle.clone_flush.specs.Calls.{State}
use Rattle.clone_flush.specs.Flights.{Files, Flights, HasFiles, StandsFlown, beyond}
use Rattle.clone_recover.specs.Reading.{AreOfTables}
use Rattle.clone_plain.specs.Donor.{Donor}
use Rattle.clone_trx.specs.Kept.{Keeps}
use Rattle.clone_outside.specs.DiskCalls.{DiskState}

pub record Engine : Type 0 where
  pub donor : Donor
  pub buffer : Buffered
  pub flights : Flights
  pub disk : DiskState

-- its pages, and those on their way to the disk
abbrev pub state_of : Engine → State
state_of e = record { buffer = e.buffer; flights = e.flights }

-- where the disk tells what it holds, its pages stand over that, with what a clone has of each
abbrev pub StandsBeside : Engine → Copies → Type 0
StandsBeside e copies = StandsFlown e.buffer e.flights copies e.disk.told

-- A file is known of the system space and of each table, and of no other space. It has 1 page to as
-- many as a space may have.
pub record AreOfDonor (d : Donor) (files : Files) : Type 0 where
  pub system : IsSome (finite.get files 0)
  pub tables : (table : ℕ) → IsSome (finite.get d.tables table) → IsSome (finite.get files table)
  pub others : (space : ℕ) → space ≢ 0 → IsSome (finite.get files space)
      → IsSome (finite.get d.tables space)
  pub count : finite.len files ≡ finite.len d.tables + 1
  pub sizes : (space pages : ℕ) → finite.get files space ≡ Some pages
      → (1 ≤ pages) × (pages ≤ MOST_PAGES)

-- the page lies within its file, as far as that is known
pub record LiesIn (files : Files) (space number : ℕ) : Type 0 where
  pub pages : ℕ
  pub file : finite.get files space ≡ Some pages
  pub within : number < pages

abbrev pub IsInFile : Engine → ℕ → ℕ → Type 0
IsInFile e space number = LiesIn e.flights.files space number

-- the log makes each page within its file
abbrev pub MakesPages : Files → Buffered → Type 0
MakesPages files b =
    (space number : ℕ) → LiesIn files space number → IsSome (page_of (image_of b) space number)

-- What holds of every engine.
pub record IsEngine (e : Engine) : Type 0 where
  -- no frame is pinned, and the pages keep what the plain donor is
  pub keeps : Keeps e.donor e.buffer
  -- where the disk tells what it holds, the pages stand over it
  pub stands : StandsBeside e no_copies
  -- each file that is known is there, so long at least
  pub files : ForTold e.disk.told (HasFiles e.flights.files)
  pub spaces : AreOfDonor e.donor e.flights.files
  pub within : ForTold e.disk.told (λ _. MakesPages e.flights.files e.buffer)
  -- a clone may have of each page past the end of its file that it isn't there
  pub short : StandsBeside e (beyond e.flights.files)
  -- no record of the log names a space that is no table's
  pub tables : AreOfTables e.buffer.log
