-- One page of a buffer over a disk that tells what it holds, in the words of the law of one page.
use Rattle.std.specs.Prelude.{ℕ, ◌≡◌, ◌==◌, ◌&&◌, Bool, true, false, List, None, Some, slice_get, option_map, if◌then◌else◌}
use Rattle.std.specs.declared.option.Option.{Option}
use Rattle.std.specs.FinMap as finite
use Rattle.clone_outside.specs.Disk.{DiskImage, page_of}
use Rattle.clone_outside.specs.declared.disk.Held.{Held}
use Rattle.clone_mtr.specs.declared.record.Record.{Record}
use Rattle.clone_image.specs.Replay.{first_lsn}
use Rattle.clone_image.specs.Redone.{Standing, no_space, past_end, stands, made, redone}
use Rattle.clone_law.specs.Machine as machine
use Rattle.clone_law.specs.Machine.{Copy, PageEngine, Flight, NoFiles, PageWorld, created}
use Rattle.clone_pool.specs.declared.frame.Frame.{Frame}
use Rattle.clone_pool.specs.declared.frame.Flush.{Flush}
use Rattle.clone_pool.specs.declared.frame.Flush.TheVariants.{Idle, Begun, Failed}
use Rattle.clone_pool.specs.Frames.{frame_at, holder, is_fresh}
use Rattle.clone_buffer.specs.Buffered.{Buffered}

-- what a clone has of each page
abbrev pub Copies : Type 0
Copies = ℕ → ℕ → Copy

-- no clone is under way
abbrev pub no_copies : Copies
no_copies = λ space number. machine.Idle

-- what a clone has of each page after a space of so many pages was made: each page of it starts as
-- it was made
abbrev pub after_create : ℕ → ℕ → Copies → Copies
after_create space pages copies = λ s number.
    if s == space then created (made number pages) (copies s number) else copies s number

-- no clone is in the FILE COPY of the space
abbrev pub NoFilesOf : ℕ → Copies → Type 0
NoFilesOf space copies = (number : ℕ) → NoFiles (copies space number)

-- what is kept beside a buffer: the last checkpoint, the image of each page on its way to the disk,
-- and what a clone has of each page
pub record Beside : Type 0 where
  pub checkpoint : ℕ
  pub image : ℕ → ℕ → Option (List ℕ)
  pub copy : Copies

-- no page of the space is on its way to the disk
abbrev pub NoFlightsOf : ℕ → Beside → Type 0
NoFlightsOf space beside = (number : ℕ) → beside.image space number ≡ None

-- no checkpoint since the log began, no flush, and no clone
abbrev pub at_rest : Beside
at_rest = record { checkpoint = first_lsn; image = λ space number. None; copy = no_copies }

-- how a page stands on the disk
abbrev pub standing_at : Option Held → Standing
standing_at None = past_end
standing_at (Some page) = stands page.bytes

abbrev pub standing_in : Option (List Held) → ℕ → Standing
standing_in None number = no_space
standing_in (Some pages) number = standing_at (slice_get pages number)

-- how the page of this number of this space stands there
abbrev pub disk_standing : DiskImage → ℕ → ℕ → Standing
disk_standing m space number = standing_in (finite.get m.spaces space) number

abbrev pub is_open : Option Held → Bool
is_open None = false
is_open (Some page) = page.writing

abbrev pub has_space : Standing → Bool
has_space no_space = false
has_space past_end = true
has_space (stands page) = true

-- A frame that has the page. A new page that no change has made doesn't count.
abbrev pub frame_in : List Frame → Option ℕ → Option Frame
frame_in frames None = None
frame_in frames (Some at) =
    if is_fresh (frame_at frames at).content then None else Some (frame_at frames at)

abbrev pub frame_of : List Frame → ℕ → ℕ → Option Frame
frame_of frames space number =
    frame_in frames (holder frames (record { space = space; number = number }))

abbrev pub bytes_in : Option Frame → Option (List ℕ)
bytes_in frame = option_map (λ f. f.page) frame

abbrev pub oldest_in : Option Frame → Option ℕ
oldest_in None = None
oldest_in (Some f) = f.oldest

abbrev pub flush_in : Option Frame → Flush
flush_in None = Idle
flush_in (Some f) = f.flush

-- the flush that has begun, with the image that it writes
abbrev pub flight_of : Flush → Option (List ℕ) → Option Flight
flight_of Idle image = None
flight_of (Begun later) image = option_map (λ bytes. record { image = bytes; later = later }) image
flight_of Failed image = None

-- the page as the log, the disk, its frame and its flush have it
abbrev pub engine_with : List (List Record) → Beside → DiskImage → ℕ → ℕ → Option Frame → PageEngine
engine_with log beside m space number frame = record {
  log = log;
  checkpoint = beside.checkpoint;
  disk = disk_standing m space number;
  writing = is_open (page_of m space number) && has_space (redone space number log);
  frame = bytes_in frame;
  oldest = oldest_in frame;
  flight = flight_of (flush_in frame) (beside.image space number);
}

abbrev pub engine_of : Buffered → Beside → DiskImage → ℕ → ℕ → PageEngine
engine_of v beside m space number =
    engine_with v.log beside m space number (frame_of v.pool.frames space number)

-- the page in the donor, and in a clone
abbrev pub world_with : List (List Record) → Beside → DiskImage → ℕ → ℕ → Option Frame → PageWorld
world_with log beside m space number frame = record {
  engine = engine_with log beside m space number frame;
  copy = beside.copy space number;
}

abbrev pub world_of : Buffered → Beside → DiskImage → ℕ → ℕ → PageWorld
world_of v beside m space number =
    world_with v.log beside m space number (frame_of v.pool.frames space number)
