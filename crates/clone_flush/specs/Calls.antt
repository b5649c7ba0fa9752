-- What the calls of a flush do to a buffer, the writes under way, and the disk.
use Rattle.std.specs.Prelude.{ℕ, ◌≡◌, ◌+◌, ◌&&◌, nat_lt, nat_le, min, max, if◌then◌else◌, Bool, false, true, Some, None, Result, Ok, Err}
use Rattle.std.specs.declared.option.Option.{Option}
use Rattle.std.specs.FinMap as finite
use Rattle.clone_outside.specs.Disk.{DiskImage, IsBeforeOrAfter, Opens, Steps, with_extended, with_page, half_written, rest_written}
use Rattle.clone_model.specs.declared.line.TheConstants.{MOST_PAGES}
use Rattle.clone_pool.specs.declared.frame.PageName.{PageName}
use Rattle.clone_pool.specs.Frames.{frame_at, is_dirty, is_begun, IsInFlight, begun, failed, landed}
use Rattle.clone_pool.specs.Pool.{IsHolder}
use Rattle.clone_ring.specs.Window.{Window, end_of, raised}
use Rattle.clone_buffer.specs.Buffered.{Buffered}
use Rattle.clone_buffer.specs.Flushing.{with_change, with_noted}
use Rattle.clone_buffer.specs.OnePage.{Copies}
use Rattle.clone_flush.specs.Flights.{Flights, is_short, write_of}
use Rattle.clone_flush.specs.declared.flusher.PageWrite.{PageWrite}
use Rattle.clone_flush.specs.declared.refusal.FlushRefusal.{FlushRefusal}
use Rattle.clone_flush.specs.declared.refusal.FlushRefusal.TheVariants.{NotDirty, InFlight, NoFlush, DiskFault, NoMemory}

-- a buffer, and the writes of its pages
pub record State : Type 0 where
  pub buffer : Buffered
  pub flights : Flights

-- the page has a frame with a change that isn't on the disk
pub record HasDirty (page : PageName) (b : Buffered) (at : ℕ) : Type 0 where
  pub holder : IsHolder page b.pool.frames at
  pub dirty : is_dirty (frame_at b.pool.frames at) ≡ true

-- the write of a page is under way
abbrev pub with_write : PageName → PageWrite → Flights → Flights
with_write page w f =
    record f { writes = finite.insert f.writes (page.space, page.number) w }

-- it isn't any more
abbrev pub without_write : PageName → Flights → Flights
without_write page f = record f { writes = finite.remove f.writes (page.space, page.number) }

-- the image is the page as it is in the frame, and nothing of it is written
abbrev pub new_write : ℕ → Buffered → PageWrite
new_write at b = record { image = (frame_at b.pool.frames at).page; halved = false }

-- a file has so many pages
abbrev pub with_file : ℕ → ℕ → Flights → Flights
with_file space pages f = record f { files = finite.insert f.files space pages }

-- a file isn't known any more
abbrev pub without_file : ℕ → Flights → Flights
without_file space f = record f { files = finite.remove f.files space }

-- the file of the page ends before it, and may get longer
abbrev pub ends_short : PageName → Flights → Bool
ends_short page f = is_short f.files page.space page.number && nat_lt page.number MOST_PAGES

-- the file is long enough for the page
abbrev pub lengthened : Bool → PageName → Flights → Flights
lengthened false page f = f
lengthened true page f = with_file page.space (page.number + 1) f

-- the disk has the file as long as that
abbrev pub reaching : PageName → DiskImage → DiskImage
reaching page m = with_extended m page.space (page.number + 1)

-- a file that is too short gets longer on the disk, and nothing else changes there
abbrev pub Lengthens : Bool → PageName → Option DiskImage → Option DiskImage → Type 0
Lengthens false page before after = after ≡ before
Lengthens true page before after = Steps before after (reaching page)

-- the page waits for its flush, in this frame
pub record Waits (page : PageName) (b : Buffered) (at : ℕ) : Type 0 where
  pub dirty : HasDirty page b at
  pub quiet : is_begun (frame_at b.pool.frames at).flush ≡ false

-- The file was too short, and the disk failed to lengthen it: the flush has failed.
pub record FailsToLengthen (page : PageName) (old new : State)
    (before after : Option DiskImage) : Type 0 where
  pub at : ℕ
  pub waits : Waits page old.buffer at
  pub short : ends_short page old.flights ≡ true
  pub state : new ≡ record {
    buffer = with_change at failed (with_change at begun old.buffer);
    flights = old.flights;
  }
  pub disk : IsBeforeOrAfter before after (reaching page)

-- A page that isn't dirty is refused first, and then one whose flush has begun.
abbrev pub RefusesBegin : FlushRefusal → PageName → State → State → Option DiskImage
    → Option DiskImage → Type 0
RefusesBegin NotDirty page old new before after =
    ((at : ℕ) → HasDirty page old.buffer at → ⊥) × (new ≡ old) × (after ≡ before)
RefusesBegin InFlight page old new before after =
    (at : ℕ) × HasDirty page old.buffer at × IsInFlight (frame_at old.buffer.pool.frames at)
    × (new ≡ old) × (after ≡ before)
RefusesBegin NoFlush page old new before after = ⊥
RefusesBegin DiskFault page old new before after = FailsToLengthen page old new before after
RefusesBegin NoMemory page old new before after = (new ≡ old) × (after ≡ before)

-- A FLUSH BEGINS, with the page as it is. A file that ends before the page is lengthened first.
abbrev pub Begins : {X : Type 0} → PageName → State → State → Option DiskImage → Option DiskImage
    → Result X FlushRefusal → Type 0
Begins page old new before after (Ok _) =
    (at : ℕ) × Waits page old.buffer at
    × (new ≡ record {
      buffer = with_change at begun old.buffer;
      flights = with_write page (new_write at old.buffer)
          (lengthened (ends_short page old.flights) page old.flights);
    })
    × Lengthens (ends_short page old.flights) page before after
Begins page old new before after (Err refusal) = RefusesBegin refusal page old new before after

-- It STARTS, where the file isn't known to be longer yet.
abbrev pub Starts : {X : Type 0} → PageName → State → State → Option DiskImage → Option DiskImage
    → Result X FlushRefusal → Type 0
Starts page old new before after (Ok _) =
    (at : ℕ) × Waits page old.buffer at
    × (new ≡ record {
      buffer = with_change at begun old.buffer;
      flights = with_write page (new_write at old.buffer) old.flights;
    })
    × Lengthens (ends_short page old.flights) page before after
Starts page old new before after (Err refusal) = RefusesBegin refusal page old new before after

-- the flush of a page began, also where it failed at once
abbrev pub has_begun : {X : Type 0} → Result X FlushRefusal → Bool
has_begun (Ok _) = true
has_begun (Err DiskFault) = true
has_begun (Err NotDirty) = false
has_begun (Err InFlight) = false
has_begun (Err NoFlush) = false
has_begun (Err NoMemory) = false

-- what a clone has of each page where the flush of one began: its tracker has noted that page
abbrev pub after_begin : PageName → Bool → Copies → Copies
after_begin page true copies = with_noted page copies
after_begin page false copies = copies

-- a flush of the page is under way, and its first half is written or not
pub record IsUnderWay (page : PageName) (halved : Bool) (old : State) (w : PageWrite)
    (at : ℕ) : Type 0 where
  pub write : write_of old.flights page ≡ Some w
  pub halved_is : w.halved ≡ halved
  pub holder : IsHolder page old.buffer.pool.frames at
  pub flight : IsInFlight (frame_at old.buffer.pool.frames at)

-- the flush of the page fails
abbrev pub after_failure : PageName → ℕ → State → State
after_failure page at old = record {
  buffer = with_change at failed old.buffer;
  flights = without_write page old.flights;
}

-- A half of the image is written, after which the state is this, and the disk's page that. It is
-- refused where no flush of the page is under way, or its first half is written already, or isn't
-- yet. After a fault of the disk the flush has failed, and the page's write is open.
abbrev pub WritesHalf : {X : Type 0} → PageName → Bool → State → State → Option DiskImage
    → Option DiskImage → Result X FlushRefusal → (ℕ → PageWrite → State)
    → (PageWrite → DiskImage → DiskImage) → Type 0
WritesHalf page halved old new before after (Ok _) state disk =
    (w : PageWrite) × (at : ℕ) × IsUnderWay page halved old w at × (new ≡ state at w)
    × Steps before after (disk w)
WritesHalf page halved old new before after (Err NoFlush) state disk =
    ((w : PageWrite) (at : ℕ) → IsUnderWay page halved old w at → ⊥)
    × (new ≡ old) × (after ≡ before)
WritesHalf page halved old new before after (Err DiskFault) state disk =
    (w : PageWrite) × (at : ℕ) × IsUnderWay page halved old w at
    × (new ≡ after_failure page at old) × Opens page.space page.number before after
WritesHalf page halved old new before after (Err NoMemory) state disk =
    (new ≡ old) × (after ≡ before)
WritesHalf page halved old new before after (Err NotDirty) state disk = ⊥
WritesHalf page halved old new before after (Err InFlight) state disk = ⊥

-- THE FIRST HALF
abbrev pub Halves : {X : Type 0} → PageName → State → State → Option DiskImage → Option DiskImage
    → Result X FlushRefusal → Type 0
Halves page old new before after result =
    WritesHalf page false old new before after result
    (λ at w. record old { flights = with_write page (record w { halved = true }) old.flights })
    (λ w m. with_page m page.space page.number (half_written w.image))

-- THE SECOND. The page is clean then, or dirty from its first change after the flush began.
abbrev pub Lands : {X : Type 0} → PageName → State → State → Option DiskImage → Option DiskImage
    → Result X FlushRefusal → Type 0
Lands page old new before after result =
    WritesHalf page true old new before after result
    (λ at w. record {
      buffer = with_change at landed old.buffer;
      flights = without_write page old.flights;
    })
    (λ w m. with_page m page.space page.number (rest_written w.image))

-- the log goes below an LSN that is above its floor, and within it
abbrev pub floored : ℕ → Window → Window
floored lsn ring =
    if nat_lt ring.floor lsn && nat_le lsn (end_of ring) then raised lsn ring else ring

-- The log is needed from the checkpoint on, and from another LSN on where one is given.
abbrev pub needed_from : ℕ → Option ℕ → ℕ
needed_from checkpoint None = checkpoint
needed_from checkpoint (Some kept) = min checkpoint kept

-- The log below goes.
abbrev pub settled : ℕ → Option ℕ → Buffered → Buffered
settled checkpoint kept_from b =
    record b { ring = floored (needed_from checkpoint kept_from) b.ring }

-- A CHECKPOINT at an LSN
abbrev pub checked : ℕ → Option ℕ → State → State
checked lsn kept_from old = record {
  buffer = settled lsn kept_from old.buffer;
  flights = record old.flights { checkpoint = lsn };
}

-- the LSN nearest to this one from the log's floor to its end
abbrev pub nearest_in : Window → ℕ → ℕ
nearest_in ring lsn = max (min lsn (end_of ring)) ring.floor
