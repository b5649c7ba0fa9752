-- One page of a donor and of the clone that it gives: all that can happen to the page, and when
-- each event may come.
use Rattle.std.specs.Prelude.{ℕ, ◌≡◌, ◌≤◌, ◌⊎◌, ◌++◌, Bool, true, false, List, [], ◌∷◌, None, Some, if◌then◌else◌}
use Rattle.std.specs.declared.option.Option.{Option}
use Rattle.clone_page.specs.Header.{zero_page}
use Rattle.clone_mtr.specs.declared.record.Record.{Record}
use Rattle.clone_image.specs.Redone.{Standing, no_space, past_end, stands, redone}
use Rattle.clone_image.specs.Replay.{first_lsn}
use Rattle.clone_law.specs.Since.{ends, IsAt, Suits}

-- a flush that began: the page's image then, and the start of the first change since
pub record Flight : Type 0 where
  pub image : List ℕ
  pub later : Option ℕ

-- the page in the donor
pub record PageEngine : Type 0 where
  pub log : List (List Record)
  pub checkpoint : ℕ
  -- how the page stands on disk, and whether its write is open
  pub disk : Standing
  pub writing : Bool
  pub frame : Option (List ℕ)
  -- the oldest modification, if the page is dirty
  pub oldest : Option ℕ
  pub flight : Option Flight

-- The stage of the clone, and the values from which redo of the page may start.
pub data Copy : Type 0 where
  -- no session
  Idle : Copy
  -- FILE COPY: the page isn't tracked, or it is, and what was read of it is worth nothing
  Untracked : List Standing → Copy
  Tracked : Copy
  -- PAGE COPY, with the archive's start
  Copied : ℕ → List Standing → Copy
  -- after the stop, with the archive's start and the log at the stop
  Stopped : ℕ → List (List Record) → List Standing → Copy

-- the page in the donor, and in the clone
pub record PageWorld : Type 0 where
  pub engine : PageEngine
  pub copy : Copy

pub data Event : Type 0 where
  -- A mini-transaction: one that leaves the page, one that makes these bytes of it, one that makes
  -- its space, one that makes the space and these bytes of the page, one that drops the space, and
  -- how the page stands on disk then.
  Passed : List Record → Event
  Changed : List Record → List ℕ → Event
  Created : List Record → Event
  Opened : List Record → List ℕ → Event
  Dropped : List Record → Standing → Event
  -- the page gets a frame with the disk's bytes, or loses its frame
  Fetched : List ℕ → Event
  Evicted : Event
  -- a flush begins, with these bytes
  Begun : List ℕ → Event
  -- the file got longer, by zero pages
  Lengthened : Event
  -- half of the image in flight is written, and the page may stand on disk in any way; all of it
  -- has landed; or a flush failed
  Half : Standing → Event
  Landed : Event
  Failed : Standing → Event
  -- the checkpoint is this LSN
  Checkpointed : ℕ → Event
  -- a session starts with FILE COPY, and its files have the page or don't
  Started : Bool → Event
  -- a block of a file was answered, with these bytes of the page
  FileRead : List ℕ → Event
  -- FILE COPY ends, and PAGE COPY begins
  FilesEnded : Event
  -- a block of PAGE COPY was answered, with these bytes of the page
  PageRead : List ℕ → Event
  -- PAGE COPY ends: the stop
  PagesEnded : Event
  -- the session ends
  Left : Event

-- the oldest modification, once the page was changed where the log ended there
abbrev pub first_of : ℕ → Option ℕ → Option ℕ
first_of at None = Some at
first_of at (Some o) = Some o

-- the image in flight, once the page was changed
abbrev pub dirtied : ℕ → Option Flight → Option Flight
dirtied at None = None
dirtied at (Some i) = Some (record { image = i.image; later = first_of at i.later })

-- the disk has the image, and the page is dirty from the first change since its flush began
abbrev pub landed : PageEngine → Option Flight → PageEngine
landed e None = e
landed e (Some i) =
    record {
      log = e.log;
      checkpoint = e.checkpoint;
      disk = stands i.image;
      writing = false;
      frame = e.frame;
      oldest = i.later;
      flight = None;
    }

-- a page that isn't there starts as it stands on disk
abbrev pub outside : Standing → Standing → Standing
outside no_space disk = no_space
outside past_end disk = disk
outside (stands page) disk = disk

-- the tracker notes the page
abbrev pub noted : Copy → Copy
noted Idle = Idle
noted (Untracked starts) = Tracked
noted Tracked = Tracked
noted (Copied base starts) = Copied base starts
noted (Stopped base log starts) = Stopped base log starts

-- a page whose write is open or in flight is tracked from the start
abbrev pub started : Bool → Option Flight → List Standing → Copy
started true flight starts = Tracked
started false (Some i) starts = Tracked
started false None starts = Untracked starts

-- the space is made, and the page starts as the disk has it then
abbrev pub created : Standing → Copy → Copy
created v Idle = Idle
created v (Untracked starts) = Untracked (v ∷ [])
created v Tracked = Tracked
created v (Copied base starts) = Copied base starts
created v (Stopped base log starts) = Stopped base log starts

abbrev pub file_read : List ℕ → Copy → Copy
file_read bytes Idle = Idle
file_read bytes (Untracked starts) = Untracked (stands bytes ∷ starts)
file_read bytes Tracked = Tracked
file_read bytes (Copied base starts) = Copied base starts
file_read bytes (Stopped base log starts) = Stopped base log starts

abbrev pub files_ended : ℕ → Copy → Copy
files_ended base Idle = Idle
files_ended base (Untracked starts) = Copied base starts
files_ended base Tracked = Copied base []
files_ended base (Copied b starts) = Copied b starts
files_ended base (Stopped b log starts) = Stopped b log starts

abbrev pub page_read : List ℕ → Copy → Copy
page_read bytes Idle = Idle
page_read bytes (Untracked starts) = Untracked starts
page_read bytes Tracked = Tracked
page_read bytes (Copied base starts) = Copied base (stands bytes ∷ starts)
page_read bytes (Stopped base log starts) = Stopped base log starts

abbrev pub pages_ended : List (List Record) → Copy → Copy
pages_ended log Idle = Idle
pages_ended log (Untracked starts) = Untracked starts
pages_ended log Tracked = Tracked
pages_ended log (Copied base starts) = Stopped base log starts
pages_ended log (Stopped base before starts) = Stopped base before starts

-- WHAT AN EVENT DOES
abbrev pub happens : ℕ → ℕ → PageWorld → Event → PageWorld
happens space number w (Passed m) =
    record { engine = record w.engine { log = w.engine.log ++ m ∷ [] }; copy = w.copy }
happens space number w (Changed m bytes) =
    record {
      engine = record w.engine {
        log = w.engine.log ++ m ∷ [];
        frame = Some bytes;
        oldest = first_of (ends w.engine.log) w.engine.oldest;
        flight = dirtied (ends w.engine.log) w.engine.flight;
      };
      copy = w.copy;
    }
happens space number w (Created m) =
    record {
      engine = record w.engine {
        log = w.engine.log ++ m ∷ [];
        disk = redone space number (w.engine.log ++ m ∷ []);
        writing = false;
        frame = None;
        oldest = None;
        flight = None;
      };
      copy = created (redone space number (w.engine.log ++ m ∷ [])) w.copy;
    }
happens space number w (Opened m bytes) =
    record {
      engine = record w.engine {
        log = w.engine.log ++ m ∷ [];
        disk = stands zero_page;
        writing = false;
        frame = Some bytes;
        oldest = Some (ends w.engine.log);
        flight = None;
      };
      copy = created (stands zero_page) w.copy;
    }
happens space number w (Dropped m disk) =
    record {
      engine = record w.engine {
        log = w.engine.log ++ m ∷ [];
        disk = disk;
        writing = false;
        frame = None;
        oldest = None;
        flight = None;
      };
      copy = w.copy;
    }
happens space number w (Fetched bytes) =
    record { engine = record w.engine { frame = Some bytes }; copy = w.copy }
happens space number w Evicted = record { engine = record w.engine { frame = None }; copy = w.copy }
happens space number w (Begun bytes) =
    record {
      engine = record w.engine { flight = Some (record { image = bytes; later = None }) };
      copy = noted w.copy;
    }
happens space number w Lengthened =
    record { engine = record w.engine { disk = stands zero_page }; copy = w.copy }
happens space number w (Half disk) =
    record { engine = record w.engine { disk = disk; writing = true }; copy = w.copy }
happens space number w Landed = record { engine = landed w.engine w.engine.flight; copy = w.copy }
happens space number w (Failed disk) =
    record {
      engine = record w.engine { disk = disk; writing = true; flight = None };
      copy = noted w.copy;
    }
happens space number w (Checkpointed at) =
    record { engine = record w.engine { checkpoint = at }; copy = w.copy }
happens space number w (Started listed) =
    record {
      engine = w.engine;
      copy = started w.engine.writing w.engine.flight (if listed then []
          else (outside (redone space number w.engine.log) w.engine.disk ∷ []));
    }
happens space number w (FileRead bytes) =
    record { engine = w.engine; copy = file_read bytes w.copy }
happens space number w FilesEnded =
    record { engine = w.engine; copy = files_ended w.engine.checkpoint w.copy }
happens space number w (PageRead bytes) =
    record { engine = w.engine; copy = page_read bytes w.copy }
happens space number w PagesEnded =
    record { engine = w.engine; copy = pages_ended w.engine.log w.copy }
happens space number w Left = record { engine = w.engine; copy = Idle }

-- the page's space is there
abbrev pub HasSpace : Standing → Type 0
HasSpace no_space = ⊥
HasSpace past_end = Unit {0}
HasSpace (stands page) = Unit {0}

-- the page is there
abbrev pub Stands : Standing → Type 0
Stands no_space = ⊥
Stands past_end = ⊥
Stands (stands page) = Unit {0}

-- no FILE COPY is under way
abbrev pub NoFiles : Copy → Type 0
NoFiles Idle = Unit {0}
NoFiles (Untracked starts) = ⊥
NoFiles Tracked = Unit {0}
NoFiles (Copied base starts) = Unit {0}
NoFiles (Stopped base log starts) = Unit {0}

-- at most the oldest modification, where a mini-transaction begins, or the log's end
abbrev pub AtMost : ℕ → Option ℕ → List (List Record) → Type 0
AtMost at None log = at ≤ ends log
AtMost at (Some o) log = (at ≤ o) × IsAt o log

-- WHEN AN EVENT MAY COME: what the donor guarantees when it makes it
abbrev pub Allowed : ℕ → ℕ → PageWorld → Event → Type 0
Allowed space number w (Passed m) =
    Suits space number w.engine.log m
    × (redone space number (w.engine.log ++ m ∷ []) ≡ redone space number w.engine.log)
Allowed space number w (Changed m bytes) =
    Suits space number w.engine.log m
    × (redone space number (w.engine.log ++ m ∷ []) ≡ stands bytes)
    × HasSpace (redone space number w.engine.log)
Allowed space number w (Created m) = Suits space number w.engine.log m
Allowed space number w (Opened m bytes) =
    Suits space number w.engine.log m
    × (redone space number (w.engine.log ++ m ∷ []) ≡ stands bytes)
    × (redone space number w.engine.log ≡ no_space)
Allowed space number w (Dropped m disk) =
    Suits space number w.engine.log m × (redone space number (w.engine.log ++ m ∷ []) ≡ no_space)
    × NoFiles w.copy
Allowed space number w (Fetched bytes) =
    (w.engine.frame ≡ None) × (w.engine.disk ≡ stands bytes)
    × Stands (redone space number w.engine.log)
Allowed space number w Evicted =
    (w.engine.writing ≡ false) × (w.engine.oldest ≡ None) × (w.engine.flight ≡ None)
Allowed space number w (Begun bytes) = w.engine.frame ≡ Some bytes
Allowed space number w Lengthened = w.engine.disk ≡ past_end
Allowed space number w (Half disk) = (i : Flight) × (w.engine.flight ≡ Some i)
Allowed space number w Landed = Unit {0}
Allowed space number w (Failed disk) = (bytes : List ℕ) × (w.engine.frame ≡ Some bytes)
Allowed space number w (Checkpointed at) =
    AtMost at w.engine.oldest w.engine.log × IsAt at w.engine.log
Allowed space number w (Started listed) = Unit {0}
Allowed space number w (FileRead bytes) =
    HasSpace (redone space number w.engine.log)
    × (w.engine.writing ≡ false → w.engine.disk ≡ stands bytes)
Allowed space number w FilesEnded = Unit {0}
Allowed space number w (PageRead bytes) =
    (w.engine.frame ≡ Some bytes)
    ⊎ ((w.engine.frame ≡ None) × (w.engine.disk ≡ stands bytes)
    × Stands (redone space number w.engine.log))
Allowed space number w PagesEnded = Unit {0}
Allowed space number w Left = Unit {0}

-- these events, one after the other
abbrev pub Runs : ℕ → ℕ → PageWorld → List Event → PageWorld → Type 0
Runs space number w [] v = w ≡ v
Runs space number w (e ∷ es) v =
    Allowed space number w e × Runs space number (happens space number w e) es v

-- before the log begins
abbrev pub nothing : PageWorld
nothing = record {
  engine = record {
    log = [];
    checkpoint = first_lsn;
    disk = no_space;
    writing = false;
    frame = None;
    oldest = None;
    flight = None;
  };
  copy = Idle;
}
