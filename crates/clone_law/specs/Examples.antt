-- Mini-transactions and runs of one page.
use Rattle.std.specs.Prelude.{ℕ, ◌≡◌, ◌<◌, ◌+◌, ◌^◌, true, List, [], ◌∷◌, ◌++◌, length}
use Rattle.clone_page.specs.Header.{zero_page, initialised, with_lsn}
use Rattle.clone_page.specs.declared.kind.PageKind.TheVariants.{System, Bucket, Overflow}
use Rattle.clone_mtr.specs.Patches.{Patched}
use Rattle.clone_mtr.specs.Spelling.{spelling}
use Rattle.clone_mtr.specs.declared.record.Record.{Record}
use Rattle.clone_mtr.specs.declared.record.Record.TheVariants.{Init, Write, Extend, Create}
use Rattle.clone_image.specs.Redone.{Standing, past_end, stands, redone, redone_from}
use Rattle.clone_law.specs.Machine.{PageWorld, Stopped, nothing, Runs, Event, Created, Fetched, Changed, Begun, Half, Landed, Checkpointed, Started, FileRead, FilesEnded, PageRead, PagesEnded}
use Rattle.clone_law.specs.Mistakes.{Mistake, LeavesFlightOut, BeginsUnnoted, ArchivesLate, LandsClean, ChecksPast}
use Rattle.clone_law.specs.Since.{ends, Suits}

-- a donor's opening
abbrev pub opening : List Record
opening = Create 0 257 ∷ Init 0 0 System ∷ []

-- a new overflow page, page 8 of space 5: the dictionary entry, the space's length, the page
-- itself, and the next field of page 3
abbrev pub overflow : Patched → List Record
overflow patch = Write 0 0 patch ∷ Extend 5 9 ∷ Init 5 8 Overflow ∷ Write 5 3 patch ∷ []

abbrev pub SuitsOverflow : Type 0
SuitsOverflow =
    (log : List (List Record)) (patch : Patched)
    → ends log + length (spelling (overflow patch)) < 2 ^ 64 → redone 5 8 log ≡ past_end
    → Suits 5 8 log (overflow patch)

-- The only page of space 1 is made and changed once, and then a clone begins.

-- three mini-transactions: the space is made, and its page is made anew twice
abbrev pub making : List Record
making = Create 1 1 ∷ []

abbrev pub first_change : List Record
first_change = Init 1 0 Bucket ∷ []

abbrev pub second_change : List Record
second_change = Init 1 0 Overflow ∷ []

-- the log, after each
abbrev pub made_log : List (List Record)
made_log = making ∷ []

abbrev pub changed_log : List (List Record)
changed_log = making ∷ first_change ∷ []

abbrev pub last_log : List (List Record)
last_log = making ∷ first_change ∷ second_change ∷ []

-- the page, after each change
abbrev pub first_page : List ℕ
first_page = initialised 1 0 Bucket (ends changed_log)

abbrev pub second_page : List ℕ
second_page = initialised 1 0 Overflow (ends last_log)

-- what a reader may find while the first change is half written: the new page LSN, on the old page
abbrev pub torn_page : List ℕ
torn_page = with_lsn (ends changed_log) zero_page

-- the page is made and changed, with the checkpoint before the change
abbrev pub beginning : List Event
beginning =
    Created making ∷ Checkpointed (ends made_log) ∷ Fetched zero_page
    ∷ Changed first_change first_page ∷ []

-- In FILE COPY the page is flushed, and its block read while its write is open. Then it is sent in
-- PAGE COPY, and changed once more.
abbrev pub flushed_run : List Event
flushed_run =
    beginning
    ++ Started true ∷ Begun first_page ∷ Half (stands torn_page) ∷ FileRead torn_page ∷ Landed
    ∷ FilesEnded ∷ PageRead first_page ∷ Changed second_change second_page ∷ PagesEnded ∷ []

-- the run comes to the stop with what PAGE COPY sent
abbrev pub FlushedStops : Type 0
FlushedStops =
    (w : PageWorld) × Runs 1 0 nothing flushed_run w
    × (w.copy ≡ Stopped (ends made_log) last_log (stands first_page ∷ []))

-- and the archived log makes that the page as it is
abbrev pub SentIsNow : Type 0
SentIsNow =
    (redone_from (ends made_log) 1 0 (stands first_page) (first_change ∷ second_change ∷ [])
    ≡ stands second_page) × (redone 1 0 last_log ≡ stands second_page)

-- for each wrong machine a run that misleads it, and the starting value
abbrev pub misleading : Mistake → List Event
misleading LeavesFlightOut =
    beginning
    ++ Begun first_page ∷ Started true ∷ Half (stands torn_page) ∷ FileRead torn_page ∷ Landed
    ∷ FilesEnded ∷ PagesEnded ∷ []
misleading BeginsUnnoted =
    beginning
    ++ Started true ∷ Begun first_page ∷ Half (stands torn_page) ∷ FileRead torn_page ∷ Landed
    ∷ FilesEnded ∷ PagesEnded ∷ []
misleading ArchivesLate =
    beginning ++ Started true ∷ FileRead zero_page ∷ FilesEnded ∷ PagesEnded ∷ []
misleading LandsClean =
    beginning
    ++ Begun first_page ∷ Changed second_change second_page ∷ Landed ∷ Checkpointed (ends last_log)
    ∷ Started true ∷ FileRead first_page ∷ FilesEnded ∷ PagesEnded ∷ []
misleading ChecksPast =
    beginning
    ++ Checkpointed (ends changed_log) ∷ Started true ∷ FileRead zero_page ∷ FilesEnded ∷ PagesEnded
    ∷ []

abbrev pub misled : Mistake → Standing
misled LeavesFlightOut = stands torn_page
misled BeginsUnnoted = stands torn_page
misled ArchivesLate = stands zero_page
misled LandsClean = stands first_page
misled ChecksPast = stands zero_page
