-- What a clone has of each page, by the stage that it has come to, and how it changes.
use Rattle.std.specs.Prelude.{ℕ, ◌≡◌, ◌==◌, ◌&&◌, List, [], ◌∷◌, None, Some, Bool, true, false, if◌then◌else◌}
use Rattle.std.specs.declared.option.Option.{Option}
use Rattle.std.specs.FinMap as finite
use Rattle.clone_mtr.specs.declared.record.Record.{Record}
use Rattle.clone_image.specs.Redone.{Standing, no_space, past_end}
use Rattle.clone_law.specs.Machine as machine
use Rattle.clone_law.specs.Machine.{Copy, file_read, page_read}
use Rattle.clone_buffer.specs.OnePage.{Copies}
use Rattle.clone_flush.specs.Flights.{Files, ends_before}
use Rattle.clone_track.specs.TrackedPages.{Pages}

-- the page was noted, while pages are tracked
abbrev pub is_noted : Option Pages → ℕ → ℕ → Bool
is_noted None space number = false
is_noted (Some pages) space number = finite.contains_key pages (space, number)

-- no clone is under way
abbrev pub AreIdle : Copies → Type 0
AreIdle copies = (space number : ℕ) → copies space number ≡ machine.Idle

-- The copy of files: of a page that was noted nothing counts.
abbrev pub IsInFiles : Bool → Copy → Type 0
IsInFiles true copy = copy ≡ machine.Tracked
IsInFiles false copy = (starts : List Standing) × (copy ≡ machine.Untracked starts)

abbrev pub AreInFiles : Option Pages → Copies → Type 0
AreInFiles pages copies =
    (space number : ℕ) → IsInFiles (is_noted pages space number) (copies space number)

-- the copy of pages, with an archive that starts here
abbrev pub AreInPages : ℕ → Copies → Type 0
AreInPages start copies =
    (space number : ℕ) → (starts : List Standing)
    × (copies space number ≡ machine.Copied start starts)

-- from the stop on, with the log then
abbrev pub AreStopped : ℕ → List (List Record) → Copies → Type 0
AreStopped start log copies =
    (space number : ℕ) → (starts : List Standing)
    × (copies space number ≡ machine.Stopped start log starts)

-- a page with its bytes, as a block has it
abbrev pub PageRead : Type 0
PageRead = (ℕ × ℕ) × List ℕ

-- a page's bytes were answered
abbrev pub answered : List ℕ → Copy → Copy
answered bytes copy = page_read bytes (file_read bytes copy)

abbrev pub with_page : PageRead → Copies → Copies
with_page p copies =
    λ space number. if (space == p.0.0) && (number == p.0.1)
    then answered p.1 (copies space number) else copies space number

-- those of each page of a block
abbrev pub with_pages : List PageRead → Copies → Copies
with_pages [] copies = copies
with_pages (p ∷ ps) copies = with_pages ps (with_page p copies)

-- What redo of a page may start from before anything was read of it, by how many pages its space's
-- file has: nothing of it is there where there is no file, or where it lies past the file's end.
-- Where its file has it, it has to be read.
abbrev pub first_starts : Option ℕ → ℕ → List Standing
first_starts None number = no_space ∷ []
first_starts (Some pages) number =
    if ends_before (Some pages) number then past_end ∷ [] else []

-- A SESSION BEGINS: each page that was noted is tracked.
abbrev pub first_copy : Bool → List Standing → Copy
first_copy true starts = machine.Tracked
first_copy false starts = machine.Untracked starts

-- over files of so many pages
abbrev pub first_copies : Option Pages → Files → Copies
first_copies pages files =
    λ space number. first_copy (is_noted pages space number)
    (first_starts (finite.get files space) number)

-- THE COPY OF FILES ENDS, with an archive that starts at the last checkpoint.
abbrev pub files_over : ℕ → Copies → Copies
files_over checkpoint copies = λ space number. machine.files_ended checkpoint (copies space number)

-- THE STOP, with the log of then
abbrev pub pages_over : List (List Record) → Copies → Copies
pages_over log copies = λ space number. machine.pages_ended log (copies space number)
