-- What is known of a session from its answers, of the donor alone, at some moment of its run.
use Rattle.std.specs.Prelude.{ℕ, ◌≡◌, ◌≤◌, ◌+◌, ◌-◌, ◌⊎◌, List, [], length, take, drop, map, Contains, IsSome, None, Some, option_map}
use Rattle.std.specs.declared.option.Option.{Option}
use Rattle.std.specs.List.{AllByRecursion}
use Rattle.clone_image.specs.Redone.{Standing, no_space, past_end, stands}
use Rattle.clone_law.specs.Touches.{Lax}
use Rattle.clone_archive.specs.Archived.{Archived, archived_of}
use Rattle.clone_buffer.specs.OnePage.{Copies}
use Rattle.clone_lay.specs.Laid.{PageAt}
use Rattle.clone_snapshot.specs.StageLists as lists
use Rattle.clone_snapshot.specs.StageLists.{PagePart, RedoPart, StageList, all_pages, block_of}
use Rattle.clone_accepted.specs.Answers.{Answer, PageBlock, RedoBlock, Stage, Told, ToldDone, ToldFiles, ToldPages, ToldRedo}
use Rattle.clone_standing.specs.Counting.{Counts}
use Rattle.clone_standing.specs.Latest.{IsLow, IsLowRoom, made_standing}
use Rattle.clone_session.specs.declared.info.Stop.{Stop}
use Rattle.clone_session.specs.Cloning.{Cloning, Session}
use Rattle.clone_session.specs.Effects.{created_since, position_of}
use Rattle.clone_engine.specs.Engine.{Engine}
use Rattle.clone_engine.specs.Donor.{Donor, IsDonor, known_files}
use Rattle.clone_engine.specs.Taken.{IsTaken, Taken}
use Rattle.clone_sides.specs.Trace.{Entry}
use Rattle.clone_sides.specs.Moment.{StopsAt, first_stop, own_stop}

-- the files that a session lists, the pages that it copies once more, and the spaces that were made
-- since the files were listed
pub record Lists : Type 0 where
  pub files : List (ℕ × ℕ)
  pub pages : List (ℕ × ℕ)
  pub made : List (ℕ × ℕ)

-- While files are copied, the spaces that were made are those that the engine has now; while pages
-- are copied they are those that the session keeps.
abbrev pub InLists : StageList → List (ℕ × ℕ) → Engine → Lists → Type 0
InLists (lists.Files spaces) created e l =
    (spaces ≡ l.files) × (l.pages ≡ []) × (l.made ≡ created_since l.files (known_files e))
InLists (lists.Pages pages) created e l = (pages ≡ l.pages) × (created ≡ l.made)
InLists (lists.Redo start end) created e l = Unit {0}
InLists lists.Nothing created e l = Unit {0}

-- the copy of files is over
abbrev pub IsPast : StageList → Type 0
IsPast (lists.Files spaces) = ⊥
IsPast (lists.Pages pages) = Unit {0}
IsPast (lists.Redo start end) = Unit {0}
IsPast lists.Nothing = Unit {0}

-- the stop is still to come
abbrev pub IsBefore : StageList → Type 0
IsBefore (lists.Files spaces) = Unit {0}
IsBefore (lists.Pages pages) = Unit {0}
IsBefore (lists.Redo start end) = ⊥
IsBefore lists.Nothing = ⊥

-- so may a page stand on a recipient's disk of which nothing was laid
pub record IsBare (l : Lists) (s n : ℕ) (v : Standing) : Type 0 where
  pub any : Lax v no_space
  pub listed : (size : ℕ) → Contains l.files (s, size) → Lax v past_end
  pub made : (size : ℕ) → Contains l.made (s, size) → Lax v (made_standing size n)

-- it counts, or the page is copied once more
abbrev pub CountsEarly : Lists → Copies → ℕ → ℕ → Standing → Type 0
CountsEarly l copies s n v = Counts (copies s n) v ⊎ Contains l.pages (s, n)

abbrev pub IsEarly : Lists → Copies → PageAt → Type 0
IsEarly l copies p = CountsEarly l copies p.space p.number (stands p.bytes)

abbrev pub IsLate : Copies → PageAt → Type 0
IsLate copies p = Counts (copies p.space p.number) (stands p.bytes)

abbrev pub places : List PageAt → List (ℕ × ℕ)
places pages = map (λ p. (p.space, p.number)) pages

-- the numbers of the stop, with the archive that ends there
pub record HasRange (number : ℕ) (c : Cloning) (checkpoint lsn position : ℕ) : Type 0 where
  pub archive : Archived
  pub stands : c.archive ≡ Some archive
  pub start : archive.start ≡ checkpoint
  pub end : archive.stop ≡ Some lsn
  pub within : archived_of archive ≤ lsn
  pub last : Stop
  pub stop : c.stop ≡ Some last
  pub own : last.session ≡ number
  pub commits : last.position ≡ position

-- what is kept for a session, by what its stage copies
abbrev pub Keeps : ℕ → Cloning → StageList → Type 0
Keeps number c (lists.Files spaces) = c.archive ≡ None
Keeps number c (lists.Pages pages) =
    (a : Archived) × (c.archive ≡ Some a) × (a.stop ≡ None)
Keeps number c (lists.Redo start end) = HasRange number c start end (position_of c.stop)
Keeps number c lists.Nothing =
    (start end : ℕ) × HasRange number c start end (position_of c.stop)

abbrev pub FactTold : ℕ → Cloning → StageList → Lists → Told → Type 0
FactTold number c list l (ToldFiles spaces) = spaces ≡ l.files
FactTold number c list l (ToldPages count made) =
    IsPast list × (count ≡ length l.pages) × (made ≡ l.made)
FactTold number c list l (ToldRedo checkpoint lsn position) =
    HasRange number c checkpoint lsn position
FactTold number c list l ToldDone = Unit {0}

pub record FactPages (list : StageList) (copies : Copies) (l : Lists)
    (stage chunk block : ℕ) (pages : List PageAt) : Type 0 where
  pub low : AllByRecursion IsLow pages
  pub in_files : stage ≡ 1
      → (block_of (lists.Files l.files) chunk block ≡ Some (PagePart (places pages)))
      × AllByRecursion (IsEarly l copies) pages
  pub in_pages : stage ≡ 2 → IsPast list
      × (block_of (lists.Pages l.pages) chunk block ≡ Some (PagePart (places pages)))
      × AllByRecursion (IsLate copies) pages

pub record FactRedo (c : Cloning) (chunk block from : ℕ) (bytes : List ℕ) : Type 0 where
  pub archive : Archived
  pub stands : c.archive ≡ Some archive
  pub end : ℕ
  pub ended : archive.stop ≡ Some end
  pub is : block_of (lists.Redo archive.start end) chunk block ≡ Some (RedoPart from (length bytes))
  pub behind : archive.start ≤ from
  pub within : from + length bytes ≤ archived_of archive
  pub bytes_are : bytes ≡ take (length bytes) (drop (from - archive.start) archive.bytes)

abbrev pub FactOf : ℕ → Cloning → StageList → Copies → Lists → Answer → Type 0
FactOf number c list copies l (Stage told) = FactTold number c list l told
FactOf number c list copies l (PageBlock stage chunk block pages) =
    FactPages list copies l stage chunk block pages
FactOf number c list copies l (RedoBlock chunk block from bytes) =
    FactRedo c chunk block from bytes

-- a session's number, what its stage copies, and the spaces that were created
abbrev pub Kept : Type 0
Kept = ℕ × StageList × List (ℕ × ℕ)

abbrev pub kept : Session → Kept
kept s = (s.number, s.snap.list, s.created)

abbrev pub kept_of : Cloning → Option Kept
kept_of c = option_map kept c.session

-- where a session has come to
pub record ComesTo (number : ℕ) (v : Donor) (list : StageList) (l : Lists) : Type 0 where
  pub created : List (ℕ × ℕ)
  pub session : kept_of v.cloning ≡ Some (number, list, created)
  pub in_lists : InLists list created v.engine l
  pub keeps : Keeps number v.cloning list

-- WHAT IS KNOWN of a session that is open, by what was answered to it
pub record Knows (number : ℕ) (done : List Answer) (v : Donor) (taken : Taken) (l : Lists)
    : Type 0 where
  pub list : StageList
  pub at : ComesTo number v list l
  pub is : IsTaken v taken
  pub donor : IsDonor v
  pub tells : IsSome v.engine.disk.told
  pub low : IsPast list → AllByRecursion IsLowRoom l.made
  pub unstopped : IsBefore list → taken.stop ≡ None
  pub unread : (s n : ℕ) (u : Standing) → IsBare l s n u
      → Contains (all_pages (lists.Files l.files)) (s, n) ⊎ CountsEarly l taken.copies s n u
  pub facts : (a : Answer) → Contains done a → FactOf number v.cloning list taken.copies l a

-- the stop of what was taken is a moment of the run
abbrev pub HasStop : ℕ → Donor → List Entry → Donor → Taken → Type 0
HasStop number d trace v taken =
    (at : Engine) → taken.stop ≡ Some at
    → (stop : Stop) × (v.cloning.stop ≡ Some stop) × StopsAt number d trace at stop

-- and until it comes, the session has none
pub record HasMoment (number : ℕ) (d : Donor) (trace : List Entry) (v : Donor)
    (taken : Taken) : Type 0 where
  pub late : HasStop number d trace v taken
  pub early : taken.stop ≡ None
      → (first_stop number trace ≡ None) × (own_stop number v.cloning.stop ≡ None)
