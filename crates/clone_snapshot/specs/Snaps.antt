-- What contracts see of a snapshot, and what it keeps.
use Rattle.std.specs.Prelude.{ℕ, ◌≡◌, ◌≤◌, ◌<◌, List, [], length, Some, None}
use Rattle.std.specs.declared.option.Option.{Option}
use Rattle.clone_base.specs.declared.limits.TheConstants.{LSN_LIMIT}
use Rattle.clone_chunk.specs.declared.chunk.Chunk.{Chunk}
use Rattle.clone_snapshot.specs.StageLists.{StageList, Files, Pages, Redo, Nothing, chunk_count}
use Rattle.clone_snapshot.specs.declared.listing.Listing.{Listing}
use Rattle.clone_snapshot.specs.declared.listing.Listing.TheVariants as code

-- a stage's list, the states of its chunks and the masks of their kept blocks, and for how many
-- chunks there is room
pub record Snap : Type 0 where
  pub list : StageList
  pub chunks : List Chunk
  pub kept : List ℕ
  pub room : ℕ

-- what the code's list is
abbrev pub list_of : Listing → StageList
list_of (code.Files spaces) = Files spaces.items
list_of (code.Pages pages) = Pages pages.items
list_of (code.Redo start end) = Redo start end
list_of code.Nothing = Nothing

-- the spaces of FILE COPY, and none in another stage
abbrev pub spaces_of : StageList → List (ℕ × ℕ)
spaces_of (Files spaces) = spaces
spaces_of (Pages pages) = []
spaces_of (Redo start end) = []
spaces_of Nothing = []

-- how many pages PAGE COPY has, and 0 in another stage
abbrev pub listed_count : StageList → ℕ
listed_count (Files spaces) = 0
listed_count (Pages pages) = length pages
listed_count (Redo start end) = 0
listed_count Nothing = 0

-- where the redo of REDO COPY begins and ends
abbrev pub redo_of : StageList → Option (ℕ × ℕ)
redo_of (Files spaces) = None
redo_of (Pages pages) = None
redo_of (Redo start end) = Some (start, end)
redo_of Nothing = None

-- the redo lies in a log
abbrev pub IsInLog : StageList → Type 0
IsInLog (Files spaces) = Unit {0}
IsInLog (Pages pages) = Unit {0}
IsInLog (Redo start end) = (start ≤ end) × (end < LSN_LIMIT)
IsInLog Nothing = Unit {0}

-- what a snapshot keeps
pub record IsSnap (list : StageList) (chunks : List Chunk) (room : ℕ) : Type 0 where
  pub count : length chunks ≡ chunk_count list
  pub fits : length chunks ≤ room
  pub in_log : IsInLog list
