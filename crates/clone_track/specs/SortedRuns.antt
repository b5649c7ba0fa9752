-- Sorted runs of pages, in which a tracker keeps what was noted.
use Rattle.std.specs.Prelude.{ℕ, ◌≡◌, ◌≤◌, ◌+◌, ◌*◌, List, [], length, Vec, vec_capacity, option_map, refl}
use Rattle.std.specs.declared.alloc.Global.{Global}
use Rattle.std.specs.declared.option.Option.{Option}
use Rattle.std.specs.Option.{option_map_or}
use Rattle.std.specs.Coded.{Coded, code_by, coded×, coded_ℕ}
use Rattle.std.specs.List.{flat_map, AllByRecursion}
use Rattle.std.specs.List.Sorted.{IsStrictlySortedBy}
use Rattle.clone_model.specs.Keys.{row_cmp}
use Rattle.clone_track.specs.TrackedPages.{Pages, pages_code}
use Rattle.clone_track.specs.declared.runs.TheConstants.{RUN_PAGES, RUN_LIMIT}

-- the pages that runs hold, how often they hold one, and for how many more there is room
pub record Noted : Type 0 where
  pub pages : Pages
  pub kept : ℕ
  pub room : ℕ

abbrev pub noted_code : Coded Noted
noted_code =
    code_by (Pages × (ℕ × ℕ)) (coded× pages_code (coded× coded_ℕ coded_ℕ))
    (λ n. (n.pages, (n.kept, n.room)))
    (λ p. record { pages = p.0; kept = p.1.0; room = p.1.1 }) (λ _. refl)

-- the pages in the runs of a tracker, if it has any
abbrev pub pages_of : Option Noted → Option Pages
pages_of runs = option_map (λ noted. noted.pages) runs

abbrev pub kept_of : Option Noted → ℕ
kept_of runs = option_map_or (λ noted. noted.kept) runs 0

-- An idle tracker keeps no page, so it is never short of room.
abbrev pub room_of : Option Noted → ℕ
room_of runs = option_map_or (λ noted. noted.room) runs RUN_PAGES

abbrev pub Run : Type 0
Run = Vec (ℕ × ℕ) Global

-- the pages of runs, one behind the other
abbrev pub joined : List Run → List (ℕ × ℕ)
joined runs = flat_map (λ run. run.items) runs

-- the pages ascend, and there are no more than a run may have
pub record IsRun (run : Run) : Type 0 where
  pub sorted : IsStrictlySortedBy row_cmp run.items
  pub few : length run.items ≤ RUN_PAGES

-- What a tracker keeps while it tracks: the earlier runs are full, and the last one and the list
-- have all the room that they need.
pub record IsRuns (earlier : List Run) (last list : Run) : Type 0 where
  pub earlier_runs : AllByRecursion IsRun earlier
  pub full : AllByRecursion (λ run. length run.items ≡ RUN_PAGES) earlier
  pub last_run : IsRun last
  pub last_room : RUN_PAGES ≤ vec_capacity last
  pub few : length earlier + 1 ≤ RUN_LIMIT
  pub list_empty : list.items ≡ []
  pub list_room : (length earlier + 1) * RUN_PAGES ≤ vec_capacity list
