-- THE BLOCKS of what a donor's session copies.
use Rattle.std.specs.Prelude.{ℕ, ◌≡◌, ◌<◌, ◌≤◌, ◌+◌, ◌*◌, true, List, [], ◌∷◌, Some, IfSome, ⊤}
use Rattle.std.specs.declared.option.Option.{Option}
use Rattle.clone_model.specs.declared.line.TheConstants.{MOST_PAGES}
use Rattle.clone_page.specs.declared.pages.PageAt.{PageAt}
use Rattle.clone_snapshot.specs.StageLists.{StageList, PagePart, block_of}
use Rattle.clone_session.specs.Cloning.{Session}
use Rattle.clone_recipient.specs.Expecting.{are_pages}
use Rattle.clone_recipient.specs.declared.limits.TheConstants.{MOST_SPACE}
use Rattle.clone_engine.specs.Copying.{places_of}

-- the pages of each block ascend, in spaces that a recipient knows
abbrev pub HasAscending : StageList → Type 0
HasAscending list = (chunk block : ℕ) (pages : List PageAt)
    → block_of list chunk block ≡ Some (PagePart (places_of pages)) → are_pages 0 pages ≡ true

-- so it is where a session stands
abbrev pub Ascends : Option Session → Type 0
Ascends session = IfSome session (λ s. HasAscending s.snap.list)

-- ---- where the list ascends

-- a page's place among those of all spaces
abbrev pub at_place : ℕ × ℕ → ℕ
at_place page = MOST_PAGES * page.0 + page.1

-- pages that ascend from this place on
abbrev pub AscendFrom : ℕ → List (ℕ × ℕ) → Type 0
AscendFrom least [] = ⊤
AscendFrom least (p ∷ pages) = (least ≤ at_place p) × (p.0 ≤ MOST_SPACE) × (p.1 < MOST_PAGES)
    × AscendFrom (at_place p + 1) pages

-- each space has a number that a recipient knows, and no more pages than a space may have
abbrev pub AreSpaces : List (ℕ × ℕ) → Type 0
AreSpaces [] = ⊤
AreSpaces (space ∷ spaces) =
    (space.0 ≤ MOST_SPACE) × (space.1 ≤ MOST_PAGES) × AreSpaces spaces
