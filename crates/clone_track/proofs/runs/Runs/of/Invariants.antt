use Rattle.std.proofs.Common.{◌≡◌, ◌≤◌, take}
use Rattle.std.specs.FinMap as finite
use Rattle.clone_track.specs.TrackedPages.{all_noted}
use Rattle.clone_track.proofs.runs.Runs.of.Given as goal

-- the pages that were passed are noted, with a note for each at most
abbrev pub invariant-loop-page : goal.invariant-loop-page
invariant-loop-page l =
    (l.runs.pages ≡ all_noted (take l.page-index l.pages) finite.empty) × (l.runs.kept ≤ l.page-index)
