-- Which pages the records of a mini-transaction have met, and whether those that name them count.
use Rattle.std.specs.Prelude.{unwrap_or, ℕ, ◌≡◌, ◌==◌, ◌&&◌, Bool, false, List, [], ◌∷◌, if◌then◌else◌, None, Some}
use Rattle.std.specs.declared.option.Option.{Option}
use Rattle.clone_image.specs.Image.{Image}
use Rattle.clone_image.specs.Redone.{Standing, no_space, past_end, stands, settled, standing_of}
use Rattle.clone_recover.specs.declared.redo.Meeting.{Meeting}

-- whether the records count that name the page, where one of them has met it
abbrev pub met : List Meeting → ℕ → ℕ → Option Bool
met [] space number = None
met (m ∷ ms) space number =
    if (m.space == space) && (m.number == number) then Some m.counts else met ms space number

-- once a page is settled: as it was settled before, or else by whether the page is older
abbrev pub Settles : ℕ → ℕ → Bool → List Meeting → List Meeting → Type 0
Settles space number older old new =
    (s n : ℕ) → met new s n ≡ (if (space == s) && (number == n)
    then Some (unwrap_or (met old s n) older) else met old s n)

-- whether a record that names a page which stands so counts
abbrev pub counts_now : ℕ → Option Bool → Standing → Bool
counts_now end counts no_space = false
counts_now end counts past_end = false
counts_now end counts (stands page) = settled end counts page

-- what is settled once the record has come to the page
abbrev pub counts_after : ℕ → Option Bool → Standing → Option Bool
counts_after end counts no_space = counts
counts_after end counts past_end = counts
counts_after end counts (stands page) = Some (settled end counts page)

-- A record of a mini-transaction that ends here came to this page, and all other pages are as they
-- were.
pub record Meets (end space number : ℕ) (image : Image) (old new : List Meeting) (counts : Bool)
    : Type 0 where
  pub each : (s n : ℕ) → met new s n ≡ (if (space == s) && (number == n)
      then counts_after end (met old s n) (standing_of image s n) else met old s n)
  pub now : counts ≡ counts_now end (met old space number) (standing_of image space number)
