-- What a stop of a disk may leave.
use Rattle.std.specs.Prelude.{◌≡◌, ◌⊎◌, ℕ, ◌-◌, ◌≤◌, min, max, false, map, List, [], ◌∷◌, ◌++◌, length, take, drop, ⊤, None, Some, get_or, option_map, unwrap_or}
use Rattle.std.specs.List.{AllByRecursion}
use Rattle.std.specs.declared.option.Option.{Option}
use Rattle.std.specs.FinMap as finite
use Rattle.clone_outside.specs.declared.disk.TheConstants.{HALF_PAGE}
use Rattle.clone_outside.specs.declared.disk.Held.{Held}
use Rattle.clone_outside.specs.Disk.{DiskImage, page_count, whole, with_page, with_pages, with_removed, with_space}

-- a change that a stop may leave half done
pub data DiskChange : Type 0 where
  WriteHalf : (space number : ℕ) → DiskChange
  WriteRest : (space number : ℕ) → DiskChange
  Extend : (space count : ℕ) → DiskChange
  Create : (space count : ℕ) → DiskChange
  Remove : (space : ℕ) → DiskChange
  WriteMark : (bytes : List ℕ) → DiskChange

-- no write of the page is open
abbrev pub closed : Held → Held
closed page = record page { writing = false }

-- The disk with no write open. A stop leaves no write open: each page has some bytes from then on.
pub record IsClosed (m image : DiskImage) : Type 0 where
  pub mark : image.mark ≡ m.mark
  pub spaces : (space : ℕ) → finite.get image.spaces space
      ≡ option_map (map closed) (finite.get m.spaces space)

-- the first half of the page has any bytes
abbrev pub half_torn : List ℕ → Held → Held
half_torn bytes page = whole (take HALF_PAGE bytes ++ drop HALF_PAGE page.bytes)

-- the other half has
abbrev pub rest_torn : List ℕ → Held → Held
rest_torn bytes page = whole (take HALF_PAGE page.bytes ++ drop HALF_PAGE bytes)

-- a number between two others, or one of them
abbrev pub IsBetween : ℕ → ℕ → ℕ → Type 0
IsBetween a b n = (min a b ≤ n) × (n ≤ max a b)

-- how many pages a space has, none where it isn't there
abbrev pub pages_before : DiskImage → ℕ → ℕ
pages_before m space = unwrap_or (page_count m space) 0

-- Each byte of the new mark is one of those that are written or of the old mark, or zero where
-- there was none. Where there was none, there may be none.
abbrev pub IsTornMark : List ℕ → Option (List ℕ) → Option (List ℕ) → Type 0
IsTornMark bytes old None = old ≡ None
IsTornMark bytes old (Some new) =
    (length new ≡ length bytes)
    × ((i : ℕ) → (get_or new i 0 ≡ get_or bytes i 0)
    ⊎ (get_or new i 0 ≡ get_or (unwrap_or old []) i 0))

-- a stop within the change leaves this of the disk, or the disk as it was
abbrev pub Torn : DiskChange → DiskImage → DiskImage → Type 0
Torn (WriteHalf space number) old new =
    (bytes : List ℕ) × (new ≡ with_page old space number (half_torn bytes))
Torn (WriteRest space number) old new =
    (bytes : List ℕ) × (new ≡ with_page old space number (rest_torn bytes))
Torn (Extend space count) old new =
    (more : List (List ℕ)) × (length more ≤ count - pages_before old space)
    × (new ≡ record old {
      spaces = with_pages old.spaces space (λ pages. pages ++ map whole more);
    })
Torn (Create space count) old new =
    (pages : List (List ℕ)) × IsBetween (pages_before old space) count (length pages)
    × (new ≡ with_space space (map whole pages) old)
Torn (Remove space) old new =
    (new ≡ with_removed old space)
    ⊎ ((count : ℕ) × (new ≡ record old { spaces = with_pages old.spaces space (take count) }))
Torn (WriteMark bytes) old new =
    (mark : Option (List ℕ)) × IsTornMark bytes old.mark mark × (new ≡ record old { mark = mark })

-- what the disk held at the last sync, and what was changed since, the latest change first
pub record Moment : Type 0 where
  pub durable : DiskImage
  pub since : List DiskChange

-- a stop after these changes leaves this of what the disk held at the last sync
abbrev pub IsLeftOf : DiskImage → List DiskChange → DiskImage → Type 0
IsLeftOf durable [] image = image ≡ durable
IsLeftOf durable (x ∷ xs) image =
    (d : DiskImage) × IsLeftOf durable xs d × ((image ≡ d) ⊎ Torn x d image)

-- a stop at this moment may leave this
abbrev pub MayLeave : Moment → DiskImage → Type 0
MayLeave moment image = IsLeftOf moment.durable moment.since image

-- the moments of a disk: the present one, and those before it, the latest first
pub record Moments : Type 0 where
  pub now : Moment
  pub before : List Moment

abbrev pub all_moments : Moments → List Moment
all_moments ms = ms.now ∷ ms.before

abbrev pub then_at : Moment → Moments → Moments
then_at next ms = record { now = next; before = ms.now ∷ ms.before }

-- one change more
abbrev pub noted : DiskChange → Moments → Moments
noted x ms = then_at (record { durable = ms.now.durable; since = x ∷ ms.now.since }) ms

-- a disk all of which stays
abbrev pub settled : DiskImage → Moment
settled image = record { durable = image; since = [] }

-- what holds of the moments, where they are told
abbrev pub ForMoments : Option Moments → (Moments → Type 0) → Type 0
ForMoments None P = ⊤
ForMoments (Some ms) P = P ms

-- a stop at the new moment leaves what is R of something that one at the old moment might leave
abbrev pub Leaves : (DiskImage → DiskImage → Type 0) → Moment → Moment → Type 0
Leaves R old new = (c : DiskImage) → MayLeave new c → (d : DiskImage) × MayLeave old d × R d c

-- A stop at any moment since the old one, within a call too, leaves what is R of something that a
-- stop at the old moment might have left.
pub record LeavesSince (R : DiskImage → DiskImage → Type 0) (old new : Moments) : Type 0 where
  pub since : List Moment
  pub are : all_moments new ≡ since ++ all_moments old
  pub each : AllByRecursion (Leaves R old.now) since
  pub now : Leaves R old.now new.now

-- the same, where the moments are told
abbrev pub Keeps : (DiskImage → DiskImage → Type 0) → Option Moments → Option Moments → Type 0
Keeps R None new = new ≡ None
Keeps R (Some old) new = (ms : Moments) × (new ≡ Some ms) × LeavesSince R old ms

-- the change was made, or none
abbrev pub Notes : Option Moments → Option Moments → DiskChange → Type 0
Notes old new x = (new ≡ old) ⊎ (new ≡ option_map (noted x) old)

-- All that the disk holds stays from now on. Where a write is open the page has some bytes.
abbrev pub Settles : Option DiskImage → Option Moments → Option Moments → Type 0
Settles told None new = new ≡ None
Settles told (Some ms) new =
    (m : DiskImage) × (told ≡ Some m) × ((image : DiskImage) × IsClosed m image
    × MayLeave ms.now image × (new ≡ Some (then_at (settled image) ms)))

-- what is told, with no write open, is one of the images that a stop may leave
abbrev pub IsHeld : Option DiskImage → Option Moments → Type 0
IsHeld told stops = ForMoments stops (λ ms. (m : DiskImage) × (told ≡ Some m)
    × ((image : DiskImage) × IsClosed m image × MayLeave ms.now image))

-- no write of the disk is open
abbrev pub HasNoOpen : DiskImage → Type 0
HasNoOpen image = IsClosed image image

-- The disk goes on with an image that a stop may leave. All of it stays, and no write is open.
abbrev pub GoesOn : Option Moments → Option DiskImage → Option Moments → Type 0
GoesOn None told stops = ⊥
GoesOn (Some ms) told stops =
    (image : DiskImage) × MayLeave ms.now image × HasNoOpen image
    × (told ≡ Some image) × (stops ≡ Some (then_at (settled image) ms))

-- nothing of what is told is still to be brought to where it stays
abbrev pub Stays : Option DiskImage → Option Moments → Type 0
Stays told stops =
    ForMoments stops (λ ms. (m : DiskImage) × (told ≡ Some m)
    × ((image : DiskImage) × IsClosed m image × (ms.now ≡ settled image)))
