-- What an overlay shows over a base: the pages that are held, and behind them those of the base.
use Rattle.std.specs.Prelude.{ℕ, ◌≡◌, ◌<◌, ◌≤◌, ◌⊎◌, nat_lt, List, [], length, if◌then◌else◌, None, Some, IfSome, IsSome, get_or, unwrap_or}
use Rattle.std.specs.declared.option.Option.{Option}
use Rattle.std.specs.FinMap as finite
use Rattle.clone_page.specs.Header.{zero_page, IsWellFormed}
use Rattle.clone_mtr.specs.declared.record.Record.{Record}
use Rattle.clone_mtr.specs.declared.record.Record.TheVariants.{Init, Write, Extend, Create, Drop}
use Rattle.clone_outside.specs.Disk.{DiskImage, ForTold}
use Rattle.clone_image.specs.Image.{Image, page_of}
use Rattle.clone_image.specs.Redone.{Standing, no_space, past_end, stands, standing_of}
use Rattle.clone_overlay.specs.Covers.{Cover, Overlay}
use Rattle.clone_overlay.specs.Images.{image_of, pages_in, IsQuiet}

-- the page of this number: as it is held, or as the base has it, or unused
abbrev pub leaf_over : List (List ℕ) → Cover → ℕ → List ℕ
leaf_over base cover number =
    unwrap_or (finite.get cover.leaves number)
    (if nat_lt number cover.kept then get_or base number [] else zero_page)

-- how a page stands over the pages of a base
abbrev pub standing_over : List (List ℕ) → Option Cover → ℕ → Standing
standing_over base None number = no_space
standing_over base (Some cover) number =
    if nat_lt number cover.count then stands (leaf_over base cover number) else past_end

-- all pages of the base count or none, and no page past the end does or is held
pub record Fits (base : List (List ℕ)) (cover : Cover) : Type 0 where
  pub kept : (cover.kept ≡ 0) ⊎ (cover.kept ≡ length base)
  pub low : cover.kept ≤ cover.count
  pub within : (number : ℕ) → cover.count ≤ number → finite.get cover.leaves number ≡ None

-- over the base each page stands as in the image
pub record Shows (base image : Image) (overlay : Overlay) : Type 0 where
  pub standings : (space number : ℕ)
      → standing_of image space number
      ≡ standing_over (pages_in base space) (finite.get overlay space) number
  pub fits : (space : ℕ) → IfSome (finite.get overlay space) (Fits (pages_in base space))

-- the page is held, or there is no such page
abbrev pub IsReady : Overlay → ℕ → ℕ → Type 0
IsReady overlay space number =
    IfSome (finite.get overlay space)
    (λ cover. number < cover.count → IsSome (finite.get cover.leaves number))

-- the page that a record changes is ready
abbrev pub IsReadyFor : Overlay → Record → Type 0
IsReadyFor overlay (Init space number kind) = IsReady overlay space number
IsReadyFor overlay (Write space number patch) = IsReady overlay space number
IsReadyFor overlay (Extend space count) = Unit {0}
IsReadyFor overlay (Create space count) = Unit {0}
IsReadyFor overlay (Drop space) = Unit {0}

-- a fact of a quiet disk's own image, where the overlay shows one over it
abbrev pub ForBase : Option DiskImage → Overlay → (Image → Type 0) → Type 0
ForBase told overlay P =
    ForTold told (λ m. IsQuiet m → (image : Image) → Shows (image_of m) image overlay
    → P (image_of m))

-- over a quiet disk both show the same
abbrev pub ShowsSame : Option DiskImage → Overlay → Overlay → Type 0
ShowsSame told old new =
    ForTold told
    (λ m. IsQuiet m → (image : Image) → Shows (image_of m) image old → Shows (image_of m) image new)

-- the bytes may stand at this place
abbrev pub IsPage : ℕ → ℕ → List ℕ → Type 0
IsPage space number page = (page ≡ zero_page) ⊎ IsWellFormed space number page

-- the page is there, and may not stand at its place
pub record IsMisplaced (space number : ℕ) (image : Image) : Type 0 where
  pub page : List ℕ
  pub there : page_of image space number ≡ Some page
  pub against : IsPage space number page → ⊥
