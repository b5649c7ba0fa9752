-- What on a disk is against the format.
use Rattle.std.specs.Prelude.{ℕ, ◌≡◌, ◌≢◌, ◌<◌, ◌⊎◌, List, None, Some, true, ⊤}
use Rattle.std.specs.declared.option.Option.{Option}
use Rattle.std.specs.FinMap as finite
use Rattle.clone_outside.specs.Disk.{DiskImage, ForTold}
use Rattle.clone_page.specs.Dictionary.{entry_count, entry_space}
use Rattle.clone_undo.specs.Entries.{UndoEntry, IsEntry}
use Rattle.clone_undo.specs.Places.{undo_slot_count, capacity, header_page, record_page}
use Rattle.clone_undo.specs.Slots.{is_in_use, count_of, entry_on}
use Rattle.clone_image.specs.Image.{Image, page_of}
use Rattle.clone_image.specs.Recovered.{system_pages}
use Rattle.clone_image.specs.Rows.{IsListed}
use Rattle.clone_overlay.specs.Covers.{Overlay}
use Rattle.clone_overlay.specs.Images.{image_of, IsQuiet}
use Rattle.clone_overlay.specs.Shown.{Shows, IsMisplaced}
use Rattle.clone_recover.specs.declared.refusal.Why.TheVariants as why
use Rattle.clone_recover.specs.declared.refusal.RecoverRefusal.{RecoverRefusal}
use Rattle.clone_recover.specs.declared.refusal.RecoverRefusal.TheVariants.{Incomplete, Damaged, DiskFault, NoMemory}

-- a fact of a quiet disk and of the image that an overlay shows over it
abbrev pub ForImage : Option DiskImage → Overlay → (DiskImage → Image → Type 0) → Type 0
ForImage told overlay P =
    ForTold told (λ m. IsQuiet m → (image : Image) → Shows (image_of m) image overlay → P m image)

-- over a quiet disk the new overlay shows what an edit makes of the image
abbrev pub ShowsEdited : Option DiskImage → Overlay → Overlay → (Image → Image) → Type 0
ShowsEdited told old new edit = ForImage told old (λ m image. Shows (image_of m) (edit image) new)

-- an entry of the system page names a space that isn't there
pub record NamesGone (image : Image) (system : List ℕ) : Type 0 where
  pub entry_number : ℕ
  pub within : entry_number < entry_count
  pub used : entry_space entry_number system ≢ 0
  pub missing : finite.get image (entry_space entry_number system) ≡ None

-- the dictionary names a space that isn't there
pub record NamesMissing (image : Image) : Type 0 where
  pub system : List ℕ
  pub there : page_of image 0 0 ≡ Some system
  pub names : NamesGone image system

-- the undo slot is in use, and its header, on this page, tells more records than it can have
pub record CountsTooMany (image : Image) (slot page : ℕ) : Type 0 where
  pub within : slot < undo_slot_count
  pub is : page ≡ header_page slot
  pub bytes : List ℕ
  pub there : page_of image 0 page ≡ Some bytes
  pub used : is_in_use bytes ≡ true
  pub many : capacity < count_of bytes

-- some undo slot tells too many records on this page
abbrev pub HasTooMany : Image → ℕ → Type 0
HasTooMany image page = (slot : ℕ) × CountsTooMany image slot page

-- no undo slot tells too many records
abbrev pub CountsFit : Image → Type 0
CountsFit image = (slot page : ℕ) → CountsTooMany image slot page → ⊥

-- the fields of an undo record are in their ranges, and its table and its page are there
pub record IsSound (image : Image) (entry : UndoEntry) : Type 0 where
  pub ranges : IsEntry entry
  pub listed : IsListed (page_of image) entry.table
  pub row : List ℕ
  pub there : page_of image entry.table entry.page ≡ Some row

-- the undo record of this number isn't sound, or its page isn't there
pub record IsUnsoundAt (image : Image) (slot number page : ℕ) : Type 0 where
  pub is : page ≡ record_page slot number
  pub against : (bytes : List ℕ) → page_of image 0 page ≡ Some bytes
      → IsSound image (entry_on number bytes) → ⊥

-- one of the first undo records of a slot, so many, isn't sound
pub record IsUnsoundBelow (image : Image) (slot count page : ℕ) : Type 0 where
  pub number : ℕ
  pub counted : number < count
  pub at : IsUnsoundAt image slot number page

-- a record of the undo slot, which is in use, isn't sound
pub record IsUnsound (image : Image) (slot page : ℕ) : Type 0 where
  pub within : slot < undo_slot_count
  pub used : is_in_use (system_pages image (header_page slot)) ≡ true
  pub below : IsUnsoundBelow image slot (count_of (system_pages image (header_page slot))) page

-- the undo slot is against the format on this page
abbrev pub IsBroken : Image → ℕ → ℕ → Type 0
IsBroken image slot page = CountsTooMany image slot page ⊎ IsUnsound image slot page

-- some undo slot is against the format on this page
abbrev pub HasBroken : Image → ℕ → Type 0
HasBroken image page = (slot : ℕ) × IsBroken image slot page

-- a count is too high on this page; or no count is, and a record on it isn't sound
abbrev pub IsFirstBroken : Image → ℕ → Type 0
IsFirstBroken image page =
    HasTooMany image page ⊎ (CountsFit image × ((slot : ℕ) × IsUnsound image slot page))

-- the disk's page may not stand at its place, if that is what a refusal says
abbrev pub IsHeader : DiskImage → RecoverRefusal → Type 0
IsHeader m Incomplete = ⊥
IsHeader m (Damaged space page why.Header) = IsMisplaced space page (image_of m)
IsHeader m (Damaged space page why.Redo) = ⊥
IsHeader m (Damaged space page why.Dictionary) = ⊥
IsHeader m (Damaged space page why.Undo) = ⊥
IsHeader m (Damaged space page why.Chain) = ⊥
IsHeader m DiskFault = ⊤
IsHeader m NoMemory = ⊤

-- the same, or a page of the system space isn't as it has to be
abbrev pub IsPageOr : (ℕ → Type 0) → DiskImage → RecoverRefusal → Type 0
IsPageOr Undone m Incomplete = ⊥
IsPageOr Undone m (Damaged space page why.Header) = IsMisplaced space page (image_of m)
IsPageOr Undone m (Damaged space page why.Redo) = ⊥
IsPageOr Undone m (Damaged space page why.Dictionary) = ⊥
IsPageOr Undone m (Damaged space page why.Undo) = (space ≡ 0) × Undone page
IsPageOr Undone m (Damaged space page why.Chain) = ⊥
IsPageOr Undone m DiskFault = ⊤
IsPageOr Undone m NoMemory = ⊤

-- the same, or a chain of a table isn't as it has to be
abbrev pub IsChainOr : (ℕ → ℕ → Type 0) → DiskImage → RecoverRefusal → Type 0
IsChainOr Broken m Incomplete = ⊥
IsChainOr Broken m (Damaged space page why.Header) = IsMisplaced space page (image_of m)
IsChainOr Broken m (Damaged space page why.Redo) = ⊥
IsChainOr Broken m (Damaged space page why.Dictionary) = ⊥
IsChainOr Broken m (Damaged space page why.Undo) = ⊥
IsChainOr Broken m (Damaged space page why.Chain) = Broken space page
IsChainOr Broken m DiskFault = ⊤
IsChainOr Broken m NoMemory = ⊤

-- what a refusal names of the pages that redo leaves
abbrev pub IsAgainst : DiskImage → Image → RecoverRefusal → Type 0
IsAgainst m image Incomplete = ⊥
IsAgainst m image (Damaged space page why.Header) = IsMisplaced space page (image_of m)
IsAgainst m image (Damaged space page why.Redo) = ⊥
IsAgainst m image (Damaged space page why.Dictionary) =
    (space ≡ 0) × (page ≡ 0) × NamesMissing image
IsAgainst m image (Damaged space page why.Undo) =
    (space ≡ 0) × HasBroken image page
IsAgainst m image (Damaged space page why.Chain) = ⊥
IsAgainst m image DiskFault = ⊤
IsAgainst m image NoMemory = ⊤

-- the same of a quiet disk, under an overlay
abbrev pub HeaderOn : Option DiskImage → Overlay → RecoverRefusal → Type 0
HeaderOn told overlay refusal = ForImage told overlay (λ m image. IsHeader m refusal)

abbrev pub AgainstOn : Option DiskImage → Overlay → RecoverRefusal → Type 0
AgainstOn told overlay refusal = ForImage told overlay (λ m image. IsAgainst m image refusal)

-- as IsPageOr and IsChainOr, for what the overlay shows of a quiet disk
abbrev pub PageOrOn : Option DiskImage → Overlay → (Image → ℕ → Type 0) → RecoverRefusal → Type 0
PageOrOn told overlay Undone refusal =
    ForImage told overlay (λ m image. IsPageOr (Undone image) m refusal)

abbrev pub ChainOrOn : Option DiskImage → Overlay → (Image → ℕ → ℕ → Type 0) → RecoverRefusal
    → Type 0
ChainOrOn told overlay Broken refusal =
    ForImage told overlay (λ m image. IsChainOr (Broken image) m refusal)
