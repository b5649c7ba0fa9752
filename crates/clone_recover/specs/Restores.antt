-- What recovery makes of a disk, and what damage it names.
use Rattle.std.specs.Prelude.{ℕ, ◌≡◌, ◌≤◌, List, ⊤, None, Some}
use Rattle.std.specs.declared.option.Option.{Option}
use Rattle.std.specs.FinMap as finite
use Rattle.clone_outside.specs.Disk.{DiskImage, ForTold}
use Rattle.clone_outside.specs.Mark.{mark_bytes, IsEnd, IsMark}
use Rattle.clone_outside.specs.declared.mark.CloneEnd.{CloneEnd}
use Rattle.clone_outside.specs.declared.mark.Mark.{Mark}
use Rattle.clone_outside.specs.declared.mark.Mark.TheVariants as mark
use Rattle.clone_mtr.specs.declared.record.Record.{Record}
use Rattle.clone_image.specs.Image.{Image}
use Rattle.clone_image.specs.Recovered.{recovered}
use Rattle.clone_image.specs.Redone.{redone_from, standing_of}
use Rattle.clone_overlay.specs.Covers.{Overlay}
use Rattle.clone_overlay.specs.Images.{redo_space, image_of, IsQuiet}
use Rattle.clone_overlay.specs.Shown.{Shows, IsMisplaced}
use Rattle.clone_recover.specs.Reading.{redo_length, IsRedo, HasRedo}
use Rattle.clone_recover.specs.Damage.{NamesMissing, IsBroken}
use Rattle.clone_recover.specs.Chains.{HasBrokenChain, IsFirstBrokenChain}
use Rattle.clone_recover.specs.declared.recovery.Recovered.{Recovered}
use Rattle.clone_recover.specs.declared.refusal.Why.{Why}
use Rattle.clone_recover.specs.declared.refusal.Why.TheVariants.{Header, Redo, Dictionary, Undo, Chain}
use Rattle.clone_recover.specs.declared.refusal.RecoverRefusal.{RecoverRefusal}
use Rattle.clone_recover.specs.declared.refusal.RecoverRefusal.TheVariants.{Incomplete, Damaged, DiskFault, NoMemory}

-- the image that redo leaves of a disk's pages, each page by itself
pub record IsLeft (m : DiskImage) (end : CloneEnd) (left : Image) : Type 0 where
  pub mtrs : List (List Record)
  pub redo : IsRedo m (redo_length end) mtrs
  pub by_page : (space number : ℕ) → standing_of left space number
      ≡ redone_from end.checkpoint space number (standing_of (image_of m) space number) mtrs

-- the overlay shows the image that redo leaves
pub record Leaves (m : DiskImage) (end : CloneEnd) (overlay : Overlay) : Type 0 where
  pub left : Image
  pub is_left : IsLeft m end left
  pub shows : Shows (image_of m) left overlay

-- no chain of a table is broken
abbrev pub HasNoBrokenChain : Image → Type 0
HasNoBrokenChain image = (table page : ℕ) → HasBrokenChain image table page → ⊥

-- the overlay shows what recovery makes of that image
pub record Undoes (m : DiskImage) (end : CloneEnd) (overlay : Overlay) : Type 0 where
  pub left : Image
  pub is_left : IsLeft m end left
  pub shows : Shows (image_of m) (recovered left) overlay
  pub chains : HasNoBrokenChain (recovered left)

-- over a quiet disk that is shown as it is, the redo is carried out
abbrev pub LeavesOn : Option DiskImage → CloneEnd → Overlay → Overlay → Type 0
LeavesOn told end old new =
    ForTold told (λ m. IsQuiet m → Shows (image_of m) (image_of m) old → Leaves m end new)

-- the overlay shows the recovered pages of a quiet disk
abbrev pub UndoesOn : Option DiskImage → CloneEnd → Overlay → Type 0
UndoesOn told end overlay = ForTold told (λ m. IsQuiet m → Undoes m end overlay)

-- the disk has this mark
abbrev pub HasMark : DiskImage → Mark → Type 0
HasMark m mark = m.mark ≡ Some (mark_bytes mark)

-- the mark that the disk has, or none where it has none
abbrev pub IsMarkOf : DiskImage → Option Mark → Type 0
IsMarkOf m None = (mark : Mark) → IsMark mark → HasMark m mark → ⊥
IsMarkOf m (Some mark) = HasMark m mark

-- the disk has a recovered mark, whose numbers have 64 bits
abbrev pub HasRecovered : DiskImage → Type 0
HasRecovered m = (end : CloneEnd) × IsEnd end × HasMark m (mark.Recovered end)

abbrev pub IsRecoveredDisk : DiskImage → Type 0
IsRecoveredDisk m = (end : CloneEnd) × HasMark m (mark.Recovered end)

-- the disk has the recovered image, of which no chain is broken, and the recovered mark, and its
-- other spaces are as they were
pub record Restores (old new : DiskImage) (end : CloneEnd) : Type 0 where
  pub left : Image
  pub is_left : IsLeft old end left
  pub image : image_of new ≡ recovered left
  pub chains : HasNoBrokenChain (recovered left)
  pub quiet : IsQuiet new
  pub others : (space : ℕ) → redo_space ≤ space
      → finite.get new.spaces space ≡ finite.get old.spaces space
  pub mark : HasMark new (mark.Recovered end)

abbrev pub numbers_of : CloneEnd → Recovered
numbers_of end = record { lsn = end.lsn; position = end.position }

-- The disk was recovered before and stays, or a complete clone on it is recovered. Of a disk with
-- open pages the mark and the numbers alone are said.
pub data Answers (old new : DiskImage) (numbers : Recovered) : Type 0 where
  again : (end : CloneEnd) → HasMark old (mark.Recovered end) → numbers ≡ numbers_of end
      → new ≡ old → Answers old new numbers
  anew : (end : CloneEnd) → HasMark old (mark.Complete end) → numbers ≡ numbers_of end
      → (IsQuiet old → Restores old new end) → Answers old new numbers

-- what is against the format, by what the damage is
pub data IsDamage (m : DiskImage) (end : CloneEnd) : ℕ → ℕ → Why → Type 0 where
  by_redo : (page : ℕ) → (HasRedo m (redo_length end) → ⊥) → IsDamage m end redo_space page Redo
  by_header : (space page : ℕ) → HasRedo m (redo_length end)
      → IsMisplaced space page (image_of m) → IsDamage m end space page Header
  by_dictionary : (left : Image) → IsLeft m end left → NamesMissing left
      → IsDamage m end 0 0 Dictionary
  by_undo : (page : ℕ) (left : Image) → IsLeft m end left → (slot : ℕ) → IsBroken left slot page
      → IsDamage m end 0 page Undo
  by_chain : (table page : ℕ) (left : Image) → IsLeft m end left
      → IsFirstBrokenChain (recovered left) table page → IsDamage m end table page Chain

-- why a complete clone on a quiet disk wasn't recovered
abbrev pub IsDamaged : DiskImage → CloneEnd → RecoverRefusal → Type 0
IsDamaged m end Incomplete = ⊥
IsDamaged m end (Damaged space page why) = IsDamage m end space page why
IsDamaged m end DiskFault = ⊤
IsDamaged m end NoMemory = ⊤

-- why redo wasn't carried out over a quiet disk that is shown as it is, and whose redo is a log
abbrev pub IsRedoCause : Option DiskImage → CloneEnd → Overlay → RecoverRefusal → Type 0
IsRedoCause told end overlay refusal =
    ForTold told (λ m. IsQuiet m → HasRedo m (redo_length end)
    → Shows (image_of m) (image_of m) overlay → IsDamaged m end refusal)

abbrev pub DamagedOn : Option DiskImage → CloneEnd → RecoverRefusal → Type 0
DamagedOn told end refusal = ForTold told (λ m. IsQuiet m → IsDamaged m end refusal)

-- no mark stands, or that of a clone under way, with the numbers of its end or without, or of a
-- recovery that is staged
pub data IsIncomplete (m : DiskImage) : Type 0 where
  unmarked : IsMarkOf m None → IsIncomplete m
  under_way : (session : ℕ) → HasMark m (mark.InProgress session) → IsIncomplete m
  numbered : (end : CloneEnd) → HasMark m (mark.Ending end) → IsIncomplete m
  unplaced : (end : CloneEnd) → HasMark m (mark.Staged end) → IsIncomplete m

-- why nothing was recovered
abbrev pub IsCause : DiskImage → RecoverRefusal → Type 0
IsCause m Incomplete = IsIncomplete m
IsCause m (Damaged space page why) =
    (end : CloneEnd) × HasMark m (mark.Complete end)
    × (IsQuiet m → IsDamage m end space page why)
IsCause m DiskFault = ⊤
IsCause m NoMemory = ⊤

-- no mark stands, or another than the recovered one
pub data IsUnrecovered (m : DiskImage) : Type 0 where
  incomplete : IsIncomplete m → IsUnrecovered m
  complete : (end : CloneEnd) → HasMark m (mark.Complete end) → IsUnrecovered m

-- why no rows were read
abbrev pub IsRowsCause : DiskImage → RecoverRefusal → Type 0
IsRowsCause m Incomplete = IsUnrecovered m
IsRowsCause m (Damaged space page why) = ⊥
IsRowsCause m DiskFault = ⊤
IsRowsCause m NoMemory = ⊤

-- what holds of what was told and of what is, where it was told
abbrev pub ForStep : Option DiskImage → Option DiskImage → (DiskImage → DiskImage → Type 0) → Type 0
ForStep None new P = ⊤
ForStep (Some m) new P = (n : DiskImage) × ((new ≡ Some n) × P m n)

-- a complete clone on a quiet disk is recovered
abbrev pub RestoresOn : Option DiskImage → Option DiskImage → CloneEnd → Type 0
RestoresOn old new end = ForStep old new (λ m n. IsQuiet m → Restores m n end)
