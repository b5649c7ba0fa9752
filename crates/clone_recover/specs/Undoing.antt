-- What is read of an undo slot.
use Rattle.std.specs.Prelude.{ℕ, ◌≡◌, ◌<◌, List, None, Some, IfSome}
use Rattle.std.specs.List.{AllByRecursion}
use Rattle.std.specs.declared.option.Option.{Option}
use Rattle.clone_outside.specs.Disk.{DiskImage}
use Rattle.clone_undo.specs.Entries.{UndoEntry, IsEntry}
use Rattle.clone_undo.specs.Places.{record_page}
use Rattle.clone_undo.specs.Slots.{UndoSlot, entries, entry_on}
use Rattle.clone_undo.specs.declared.reading.SlotHeader.{SlotHeader}
use Rattle.clone_image.specs.Image.{Image, page_of}
use Rattle.clone_image.specs.Recovered.{system_pages, undo_slot_of}
use Rattle.clone_overlay.specs.Covers.{Overlay}
use Rattle.clone_overlay.specs.Shown.{Shows}
use Rattle.clone_recover.specs.Damage.{ForImage, IsSound}

-- the undo slot is in use and has so many records
pub record HasChanges (count s : ℕ) (image : Image) : Type 0 where
  pub slot : UndoSlot
  pub is : undo_slot_of image s ≡ Some slot
  pub records : slot.records ≡ entries s (system_pages image) count

-- every record of the undo slot is in its ranges, if the slot is in use
abbrev pub IsSlotInRange : Option UndoSlot → Type 0
IsSlotInRange slot = IfSome slot (λ u. AllByRecursion IsEntry u.records)

-- the undo slots below a number have records in their ranges alone
abbrev pub InRange : ℕ → Image → Type 0
InRange count image = (s : ℕ) → s < count → IsSlotInRange (undo_slot_of image s)

-- the undo record of this number of a slot
abbrev pub record_of : Image → ℕ → ℕ → UndoEntry
record_of image slot number = entry_on number (system_pages image (record_page slot number))

-- the header tells how many changes the slot has, or the slot is free
abbrev pub HasHeader : Image → ℕ → Option SlotHeader → Type 0
HasHeader image slot None = undo_slot_of image slot ≡ None
HasHeader image slot (Some header) = HasChanges header.count slot image

abbrev pub IsHeaderOf : Option DiskImage → Overlay → ℕ → Option SlotHeader → Type 0
IsHeaderOf told overlay slot header = ForImage told overlay (λ m image. HasHeader image slot header)

-- the undo record of this number on a page of the system space
pub record IsRecordOn (image : Image) (on number : ℕ) (entry : UndoEntry) : Type 0 where
  pub bytes : List ℕ
  pub there : page_of image 0 on ≡ Some bytes
  pub is : entry ≡ entry_on number bytes

-- the same, as an overlay shows it
abbrev pub IsRecordOf : Overlay → ℕ → ℕ → UndoEntry → Type 0
IsRecordOf overlay on number entry =
    (base image : Image) → Shows base image overlay → IsRecordOn image on number entry

-- the undo record, which is sound, or none where it isn't
abbrev pub HasSoundRecord : Image → ℕ → ℕ → Option UndoEntry → Type 0
HasSoundRecord image on number None =
    (bytes : List ℕ) → page_of image 0 on ≡ Some bytes → IsSound image (entry_on number bytes) → ⊥
HasSoundRecord image on number (Some entry) = IsRecordOn image on number entry × IsSound image entry

abbrev pub IsSoundRecord : Option DiskImage → Overlay → ℕ → ℕ → Option UndoEntry → Type 0
IsSoundRecord told overlay on number entry =
    ForImage told overlay (λ m image. HasSoundRecord image on number entry)
