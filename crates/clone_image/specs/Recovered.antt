-- What recovery makes of the image that a log leaves: the changes of each transaction that was open
-- are taken back, last change first. Nothing else changes, and page LSNs stay. It is the textbook
-- rule of undo logging.
use Rattle.std.specs.Prelude.{ℕ, zero, suc, List, [], ◌∷◌, replicate, None, Some, unwrap_or}
use Rattle.std.specs.declared.option.Option.{Option}
use Rattle.clone_page.specs.Bytes.{put_at}
use Rattle.clone_page.specs.Slots.{slot_at}
use Rattle.clone_undo.specs.Entries.{UndoEntry}
use Rattle.clone_undo.specs.Places.{undo_slot_count, header_page, header_offset}
use Rattle.clone_undo.specs.Slots.{UndoSlot, undo_slot}
use Rattle.clone_undo.specs.Changes.{slot_before}
use Rattle.clone_image.specs.Image.{Image, page_of, with_edit, edited}

-- the pages of the system space by their numbers
abbrev pub system_pages : Image → ℕ → List ℕ
system_pages image number = unwrap_or (page_of image 0 number) []

-- the undo slot of this number
abbrev pub undo_slot_of : Image → ℕ → Option UndoSlot
undo_slot_of image s = undo_slot s (system_pages image)

-- the row slot that an undo record names is as it was before the change
abbrev pub undone : Image → UndoEntry → Image
undone image e = with_edit image e.table (edited e.page (put_at (slot_at e.slot) (slot_before e)))

-- changes are taken back, the last of them first
abbrev pub all_undone : Image → List UndoEntry → Image
all_undone image [] = image
all_undone image (e ∷ es) = undone (all_undone image es) e

-- the header of an undo slot becomes zero bytes
abbrev pub freed : Image → ℕ → Image
freed image s = with_edit image 0 (edited (header_page s) (put_at header_offset (replicate 16 0)))

-- an undo slot that is in use has its changes taken back and is freed, and a free one stays
abbrev pub taken_back : Image → ℕ → Option UndoSlot → Image
taken_back image s None = image
taken_back image s (Some slot) = freed (all_undone image slot.records) s

-- the undo slots below a number, in ascending order
unfoldable pub taken_back_below : ℕ → Image → Image
taken_back_below zero image = image
taken_back_below (suc s) image =
    taken_back (taken_back_below s image) s (undo_slot_of (taken_back_below s image) s)

unfoldable pub recovered : Image → Image
recovered image = taken_back_below undo_slot_count image
