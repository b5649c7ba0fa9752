-- Records that are carried out on the pages of a disk, page by page by the rule of redo.
use Rattle.std.specs.Prelude.{ℕ, ◌≡◌, Bool, List, None}
use Rattle.std.specs.declared.option.Option.{Option}
use Rattle.clone_mtr.specs.declared.record.Record.{Record}
use Rattle.clone_outside.specs.Disk.{DiskImage, ForTold}
use Rattle.clone_image.specs.Image.{Image}
use Rattle.clone_image.specs.Redone.{Redoing, redone_by, redone_records, standing_of}
use Rattle.clone_overlay.specs.Covers.{Overlay}
use Rattle.clone_overlay.specs.Images.{image_of, IsQuiet}
use Rattle.clone_overlay.specs.Shown.{Shows}
use Rattle.clone_recover.specs.Meetings.{met, Meets}
use Rattle.clone_recover.specs.declared.redo.Meeting.{Meeting}

-- how a page is within a mini-transaction
abbrev pub redoing : Image → List Meeting → ℕ → ℕ → Redoing
redoing image meetings space number = record {
  standing = standing_of image space number;
  counts = met meetings space number;
}

-- over a quiet disk the new overlay shows the same, and a record came to this page
abbrev pub MeetsOn : Option DiskImage → ℕ → ℕ → ℕ → Overlay → Overlay
    → List Meeting → List Meeting → Bool → Type 0
MeetsOn told end space number old new before after counts =
    ForTold told (λ m. IsQuiet m → (image : Image) → Shows (image_of m) image old
    → Shows (image_of m) image new × Meets end space number image before after counts)

-- the new overlay shows an image in which each page is as a record makes it
pub record Steps (m : DiskImage) (end : ℕ) (image : Image) (before after : List Meeting)
    (new : Overlay) (entry : Record) : Type 0 where
  pub next : Image
  pub shows : Shows (image_of m) next new
  pub each : (s n : ℕ) → redoing next after s n ≡ redone_by end s n (redoing image before s n) entry

abbrev pub StepsOn : Option DiskImage → ℕ → Overlay → Overlay
    → List Meeting → List Meeting → Record → Type 0
StepsOn told end old new before after entry =
    ForTold told (λ m. IsQuiet m → (image : Image) → Shows (image_of m) image old
    → Steps m end image before after new entry)

-- the same for the records of a mini-transaction
pub record Redoes (m : DiskImage) (end : ℕ) (image : Image) (new : Overlay)
    (entries : List Record) : Type 0 where
  pub next : Image
  pub shows : Shows (image_of m) next new
  pub each : (s n : ℕ) → standing_of next s n ≡ (redone_records end s n
      (record { standing = standing_of image s n; counts = None }) entries).standing

abbrev pub RedoesOn : Option DiskImage → ℕ → Overlay → Overlay → List Record → Type 0
RedoesOn told end old new entries =
    ForTold told (λ m. IsQuiet m → (image : Image) → Shows (image_of m) image old
    → Redoes m end image new entries)
