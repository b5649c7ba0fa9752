-- Spaces of tables that get longer or go: what each such mini-transaction asks of the contents
-- before it, and what it leaves.
use Rattle.std.specs.Prelude.{ℕ, ◌≡◌, ◌≢◌, ◌<◌, ◌+◌, false, slice_set, None, Some}
use Rattle.clone_model.specs.declared.line.TheConstants.{MOST_PAGES}
use Rattle.clone_space.specs.Entries.{entry_in, free}
use Rattle.clone_space.specs.Records.{records_of_growth, records_of_drop}
use Rattle.clone_row.specs.Slots.{unused}
use Rattle.clone_image.specs.Image.{Image, after_records}
use Rattle.clone_contents.specs.Contents.{Contents, contents_of, named, set_at, HasPage}
use Rattle.clone_contents.specs.Formed.{IsFormed, HasContents}
use Rattle.clone_contents.specs.Steps.{is_unused}

-- The space of a table gets one page more.

-- the table that is named in the entry with this number has a space of so many pages, which may
-- have one more, and in it this page
pub record MayGrow (c : Contents) (entry_number table pages last : ℕ) : Type 0 where
  pub named : named c entry_number ≡ table
  pub used : table ≢ 0
  pub size : c.size table ≡ Some pages
  pub room : pages < MOST_PAGES
  pub there : HasPage c table last

-- the space has one page more, as its entry tells, and the new page is behind this one
abbrev pub grown : ℕ → ℕ → ℕ → ℕ → Contents → Contents
grown entry_number table pages last c =
    record c {
      dictionary = slice_set c.dictionary entry_number
          (record (entry_in c.dictionary entry_number) { pages = pages + 1 });
      size = set_at table (Some (pages + 1)) c.size;
      next = set_at table (set_at last (Some pages) (c.next table)) c.next;
    }

-- an unused page has no page behind it, whatever is written there
abbrev pub GrowthLaw : Type 0
GrowthLaw =
    (lsn entry_number table pages last : ℕ) (image : Image) → IsFormed image
    → MayGrow (contents_of image) entry_number table pages last → is_unused image table last ≡ false
    → HasContents (after_records lsn image (records_of_growth entry_number table pages last))
    (grown entry_number table pages last (contents_of image))

-- A table is dropped.

-- the table is named in the entry with this number
pub record MayDrop (c : Contents) (entry_number table : ℕ) : Type 0 where
  pub named : named c entry_number ≡ table
  pub used : table ≢ 0

-- the entry is free, and the table has no space, no slot in use and no chain
abbrev pub dropped : ℕ → ℕ → Contents → Contents
dropped entry_number table c =
    record c {
      dictionary = slice_set c.dictionary entry_number free;
      size = set_at table None c.size;
      slot = set_at table (λ page j. unused) c.slot;
      next = set_at table (λ page. None) c.next;
    }

abbrev pub DropLaw : Type 0
DropLaw =
    (lsn entry_number table : ℕ) (image : Image) → IsFormed image
    → MayDrop (contents_of image) entry_number table
    → HasContents (after_records lsn image (records_of_drop entry_number table))
    (dropped entry_number table (contents_of image))
