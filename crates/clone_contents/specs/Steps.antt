-- What each mini-transaction asks of the contents before it, and what it leaves.
use Rattle.std.specs.Prelude.{ℕ, ◌≡◌, ◌<◌, ◌≤◌, ◌^◌, ◌==◌, ◌++◌, ◌∷◌, [], Bool, List, length, replicate, slice_set, IfSome, None, Some}
use Rattle.std.specs.declared.option.Option.{Option}
use Rattle.std.specs.List.{AllByRecursion}
use Rattle.clone_model.specs.declared.line.TheConstants.{HIGHEST_TABLE}
use Rattle.clone_page.specs.Header.{kind_of}
use Rattle.clone_page.specs.Dictionary.{entry_count}
use Rattle.clone_space.specs.Entries.{free}
use Rattle.clone_row.specs.Slots.{unused, row_slot, bound_key}
use Rattle.clone_undo.specs.Entries.{UndoEntry, IsEntry}
use Rattle.clone_undo.specs.Places.{undo_slot_count, capacity}
use Rattle.clone_undo.specs.Slots.{UndoSlot}
use Rattle.clone_image.specs.Image.{Image, all_pages}
use Rattle.clone_contents.specs.Contents.{Contents, set_at, with_slot, with_undo, undone, HasPage}
use Rattle.clone_contents.specs.Records.{system_size}

-- a page was never used
abbrev pub is_unused : Image → ℕ → ℕ → Bool
is_unused image space number = kind_of (all_pages image space number) == 0

-- what opening leaves: a system space, and nothing else
abbrev pub opened : Contents
opened = record {
  dictionary = replicate entry_count free;
  size = set_at 0 (Some system_size) (λ space. None);
  slot = λ table page j. unused;
  next = λ table page. None;
  undo = λ s. None;
  position = 0;
}

-- a table of this number and of so many buckets may be made, and named in this entry
pub record MayCreate (c : Contents) (entry_number table buckets : ℕ) : Type 0 where
  pub room : entry_number < entry_count
  pub used : 1 ≤ table
  pub low : table ≤ HIGHEST_TABLE
  pub fits : buckets < 2 ^ 32
  pub free : c.size table ≡ None

-- a table is named in this entry of the dictionary, and has a space with a page for each bucket
abbrev pub created : ℕ → ℕ → ℕ → Contents → Contents
created entry_number table buckets c =
    record c {
      dictionary = slice_set c.dictionary entry_number
          (record { table = table; buckets = buckets; pages = buckets });
      size = set_at table (Some buckets) c.size;
    }

-- a transaction of this writer and index may begin
pub record MayBegin (s writer index : ℕ) : Type 0 where
  pub small : s < undo_slot_count
  pub writer_fits : writer < 2 ^ 32
  pub index_fits : index < 2 ^ 64

-- a transaction has begun, without a change
abbrev pub begun : ℕ → ℕ → ℕ → Contents → Contents
begun s writer index c =
    with_undo s (Some (record { writer = writer; index = index; records = [] })) c

-- a transaction has ended
abbrev pub ended : ℕ → Contents → Contents
ended s c = with_undo s None c

-- a transaction has ended by a commit, after which there are so many
abbrev pub committed : ℕ → ℕ → Contents → Contents
committed s position c = record (with_undo s None c) { position = position }

-- the undo slot with other records
abbrev pub telling : UndoSlot → List UndoEntry → Option UndoSlot
telling slot records = Some (record slot { records = records })

-- a change may be written, with an undo record behind those of its undo slot
pub record MayChange (c : Contents) (s : ℕ) (slot : UndoSlot) (e : UndoEntry)
    (value : Option (List ℕ)) : Type 0 where
  pub small : s < undo_slot_count
  pub used : c.undo s ≡ Some slot
  pub known : AllByRecursion IsEntry slot.records
  pub room : length slot.records < capacity
  pub in_range : IsEntry e
  pub there : HasPage c e.table e.page
  pub short : IfSome value (λ v. length v ≤ 64)

abbrev pub changed : ℕ → UndoSlot → UndoEntry → Option (List ℕ) → Contents → Contents
changed s slot e value c =
    with_slot e.table e.page e.slot (row_slot e.key value)
    (with_undo s (telling slot (slot.records ++ e ∷ [])) c)

-- the last record of an undo slot may be taken back
pub record MayTakeBack (c : Contents) (s : ℕ) (slot : UndoSlot) (front : List UndoEntry)
    (e : UndoEntry) : Type 0 where
  pub small : s < undo_slot_count
  pub used : c.undo s ≡ Some slot
  pub last : slot.records ≡ front ++ e ∷ []
  pub few : length slot.records ≤ capacity
  pub in_range : IsEntry e
  pub there : HasPage c e.table e.page
  pub bound : bound_key (c.slot e.table e.page e.slot) ≡ Some e.key

abbrev pub taken_back : ℕ → UndoSlot → List UndoEntry → UndoEntry → Contents → Contents
taken_back s slot front e c = undone e (with_undo s (telling slot front) c)

-- recovery may take a change back: the slot that the record names is bound to the record's key
pub record MayUndo (c : Contents) (e : UndoEntry) : Type 0 where
  pub in_range : IsEntry e
  pub there : HasPage c e.table e.page
  pub bound : bound_key (c.slot e.table e.page e.slot) ≡ Some e.key
