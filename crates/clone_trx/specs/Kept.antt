-- What holds between calls: of the transactions alone, and of the pages that they go over.
use Rattle.std.specs.Prelude.{ℕ, ◌≡◌, ◌≢◌, ◌≤◌, ◌<◌, ◌-◌, ◌%◌, ◌++◌, ◌∷◌, ◌⊎◌, [], Bool, false, List, length, IsTrue, IsSome, IfSome, None, Some, slice_get}
use Rattle.std.specs.FinMap as finite
use Rattle.std.specs.Ordering.{nat_cmp}
use Rattle.clone_base.specs.declared.limits.TheConstants.{TABLE_LIMIT}
use Rattle.clone_model.specs.declared.line.TheConstants.{HIGHEST_TABLE, MOST_BUCKETS, MOST_PAGES}
use Rattle.clone_model.specs.declared.change.Change.{Change}
use Rattle.clone_model.specs.declared.change.Commit.{Commit}
use Rattle.clone_mtr.specs.declared.record.Record.{Record}
use Rattle.clone_undo.specs.Entries.{UndoEntry, IsEntry}
use Rattle.clone_undo.specs.Slots.{UndoSlot}
use Rattle.clone_page.specs.Slots.{row_slot_count}
use Rattle.clone_row.specs.Slots.{unused}
use Rattle.clone_image.specs.Image.{Image}
use Rattle.clone_image.specs.Recovered.{undo_slot_of}
use Rattle.clone_image.specs.Replay.{replayed}
use Rattle.clone_contents.specs.Contents.{Contents, contents_of, named}
use Rattle.clone_contents.specs.Steps.{is_unused}
use Rattle.clone_pool.specs.declared.frame.Content.TheVariants.{Fresh}
use Rattle.clone_pool.specs.declared.frame.Frame.{Frame}
use Rattle.clone_pool.specs.declared.frame.PageName.{PageName}
use Rattle.clone_pool.specs.Frames.{frame_at}
use Rattle.clone_pool.specs.Pool.{IsHolder}
use Rattle.clone_buffer.specs.Buffered.{Buffered, image_of}
use Rattle.clone_plain.specs.Donor.{Donor, changes_of}
use Rattle.clone_plain.specs.Locked.{IsLocked, value_of}
use Rattle.clone_plain.specs.Causes.{change_cause}
use Rattle.clone_trx.specs.declared.walk.Spot.{Spot}
use Rattle.clone_trx.specs.RowSlots.{told}
use Rattle.clone_trx.specs.Sound.{IsKept, IsBound, OnChain, Slots}

-- there are no more tables than may be, each with a number and so many buckets as it may have
pub record AreTables (tables : finite.FinMap nat_cmp ℕ) : Type 0 where
  pub few : finite.len tables ≤ TABLE_LIMIT
  pub ranges : (table count : ℕ) → finite.get tables table ≡ Some count → (1 ≤ table)
      × (table ≤ HIGHEST_TABLE) × (1 ≤ count) × (count ≤ MOST_BUCKETS)

-- what holds of transactions, whatever the pages are
pub record IsSafe (d : Donor) : Type 0 where
  pub locked : IsLocked d
  pub tables : AreTables d.tables
  -- a row that is locked is one of a table that is there
  pub rows : (table key trx : ℕ) → finite.get d.locks (table, key) ≡ Some trx
      → IsSome (finite.get d.tables table)

-- no frame is pinned
abbrev pub AreLoose : List Frame → Type 0
AreLoose frames = (at : ℕ) → (frame_at frames at).pins ≡ 0

-- No frame is pinned, and where each page that was read was right, the image keeps what the donor
-- is.
pub record Keeps (d : Donor) (b : Buffered) : Type 0 where
  pub loose : AreLoose b.pool.frames
  pub kept : IsTrue b.right → IsKept d (image_of b)

-- no frame was taken for a new page of a space
abbrev pub HasNoFresh : ℕ → List Frame → Type 0
HasNoFresh space frames =
    (at : ℕ) (name : PageName) → (frame_at frames at).content ≡ Fresh name → name.space ≢ space

-- a page is in this frame, which is pinned
pub record Has (page : PageName) (at : ℕ) (frames : List Frame) : Type 0 where
  pub holder : IsHolder page frames at
  pub pinned : 0 < (frame_at frames at).pins

-- a page is in a frame that is pinned
abbrev pub IsHeld : PageName → List Frame → Type 0
IsHeld page frames = (at : ℕ) × Has page at frames

-- the plain donor has no cause against a change
abbrev pub MayChange : Donor → ℕ → Change → Type 0
MayChange d trx change =
    (long : ℕ) × (change_cause d trx change.table change.key long ≡ None)

-- no slot of a table is bound to a key
abbrev pub IsNowhere : Slots → ℕ → ℕ → Type 0
IsNowhere slot table key =
    (page slot_number : ℕ) → ¬ IsBound slot table page slot_number key

-- Where the row of a key is, or where it may go: on a page of its bucket's chain, in the slot that
-- is bound to the key, or in one that was never used where the key is bound nowhere.
pub record IsRowSlot (d : Donor) (c : Contents) (table page slot_number key : ℕ) : Type 0 where
  pub count : ℕ
  pub there : finite.get d.tables table ≡ Some count
  pub chain : OnChain (c.next table) (key % count) page
  pub may : IsBound c.slot table page slot_number key
      ⊎ ((c.slot table page slot_number ≡ unused) × IsNowhere c.slot table key)

-- The chain of a key's row is full: it ends at this page, all slots of which were used, and the key
-- is bound nowhere.
pub record IsFullAt (d : Donor) (image : Image) (table page key : ℕ) : Type 0 where
  pub count : ℕ
  pub there : finite.get d.tables table ≡ Some count
  pub chain : OnChain ((contents_of image).next table) (key % count) page
  pub last : (contents_of image).next table page ≡ None
  pub used : is_unused image table page ≡ false
  pub nowhere : IsNowhere (contents_of image).slot table key

-- the numbers of a page and of a slot there are in their ranges
abbrev pub IsInRange : Spot → Type 0
IsInRange spot =
    (spot.page < MOST_PAGES) × IfSome spot.slot (λ slot_number. slot_number < row_slot_count)

-- Where the row of a key is or may go, as a walk found it: the page is held, and where all that was
-- read is right, the slot is the one for the row, or the chain is full where there is no slot.
pub record IsSpot (d : Donor) (table key : ℕ) (b : Buffered) (spot : Spot) : Type 0 where
  pub in_range : IsInRange spot
  pub has : Has (record { space = table; number = spot.page }) spot.at b.pool.frames
  pub row_slot : IsTrue b.right → IfSome spot.slot
      (λ slot_number. IsRowSlot d (contents_of (image_of b)) table spot.page slot_number key)
  pub full : IsTrue b.right → spot.slot ≡ None → IsFullAt d (image_of b) table spot.page key

-- the entry with this number names the table, whose space has so many pages
abbrev pub TellsPages : Contents → ℕ → ℕ → ℕ → Type 0
TellsPages c table entry_number pages =
    (named c entry_number ≡ table) × (c.size table ≡ Some pages)

-- Where a change of a row goes: what its undo record tells, whether the row's page is new, and how
-- many changes the transaction has made. The slot is one for the row, and the value from before is
-- that of the row, where all that was read is right.
pub record IsTargetFor (d : Donor) (trx : ℕ) (change : Change) (b : Buffered) (entry : UndoEntry)
    (new : Bool) (made : ℕ) : Type 0 where
  pub table : entry.table ≡ change.table
  pub key : entry.key ≡ change.key
  pub in_range : IsEntry entry
  pub count : made ≡ length (changes_of d trx)
  pub told : IsTrue b.right → entry
      ≡ told change.table entry.page change.key entry.slot (value_of d change.table change.key)
  pub row_slot : IsTrue b.right
      → IsRowSlot d (contents_of (image_of b)) change.table entry.page entry.slot change.key
  pub unused : IsTrue b.right → new ≡ is_unused (image_of b) entry.table entry.page

-- a transaction has made so many changes, and the last of them was of this row
pub record IsLast (d : Donor) (trx count table key : ℕ) : Type 0 where
  pub commit : Commit
  pub change : Change
  pub active : finite.get d.active trx ≡ Some commit
  pub made : count ≡ length commit.changes
  pub last : slice_get commit.changes (count - 1) ≡ Some change
  pub table_is : change.table ≡ table
  pub key_is : change.key ≡ key

-- the last record of an undo slot
pub record IsLastRecord (image : Image) (trx : ℕ) (e : UndoEntry) : Type 0 where
  pub slot : UndoSlot
  pub front : List UndoEntry
  pub used : undo_slot_of image trx ≡ Some slot
  pub last : slot.records ≡ front ++ e ∷ []

-- where two mini-transactions were written, the image between them keeps what the donor was
abbrev pub KeptBetween : Donor → Buffered → Buffered → Type 0
KeptBetween d old new =
    (first second : List Record) → new.log ≡ old.log ++ first ∷ second ∷ [] → IsTrue new.right
    → IsKept d (replayed (old.log ++ first ∷ []))
