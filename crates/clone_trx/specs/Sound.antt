-- How the contents of an engine's image keep what the plain donor is. No byte is mentioned.
use Rattle.std.specs.Prelude.{ℕ, ◌≡◌, ◌≢◌, ◌<◌, ◌≤◌, ◌%◌, ◌==◌, List, [], ◌∷◌, length, None, Some, IsSome, MatchOption}
use Rattle.std.specs.declared.option.Option.{Option}
use Rattle.std.specs.List.{AllByRecursion, IsDistinct}
use Rattle.std.specs.FinMap as finite
use Rattle.clone_base.specs.declared.limits.TheConstants.{TRANSACTION_LIMIT, TABLE_LIMIT}
use Rattle.clone_model.specs.History.{Rows, after_change}
use Rattle.clone_model.specs.declared.change.Change.{Change}
use Rattle.clone_model.specs.declared.change.Commit.{Commit}
use Rattle.clone_model.specs.declared.line.TheConstants.{HIGHEST_TABLE, MOST_BUCKETS, MOST_PAGES}
use Rattle.clone_space.specs.Entries.{entry_in, AreAmong, AreOnce}
use Rattle.clone_row.specs.Chains.{IsChain}
use Rattle.clone_row.specs.Slots.{Slot, row_slot, bound_key, unused}
use Rattle.clone_undo.specs.Entries.{UndoEntry, IsEntry}
use Rattle.clone_undo.specs.Slots.{UndoSlot}
use Rattle.clone_image.specs.Image.{Image}
use Rattle.clone_contents.specs.Contents.{Contents, contents_of, named, told_value, HasPage}
use Rattle.clone_contents.specs.Formed.{IsFormed}
use Rattle.clone_plain.specs.Donor.{Donor}
use Rattle.clone_plain.specs.Locked.{IsLocked, committed_rows, value_of}

-- from a table, a page and a slot number to the slot there
abbrev pub Slots : Type 0
Slots = ℕ → ℕ → ℕ → Slot

-- from a table and a page to the page behind it on its chain, or none where the chain ends
abbrev pub Nexts : Type 0
Nexts = ℕ → ℕ → Option ℕ

-- the slot with a number is bound to a key
abbrev pub IsBound : Slots → ℕ → ℕ → ℕ → ℕ → Type 0
IsBound slot table page slot_number key = bound_key (slot table page slot_number) ≡ Some key

-- the space of a table has a page for each of so many buckets, and no more than a space may have
pub record HasSize (c : Contents) (table count : ℕ) : Type 0 where
  pub pages : ℕ
  pub size : c.size table ≡ Some pages
  pub enough : count ≤ pages
  pub most : pages ≤ MOST_PAGES

-- Each table stands in one entry of the dictionary, which tells how many buckets the table has, and
-- how many pages its space has. There are no other tables.
pub record HoldsTables (d : Donor) (c : Contents) : Type 0 where
  pub sizes : (table count : ℕ) → finite.get d.tables table ≡ Some count
      → HasSize c table count × (1 ≤ table) × (table ≤ HIGHEST_TABLE) × (1 ≤ count)
      × (count ≤ MOST_BUCKETS)
  pub spaces : (table : ℕ) → table ≢ 0 → finite.get d.tables table ≡ None → c.size table ≡ None
  pub listed : (table : ℕ) → IsSome (finite.get d.tables table) → (j : ℕ) × (named c j ≡ table)
  pub told : (table count pages j : ℕ) → finite.get d.tables table ≡ Some count
      → c.size table ≡ Some pages → named c j ≡ table
      → entry_in c.dictionary j ≡ record { table = table; buckets = count; pages = pages }
  pub tables : AreAmong d.tables c.dictionary
  pub once : AreOnce c.dictionary
  pub few : finite.len d.tables ≤ TABLE_LIMIT

-- A page of a table and those behind it are a chain up to its end. Each of them is there, and none
-- stands on the chain twice.
pub record HasChain (c : Contents) (table first : ℕ) : Type 0 where
  pub behind : List ℕ
  pub chain : IsChain (c.next table) first behind
  pub there : AllByRecursion (HasPage c table) (first ∷ behind)
  pub once : IsDistinct (λ (p q : ℕ). p == q) (first ∷ behind)

-- Each bucket of a table has a chain. No page is behind one that isn't there.
pub record HoldsChains (d : Donor) (c : Contents) : Type 0 where
  pub buckets : (table count bucket : ℕ) → finite.get d.tables table ≡ Some count → bucket < count
      → HasChain c table bucket
  pub none : (table page : ℕ) → ¬ HasPage c table page → c.next table page ≡ None

-- A page is on the chain of its first page: that page itself, and each that is behind one of the
-- chain.
pub data OnChain (next : ℕ → Option ℕ) (first : ℕ) : ℕ → Type 0 where
  begins : OnChain next first first
  goes_on : (page one : ℕ) → OnChain next first page → next page ≡ Some one
      → OnChain next first one

-- A slot that is bound to a key shows the key's value, and all others were never used. A key is
-- bound once at most, on a page of its bucket's chain, and it is wherever it has a value.
pub record HoldsRows (d : Donor) (next : Nexts) (slot : Slots) : Type 0 where
  pub shown : (table page slot_number key : ℕ) → IsBound slot table page slot_number key
      → slot table page slot_number ≡ row_slot key (value_of d table key)
  pub clean : (table page slot_number : ℕ) → bound_key (slot table page slot_number) ≡ None
      → slot table page slot_number ≡ unused
  pub own : (table page slot_number key : ℕ) → IsBound slot table page slot_number key
      → (count : ℕ) × (finite.get d.tables table ≡ Some count)
      × OnChain (next table) (key % count) page
  pub once : (table key p i q j : ℕ) → IsBound slot table p i key → IsBound slot table q j key
      → (p ≡ q) × (i ≡ j)
  pub found : (table key : ℕ) (value : List ℕ) → value_of d table key ≡ Some value → (page : ℕ)
      × (slot_number : ℕ) × IsBound slot table page slot_number key

-- an undo record tells of a change that was made where the rows were these
pub record TellsChange (slot : Slots) (rows : Rows) (change : Change) (e : UndoEntry) : Type 0 where
  pub in_range : IsEntry e
  pub table : e.table ≡ change.table
  pub key : e.key ≡ change.key
  pub bound : IsBound slot e.table e.page e.slot e.key
  pub before : told_value e ≡ finite.get rows (change.table, change.key)

-- undo records tell of changes that were made one after the other, where the rows were these at
-- first
abbrev pub TellsChanges : Slots → Rows → List Change → List UndoEntry → Type 0
TellsChanges slot rows [] [] = Unit {0}
TellsChanges slot rows (c ∷ cs) (e ∷ es) =
    TellsChange slot rows c e × TellsChanges slot (after_change rows c) cs es
TellsChanges slot rows [] (e ∷ es) = ⊥
TellsChanges slot rows (c ∷ cs) [] = ⊥

-- an undo slot in use has the writer and the index of its transaction, and tells of its changes
pub record IsUndoSlot (d : Donor) (slot : Slots) (commit : Commit)
    (found : Option UndoSlot) : Type 0 where
  pub records : List UndoEntry
  pub is : found ≡ Some (record { writer = commit.writer; index = commit.index; records = records })
  pub tells : TellsChanges slot (committed_rows d) commit.changes records

-- an undo slot is that of the open transaction of its number, or free where there is none
abbrev pub StandsFor : Donor → Slots → Option Commit → Option UndoSlot → Type 0
StandsFor d slot active found =
    MatchOption active (found ≡ None) (λ commit. IsUndoSlot d slot commit found)

abbrev pub HoldsUndo : Donor → Slots → (ℕ → Option UndoSlot) → Type 0
HoldsUndo d slot undo =
    (s : ℕ) → s < TRANSACTION_LIMIT → StandsFor d slot (finite.get d.active s) (undo s)

-- all of it, with the number of commits
pub record IsSound (d : Donor) (c : Contents) : Type 0 where
  pub locked : IsLocked d
  pub tables : HoldsTables d c
  pub chains : HoldsChains d c
  pub rows : HoldsRows d c.next c.slot
  pub undo : HoldsUndo d c.slot c.undo
  pub position : c.position ≡ length d.binlog

-- an image is formed, and keeps what the donor is
pub record IsKept (d : Donor) (image : Image) : Type 0 where
  pub formed : IsFormed image
  pub sound : IsSound d (contents_of image)
