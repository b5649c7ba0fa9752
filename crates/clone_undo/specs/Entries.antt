-- What an undo record tells: which row slot was changed, and what it held before.
use Rattle.std.specs.Prelude.{ℕ, ◌≡◌, ◌≤◌, ◌<◌, ◌^◌, ◌-◌, ◌⊎◌, List, [], ◌∷◌, ◌++◌, length, replicate}
use Rattle.byteorder.specs.Endian.{big_bytes}
use Rattle.clone_page.specs.Bytes.{part, field}
use Rattle.clone_page.specs.Slots.{row_slot_count}
use Rattle.clone_base.specs.declared.limits.TheConstants.{VALUE_LIMIT}
use Rattle.clone_model.specs.declared.line.TheConstants.{HIGHEST_TABLE}
use Rattle.clone_undo.specs.declared.places.TheConstants.{RECORD_BYTES, RECORD_PAGE_AT, RECORD_SLOT_AT, RECORD_STATE_AT, RECORD_LENGTH_AT, RECORD_KEY_AT, RECORD_VALUE_AT, TABLE_PAGE_LIMIT}
use Rattle.clone_undo.specs.declared.before.Before.{Before}
use Rattle.clone_undo.specs.declared.before.Before.TheVariants.{Present, Absent}

-- the state of a row slot: 1 present, 2 absent
abbrev pub state_number : Before → ℕ
state_number (Present value) = 1
state_number Absent = 2

-- a row that was absent had no value
abbrev pub value_before : Before → List ℕ
value_before (Present value) = value
value_before Absent = []

-- The key's slot on a page of the table, with the state and the value that it had before it was
-- changed.
pub record UndoEntry : Type 0 where
  pub table : ℕ
  pub page : ℕ
  pub slot : ℕ
  pub state : ℕ
  pub key : ℕ
  pub value : List ℕ

-- a table's number, a page of its space and a slot on that page
abbrev pub IsRowSlotName : ℕ → ℕ → ℕ → Type 0
IsRowSlotName table page slot =
    (1 ≤ table) × (table ≤ HIGHEST_TABLE) × (page < TABLE_PAGE_LIMIT) × (slot < row_slot_count)

-- present with a value, or absent without one
abbrev pub IsBefore : ℕ → List ℕ → Type 0
IsBefore state value = ((state ≡ 1) × (length value ≤ VALUE_LIMIT)) ⊎ ((state ≡ 2) × (value ≡ []))

-- every field is in its range
pub record IsEntry (e : UndoEntry) : Type 0 where
  pub row_slot : IsRowSlotName e.table e.page e.slot
  pub before : IsBefore e.state e.value
  pub key : e.key < 2 ^ 64

-- the bytes of an undo record: table, page, slot, state, length, four zero bytes, key, value, and
-- zero bytes
abbrev pub entry_bytes : UndoEntry → List ℕ
entry_bytes e =
    big_bytes 4 e.table ++ (big_bytes 4 e.page
    ++ (big_bytes 2 e.slot ++ (e.state ∷ length e.value ∷ (replicate 4 0 ++ (big_bytes 8 e.key
    ++ (e.value ++ replicate (RECORD_BYTES - RECORD_VALUE_AT - length e.value) 0))))))

-- what these bytes tell, whether or not it is in range
abbrev pub entry_of : List ℕ → UndoEntry
entry_of bytes = record {
  table = field 0 4 bytes;
  page = field RECORD_PAGE_AT 4 bytes;
  slot = field RECORD_SLOT_AT 2 bytes;
  state = field RECORD_STATE_AT 1 bytes;
  key = field RECORD_KEY_AT 8 bytes;
  value = part RECORD_VALUE_AT (field RECORD_LENGTH_AT 1 bytes) bytes;
}
