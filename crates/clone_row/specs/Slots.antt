-- A bucket page or an overflow page as a list of slots.
use Rattle.std.specs.Prelude.{ℕ, ◌≡◌, ◌<◌, List, ◌∷◌, ◌++◌, map, replicate, slice_index_or, if◌then◌else◌, ◌==◌, None, Some, MatchOption}
use Rattle.std.specs.declared.option.Option.{Option}
use Rattle.std.specs.List.{range_with_len}
use Rattle.byteorder.specs.Endian.{big_bytes}
use Rattle.clone_page.specs.Slots.{row_slot_count, slot, state_of, key_of, row_of, present_slot}

-- A slot was never used, or it holds the row of a key, or it says that the key has no row. A slot
-- in none of the three states is damaged, and so is one whose row has a length above that of a
-- value.
pub data Slot : Type 0 where
  unused : Slot
  present : ℕ → List ℕ → Slot
  absent : ℕ → Slot
  damaged : Slot

-- a slot that holds a row, or is damaged where there is none
abbrev pub held : Option (ℕ × List ℕ) → Slot
held (Some row) = present row.0 row.1
held None = damaged

-- the slot in these bytes
abbrev pub slot_of : List ℕ → Slot
slot_of bytes =
    if state_of bytes == 0 then unused
    else (if state_of bytes == 2 then absent (key_of bytes) else held (row_of bytes))

-- the slots of a page
unfoldable pub slots : List ℕ → List Slot
slots page = map (λ j. slot_of (slot j page)) (range_with_len 0 row_slot_count)

-- the slot with this number in the list, or an unused one behind its end
abbrev pub slot_in : List Slot → ℕ → Slot
slot_in list j = slice_index_or list j unused

-- the key that a slot is bound to
abbrev pub bound_key : Slot → Option ℕ
bound_key unused = None
bound_key (present key value) = Some key
bound_key (absent key) = Some key
bound_key damaged = None

-- the key and the value of a slot that is present
abbrev pub row_in : Slot → Option (ℕ × List ℕ)
row_in unused = None
row_in (present key value) = Some (key, value)
row_in (absent key) = None
row_in damaged = None

-- the first slot that is bound to the key, or none where no slot is
abbrev pub Finds : ℕ → List Slot → Option ℕ → Type 0
Finds key list found =
    MatchOption found ((k : ℕ) → k < row_slot_count → ¬ (bound_key (slot_in list k) ≡ Some key))
    (λ j. (j < row_slot_count) × (bound_key (slot_in list j) ≡ Some key)
    × ((k : ℕ) → k < j → ¬ (bound_key (slot_in list k) ≡ Some key)))

-- the first slot that was never used, or none where each was
abbrev pub FindsFree : List Slot → Option ℕ → Type 0
FindsFree list found =
    MatchOption found ((k : ℕ) → k < row_slot_count → ¬ (slot_in list k ≡ unused))
    (λ j. (j < row_slot_count) × (slot_in list j ≡ unused)
    × ((k : ℕ) → k < j → ¬ (slot_in list k ≡ unused)))

-- a key with a value is present, and one without is absent
abbrev pub row_slot : ℕ → Option (List ℕ) → Slot
row_slot key (Some value) = present key value
row_slot key None = absent key

-- a slot whose key has no row
abbrev pub absent_slot : ℕ → List ℕ
absent_slot key = 2 ∷ 0 ∷ (replicate 6 0 ++ (big_bytes 8 key ++ replicate 64 0))

-- the 80 bytes of the slot of a key
abbrev pub image : ℕ → Option (List ℕ) → List ℕ
image key (Some value) = present_slot key value
image key None = absent_slot key
