-- A bucket page or an overflow page as slots.
use Rattle.std.specs.Prelude.{ℕ, ◌+◌, ◌-◌, ◌*◌, List, ◌∷◌, ◌++◌, length, replicate, slice_index, if◌then◌else◌, nat_le, ◌==◌, ◌&&◌, None, Some}
use Rattle.std.specs.declared.option.Option.{Option}
use Rattle.byteorder.specs.Endian.{big_bytes}
use Rattle.clone_page.specs.Bytes.{part, field}
use Rattle.clone_base.specs.declared.limits.TheConstants.{VALUE_LIMIT}
use Rattle.clone_page.specs.declared.layout.TheConstants.{ROW_SLOT_COUNT, SLOTS_AT, SLOT_BYTES, SLOT_LENGTH_AT, SLOT_KEY_AT, SLOT_VALUE_AT}

abbrev pub row_slot_count : ℕ
row_slot_count = ROW_SLOT_COUNT

abbrev pub slot_at : ℕ → ℕ
slot_at j = SLOTS_AT + SLOT_BYTES * j

-- the bytes of a slot
abbrev pub slot : ℕ → List ℕ → List ℕ
slot j page = part (slot_at j) SLOT_BYTES page

-- 0 never used, 1 present, 2 absent
abbrev pub state_of : List ℕ → ℕ
state_of bytes = slice_index bytes 0

abbrev pub length_of : List ℕ → ℕ
length_of bytes = slice_index bytes SLOT_LENGTH_AT

abbrev pub key_of : List ℕ → ℕ
key_of bytes = field SLOT_KEY_AT 8 bytes

abbrev pub value_of : List ℕ → List ℕ
value_of bytes = part SLOT_VALUE_AT (length_of bytes) bytes

-- The key and the value of a slot that holds a row. A slot whose length is above that of a value
-- holds none.
abbrev pub row_of : List ℕ → Option (ℕ × List ℕ)
row_of bytes =
    if (state_of bytes == 1) && nat_le (length_of bytes) VALUE_LIMIT
    then Some (key_of bytes, value_of bytes) else None

-- a slot that holds a row
abbrev pub present_slot : ℕ → List ℕ → List ℕ
present_slot key value =
    1 ∷ length value
    ∷ (replicate 6 0 ++ (big_bytes 8 key ++ (value ++ replicate (VALUE_LIMIT - length value) 0)))
