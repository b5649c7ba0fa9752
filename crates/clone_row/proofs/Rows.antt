-- The slots of a page, one by one, and after a write.
use Rattle.std.proofs.Common.{◌≡◌, ◌≢◌, ◌≤◌, ◌<◌, ◌^◌, ◌==◌, ℕ, Bool, cond, Option, Some, None, List, length, set, get_or, replicate, arith, refl, sym, ap, ◌∙◌, inl, inr}
use Rattle.std.specs.Prelude.{IfSome}
use Rattle.std.proofs.lemmas.List.{ext_get_or, get_or-set_same, get_or-set_other, get_or_past, get_or-replicate, length-replicate, length-append}
use Rattle.std.proofs.Math.ListN.{length-set}
use Rattle.std.proofs.lemmas.List.FromFn.{length-map-range_with_len, get_or-map-range_with_len}
use Rattle.std.proofs.lemmas.Bool.Decides.{eqb_tells}
use Rattle.byteorder.specs.Endian.{big_bytes}
use Rattle.byteorder.specs.Numbers.{big_number-reads_back, length-bytes_high_first}
use Rattle.clone_page.specs.declared.kind.PageKind.{PageKind}
use Rattle.clone_page.specs.Bytes.{put_at}
use Rattle.clone_page.specs.Header.{zero_page, kind_of, with_lsn, initialised, IsAllowed, IsWellFormed}
use Rattle.clone_page.specs.Slots.{slot, slot_at, state_of, key_of, row_of}
use Rattle.clone_page.proofs.Parts.{field-put_at_other, length-put_allowed, length-with_lsn, kind_of-put_allowed, kind_of-with_lsn, space_of-with_lsn, number_of-with_lsn, next_of-with_lsn, slot-put_same, slot-put_other, slot-put_elsewhere, slot-with_lsn, slot-zero, slot-initialised, length-present_slot, row_of-present_slot, row_of-not_present, well_formed-put_allowed, well_formed-with_lsn}
use Rattle.clone_mtr.specs.Patches.{Patched}
use Rattle.clone_row.specs.Slots.{Slot, unused, absent, held, slot_of, slots, slot_in, row_in, row_slot, absent_slot, image}
use Rattle.clone_row.specs.Writes.{WritesSlot, WritesHeader, SameHeader}

-- The slots as a list.

pub length-slots : (page : List ℕ) → length (slots page) ≡ 50
unfolding slots
length-slots page = length-map-range_with_len (λ j. slot_of (slot j page)) 0 50

pub slot_in-slots : (j : ℕ) (page : List ℕ) → j < 50 → slot_in (slots page) j ≡ slot_of (slot j page)
unfolding slots
slot_in-slots j page within = get_or-map-range_with_len (λ k. slot_of (slot k page)) 0 50 j j unused within (omega arith)

pub slot_in-past : (j : ℕ) (page : List ℕ) → 50 ≤ j → slot_in (slots page) j ≡ unused
slot_in-past j page behind = let long = length-slots page in get_or_past (slots page) j unused (omega arith)

-- The slot in 80 bytes.

-- a slot by its state, its key and its row
abbrev chosen : ℕ → ℕ → Option (ℕ × List ℕ) → Slot
chosen state key row = cond (state == 0) unused (cond (state == 2) (absent key) (held row))

chosen-absent : (state key : ℕ) (row : Option (ℕ × List ℕ)) → state ≡ 2 → chosen state key row ≡ absent key
chosen-absent state key row is = ap (λ (s : ℕ). chosen s key row) is

chosen-held : (state key : ℕ) (row : Option (ℕ × List ℕ)) → state ≢ 0 → state ≢ 2 → chosen state key row ≡ held row
chosen-held state key row used other =
    elim (eqb_tells state 0) [
      | inl is ↦ absurd (used is.1)
      | inr differs ↦ elim (eqb_tells state 2) [
        | inl is ↦ absurd (other is.1)
        | inr again ↦ ap (λ (b : Bool). cond b unused (cond (state == 2) (absent key) (held row))) differs.0 ∙ ap (λ (b : Bool). cond b (absent key) (held row)) again.0
      ]
    ]

pub slot_of-unused : (bytes : List ℕ) → state_of bytes ≡ 0 → slot_of bytes ≡ unused
slot_of-unused bytes is = ap (λ (s : ℕ). chosen s (key_of bytes) (row_of bytes)) is

pub slot_of-absent : (bytes : List ℕ) → state_of bytes ≡ 2 → slot_of bytes ≡ absent (key_of bytes)
slot_of-absent bytes is = chosen-absent (state_of bytes) (key_of bytes) (row_of bytes) is

pub slot_of-held : (bytes : List ℕ) → state_of bytes ≢ 0 → state_of bytes ≢ 2 → slot_of bytes ≡ held (row_of bytes)
slot_of-held bytes used other = chosen-held (state_of bytes) (key_of bytes) (row_of bytes) used other

row_in-held : (row : Option (ℕ × List ℕ)) → row_in (held row) ≡ row
row_in-held (Some row) = refl
row_in-held None = refl

-- a slot holds the row that its bytes hold
pub row_in-slot_of : (bytes : List ℕ) → row_in (slot_of bytes) ≡ row_of bytes
row_in-slot_of bytes =
    elim (eqb_tells (state_of bytes) 0) [
      | inl is ↦ (let other : state_of bytes ≢ 1 = omega arith in ap row_in (slot_of-unused bytes is.1) ∙ sym (row_of-not_present bytes other))
      | inr used ↦ elim (eqb_tells (state_of bytes) 2) [
        | inl is ↦ (let other : state_of bytes ≢ 1 = omega arith in ap row_in (slot_of-absent bytes is.1) ∙ sym (row_of-not_present bytes other))
        | inr again ↦ ap row_in (slot_of-held bytes used.1 again.1) ∙ row_in-held (row_of bytes)
      ]
    ]

-- The bytes of a slot.

pub length-absent_slot : (key : ℕ) → length (absent_slot key) ≡ 80
length-absent_slot key =
    let eight = length-bytes_high_first 8 key in
    let rest = length-append (big_bytes 8 key) (replicate 64 0) in
    omega arith

pub length-image : (key : ℕ) (value : Option (List ℕ)) → IfSome value (λ v. length v ≤ 64) → length (image key value) ≡ 80
length-image key (Some value) short = length-present_slot key value short
length-image key None short = length-absent_slot key

pub slot_of-image : (key : ℕ) (value : Option (List ℕ)) → key < 2 ^ 64 → IfSome value (λ v. length v ≤ 64) → slot_of (image key value) ≡ row_slot key value
slot_of-image key (Some value) small short = ap held (row_of-present_slot key value small short)
slot_of-image key None small short = ap absent (big_number-reads_back 8 key (replicate 64 0) small)

-- Pages with the same slots, but for one.

pub slots-same : (before after : List ℕ) → ((k : ℕ) → k < 50 → slot k after ≡ slot k before) → slots after ≡ slots before
slots-same before after same =
    let long = length-slots after in
    ext_get_or unused (slots after) (slots before) (long ∙ sym (length-slots before))
    (λ k h. let within : k < 50 = omega arith in slot_in-slots k after within ∙ ap slot_of (same k within) ∙ sym (slot_in-slots k before within))

set_at : (j : ℕ) (s : Slot) (before after : List ℕ) → j < 50 → slot_of (slot j after) ≡ s → ((k : ℕ) → k < 50 → k ≢ j → slot k after ≡ slot k before) → (k : ℕ) → k < 50 → get_or (slots after) k unused ≡ get_or (set (slots before) j s) k unused
set_at j s before after within is same k here =
    let short = length-slots before in
    elim (eqb_tells k j) [
      | inl it ↦ ap (λ (m : ℕ). get_or (slots after) m unused) it.1 ∙ slot_in-slots j after within ∙ is
          ∙ sym (get_or-set_same (slots before) j s unused (omega arith)) ∙ sym (ap (λ (m : ℕ). get_or (set (slots before) j s) m unused) it.1)
      | inr other ↦ slot_in-slots k after here ∙ ap slot_of (same k here other.1) ∙ sym (slot_in-slots k before here)
          ∙ sym (get_or-set_other (slots before) j k s unused other.1)
    ]

pub slots-set : (j : ℕ) (s : Slot) (before after : List ℕ) → j < 50 → slot_of (slot j after) ≡ s → ((k : ℕ) → k < 50 → k ≢ j → slot k after ≡ slot k before) → slots after ≡ set (slots before) j s
slots-set j s before after within is same =
    let long = length-slots after in
    let short = length-slots before in
    let kept : length (set (slots before) j s) ≡ 50 = simp length-set short in
    ext_get_or unused (slots after) (set (slots before) j s) (long ∙ sym kept)
    (λ k h. set_at j s before after within is same k (omega arith))

-- A slot is written.

slot_is_allowed : (j : ℕ) (bytes : List ℕ) → j < 50 → length bytes ≡ 80 → IsAllowed (slot_at j) (length bytes)
slot_is_allowed j bytes within eighty = (omega arith, inr (omega arith, omega arith))

pub slots-written : (j lsn : ℕ) (s : Slot) (bytes page : List ℕ) → j < 50 → length bytes ≡ 80 → slot_of bytes ≡ s → length page ≡ 4096 → slots (with_lsn lsn (put_at (slot_at j) bytes page)) ≡ set (slots page) j s
slots-written j lsn s bytes page within eighty is long =
    let written = put_at (slot_at j) bytes page in
    let still = length-put_allowed (slot_at j) bytes page (slot_is_allowed j bytes within eighty) long in
    slots-set j s page (with_lsn lsn written) within
    (ap slot_of (slot-with_lsn j lsn written within still ∙ slot-put_same j bytes page eighty (omega arith)) ∙ is)
    (λ k here other. slot-with_lsn k lsn written here still ∙ slot-put_other k j bytes page other eighty (omega arith))

pub allowed-WritesSlot : {j key : ℕ} {value : Option (List ℕ)} {patch : Patched} → WritesSlot j key value patch → IsAllowed patch.offset (length patch.bytes)
allowed-WritesSlot {j} {key} {value} {patch} writes =
    let eighty : length patch.bytes ≡ 80 = ap length writes.bytes ∙ length-image key value writes.short in
    let offset = writes.offset in
    let within = writes.within in
    (omega arith, inr (omega arith, omega arith))

pub slots-WritesSlot : (lsn j key : ℕ) (value : Option (List ℕ)) (patch : Patched) (page : List ℕ) → WritesSlot j key value patch → length page ≡ 4096 → slots (with_lsn lsn (put_at patch.offset patch.bytes page)) ≡ set (slots page) j (row_slot key value)
slots-WritesSlot lsn j key value patch page writes long =
    ap (λ (at : ℕ). slots (with_lsn lsn (put_at at patch.bytes page))) writes.offset
    ∙ ap (λ (bytes : List ℕ). slots (with_lsn lsn (put_at (slot_at j) bytes page))) writes.bytes
    ∙ slots-written j lsn (row_slot key value) (image key value) page writes.within (length-image key value writes.short) (slot_of-image key value writes.key_fits writes.short) long

-- What an allowed write leaves.

pub length-effect : (lsn : ℕ) (patch : Patched) (page : List ℕ) → IsAllowed patch.offset (length patch.bytes) → length page ≡ 4096 → length (with_lsn lsn (put_at patch.offset patch.bytes page)) ≡ 4096
length-effect lsn patch page allowed long =
    length-with_lsn lsn (put_at patch.offset patch.bytes page) (length-put_allowed patch.offset patch.bytes page allowed long)

pub well_formed-effect : (lsn space number : ℕ) (patch : Patched) (page : List ℕ) → IsAllowed patch.offset (length patch.bytes) → length page ≡ 4096 → IsWellFormed space number page → IsWellFormed space number (with_lsn lsn (put_at patch.offset patch.bytes page))
well_formed-effect lsn space number patch page allowed long was =
    well_formed-with_lsn space number lsn (put_at patch.offset patch.bytes page) (length-put_allowed patch.offset patch.bytes page allowed long)
    (well_formed-put_allowed space number patch.offset patch.bytes page allowed long was)

pub kind_of-effect : (lsn : ℕ) (patch : Patched) (page : List ℕ) → IsAllowed patch.offset (length patch.bytes) → length page ≡ 4096 → kind_of (with_lsn lsn (put_at patch.offset patch.bytes page)) ≡ kind_of page
kind_of-effect lsn patch page allowed long =
    kind_of-with_lsn lsn (put_at patch.offset patch.bytes page) (length-put_allowed patch.offset patch.bytes page allowed long)
    ∙ kind_of-put_allowed patch.offset patch.bytes page allowed long

-- a write of the body leaves the header
pub header-body : (lsn at : ℕ) (piece page : List ℕ) → 38 ≤ at → at ≤ 4096 → IsAllowed at (length piece) → length page ≡ 4096 → SameHeader page (with_lsn lsn (put_at at piece page))
header-body lsn at piece page body fits allowed long =
    let written = put_at at piece page in
    let still = length-put_allowed at piece page allowed long in
    record {
      kind = kind_of-with_lsn lsn written still ∙ field-put_at_other 24 2 at piece page (inl (omega arith)) (omega arith);
      space = space_of-with_lsn lsn written still ∙ field-put_at_other 34 4 at piece page (inl (omega arith)) (omega arith);
      number = number_of-with_lsn lsn written still ∙ field-put_at_other 4 4 at piece page (inl (omega arith)) (omega arith);
      next = next_of-with_lsn lsn written still ∙ field-put_at_other 12 4 at piece page (inl (omega arith)) (omega arith);
    }

pub header-WritesSlot : (lsn j key : ℕ) (value : Option (List ℕ)) (patch : Patched) (page : List ℕ) → WritesSlot j key value patch → length page ≡ 4096 → SameHeader page (with_lsn lsn (put_at patch.offset patch.bytes page))
header-WritesSlot lsn j key value patch page writes long =
    let offset = writes.offset in
    let within = writes.within in
    header-body lsn patch.offset patch.bytes page (omega arith) (omega arith) (allowed-WritesSlot writes) long

pub slots-WritesHeader : (lsn : ℕ) (patch : Patched) (page : List ℕ) → WritesHeader patch → length page ≡ 4096 → slots (with_lsn lsn (put_at patch.offset patch.bytes page)) ≡ slots page
slots-WritesHeader lsn patch page writes long =
    let written = put_at patch.offset patch.bytes page in
    let still = length-put_allowed patch.offset patch.bytes page writes.allowed long in
    let before = writes.before in
    slots-same page (with_lsn lsn written)
    (λ k here. slot-with_lsn k lsn written here still ∙ slot-put_elsewhere k patch.offset patch.bytes page (inr (omega arith)) (omega arith))

-- Pages that are made.

all_unused : (page : List ℕ) → ((k : ℕ) → k < 50 → slot k page ≡ replicate 80 0) → slots page ≡ replicate 50 unused
all_unused page zeros =
    let long = length-slots page in
    ext_get_or unused (slots page) (replicate 50 unused) (long ∙ sym (length-replicate 50 unused))
    (λ k h. let within : k < 50 = omega arith in slot_in-slots k page within ∙ ap slot_of (zeros k within) ∙ sym (get_or-replicate 50 k unused unused within))

pub slots-initialised : (space number lsn : ℕ) (kind : PageKind) → slots (initialised space number kind lsn) ≡ replicate 50 unused
slots-initialised space number lsn kind =
    all_unused (initialised space number kind lsn) (λ k within. slot-initialised k space number kind lsn within)

pub slots-zero : slots zero_page ≡ replicate 50 unused
slots-zero = all_unused zero_page slot-zero
