-- The records of a begin and of a change: how long their spelling is, and those from the second on.
use Rattle.clone_trx.proofs.Common.{◌≡◌, ◌≤◌, ◌+◌, ◌==◌, ℕ, zero, suc, Bool, true, false, List, [], ◌∷◌, ◌++◌, length, drop, replicate, ◌-◌, refl, ap, ◌∙◌, arith, if◌then◌else◌, length-append, length-replicate, big_bytes, Undo, Bucket, slot_at, record_spelling, spelling, longest, Record, Write, UndoEntry, entry_bytes, header_page, record_page, record_offset, count_offset, made_first, entry_record, count_record, row_record, records_of_begin, records_of_change, is_new}
use Rattle.clone_page.specs.declared.kind.PageKind.{PageKind}

-- A transaction begins.

-- the first of the records that are written
abbrev pub first : Bool → ℕ
first unused = if unused then 0 else 1

-- what is written on a page that was never used, or on one in use
from_first : (unused : Bool) (trx writer index : ℕ) → drop (first unused) (records_of_begin true trx writer index) ≡ records_of_begin unused trx writer index
from_first true trx writer index = refl
from_first false trx writer index = refl

-- the records that are written, by where they begin
pub written : (unused : Bool) (trx writer index from : ℕ) (records : List Record) → from ≡ first unused → records ≡ records_of_begin true trx writer index → drop from records ≡ records_of_begin unused trx writer index
written unused trx writer index from records at are = ap (λ (n : ℕ). drop n records) at ∙ ap (drop (first unused)) are ∙ from_first unused trx writer index

-- what is written on the page of an undo slot's header, by the page that was read
pub begin_written : (page seen : List ℕ) (trx writer index from : ℕ) (records done : List Record) → seen ≡ page → from ≡ first (is_new seen) → records ≡ records_of_begin true trx writer index → done ≡ drop from records → done ≡ records_of_begin (is_new page) trx writer index
begin_written page seen trx writer index from records done same at are is =
    is ∙ written (is_new page) trx writer index from records (at ∙ ap (λ (p : List ℕ). first (is_new p)) same) are

-- A row changes.

-- a write, and what stands behind it
length-written : (space page at : ℕ) (bytes rest : List ℕ) → length (record_spelling (Write space page (record { offset = at; bytes = bytes })) ++ rest) ≡ 13 + (length bytes + length rest)
length-written space page at bytes rest = let body = length-append bytes rest in omega arith

-- a page that may be made, and what stands behind it
length-made : (unused : Bool) (space page : ℕ) (kind : PageKind) (rest : List Record) → length (spelling (made_first unused space page kind ++ rest)) ≤ 11 + length (spelling rest)
length-made true space page kind rest = omega arith
length-made false space page kind rest = omega arith

length-entry : (e : UndoEntry) → length e.value ≤ 64 → length (entry_bytes e) ≤ 96
length-entry e short =
    let padding = length-replicate (72 - length e.value) (let zero : ℕ = 0 in zero) in
    let body = length-append e.value (replicate (72 - length e.value) 0) in
    omega arith

-- the records of a change fit one mini-transaction
pub short_change : (unused row_unused : Bool) (s n : ℕ) (e : UndoEntry) (image : List ℕ) → length e.value ≤ 64 → length image ≡ 80 → length (spelling (records_of_change unused row_unused s n e image)) ≤ longest
short_change unused row_unused s n e image short eighty =
    let row : List Record = row_record e image ∷ [] in
    let rows : List Record = made_first row_unused e.table e.page Bucket ++ row in
    let counted : List Record = count_record s (n + 1) ∷ rows in
    let records : List Record = entry_record s n e ∷ counted in
    let in_row : length (spelling row) ≡ 13 + (length image + 1) = length-written e.table e.page (slot_at e.slot) image (6 ∷ []) in
    let in_rows : length (spelling rows) ≤ 11 + length (spelling row) = length-made row_unused e.table e.page Bucket row in
    let in_counted : length (spelling counted) ≡ 13 + (2 + length (spelling rows)) = length-written 0 (header_page s) count_offset (big_bytes 2 (n + 1)) (spelling rows) in
    let in_records : length (spelling records) ≡ 13 + (length (entry_bytes e) + length (spelling counted)) = length-written 0 (record_page s n) (record_offset n) (entry_bytes e) (spelling counted) in
    let in_all : length (spelling (records_of_change unused row_unused s n e image)) ≤ 11 + length (spelling records) = length-made unused 0 (record_page s n) Undo records in
    let in_entry : length (entry_bytes e) ≤ 96 = length-entry e short in
    bounded in_row in_rows in_counted in_records in_all in_entry eighty
  where
    bounded : {all records counted rows row entry image : ℕ} → row ≡ 13 + (image + 1) → rows ≤ 11 + row → counted ≡ 13 + (2 + rows) → records ≡ 13 + (entry + counted) → all ≤ 11 + records → entry ≤ 96 → image ≡ 80 → all ≤ longest
    bounded a b c d e f g = omega arith

-- there is one at least
pub some_change : (unused row_unused : Bool) (s n : ℕ) (e : UndoEntry) (image : List ℕ) → 1 ≤ length (records_of_change unused row_unused s n e image)
some_change true true s n e image = omega arith
some_change true false s n e image = omega arith
some_change false true s n e image = omega arith
some_change false false s n e image = omega arith

-- the first record is left out where the page of the undo record is in use
pub change_from : (first : ℕ) (row_unused : Bool) (s n : ℕ) (e : UndoEntry) (image : List ℕ) → first ≤ 1 → drop first (records_of_change true row_unused s n e image) ≡ records_of_change (first == 0) row_unused s n e image
change_from zero row_unused s n e image few = refl
change_from (suc zero) row_unused s n e image few = refl
change_from (suc (suc more)) row_unused s n e image few = absurd (omega arith)
