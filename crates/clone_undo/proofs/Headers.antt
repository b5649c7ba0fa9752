-- The header of an undo slot after a write, and what it says of the slot.
use Rattle.std.proofs.Common.{◌≡◌, ◌≤◌, ◌<◌, ◌+◌, ◌^◌, ◌==◌, ◌⊎◌, ℕ, Bool, true, false, cond, Option, Some, None, List, length, take, drop, arith, refl, sym, ap, ◌∙◌, inl, inr}
use Rattle.std.proofs.lemmas.List.{drop-drop, drop-take, take-take}
use Rattle.std.proofs.lemmas.Bool.Decides.{eqb_tells}
use Rattle.std.proofs.lemmas.Option.{same_Some}
use Rattle.byteorder.specs.Endian.{big_bytes}
use Rattle.byteorder.specs.Numbers.{length-bytes_high_first}
use Rattle.clone_page.specs.Bytes.{part, field, put_at}
use Rattle.clone_page.specs.Header.{with_lsn}
use Rattle.clone_page.proofs.Parts.{length-put_at, part-put_at_inside, part-with_lsn, field-part, field-same, field-put_at_other, field-put_at_same}
use Rattle.clone_undo.specs.Entries.{UndoEntry}
use Rattle.clone_undo.specs.Places.{header_page, record_page}
use Rattle.clone_undo.specs.Slots.{UndoSlot, active_of, count_of, writer_of, index_of, is_in_use, entry_on, entries, undo_slot}
use Rattle.clone_undo.proofs.Entries.{length-entries, entries-same}

-- a part of a part
part-in_part : (a i n k : ℕ) (bytes : List ℕ) → i + n ≤ k → part (a + i) n bytes ≡ part i n (part a k bytes)
part-in_part a i n k bytes within =
    let front : take (i + n) (take k (drop a bytes)) ≡ take (i + n) (drop a bytes) = take-take (i + n) k (drop a bytes) within in
    ap (take n) (sym (drop-drop i a bytes)) ∙ sym (drop-take i n (drop a bytes)) ∙ ap (drop i) (sym front) ∙ drop-take i n (take k (drop a bytes))

-- a field of the body keeps under a page LSN
pub field-stamped : (a n lsn : ℕ) (page : List ℕ) → 24 ≤ a → a + n ≤ 4092 → length page ≡ 4096 → field a n (with_lsn lsn page) ≡ field a n page
field-stamped a n lsn page body below long = field-same a n (with_lsn lsn page) page (part-with_lsn a n lsn page (inr body) below long)

-- a field of a header that was written
pub head-written : (lsn i n : ℕ) (piece page : List ℕ) → i + n ≤ 16 → length piece ≡ 16 → length page ≡ 4096 → field (40 + i) n (with_lsn lsn (put_at 40 piece page)) ≡ field i n piece
head-written lsn i n piece page within sixteen long =
    let fits : 40 + length piece ≤ length page = omega arith in
    field-stamped (40 + i) n lsn (put_at 40 piece page) (omega arith) (omega arith) (length-put_at 40 piece page fits ∙ long)
    ∙ field-part (40 + i) n n (put_at 40 piece page) (omega arith)
    ∙ ap (field 0 n) (part-put_at_inside i n 40 piece page (omega arith) (omega arith))
    ∙ sym (field-part i n n piece (omega arith))

-- a count that was written
pub count-written : (lsn m : ℕ) (page : List ℕ) → m < 256 ^ 2 → length page ≡ 4096 → count_of (with_lsn lsn (put_at 42 (big_bytes 2 m) page)) ≡ m
count-written lsn m page small long =
    let two = length-bytes_high_first 2 m in
    let fits : 42 + length (big_bytes 2 m) ≤ length page = omega (arith, two) in
    field-stamped 42 2 lsn (put_at 42 (big_bytes 2 m) page) (omega arith) (omega arith) (length-put_at 42 (big_bytes 2 m) page fits ∙ long)
    ∙ field-put_at_same 42 2 m page (omega arith) small

-- the fields beside the count
pub beside-count : (a n lsn m : ℕ) (page : List ℕ) → 24 ≤ a → (a + n ≤ 42) ⊎ (44 ≤ a) → a + n ≤ 4092 → length page ≡ 4096 → field a n (with_lsn lsn (put_at 42 (big_bytes 2 m) page)) ≡ field a n page
beside-count a n lsn m page body apart below long =
    let two : length (big_bytes 2 m) ≡ 2 = length-bytes_high_first 2 m in
    let fits : 42 + length (big_bytes 2 m) ≤ length page = omega (arith, two) in
    let elsewhere : (a + n ≤ 42) ⊎ (42 + length (big_bytes 2 m) ≤ a) = elim apart [ inl before ↦ inl before | inr behind ↦ inr (omega (arith, two)) ] in
    field-stamped a n lsn (put_at 42 (big_bytes 2 m) page) body below (length-put_at 42 (big_bytes 2 m) page fits ∙ long)
    ∙ field-put_at_other a n 42 (big_bytes 2 m) page elsewhere (omega arith)

pub in_use : (page : List ℕ) → active_of page ≡ 1 → is_in_use page ≡ true
in_use page active = ap (λ (a : ℕ). a == 1) active

pub not_in_use : (page : List ℕ) → active_of page ≡ 0 → is_in_use page ≡ false
not_in_use page free = ap (λ (a : ℕ). a == 1) free

is_one : (a : ℕ) → (a == 1) ≡ true → a ≡ 1
is_one a holds = elim (eqb_tells a 1) [ inl one ↦ one.1 | inr other ↦ absurd (let e : false ≡ true = sym other.0 ∙ holds in cc) ]

-- what the header of a slot that is in use says of it
pub record Tells (s : ℕ) (pages : ℕ → List ℕ) (slot : UndoSlot) : Type 0 where
  pub active : active_of (pages (header_page s)) ≡ 1
  pub count : count_of (pages (header_page s)) ≡ length slot.records
  pub writer : slot.writer ≡ writer_of (pages (header_page s))
  pub index : slot.index ≡ index_of (pages (header_page s))
  pub records : slot.records ≡ entries s pages (count_of (pages (header_page s)))

abbrev pub slot_of : ℕ → (ℕ → List ℕ) → UndoSlot
slot_of s pages = record { writer = writer_of (pages (header_page s)); index = index_of (pages (header_page s)); records = entries s pages (count_of (pages (header_page s))) }

pub slot-tells : (s : ℕ) (pages : ℕ → List ℕ) (slot : UndoSlot) → undo_slot s pages ≡ Some slot → Tells s pages slot
slot-tells s pages slot is = at (is_in_use (pages (header_page s))) refl
  where
    at : (b : Bool) → is_in_use (pages (header_page s)) ≡ b → Tells s pages slot
    at false free = absurd (let e : None ≡ Some slot = sym (ap (λ (b : Bool). cond b (Some (slot_of s pages)) None) free) ∙ is in cc)
    at true used =
        let same : slot_of s pages ≡ slot = same_Some _ _ (sym (ap (λ (b : Bool). cond b (Some (slot_of s pages)) None) used) ∙ is) in
        let long : length slot.records ≡ count_of (pages (header_page s)) = ap (λ (w : UndoSlot). length w.records) (sym same) ∙ length-entries s pages (count_of (pages (header_page s))) in
        record {
          active = is_one (active_of (pages (header_page s))) used;
          count = sym long;
          writer = ap (λ (w : UndoSlot). w.writer) (sym same);
          index = ap (λ (w : UndoSlot). w.index) (sym same);
          records = ap (λ (w : UndoSlot). w.records) (sym same);
        }

pub some_slot : {w v i j : ℕ} {r t : List UndoEntry} → w ≡ v → i ≡ j → r ≡ t → ◌≡◌ {A = Option UndoSlot} (Some (record { writer = w; index = i; records = r })) (Some (record { writer = v; index = j; records = t }))
some_slot p q e = λ i. Some (record { writer = p i; index = q i; records = e i })

-- a slot, by the fields of its header
pub slot-is : (s : ℕ) (pages : ℕ → List ℕ) (n writer index : ℕ) (records : List UndoEntry) → active_of (pages (header_page s)) ≡ 1 → count_of (pages (header_page s)) ≡ n → writer_of (pages (header_page s)) ≡ writer → index_of (pages (header_page s)) ≡ index
    → entries s pages n ≡ records → undo_slot s pages ≡ Some (record { writer = writer; index = index; records = records })
slot-is s pages n writer index records active count w i same =
    ap (λ (b : Bool). cond b (Some (slot_of s pages)) None) (in_use (pages (header_page s)) active)
    ∙ some_slot w i (ap (entries s pages) count ∙ same)

pub slot-free : (s : ℕ) (pages : ℕ → List ℕ) → active_of (pages (header_page s)) ≡ 0 → undo_slot s pages ≡ None
slot-free s pages free = ap (λ (b : Bool). cond b (Some (slot_of s pages)) None) (not_in_use (pages (header_page s)) free)

-- a field of the header reads the header's own bytes
field-in_part : (i n : ℕ) (page : List ℕ) → i + n ≤ 16 → field (40 + i) n page ≡ field i n (part 40 16 page)
field-in_part i n page within =
    let inside : part (40 + i) n page ≡ part i n (part 40 16 page) = part-in_part 40 i n 16 page within in
    field-part (40 + i) n n page (omega arith) ∙ ap (field 0 n) inside ∙ sym (field-part i n n (part 40 16 page) (omega arith))

-- pages that keep the header and the records keep the slot
pub slot-kept : (s : ℕ) (p q : ℕ → List ℕ) → part 40 16 (p (header_page s)) ≡ part 40 16 (q (header_page s))
    → ((i : ℕ) → i < count_of (p (header_page s)) → entry_on i (p (record_page s i)) ≡ entry_on i (q (record_page s i))) → undo_slot s p ≡ undo_slot s q
slot-kept s p q head each = at (is_in_use (p (header_page s))) refl
  where
    header : (i n : ℕ) → i + n ≤ 16 → field (40 + i) n (p (header_page s)) ≡ field (40 + i) n (q (header_page s))
    header i n within = field-in_part i n (p (header_page s)) within ∙ ap (field i n) head ∙ sym (field-in_part i n (q (header_page s)) within)

    uses : is_in_use (p (header_page s)) ≡ is_in_use (q (header_page s))
    uses = λ i. header 0 1 (omega arith) i == 1

    at : (b : Bool) → is_in_use (p (header_page s)) ≡ b → undo_slot s p ≡ undo_slot s q
    at false free = ap (λ (b : Bool). cond b (Some (slot_of s p)) None) free ∙ sym (ap (λ (b : Bool). cond b (Some (slot_of s q)) None) (sym uses ∙ free))
    at true used =
        let same : entries s p (count_of (p (header_page s))) ≡ entries s q (count_of (p (header_page s))) = entries-same s p q (count_of (p (header_page s))) each in
        ap (λ (b : Bool). cond b (Some (slot_of s p)) None) used
        ∙ some_slot (header 4 4 (omega arith)) (header 8 8 (omega arith)) (same ∙ ap (entries s q) (header 2 2 (omega arith)))
        ∙ sym (ap (λ (b : Bool). cond b (Some (slot_of s q)) None) (sym uses ∙ used))
