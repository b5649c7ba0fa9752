-- What the mini-transactions of an undo slot do to it.
use Rattle.std.proofs.Common.{◌≡◌, ◌≢◌, ◌≤◌, ◌<◌, ◌+◌, ◌-◌, ◌%◌, ◌^◌, ℕ, zero, suc, Bool, true, false, Some, None, List, [], ◌∷◌, ◌++◌, length, take, drop, replicate, arith, refl, sym, ap, subst, ◌∙◌, inl, inr, add-one}
use Rattle.std.specs.List.{AllByRecursion}
use Rattle.std.proofs.lemmas.List.{length-append, take_at, drop_at, drop-replicate, take-replicate}
use Rattle.std.proofs.lemmas.Bool.{cases_eq}
use Rattle.byteorder.specs.Endian.{big_bytes}
use Rattle.byteorder.specs.Numbers.{big_number-reads_back, length-bytes_high_first}
use Rattle.clone_page.specs.Bytes.{part, field, put_at}
use Rattle.clone_page.specs.Header.{with_lsn, zero_page}
use Rattle.clone_page.specs.declared.kind.PageKind.{PageKind}
use Rattle.clone_page.specs.declared.kind.PageKind.TheVariants.{Undo, Bucket}
use Rattle.clone_page.proofs.Parts.{length-put_at, length-with_lsn, length-initialised, part-put_at_before, part-put_at_behind, part-put_at_same, part-with_lsn, field-part}
use Rattle.clone_mtr.specs.Effects.{effect}
use Rattle.clone_mtr.specs.declared.record.Record.{Record}
use Rattle.clone_mtr.specs.declared.record.Record.TheVariants.{Init}
use Rattle.clone_undo.specs.Entries.{UndoEntry, IsEntry, entry_bytes, entry_of}
use Rattle.clone_undo.specs.Places.{header_page, record_page, record_offset}
use Rattle.clone_undo.specs.Slots.{UndoSlot, active_of, count_of, header_bytes, entry_on, entries, undo_slot}
use Rattle.clone_undo.specs.Changes.{system_write, made_first, count_record, entry_record, row_record, records_of_begin, records_of_change, records_of_end, pages_after_record, after, after_row, AreWhole}
use Rattle.clone_undo.proofs.Entries.{length-entry_bytes, reads_back, length-entries, entries-same}
use Rattle.clone_undo.proofs.Edits.{edit-same, edit-other, edit-part, edit-whole}
use Rattle.clone_undo.proofs.Headers.{head-written, count-written, beside-count, slot-tells, slot-is, slot-free, slot-kept}

-- Every slot.

-- a slot is told by its own four pages
pub own : (s : ℕ) (p q : ℕ → List ℕ) → ((m : ℕ) → header_page s ≤ m → m < header_page s + 4 → p m ≡ q m) → undo_slot s p ≡ undo_slot s q
own s p q same =
    slot-kept s p q (ap (part 40 16) (same (header_page s) (omega arith) (omega arith)))
    (λ i lt. ap (entry_on i) (same (record_page s i) (omega arith) (omega arith)))

pub counted : (s : ℕ) (pages : ℕ → List ℕ) (slot : UndoSlot) → undo_slot s pages ≡ Some slot → count_of (pages (header_page s)) ≡ length slot.records
counted s pages slot is = (slot-tells s pages slot is).count

-- the entries of a slot, when all but the last are known
split : (s : ℕ) (pages : ℕ → List ℕ) (slot : UndoSlot) (front : List UndoEntry) (last : UndoEntry) → undo_slot s pages ≡ Some slot → slot.records ≡ front ++ last ∷ []
    → front ++ last ∷ [] ≡ entries s pages (length front) ++ entry_on (length front) (pages (record_page s (length front))) ∷ []
split s pages slot front last is ends =
    let tells = slot-tells s pages slot is in
    let long : count_of (pages (header_page s)) ≡ suc (length front) = tells.count ∙ ap length ends ∙ length-append front (last ∷ []) ∙ add-one (length front) in
    sym ends ∙ tells.records ∙ ap (entries s pages) long

pub front_is : (s : ℕ) (pages : ℕ → List ℕ) (slot : UndoSlot) (front : List UndoEntry) (last : UndoEntry) → undo_slot s pages ≡ Some slot → slot.records ≡ front ++ last ∷ [] → front ≡ entries s pages (length front)
front_is s pages slot front last is ends =
    sym (take_at front (last ∷ []) (length front) refl) ∙ ap (take (length front)) (split s pages slot front last is ends)
    ∙ take_at (entries s pages (length front)) (entry_on (length front) (pages (record_page s (length front))) ∷ []) (length front) (length-entries s pages (length front))

-- A transaction begins or ends.

page_made : (space number lsn : ℕ) (page : List ℕ) → length page ≡ 4096 → length (effect lsn (Init space number Undo) page) ≡ 4096
page_made space number lsn page long = length-initialised space number Undo lsn

-- the first page once it may have been made
whole_first : (unused : Bool) (s lsn number : ℕ) (pages : ℕ → ℕ → List ℕ) → AreWhole s (pages 0) → AreWhole s (after lsn (made_first unused 0 number Undo) pages 0)
whole_first true s lsn number pages whole = edit-whole s number (effect lsn (Init 0 number Undo)) pages whole (λ long. page_made 0 number lsn (pages 0 number) long)
whole_first false s lsn number pages whole = whole

elsewhere_first : (unused : Bool) (lsn space number t m : ℕ) (kind : PageKind) (pages : ℕ → ℕ → List ℕ) → (t ≡ space → m ≡ number → ⊥) → after lsn (made_first unused space number kind) pages t m ≡ pages t m
elsewhere_first true lsn space number t m kind pages other = edit-other space number t m (effect lsn (Init space number kind)) pages other
elsewhere_first false lsn space number t m kind pages other = refl

-- a header that is written, and what it tells
begun_here : (lsn s writer index : ℕ) (pages : ℕ → ℕ → List ℕ) → AreWhole s (pages 0) → writer < 2 ^ 32 → index < 2 ^ 64
    → undo_slot s (after lsn (system_write (header_page s) 40 (header_bytes 0 writer index) ∷ []) pages 0) ≡ Some (record { writer = writer; index = index; records = [] })
begun_here lsn s writer index pages whole small_writer small_index =
    let page : List ℕ = pages 0 (header_page s) in
    let long : length page ≡ 4096 = whole (header_page s) (omega arith) (omega arith) in
    let piece : List ℕ = header_bytes 0 writer index in
    let there = edit-same 0 (header_page s) (effect lsn (system_write (header_page s) 40 piece)) pages in
    slot-is s (after lsn (system_write (header_page s) 40 piece ∷ []) pages 0) 0 writer index []
    (ap (field 40 1) there ∙ head-written lsn 0 1 piece page (omega arith) refl long)
    (ap (field 42 2) there ∙ head-written lsn 2 2 piece page (omega arith) refl long)
    (ap (field 44 4) there ∙ head-written lsn 4 4 piece page (omega arith) refl long ∙ big_number-reads_back 4 writer (big_bytes 8 index) small_writer)
    (ap (field 48 8) there ∙ head-written lsn 8 8 piece page (omega arith) refl long ∙ big_number-reads_back 8 index [] small_index)
    refl

pub begun : (unused : Bool) (lsn s writer index : ℕ) (pages : ℕ → ℕ → List ℕ) → AreWhole s (pages 0) → writer < 2 ^ 32 → index < 2 ^ 64
    → undo_slot s (after lsn (records_of_begin unused s writer index) pages 0) ≡ Some (record { writer = writer; index = index; records = [] })
begun true lsn s writer index pages whole small_writer small_index =
    begun_here lsn s writer index (after lsn (made_first true 0 (header_page s) Undo) pages) (whole_first true s lsn (header_page s) pages whole) small_writer small_index
begun false lsn s writer index pages whole small_writer small_index = begun_here lsn s writer index pages whole small_writer small_index

pub begun_elsewhere : (unused : Bool) (lsn s writer index t m : ℕ) (pages : ℕ → ℕ → List ℕ) → (t ≡ 0 → m ≡ header_page s → ⊥) → after lsn (records_of_begin unused s writer index) pages t m ≡ pages t m
begun_elsewhere true lsn s writer index t m pages other =
    edit-other 0 (header_page s) t m (effect lsn (system_write (header_page s) 40 (header_bytes 0 writer index))) (after lsn (made_first true 0 (header_page s) Undo) pages) other
    ∙ elsewhere_first true lsn 0 (header_page s) t m Undo pages other
begun_elsewhere false lsn s writer index t m pages other =
    edit-other 0 (header_page s) t m (effect lsn (system_write (header_page s) 40 (header_bytes 0 writer index))) pages other

pub begun_other : (unused : Bool) (lsn s writer index t : ℕ) (pages : ℕ → ℕ → List ℕ) → t ≢ s → undo_slot t (after lsn (records_of_begin unused s writer index) pages 0) ≡ undo_slot t (pages 0)
begun_other unused lsn s writer index t pages other =
    own t (after lsn (records_of_begin unused s writer index) pages 0) (pages 0) (λ m low high. begun_elsewhere unused lsn s writer index 0 m pages (λ e n. omega (arith, n, low, high, other)))

pub ended : (lsn s : ℕ) (pages : ℕ → ℕ → List ℕ) → AreWhole s (pages 0) → undo_slot s (after lsn (records_of_end s) pages 0) ≡ None
ended lsn s pages whole =
    let long = whole (header_page s) (omega arith) (omega arith) in
    slot-free s (after lsn (records_of_end s) pages 0)
    (ap (field 40 1) (edit-same 0 (header_page s) (effect lsn (system_write (header_page s) 40 (replicate 16 0))) pages) ∙ head-written lsn 0 1 (replicate 16 0) (pages 0 (header_page s)) (omega arith) refl long)

pub ended_elsewhere : (lsn s t m : ℕ) (pages : ℕ → ℕ → List ℕ) → (t ≡ 0 → m ≡ header_page s → ⊥) → after lsn (records_of_end s) pages t m ≡ pages t m
ended_elsewhere lsn s t m pages other = edit-other 0 (header_page s) t m (effect lsn (system_write (header_page s) 40 (replicate 16 0))) pages other

pub ended_other : (lsn s t : ℕ) (pages : ℕ → ℕ → List ℕ) → t ≢ s → undo_slot t (after lsn (records_of_end s) pages 0) ≡ undo_slot t (pages 0)
ended_other lsn s t pages other =
    own t (after lsn (records_of_end s) pages 0) (pages 0) (λ m low high. ended_elsewhere lsn s 0 m pages (λ e n. omega (arith, n, low, high, other)))

last_of : {x y : UndoEntry} → x ∷ [] ≡ y ∷ [] → x ≡ y
last_of e = cc

-- the last entry is what the last record tells
pub last_is : (s : ℕ) (pages : ℕ → List ℕ) (slot : UndoSlot) (front : List UndoEntry) (last : UndoEntry) → undo_slot s pages ≡ Some slot → slot.records ≡ front ++ last ∷ [] → last ≡ entry_on (length front) (pages (record_page s (length front)))
last_is s pages slot front last is ends =
    let there : UndoEntry = entry_on (length front) (pages (record_page s (length front))) in
    last_of (sym (drop_at front (last ∷ []) (length front) refl) ∙ ap (drop (length front)) (split s pages slot front last is ends) ∙ drop_at (entries s pages (length front)) (there ∷ []) (length front) (length-entries s pages (length front)))

-- Changes.

pub after-append : (lsn : ℕ) (xs ys : List Record) (pages : ℕ → ℕ → List ℕ) → after lsn (xs ++ ys) pages ≡ after lsn ys (after lsn xs pages)
after-append lsn [] ys pages = refl
after-append lsn (x ∷ xs) ys pages = after-append lsn xs ys (pages_after_record lsn x pages)

-- an undo record leaves what stands before it
entry_before : (lsn n a k : ℕ) (e : UndoEntry) (page : List ℕ) → IsEntry e → length page ≡ 4096 → 24 ≤ a → a + k ≤ record_offset n → part a k (with_lsn lsn (put_at (record_offset n) (entry_bytes e) page)) ≡ part a k page
entry_before lsn n a k e page is long body before =
    let bytes = length-entry_bytes e is in
    let fits : record_offset n + length (entry_bytes e) ≤ length page = omega arith in
    part-with_lsn a k lsn (put_at (record_offset n) (entry_bytes e) page) (inr body) (omega arith) (length-put_at (record_offset n) (entry_bytes e) page fits ∙ long)
    ∙ part-put_at_before a k (record_offset n) (entry_bytes e) page before (omega arith)

-- a count leaves what stands behind it
count_behind : (lsn m a k : ℕ) (page : List ℕ) → length page ≡ 4096 → 44 ≤ a → a + k ≤ 4092 → part a k (with_lsn lsn (put_at 42 (big_bytes 2 m) page)) ≡ part a k page
count_behind lsn m a k page long behind below =
    let two : length (big_bytes 2 m) ≡ 2 = length-bytes_high_first 2 m in
    let fits : 42 + length (big_bytes 2 m) ≤ length page = omega (arith, two) in
    part-with_lsn a k lsn (put_at 42 (big_bytes 2 m) page) (inr (omega arith)) below (length-put_at 42 (big_bytes 2 m) page fits ∙ long)
    ∙ part-put_at_behind a k 42 (big_bytes 2 m) page (omega (arith, two)) (omega arith)

-- a record behind the others leaves the slot as it is
entry_keeps : (lsn s n : ℕ) (e : UndoEntry) (pages : ℕ → ℕ → List ℕ) → AreWhole s (pages 0) → IsEntry e → n < 160 → count_of (pages 0 (header_page s)) ≡ n → undo_slot s (pages 0) ≡ undo_slot s (pages_after_record lsn (entry_record s n e) pages 0)
entry_keeps lsn s n e pages whole is room count =
    let edit : List ℕ → List ℕ = effect lsn (entry_record s n e) in
    slot-kept s (pages 0) (pages_after_record lsn (entry_record s n e) pages 0)
    (sym (edit-part 40 16 (record_page s n) (header_page s) edit pages (λ same. entry_before lsn n 40 16 e (pages 0 (header_page s)) is (whole (header_page s) (omega arith) (omega arith)) (omega arith) (omega arith))))
    (λ i lt. ap entry_of (sym (edit-part (record_offset i) 96 (record_page s n) (record_page s i) edit pages
    (λ same. entry_before lsn n (record_offset i) 96 e (pages 0 (record_page s i)) is (whole (record_page s i) (omega arith) (omega arith)) (omega arith) (apart s i n same (omega (arith, lt, count)) room)))))
  where
    apart : (s i n : ℕ) → record_page s i ≡ record_page s n → i < n → n < 160 → record_offset i + 96 ≤ record_offset n
    apart s i n same lt room = omega arith

entry_there : (lsn s n : ℕ) (e : UndoEntry) (pages : ℕ → ℕ → List ℕ) → length (pages 0 (record_page s n)) ≡ 4096 → IsEntry e → entry_on n (pages_after_record lsn (entry_record s n e) pages 0 (record_page s n)) ≡ e
entry_there lsn s n e pages long is =
    let page : List ℕ = pages 0 (record_page s n) in
    let bytes : length (entry_bytes e) ≡ 96 = length-entry_bytes e is in
    let put : List ℕ = put_at (record_offset n) (entry_bytes e) page in
    let fits : record_offset n + length (entry_bytes e) ≤ length page = omega (arith, bytes, long) in
    let there : part (record_offset n) 96 put ≡ entry_bytes e = ap (λ k. part (record_offset n) k put) (sym bytes) ∙ part-put_at_same (record_offset n) (entry_bytes e) page (omega (arith, fits)) in
    ap (entry_on n) (edit-same 0 (record_page s n) (effect lsn (entry_record s n e)) pages)
    ∙ ap entry_of (part-with_lsn (record_offset n) 96 lsn put (inr (omega arith)) (omega arith) (length-put_at (record_offset n) (entry_bytes e) page fits ∙ long) ∙ there)
    ∙ reads_back e is

entry_whole : (lsn s n : ℕ) (e : UndoEntry) (pages : ℕ → ℕ → List ℕ) → AreWhole s (pages 0) → IsEntry e → AreWhole s (pages_after_record lsn (entry_record s n e) pages 0)
entry_whole lsn s n e pages whole is =
    edit-whole s (record_page s n) (effect lsn (entry_record s n e)) pages whole
    (λ long. let fits : record_offset n + length (entry_bytes e) ≤ length (pages 0 (record_page s n)) = omega (arith, length-entry_bytes e is, long) in
    length-with_lsn lsn (put_at (record_offset n) (entry_bytes e) (pages 0 (record_page s n))) (length-put_at (record_offset n) (entry_bytes e) (pages 0 (record_page s n)) fits ∙ long))

-- a page that is made for the first of its records leaves the slot as it is
made_keeps : (unused : Bool) (lsn s n : ℕ) (pages : ℕ → ℕ → List ℕ) → (unused ≡ true → (0 < n) × (n % 40 ≡ 0)) → n < 160 → count_of (pages 0 (header_page s)) ≡ n → undo_slot s (pages 0) ≡ undo_slot s (after lsn (made_first unused 0 (record_page s n) Undo) pages 0)
made_keeps false lsn s n pages due room count = refl
made_keeps true lsn s n pages due room count =
    let edit : List ℕ → List ℕ = effect lsn (Init 0 (record_page s n) Undo) in
    let first = due refl in
    slot-kept s (pages 0) (after lsn (made_first true 0 (record_page s n) Undo) pages 0)
    (sym (edit-part 40 16 (record_page s n) (header_page s) edit pages (λ same. absurd (omega (arith, same, first.0, first.1, room)))))
    (λ i lt. ap entry_of (sym (edit-part (record_offset i) 96 (record_page s n) (record_page s i) edit pages (λ same. absurd (omega (arith, same, lt, count, first.0, first.1, room))))))

-- a count that is written says how many of the records are the slot's
count_tells : (lsn s m : ℕ) (slot : UndoSlot) (pages : ℕ → ℕ → List ℕ) → AreWhole s (pages 0) → m ≤ 160 → undo_slot s (pages 0) ≡ Some slot
    → undo_slot s (pages_after_record lsn (count_record s m) pages 0) ≡ Some (record { writer = slot.writer; index = slot.index; records = entries s (pages 0) m })
count_tells lsn s m slot pages whole fits is =
    let page : List ℕ = pages 0 (header_page s) in
    let long : length page ≡ 4096 = whole (header_page s) (omega arith) (omega arith) in
    let edit : List ℕ → List ℕ = effect lsn (count_record s m) in
    let there = edit-same 0 (header_page s) edit pages in
    let tells = slot-tells s (pages 0) slot is in
    slot-is s (pages_after_record lsn (count_record s m) pages 0) m slot.writer slot.index (entries s (pages 0) m)
    (ap (field 40 1) there ∙ beside-count 40 1 lsn m page (omega arith) (inl (omega arith)) (omega arith) long ∙ tells.active)
    (ap (field 42 2) there ∙ count-written lsn m page (omega arith) long)
    (ap (field 44 4) there ∙ beside-count 44 4 lsn m page (omega arith) (inr (omega arith)) (omega arith) long ∙ sym tells.writer)
    (ap (field 48 8) there ∙ beside-count 48 8 lsn m page (omega arith) (inr (omega arith)) (omega arith) long ∙ sym tells.index)
    (entries-same s (pages_after_record lsn (count_record s m) pages 0) (pages 0) m
    (λ i lt. ap entry_of (edit-part (record_offset i) 96 (header_page s) (record_page s i) edit pages (λ same. count_behind lsn m (record_offset i) 96 (pages 0 (record_page s i)) (whole (record_page s i) (omega arith) (omega arith)) (omega arith) (omega arith)))))

-- the records of the row change no page of the system space
row_elsewhere : (row_unused : Bool) (lsn t m : ℕ) (e : UndoEntry) (image : List ℕ) (pages : ℕ → ℕ → List ℕ) → (t ≡ e.table → m ≡ e.page → ⊥) → after lsn (made_first row_unused e.table e.page Bucket ++ row_record e image ∷ []) pages t m ≡ pages t m
row_elsewhere true lsn t m e image pages other =
    edit-other e.table e.page t m (effect lsn (row_record e image)) (after lsn (made_first true e.table e.page Bucket) pages) other ∙ elsewhere_first true lsn e.table e.page t m Bucket pages other
row_elsewhere false lsn t m e image pages other = edit-other e.table e.page t m (effect lsn (row_record e image)) pages other

row_keeps : (row_unused : Bool) (lsn s : ℕ) (e : UndoEntry) (image : List ℕ) (pages : ℕ → ℕ → List ℕ) → IsEntry e → undo_slot s (after lsn (made_first row_unused e.table e.page Bucket ++ row_record e image ∷ []) pages 0) ≡ undo_slot s (pages 0)
row_keeps row_unused lsn s e image pages is =
    own s (after lsn (made_first row_unused e.table e.page Bucket ++ row_record e image ∷ []) pages 0) (pages 0)
    (λ m low high. row_elsewhere row_unused lsn 0 m e image pages (λ z p. omega (arith, z, is.row_slot.0)))

-- the undo record and the count of a change, from pages that are there
change_counts : (lsn s : ℕ) (slot : UndoSlot) (e : UndoEntry) (pages : ℕ → ℕ → List ℕ) → AreWhole s (pages 0) → IsEntry e → length slot.records < 160 → undo_slot s (pages 0) ≡ Some slot
    → undo_slot s (after lsn (entry_record s (length slot.records) e ∷ count_record s (length slot.records + 1) ∷ []) pages 0) ≡ Some (record { writer = slot.writer; index = slot.index; records = slot.records ++ e ∷ [] })
change_counts lsn s slot e pages whole is room told =
    let n : ℕ = length slot.records in
    let middle : ℕ → ℕ → List ℕ = pages_after_record lsn (entry_record s n e) pages in
    let still : undo_slot s (middle 0) ≡ Some slot = sym (entry_keeps lsn s n e pages whole is room (counted s (pages 0) slot told)) ∙ told in
    let tells = slot-tells s (middle 0) slot still in
    let front : entries s (middle 0) n ≡ slot.records = ap (entries s (middle 0)) (sym tells.count) ∙ sym tells.records in
    let last : entry_on n (middle 0 (record_page s n)) ≡ e = entry_there lsn s n e pages (whole (record_page s n) (omega arith) (omega arith)) is in
    let all : entries s (middle 0) (n + 1) ≡ slot.records ++ e ∷ [] = ap (entries s (middle 0)) (add-one n) ∙ (λ i. front i ++ last i ∷ []) in
    count_tells lsn s (n + 1) slot middle (entry_whole lsn s n e pages whole is) (omega (arith, room)) still
    ∙ ap (λ (rs : List UndoEntry). Some (record { writer = slot.writer; index = slot.index; records = rs })) all

-- a change in three parts: the page that is made, the undo record with the count, and the row
change_parts : (unused row_unused : Bool) (lsn s n : ℕ) (e : UndoEntry) (image : List ℕ) (pages : ℕ → ℕ → List ℕ)
    → after lsn (records_of_change unused row_unused s n e image) pages
    ≡ after lsn (made_first row_unused e.table e.page Bucket ++ row_record e image ∷ []) (after lsn (entry_record s n e ∷ count_record s (n + 1) ∷ []) (after lsn (made_first unused 0 (record_page s n) Undo) pages))
change_parts unused row_unused lsn s n e image pages =
    after-append lsn (made_first unused 0 (record_page s n) Undo) (entry_record s n e ∷ count_record s (n + 1) ∷ (made_first row_unused e.table e.page Bucket ++ row_record e image ∷ [])) pages

pub changed : (unused row_unused : Bool) (lsn s : ℕ) (slot : UndoSlot) (e : UndoEntry) (image : List ℕ) (pages : ℕ → ℕ → List ℕ) → AreWhole s (pages 0) → IsEntry e → length slot.records < 160
    → (unused ≡ true → (0 < length slot.records) × (length slot.records % 40 ≡ 0)) → undo_slot s (pages 0) ≡ Some slot
    → undo_slot s (after lsn (records_of_change unused row_unused s (length slot.records) e image) pages 0) ≡ Some (record { writer = slot.writer; index = slot.index; records = slot.records ++ e ∷ [] })
changed unused row_unused lsn s slot e image pages whole is room due told =
    let n : ℕ = length slot.records in
    let made : ℕ → ℕ → List ℕ = after lsn (made_first unused 0 (record_page s n) Undo) pages in
    let written : ℕ → ℕ → List ℕ = after lsn (entry_record s n e ∷ count_record s (n + 1) ∷ []) made in
    let still : undo_slot s (made 0) ≡ Some slot = sym (made_keeps unused lsn s n pages due room (counted s (pages 0) slot told)) ∙ told in
    ap (λ (p : ℕ → ℕ → List ℕ). undo_slot s (p 0)) (change_parts unused row_unused lsn s n e image pages)
    ∙ row_keeps row_unused lsn s e image written is
    ∙ change_counts lsn s slot e made (whole_first unused s lsn (record_page s n) pages whole) is room still

written_elsewhere : (unused : Bool) (lsn s n t m : ℕ) (e : UndoEntry) (pages : ℕ → ℕ → List ℕ) → (t ≡ 0 → m ≡ header_page s → ⊥) → (t ≡ 0 → m ≡ record_page s n → ⊥)
    → after lsn (entry_record s n e ∷ count_record s (n + 1) ∷ []) (after lsn (made_first unused 0 (record_page s n) Undo) pages) t m ≡ pages t m
written_elsewhere unused lsn s n t m e pages not_header not_record =
    let made : ℕ → ℕ → List ℕ = after lsn (made_first unused 0 (record_page s n) Undo) pages in
    edit-other 0 (header_page s) t m (effect lsn (count_record s (n + 1))) (pages_after_record lsn (entry_record s n e) made) not_header
    ∙ edit-other 0 (record_page s n) t m (effect lsn (entry_record s n e)) made not_record
    ∙ elsewhere_first unused lsn 0 (record_page s n) t m Undo pages not_record

pub changed_elsewhere : (unused row_unused : Bool) (lsn s n t m : ℕ) (e : UndoEntry) (image : List ℕ) (pages : ℕ → ℕ → List ℕ) → (t ≡ 0 → m ≡ header_page s → ⊥) → (t ≡ 0 → m ≡ record_page s n → ⊥) → (t ≡ e.table → m ≡ e.page → ⊥)
    → after lsn (records_of_change unused row_unused s n e image) pages t m ≡ pages t m
changed_elsewhere unused row_unused lsn s n t m e image pages not_header not_record not_row =
    let written : ℕ → ℕ → List ℕ = after lsn (entry_record s n e ∷ count_record s (n + 1) ∷ []) (after lsn (made_first unused 0 (record_page s n) Undo) pages) in
    ap (λ (p : ℕ → ℕ → List ℕ). p t m) (change_parts unused row_unused lsn s n e image pages)
    ∙ row_elsewhere row_unused lsn t m e image written not_row
    ∙ written_elsewhere unused lsn s n t m e pages not_header not_record

pub changed_other : (unused row_unused : Bool) (lsn s n t : ℕ) (e : UndoEntry) (image : List ℕ) (pages : ℕ → ℕ → List ℕ) → t ≢ s → n < 160 → IsEntry e → undo_slot t (after lsn (records_of_change unused row_unused s n e image) pages 0) ≡ undo_slot t (pages 0)
changed_other unused row_unused lsn s n t e image pages other room is =
    own t (after lsn (records_of_change unused row_unused s n e image) pages 0) (pages 0)
    (λ m low high. changed_elsewhere unused row_unused lsn s n 0 m e image pages (λ z p. omega (arith, p, low, high, other)) (λ z p. omega (arith, p, low, high, other, room)) (λ z p. omega (arith, z, is.row_slot.0)))

row_there : (row_unused : Bool) (lsn : ℕ) (e : UndoEntry) (image : List ℕ) (pages : ℕ → ℕ → List ℕ) → after lsn (made_first row_unused e.table e.page Bucket ++ row_record e image ∷ []) pages e.table e.page ≡ after_row row_unused lsn e image (pages e.table e.page)
row_there true lsn e image pages =
    edit-same e.table e.page (effect lsn (row_record e image)) (after lsn (made_first true e.table e.page Bucket) pages)
    ∙ ap (effect lsn (row_record e image)) (edit-same e.table e.page (effect lsn (Init e.table e.page Bucket)) pages)
row_there false lsn e image pages = edit-same e.table e.page (effect lsn (row_record e image)) pages

-- the page of the row is as the records of the row leave it
pub changed_row : (unused row_unused : Bool) (lsn s n : ℕ) (e : UndoEntry) (image : List ℕ) (pages : ℕ → ℕ → List ℕ) → IsEntry e → after lsn (records_of_change unused row_unused s n e image) pages e.table e.page ≡ after_row row_unused lsn e image (pages e.table e.page)
changed_row unused row_unused lsn s n e image pages is =
    let written : ℕ → ℕ → List ℕ = after lsn (entry_record s n e ∷ count_record s (n + 1) ∷ []) (after lsn (made_first unused 0 (record_page s n) Undo) pages) in
    ap (λ (p : ℕ → ℕ → List ℕ). p e.table e.page) (change_parts unused row_unused lsn s n e image pages)
    ∙ row_there row_unused lsn e image written
    ∙ ap (after_row row_unused lsn e image) (written_elsewhere unused lsn s n e.table e.page e pages (λ z p. omega (arith, z, is.row_slot.0)) (λ z p. omega (arith, z, is.row_slot.0)))

-- A change is taken back.

-- the row slot gets these bytes, and the count is one less
abbrev with_row : ℕ → ℕ → UndoEntry → List ℕ → List Record
with_row s count e image = row_record e image ∷ count_record s (count - 1) ∷ []

pub taken_back : (lsn s : ℕ) (slot : UndoSlot) (front : List UndoEntry) (e : UndoEntry) (image : List ℕ) (pages : ℕ → ℕ → List ℕ) → AreWhole s (pages 0) → IsEntry e → length slot.records ≤ 160 → undo_slot s (pages 0) ≡ Some slot → slot.records ≡ front ++ e ∷ []
    → undo_slot s (after lsn (with_row s (length slot.records) e image) pages 0) ≡ Some (record { writer = slot.writer; index = slot.index; records = front })
taken_back lsn s slot front e image pages whole is full told ends =
    let edited : ℕ → ℕ → List ℕ = pages_after_record lsn (row_record e image) pages in
    let kept = λ (m : ℕ). edit-other e.table e.page 0 m (effect lsn (row_record e image)) pages (λ z p. omega (arith, z, is.row_slot.0)) in
    let still : undo_slot s (edited 0) ≡ Some slot = row_keeps false lsn s e image pages is ∙ told in
    let whole_edited : AreWhole s (edited 0) = λ m low high. ap length (kept m) ∙ whole m low high in
    let long : length slot.records ≡ length front + 1 = ap length ends ∙ length-append front (e ∷ []) in
    let less : length slot.records - 1 ≡ length front = omega (arith, long) in
    count_tells lsn s (length slot.records - 1) slot edited whole_edited (omega (arith, full)) still
    ∙ ap (λ (rs : List UndoEntry). Some (record { writer = slot.writer; index = slot.index; records = rs })) (ap (entries s (edited 0)) less ∙ sym (front_is s (edited 0) slot front e still ends))

pub taken_back_elsewhere : (lsn s n t m : ℕ) (e : UndoEntry) (image : List ℕ) (pages : ℕ → ℕ → List ℕ) → (t ≡ 0 → m ≡ header_page s → ⊥) → (t ≡ e.table → m ≡ e.page → ⊥) → after lsn (with_row s n e image) pages t m ≡ pages t m
taken_back_elsewhere lsn s n t m e image pages not_header not_row =
    edit-other 0 (header_page s) t m (effect lsn (count_record s (n - 1))) (pages_after_record lsn (row_record e image) pages) not_header
    ∙ edit-other e.table e.page t m (effect lsn (row_record e image)) pages not_row

pub taken_back_other : (lsn s n t : ℕ) (e : UndoEntry) (image : List ℕ) (pages : ℕ → ℕ → List ℕ) → t ≢ s → IsEntry e → undo_slot t (after lsn (with_row s n e image) pages 0) ≡ undo_slot t (pages 0)
taken_back_other lsn s n t e image pages other is =
    own t (after lsn (with_row s n e image) pages 0) (pages 0)
    (λ m low high. taken_back_elsewhere lsn s n 0 m e image pages (λ z p. omega (arith, p, low, high, other)) (λ z p. omega (arith, z, is.row_slot.0)))

pub taken_back_row : (lsn s n : ℕ) (e : UndoEntry) (image : List ℕ) (pages : ℕ → ℕ → List ℕ) → IsEntry e → after lsn (with_row s n e image) pages e.table e.page ≡ after_row false lsn e image (pages e.table e.page)
taken_back_row lsn s n e image pages is =
    edit-other 0 (header_page s) e.table e.page (effect lsn (count_record s (n - 1))) (pages_after_record lsn (row_record e image) pages) (λ z p. omega (arith, z, is.row_slot.0))
    ∙ row_there false lsn e image pages

-- Pages that are unused.

part_zero : (a k : ℕ) → a + k ≤ 4096 → part a k zero_page ≡ replicate k 0
part_zero a k fits = ap (take k) (drop-replicate a 4096 0) ∙ take-replicate k (4096 - a) 0 (omega arith)

-- an unused page has no header of a slot in use, and no record
pub no_header : (page : List ℕ) → page ≡ zero_page → active_of page ≡ 1 → ⊥
no_header page unused active =
    let zero_there : field 40 1 zero_page ≡ 0 = field-part 40 1 1 zero_page (omega arith) ∙ ap (field 0 1) (part_zero 40 1 (omega arith)) in
    let e : 0 ≡ 1 = sym zero_there ∙ ap (field 40 1) (sym unused) ∙ active in
    omega (arith, e)

no_entry : (k : ℕ) (page : List ℕ) → page ≡ zero_page → IsEntry (entry_on k page) → ⊥
no_entry k page unused is =
    let bytes : part (record_offset k) 96 page ≡ replicate 96 0 = ap (part (record_offset k) 96) unused ∙ part_zero (record_offset k) 96 (omega arith) in
    let table : field 0 4 (part (record_offset k) 96 page) ≡ 0 = ap (field 0 4) bytes in
    omega (arith, table, is.row_slot.0)

all_last : (xs : List UndoEntry) (y : UndoEntry) → AllByRecursion IsEntry (xs ++ y ∷ []) → IsEntry y
all_last [] y each = each.0
all_last (x ∷ xs) y each = all_last xs y each.1

-- where the page of the next record is unused, that record is the first on a later page of the slot
pub next_is_first : (s : ℕ) (pages : ℕ → List ℕ) (slot : UndoSlot) → undo_slot s pages ≡ Some slot → AllByRecursion IsEntry slot.records → pages (record_page s (length slot.records)) ≡ zero_page → (0 < length slot.records) × (length slot.records % 40 ≡ 0)
next_is_first s pages slot told each unused = at (length slot.records) refl
  where
    at : (n : ℕ) → length slot.records ≡ n → (0 < length slot.records) × (length slot.records % 40 ≡ 0)
    at zero none =
        let here : header_page s ≡ record_page s (length slot.records) = omega (arith, none) in
        absurd (no_header (pages (header_page s)) (ap pages here ∙ unused) (slot-tells s pages slot told).active)
    at (suc k) long =
        elim (cases_eq (length slot.records % 40) 0) [
          | inl first ↦ (omega (arith, long), first)
          | inr later ↦
              let tells = slot-tells s pages slot told in
              let here : record_page s k ≡ record_page s (length slot.records) = omega (arith, long, later) in
              let all : slot.records ≡ entries s pages (suc k) = tells.records ∙ ap (entries s pages) (tells.count ∙ long) in
              let P : List UndoEntry → Type 0 = λ rs. AllByRecursion IsEntry rs in
              absurd (no_entry k (pages (record_page s k)) (ap pages here ∙ unused) (all_last (entries s pages k) (entry_on k (pages (record_page s k))) (subst P all each)))
        ]
