-- Each mini-transaction of the engine keeps its image formed, and what the plain donor is.
use Rattle.clone_trx.proofs.Common.{◌≡◌, ◌≢◌, ℕ, ◌<◌, ◌≤◌, ◌+◌, ◌++◌, ◌^◌, List, [], ◌∷◌, length, refl, sym, ap, subst, ◌∙◌, arith, Option, Some, None, is_some, AllByRecursion, same_Some, Change, Commit, Record, UndoEntry, IsEntry, UndoSlot, header_page, record_page, capacity, records_of_begin, records_of_change, records_of_taking_back, records_of_end, Image, after_records, all_pages, undo_slot_of, Contents, contents_of, HasContents, opening_records, commit_records, is_unused, change_is, undo_is, Donor, no_donor, changes_of, least_unused, TABLE_LIMIT, TRANSACTION_LIMIT, created, begun, TakesBack, Leaves, Commits, value_of, committed_rows, told, IsSound, IsKept, IsUndoSlot, StandsFor, entry_in, records_of_create, length-dictionary}
use Rattle.std.specs.FinMap as finite
use Rattle.clone_row.specs.Slots as rows
use Rattle.clone_contents.proofs.OpeningLemmas.{opening_is}
use Rattle.clone_contents.proofs.CreateLemmas.{create_is}
use Rattle.clone_contents.proofs.UndoSlotLemmas.{begin_is, end_is}
use Rattle.clone_contents.proofs.TakingBackLemmas.{taking_back_is}
use Rattle.clone_contents.proofs.CommitLemmas.{commit_is}
use Rattle.clone_trx.proofs.ScanLemmas.{least_free_is}
use Rattle.clone_trx.proofs.UndoRecordLemmas.{own_slot, counted, in_range}
use Rattle.clone_trx.proofs.TableLemmas.{created_sound}
use Rattle.clone_trx.proofs.OpenTransactionLemmas.{begun_sound, left_sound}
use Rattle.clone_trx.proofs.CommitLemmas.{opened_sound, committed_sound}
use Rattle.clone_trx.proofs.SoundChangeLemmas.{Puts, e, slot, may_change, put_sound, same_count}
use Rattle.clone_trx.proofs.TakingBackLemmas.{may_take, count_is, taken_sound}

kept : {d : Donor} {image : Image} {c : Contents} → HasContents image c → IsSound d c → IsKept d image
kept {d} has sound = record { formed = has.0; sound = subst (IsSound d) (sym has.1) sound }

pub opening_keeps : (lsn : ℕ) → IsKept no_donor (after_records lsn finite.empty opening_records)
opening_keeps lsn = kept (opening_is lsn) opened_sound

pub create_keeps : (lsn entry_number table buckets : ℕ) (d : Donor) (image : Image) → IsKept d image → entry_number < 62 → (entry_in (contents_of image).dictionary entry_number).table ≡ 0 → finite.get d.tables table ≡ None → finite.len d.tables < TABLE_LIMIT → 1 ≤ table → table ≤ 1000000 → 1 ≤ buckets → buckets ≤ 1024
    → IsKept (created table buckets d) (after_records lsn image (records_of_create entry_number table buckets))
create_keeps lsn entry_number table buckets d image is within free none room low high some few =
    let used : table ≢ 0 = λ zero. omega (arith, zero, low) in
    let long = length-dictionary (all_pages image 0 0) in
    kept (create_is image lsn entry_number table buckets is.formed record { room = within; used = low; low = high; fits = omega (arith, few); free = is.sound.tables.spaces table used none })
    (created_sound d (contents_of image) entry_number table buckets is.sound none free (omega (arith, long, within)) room used low high some few)

pub begin_keeps : (lsn trx writer index : ℕ) (d : Donor) (image : Image) → IsKept d image → least_unused d.active ≡ Some trx → writer < 2 ^ 32 → index < 2 ^ 64
    → IsKept (begun trx writer index d) (after_records lsn image (records_of_begin (is_unused image 0 (header_page trx)) trx writer index))
begin_keeps lsn trx writer index d image is least writer_fits index_fits =
    let free = least_free_is d trx least in
    kept (begin_is image lsn trx writer index is.formed free.0 writer_fits index_fits) (begun_sound d (contents_of image) trx writer index free.0 free.1 is.sound)

-- the records of a change
abbrev pub change_of : Donor → Image → ℕ → Change → ℕ → ℕ → List Record
change_of d image trx change page slot_number =
    let count = length (changes_of d trx) in
    let entry = told change.table page change.key slot_number (value_of d change.table change.key) in
    records_of_change (is_unused image 0 (record_page trx count)) (is_unused image entry.table entry.page) trx count entry (rows.image change.key change.value)

pub put_keeps : (lsn trx page slot_number : ℕ) (d after : Donor) (image : Image) (change : Change) → IsKept d image → Puts d after (contents_of image) trx change page slot_number
    → IsKept after (after_records lsn image (change_of d image trx change page slot_number))
put_keeps lsn trx page slot_number d after image change is p =
    let c : Contents = contents_of image in
    let entry = e d after c trx change page slot_number is.sound p in
    let has = change_is image lsn trx (slot d after c trx change page slot_number is.sound p) entry change.value is.formed (may_change d after c trx change page slot_number is.sound p) in
    subst (λ (n : ℕ). IsKept after (after_records lsn image (records_of_change (is_unused image 0 (record_page trx n)) (is_unused image entry.table entry.page) trx n entry (rows.image change.key change.value))))
    (same_count d after c trx change page slot_number is.sound p)
    (kept has (put_sound d after c trx change page slot_number is.sound p))

pub take_back_keeps : (lsn trx left : ℕ) (d after : Donor) (image : Image) (slot : UndoSlot) (front : List UndoEntry) (e : UndoEntry) → IsKept d image → TakesBack d trx left after → (contents_of image).undo trx ≡ Some slot → slot.records ≡ front ++ e ∷ []
    → IsKept after (after_records lsn image (records_of_taking_back trx (left + 1) e))
take_back_keeps lsn trx left d after image slot front e is t used last =
    let c : Contents = contents_of image in
    let may = may_take d after c trx left slot front e is.sound t used last in
    subst (λ (n : ℕ). IsKept after (after_records lsn image (records_of_taking_back trx n e))) (count_is d after c trx left slot front e is.sound t used last)
    (kept (taking_back_is image lsn trx slot front e is.formed may) (taken_sound d after c trx left slot front e is.sound t used last))

-- the undo slot of an open transaction
pub record InUse (d : Donor) (image : Image) (trx : ℕ) (commit : Commit) : Type 0 where
  pub small : trx < TRANSACTION_LIMIT
  pub own : IsUndoSlot d (contents_of image).slot commit ((contents_of image).undo trx)

pub in_use : (d : Donor) (image : Image) (trx : ℕ) (commit : Commit) → IsKept d image → finite.get d.active trx ≡ Some commit → InUse d image trx commit
in_use d image trx commit is active =
    let small : trx < TRANSACTION_LIMIT = is.sound.locked.few.numbers trx (ap is_some active) in
    record { small = small; own = own_slot d (contents_of image).slot (finite.get d.active trx) ((contents_of image).undo trx) commit active (is.sound.undo trx small) }

-- the slot itself
abbrev slot_used : {d : Donor} {image : Image} {trx : ℕ} {commit : Commit} → InUse d image trx commit → UndoSlot
slot_used {commit = commit} u = record { writer = commit.writer; index = commit.index; records = u.own.records }

pub leave_keeps : (lsn trx : ℕ) (d after : Donor) (image : Image) → IsKept d image → Leaves d trx after → IsKept after (after_records lsn image (records_of_end trx))
leave_keeps lsn trx d after image is l =
    let u = in_use d image trx l.commit is l.was_active in
    kept (end_is image lsn trx (slot_used u) is.formed u.small u.own.is) (left_sound d after (contents_of image) trx l is.sound)

pub commit_keeps : (lsn trx position : ℕ) (d after : Donor) (image : Image) → IsKept d image → Commits d trx position after → position < 2 ^ 64 → IsKept after (after_records lsn image (commit_records trx position))
commit_keeps lsn trx position d after image is k fits =
    let u = in_use d image trx k.commit is k.was_active in
    kept (commit_is image lsn trx position (slot_used u) is.formed u.small u.own.is fits) (committed_sound d after (contents_of image) trx position k is.sound)

-- an undo slot has no more records than fit, each in its ranges
pub record KnownRecords (slot : UndoSlot) : Type 0 where
  pub in_range : AllByRecursion IsEntry slot.records
  pub few : length slot.records ≤ capacity

pub known_records : (d : Donor) (image : Image) (trx : ℕ) (slot : UndoSlot) → IsKept d image → trx < TRANSACTION_LIMIT → undo_slot_of image trx ≡ Some slot → KnownRecords slot
known_records d image trx slot is small used = at (finite.get d.active trx) refl (is.sound.undo trx small)
  where
    found : (contents_of image).undo trx ≡ Some slot
    found = undo_is image trx small ∙ used

    at : (o : Option Commit) → finite.get d.active trx ≡ o → StandsFor d (contents_of image).slot o ((contents_of image).undo trx) → KnownRecords slot
    at None none free = absurd (let gone = sym free ∙ found in cc)
    at (Some commit) some own =
        let same : ◌≡◌ {A = UndoSlot} (record { writer = commit.writer; index = commit.index; records = own.records }) slot = same_Some _ slot (sym own.is ∙ found) in
        let most = is.sound.locked.few.few trx commit some in
        let as_many = counted (contents_of image).slot (committed_rows d) commit.changes own.records own.tells in
        subst (λ (u : UndoSlot). KnownRecords u) same (record { in_range = in_range (contents_of image).slot (committed_rows d) commit.changes own.records own.tells; few = omega (arith, most, as_many) })
