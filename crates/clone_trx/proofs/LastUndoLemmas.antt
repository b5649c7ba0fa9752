-- The last change of a transaction, and its undo record.
use Rattle.clone_trx.proofs.Common.{◌≡◌, ◌≤◌, ◌<◌, ◌+◌, ◌-◌, ◌++◌, ℕ, List, [], ◌∷◌, length, take, refl, sym, ap, subst, ◌∙◌, arith, Option, Some, None, IsSome, is_some, MatchOption, slice_get, take_at, unwrap_or, length_push, slice_get-pushed_last, same_Some, after_changes, Change, Commit, UndoEntry, UndoSlot, entry_on, record_page, records_of_taking_back, capacity, Image, page_of, page_there, after_records, system_pages, undo_slot_of, contents_of, undo_there, undo_is, Donor, TakesBack, Opened, IsLocked, committed_rows, changes_of, changes_of_active, TRANSACTION_LIMIT, Pops, TakesLast, front_of, IsKept, IsSafe, IsLast, IsLastRecord, Slots, TellsChange, before_change, row_page, last_change, system_page, undo_last, reads, writes}
use Rattle.std.specs.FinMap as finite
use Rattle.clone_undo.proofs.Effects as undo
use Rattle.clone_trx.proofs.LastRecordLemmas.{IsOf, before_same}
use Rattle.clone_trx.proofs.KeptLemmas.{InUse, in_use, take_back_keeps}
use Rattle.clone_trx.proofs.TakingBackLemmas.{bound_there, may_take}
use Rattle.clone_trx.proofs.UndoRecordLemmas.{counted, tells_split}

-- a list that isn't empty has a last element
last_apart : {X : Type 0} (xs : List X) (n : ℕ) → length xs ≡ n + 1 → (front : List X) × (last : X) × (xs ≡ front ++ last ∷ [])
last_apart [] n long = absurd (omega (arith, long))
last_apart (x ∷ []) n long = ([], x, refl)
last_apart (x ∷ y ∷ xs) n long = let more = last_apart (y ∷ xs) (length xs) (omega arith) in (x ∷ more.0, more.1, ap (λ ys. x ∷ ys) more.2)

-- what isn't empty has one element at least
some_of : {X : Type 0} (xs : List X) (n : ℕ) (x : X) → slice_get xs n ≡ Some x → 1 ≤ length xs
some_of [] n x is = absurd (let e = is in cc)
some_of (y ∷ xs) n x is = omega arith

-- The last change of a transaction is taken away.

pub taken_back : (d : Donor) (trx count table key : ℕ) (active : Opened) (popped : Option Change) → IsLast d trx count table key → Pops trx d.active active popped → TakesBack d trx (count - 1) (record d { active = active })
taken_back d trx count table key active popped l pops =
    let commit : Commit = l.commit in
    let takes : TakesLast trx commit d.active active popped = subst (λ (o : Option Commit). MatchOption o ((popped ≡ None) × (active ≡ d.active)) (λ c. TakesLast trx c d.active active popped)) l.active pops in
    let changes = last_apart commit.changes (count - 1) (omega (arith, l.made, some_of commit.changes (count - 1) l.change l.last)) in
    let long : length changes.0 + 1 ≡ length commit.changes = sym (ap length changes.2 ∙ length_push changes.0 changes.1) in
    let front : front_of commit.changes ≡ changes.0 =
    ap (λ (cs : List Change). take (length commit.changes - 1) cs) changes.2 ∙ take_at changes.0 (changes.1 ∷ []) (length commit.changes - 1) (omega (arith, long)) in
    record {
      commit = commit;
      was_active = l.active;
      front = changes.0;
      last = changes.1;
      split = changes.2;
      count = omega (arith, l.made, long);
      is = ap (λ (a : Opened). record d { active = a }) (takes.is ∙ ap (λ (cs : List Change). finite.insert d.active trx (record commit { changes = cs })) front);
    }

module _ (d : Donor) (trx count table key : ℕ) (l : IsLast d trx count table key) where
  -- how many changes it has made
  pub last_small : IsLocked d → (1 ≤ count) × (count ≤ capacity) × (trx < TRANSACTION_LIMIT)
  last_small locked =
      let most = locked.few.few trx l.commit l.active in
      (omega (arith, l.made, some_of l.commit.changes (count - 1) l.change l.last), omega (arith, l.made, most), locked.few.numbers trx (ap is_some l.active))

  -- its last change is of a row that is locked, so of a table that is there
  pub last_table : IsSafe d → IsSome (finite.get d.tables table)
  last_table safe = subst (λ (t : ℕ). IsSome (finite.get d.tables t)) l.table_is (safe.rows l.change.table l.change.key trx (safe.locked.own trx l.commit (count - 1) l.change l.active l.last))

  -- what is read and written where it is taken back
  pub last_way : undo_last d trx (last_change d trx) ≡ reads (system_page (record_page trx (count - 1))) (λ page. reads (row_page (before_change d table key (entry_on (count - 1) page))) (λ row. writes (records_of_taking_back trx count (before_change d table key (entry_on (count - 1) page)))))
  last_way =
      let all : changes_of d trx ≡ l.commit.changes = changes_of_active d trx l.commit l.active in
      let n : length (changes_of d trx) ≡ count = ap length all ∙ sym l.made in
      let is : last_change d trx ≡ Some l.change = (λ i. slice_get (all i) (n i - 1)) ∙ l.last in
      ap (undo_last d trx) is
      ∙ (λ i. reads (system_page (record_page trx (n i - 1))) (λ page. reads (row_page (before_change d (l.table_is i) (l.key_is i) (entry_on (n i - 1) page))) (λ row. writes (records_of_taking_back trx (n i) (before_change d (l.table_is i) (l.key_is i) (entry_on (n i - 1) page))))))

  -- What stands on the page of its last undo record, where the image keeps what the donor is.
  module _ (image : Image) (kept : IsKept d image) (page : List ℕ) (there : page_of image 0 (record_page trx (count - 1)) ≡ Some page) where
    abbrev u : InUse d image trx l.commit
    u = in_use d image trx l.commit kept l.active

    abbrev slots : Slots
    slots = (contents_of image).slot

    abbrev whole : UndoSlot
    whole = record { writer = l.commit.writer; index = l.commit.index; records = u.own.records }

    long : length l.commit.changes ≡ count - 1 + 1
    long = omega (arith, l.made, some_of l.commit.changes (count - 1) l.change l.last)

    changes : (front : List Change) × (last : Change) × (l.commit.changes ≡ front ++ last ∷ [])
    changes = last_apart l.commit.changes (count - 1) long

    records : (front : List UndoEntry) × (last : UndoEntry) × (u.own.records ≡ front ++ last ∷ [])
    records = last_apart u.own.records (count - 1) (counted slots (committed_rows d) l.commit.changes u.own.records u.own.tells ∙ long)

    abbrev e : UndoEntry
    e = records.1

    tells : TellsChange slots (after_changes (committed_rows d) changes.0) changes.1 e
    tells = (tells_split slots (committed_rows d) l.commit.changes changes.0 u.own.records records.0 changes.1 e changes.2 records.2 u.own.tells).1

    last_is : changes.1 ≡ l.change
    last_is =
        let at : length changes.0 ≡ count - 1 = omega (arith, ap length changes.2, length_push changes.0 changes.1, long) in
        same_Some changes.1 l.change (sym (slice_get-pushed_last changes.0 changes.1 (count - 1) (sym at)) ∙ ap (λ (cs : List Change). slice_get cs (count - 1)) (sym changes.2) ∙ l.last)

    used : undo_slot_of image trx ≡ Some whole
    used = undo_there image trx whole u.small u.own.is

    read : e ≡ entry_on (count - 1) page
    read =
        let at : length records.0 ≡ count - 1 = omega (arith, ap length records.2, length_push records.0 e, counted slots (committed_rows d) l.commit.changes u.own.records u.own.tells, long) in
        subst (λ (n : ℕ). e ≡ entry_on n (system_pages image (record_page trx n))) at (undo.last_is trx (system_pages image) whole records.0 e used records.2)
        ∙ ap (λ (o : Option (List ℕ)). entry_on (count - 1) (unwrap_or o [])) there

    is_of : IsOf table key e
    is_of = record { table = tells.table ∙ ap (λ (c : Change). c.table) last_is ∙ l.table_is; key = tells.key ∙ ap (λ (c : Change). c.key) last_is ∙ l.key_is }

    -- so what is read there is the last record of the undo slot
    pub last_read : IsLastRecord image trx (before_change d table key (entry_on (count - 1) page))
    last_read =
        let same : before_change d table key (entry_on (count - 1) page) ≡ e = ap (before_change d table key) (sym read) ∙ before_same d table key e is_of tells.in_range in
        record { slot = whole; front = records.0; used = used; last = records.2 ∙ ap (λ (x : UndoEntry). records.0 ++ x ∷ []) (sym same) }

-- the page of the row that the last undo record tells of is there
pub last_there : (d : Donor) (image : Image) (trx count table key : ℕ) (e : UndoEntry) → IsLast d trx count table key → IsKept d image → IsLastRecord image trx e → IsSome (page_of image e.table e.page)
last_there d image trx count table key e l kept r =
    let u = in_use d image trx l.commit kept l.active in
    let whole : UndoSlot = record { writer = l.commit.writer; index = l.commit.index; records = u.own.records } in
    let same : whole ≡ r.slot = same_Some whole r.slot (sym (undo_there image trx whole u.small u.own.is) ∙ r.used) in
    let records : u.own.records ≡ r.front ++ e ∷ [] = ap (λ (s : UndoSlot). s.records) same ∙ r.last in
    let changes = last_apart l.commit.changes (count - 1) (omega (arith, l.made, some_of l.commit.changes (count - 1) l.change l.last)) in
    let tells = (tells_split (contents_of image).slot (committed_rows d) l.commit.changes changes.0 u.own.records r.front changes.1 e changes.2 records u.own.tells).1 in
    ap is_some (page_there image e.table e.page (bound_there d (contents_of image) e kept.sound.tables kept.sound.chains kept.sound.rows tells.bound)).1

-- The page of the row of a change that is taken back is there, and the pages are those of the donor
-- afterwards.
module _ (d after : Donor) (image : Image) (trx left : ℕ) (e : UndoEntry) (kept : IsKept d image) (t : TakesBack d trx left after) (r : IsLastRecord image trx e) where
  used_in : (contents_of image).undo trx ≡ Some r.slot
  used_in = undo_is image trx (kept.sound.locked.few.numbers trx (ap is_some t.was_active)) ∙ r.used

  pub row_there : IsSome (page_of image e.table e.page)
  row_there = ap is_some (page_there image e.table e.page (may_take d after (contents_of image) trx left r.slot r.front e kept.sound t used_in r.last).there).1

  pub taken_kept : (lsn : ℕ) → IsKept after (after_records lsn image (records_of_taking_back trx (left + 1) e))
  taken_kept lsn = take_back_keeps lsn trx left d after image r.slot r.front e kept t used_in r.last

pub there : {X : Type 0} (o : Option X) → IsSome o → (x : X) × (o ≡ Some x)
there None is = absurd (let e = is in cc)
there (Some x) is = (x, refl)

-- only an empty list has no last element
pub none_last : {X : Type 0} (xs : List X) → slice_get xs (length xs - 1) ≡ None → xs ≡ []
none_last [] none = refl
none_last (x ∷ xs) none =
    let last = last_apart (x ∷ xs) (length xs) (omega arith) in
    let long : length last.0 ≡ length xs = omega (arith, ap length last.2, length_push last.0 last.1) in
    let at : length (x ∷ xs) - 1 ≡ length xs = omega arith in
    let some : slice_get (x ∷ xs) (length (x ∷ xs) - 1) ≡ Some last.1 = ap (slice_get (x ∷ xs)) at ∙ ap (λ ys. slice_get ys (length xs)) last.2 ∙ slice_get-pushed_last last.0 last.1 (length xs) (sym long) in
    absurd (let e = sym none ∙ some in cc)
