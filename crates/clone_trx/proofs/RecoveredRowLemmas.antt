-- Recovery gives the rows of the history: it takes changes back, as a transaction does itself.
use Rattle.clone_image.specs.Recovered.{recovered}
use Rattle.clone_trx.proofs.Common.{◌≡◌, ◌<◌, ◌≤◌, ◌++◌, ℕ, zero, suc, List, [], ◌∷◌, length, refl, sym, ap, subst, ◌∙◌, arith, inl, inr, Option, Some, None, is_some, append-nil, append_assoc, option_map_or, cases_eq, AllByRecursion, header_page, page_there, Rows, after_change, after_changes, Change, Commit, present, row_slot, bound_key, UndoEntry, UndoSlot, Image, page_of, undo_slot_of, HasRows, Contents, contents_of, undone, with_undo, IsFormed, set_at-other, undo_is, Donor, changes_of, TakesBack, HoldsTables, HoldsChains, HoldsRows, IsUndoSlot, StandsFor, IsSound, TellsChange, TellsChanges, committed_rows, IsLocked, value_of, changes_by, SameOthers, after_changes-append, changes_of_active, own-set, others-set, value_is, taken_locked}
use Rattle.clone_image.specs.Recovered.{taken_back_below}
use Rattle.clone_law.specs.Alike.{IsThere, AreThere, CanTakeBack}
use Rattle.std.specs.FinMap as finite
use Rattle.clone_image.specs.Recovered as images
use Rattle.clone_contents.specs.Rows.{IsRowIn}
use Rattle.clone_contents.proofs.RecoveryLemmas.{undone_is, freed_is}
use Rattle.clone_contents.proofs.RowLemmas.{row_contained, row_in_image}
use Rattle.clone_trx.proofs.ChainLemmas.{same_chains}
use Rattle.clone_trx.proofs.RowSlotLemmas.{KeepsBound}
use Rattle.clone_trx.proofs.UndoRecordLemmas.{tells_on}
use Rattle.clone_trx.proofs.SoundChangeLemmas.{same_tables}
use Rattle.clone_trx.proofs.TakingBackLemmas.{bound_there, taken_rows}

abbrev changes_in : Option Commit → List Change
changes_in o = option_map_or (λ (c : Commit). c.changes) o []

-- the dictionary, the sizes of spaces and the next pages are as they were
pub record SameSpaces (before after : Contents) : Type 0 where
  pub dictionary : after.dictionary ≡ before.dictionary
  pub size : after.size ≡ before.size
  pub next : after.next ≡ before.next

after_same : (before after last : Contents) → last.dictionary ≡ after.dictionary → last.size ≡ after.size → last.next ≡ after.next → SameSpaces before after → SameSpaces before last
after_same before after last dictionary size next same = record { dictionary = dictionary ∙ same.dictionary; size = size ∙ same.size; next = next ∙ same.next }

-- what is sound but for the undo slots
record IsShown (d : Donor) (c : Contents) : Type 0 where
  locked : IsLocked d
  tables : HoldsTables d c
  chains : HoldsChains d c
  rows : HoldsRows d c.next c.slot

-- Changes of a transaction are taken back, all but the first ones.
record IsUndone (d : Donor) (trx : ℕ) (commit : Commit) (first : List Change) (image now : Image) : Type 0 where
  formed : IsFormed now
  donor : Donor
  active : finite.get donor.active trx ≡ Some (record commit { changes = first })
  others : SameOthers trx d donor
  locks : donor.locks ≡ d.locks
  history : committed_rows donor ≡ committed_rows d
  shown : IsShown donor (contents_of now)
  undo : (contents_of now).undo ≡ (contents_of image).undo
  keeps : KeepsBound (contents_of image).slot (contents_of now).slot
  spaces : SameSpaces (contents_of image) (contents_of now)

-- One change is taken back.
module _ (d : Donor) (trx : ℕ) (commit : Commit) (first : List Change) (x : Change) (image now : Image) (e : UndoEntry) (tells : TellsChange (contents_of image).slot (after_changes (committed_rows d) first) x e) (u : IsUndone d trx commit (first ++ x ∷ []) image now) where
  abbrev c : Contents
  c = contents_of now

  abbrev fewer : Commit
  fewer = record commit { changes = first }

  abbrev after : Donor
  after = record u.donor { active = finite.insert u.donor.active trx fewer }

  abbrev t : TakesBack u.donor trx (length first) after
  t = record { commit = record commit { changes = first ++ x ∷ [] }; was_active = u.active; front = first; last = x; split = refl; count = refl; is = refl }

  told : TellsChange c.slot (after_changes (committed_rows u.donor) first) x e
  told = record {
    in_range = tells.in_range;
    table = tells.table;
    key = tells.key;
    bound = u.keeps e.table e.page e.slot e.key tells.bound;
    before = tells.before ∙ ap (λ r. finite.get (after_changes r first) (x.table, x.key)) (sym u.history);
  }

  rows : HoldsRows after c.next (undone e c).slot × KeepsBound c.slot (undone e c).slot
  rows = taken_rows u.donor after c trx (length first) e u.shown.locked u.shown.rows t told

  edit : IsFormed (images.undone now e) × (contents_of (images.undone now e) ≡ undone e c)
  edit = undone_is now e u.formed record { in_range = tells.in_range; there = bound_there u.donor c e u.shown.tables u.shown.chains u.shown.rows told.bound; bound = told.bound }

  undone_one : IsUndone d trx commit first image (images.undone now e)
  undone_one = record {
    formed = edit.0;
    donor = after;
    active = own-set u.donor after trx fewer refl;
    others = λ n other. others-set u.donor after trx fewer refl n other ∙ u.others n other;
    locks = u.locks;
    history = u.history;
    shown = subst (IsShown after) (sym edit.1) (record { locked = taken_locked u.shown.locked t; tables = same_tables u.donor after c (undone e c) refl refl refl u.shown.tables; chains = same_chains u.donor after c (undone e c) refl refl refl u.shown.chains; rows = rows.0 });
    undo = ap (λ (a : Contents). a.undo) edit.1 ∙ u.undo;
    keeps = subst (λ (a : Contents). KeepsBound (contents_of image).slot a.slot) (sym edit.1) (λ table page slot_number key was. rows.1 table page slot_number key (u.keeps table page slot_number key was));
    spaces = subst (SameSpaces (contents_of image)) (sym edit.1) (after_same (contents_of image) c (undone e c) refl refl refl u.spaces);
  }

undone_all : (d : Donor) (trx : ℕ) (commit : Commit) (first cs : List Change) (es : List UndoEntry) (image : Image) → IsFormed image → IsShown d (contents_of image) → finite.get d.active trx ≡ Some commit → commit.changes ≡ first ++ cs
    → TellsChanges (contents_of image).slot (after_changes (committed_rows d) first) cs es → IsUndone d trx commit first image (images.all_undone image es)
undone_all d trx commit first [] [] image formed shown active split tells = record {
  formed = formed;
  donor = d;
  active = active ∙ (λ i. Some (record commit { changes = (split ∙ append-nil first) i }));
  others = λ n other. refl;
  locks = refl;
  history = refl;
  shown = shown;
  undo = refl;
  keeps = λ table page slot_number key was. was;
  spaces = record { dictionary = refl; size = refl; next = refl };
}
undone_all d trx commit first [] (e ∷ es) image formed shown active split tells = absurd tells
undone_all d trx commit first (x ∷ cs) [] image formed shown active split tells = absurd tells
undone_all d trx commit first (x ∷ cs) (e ∷ es) image formed shown active split tells =
    undone_one d trx commit first x image (images.all_undone image es) e tells.0
    (undone_all d trx commit (first ++ x ∷ []) cs es image formed shown active (split ∙ sym (append_assoc first (x ∷ []) cs))
    (subst (λ (r : Rows). TellsChanges (contents_of image).slot r cs es) (sym (after_changes-append (committed_rows d) first (x ∷ []))) tells.1))

-- The transactions below a number are taken back, and the undo slots from it on are as they were.
record IsTakenBack (d : Donor) (first : Image) (n : ℕ) (now : Image) : Type 0 where
  formed : IsFormed now
  donor : Donor
  below : (s : ℕ) → s < n → changes_of donor s ≡ []
  above : (s : ℕ) → n ≤ s → finite.get donor.active s ≡ finite.get d.active s
  history : committed_rows donor ≡ committed_rows d
  shown : IsShown donor (contents_of now)
  undo : (s : ℕ) → n ≤ s → (contents_of now).undo s ≡ (contents_of first).undo s
  keeps : KeepsBound (contents_of first).slot (contents_of now).slot
  spaces : SameSpaces (contents_of first) (contents_of now)

-- the number of no open transaction
taken_none : (d : Donor) (first : Image) (n : ℕ) (now : Image) → finite.get d.active n ≡ None → IsTakenBack d first n now → IsTakenBack d first (suc n) now
taken_none d first n now none is = record {
  formed = is.formed;
  donor = is.donor;
  below = λ s low. elim (cases_eq s n) [
    | inl same ↦ ap (changes_of is.donor) same ∙ ap (λ (o : Option Commit). changes_in o) (is.above n (omega arith) ∙ none)
    | inr other ↦ is.below s (omega (arith, other, low))
  ];
  above = λ s high. is.above s (omega (arith, high));
  history = is.history;
  shown = is.shown;
  undo = λ s high. is.undo s (omega (arith, high));
  keeps = is.keeps;
  spaces = is.spaces;
}

-- an open transaction
module _ (d : Donor) (first : Image) (n : ℕ) (now : Image) (commit : Commit) (small : n < 64) (active : finite.get d.active n ≡ Some commit) (own : IsUndoSlot d (contents_of first).slot commit ((contents_of first).undo n)) (is : IsTakenBack d first n now) where
  u : IsUndone is.donor n commit [] now (images.all_undone now own.records)
  u =
      undone_all is.donor n commit [] commit.changes own.records now is.formed is.shown (is.above n (omega arith) ∙ active) refl
      (subst (λ r. TellsChanges (contents_of now).slot r commit.changes own.records) (sym is.history) (tells_on (contents_of first).slot (contents_of now).slot (committed_rows d) commit.changes own.records is.keeps own.tells))

  abbrev slot : UndoSlot
  slot = record { writer = commit.writer; index = commit.index; records = own.records }

  abbrev undone_now : Image
  undone_now = images.all_undone now own.records

  freeing : IsFormed (images.freed undone_now n) × (contents_of (images.freed undone_now n) ≡ with_undo n None (contents_of undone_now))
  freeing = freed_is undone_now n slot u.formed small (ap (λ f. f n) u.undo ∙ is.undo n (omega arith) ∙ own.is)

  taken_one : IsTakenBack d first (suc n) (images.freed undone_now n)
  taken_one = record {
    formed = freeing.0;
    donor = u.donor;
    below = λ s low. elim (cases_eq s n) [
      | inl same ↦ ap (changes_of u.donor) same ∙ changes_of_active u.donor n (record commit { changes = [] }) u.active
      | inr other ↦ ap (λ (o : Option Commit). changes_in o) (u.others s other) ∙ is.below s (omega (arith, other, low))
    ];
    above = λ s high. u.others s (λ same. omega (arith, same, high)) ∙ is.above s (omega (arith, high));
    history = u.history ∙ is.history;
    shown = subst (IsShown u.donor) (sym freeing.1) (record { locked = u.shown.locked; tables = same_tables u.donor u.donor (contents_of undone_now) (with_undo n None (contents_of undone_now)) refl refl refl u.shown.tables; chains = same_chains u.donor u.donor (contents_of undone_now) (with_undo n None (contents_of undone_now)) refl refl refl u.shown.chains; rows = u.shown.rows });
    undo = λ s high. ap (λ (a : Contents). a.undo s) freeing.1 ∙ set_at-other n s None (contents_of undone_now).undo (λ same. omega (arith, same, high)) ∙ ap (λ f. f s) u.undo ∙ is.undo s (omega (arith, high));
    keeps = subst (λ (a : Contents). KeepsBound (contents_of first).slot a.slot) (sym freeing.1) (λ table page slot_number key was. u.keeps table page slot_number key (is.keeps table page slot_number key was));
    spaces = subst (SameSpaces (contents_of first)) (sym freeing.1) (after_same (contents_of first) (contents_of now) (with_undo n None (contents_of undone_now)) u.spaces.dictionary u.spaces.size u.spaces.next is.spaces);
  }

module _ (d : Donor) (first : Image) (formed : IsFormed first) (sound : IsSound d (contents_of first)) where
  next : (n : ℕ) (now : Image) → n < 64 → IsTakenBack d first n now → IsTakenBack d first (suc n) (images.taken_back now n (undo_slot_of now n))
  next n now small is = at (finite.get d.active n) refl (sound.undo n small)
    where
      by_slot : (o : Option UndoSlot) → (contents_of first).undo n ≡ o → IsTakenBack d first (suc n) (images.taken_back now n o) → IsTakenBack d first (suc n) (images.taken_back now n (undo_slot_of now n))
      by_slot o same taken = subst (λ (found : Option UndoSlot). IsTakenBack d first (suc n) (images.taken_back now n found)) (sym (sym (undo_is now n small) ∙ is.undo n (omega arith) ∙ same)) taken

      at : (o : Option Commit) → finite.get d.active n ≡ o → StandsFor d (contents_of first).slot o ((contents_of first).undo n) → IsTakenBack d first (suc n) (images.taken_back now n (undo_slot_of now n))
      at None none free = by_slot None free (taken_none d first n now none is)
      at (Some commit) some own = by_slot (Some (record { writer = commit.writer; index = commit.index; records = own.records })) own.is (taken_one d first n now commit small some own is)

  taken : (n : ℕ) → n ≤ 64 → IsTakenBack d first n (taken_back_below n first)
  unfolding taken_back_below
  taken zero le = record {
    formed = formed;
    donor = d;
    below = λ s low. absurd (omega (arith, low));
    above = λ s high. refl;
    history = refl;
    shown = record { locked = sound.locked; tables = sound.tables; chains = sound.chains; rows = sound.rows };
    undo = λ s high. refl;
    keeps = λ table page slot_number key was. was;
    spaces = record { dictionary = refl; size = refl; next = refl };
  }
  taken (suc n) le = next n (taken_back_below n first) (omega (arith, le)) (taken n (omega (arith, le)))

-- Once all are taken back, each row shows the history's value.
module _ (d : Donor) (first now : Image) (is : IsTakenBack d first 64 now) where
  none_left : (o : Option ℕ) → ((trx : ℕ) → o ≡ Some trx → trx < 64) → changes_by is.donor o ≡ []
  none_left None small = refl
  none_left (Some trx) small = is.below trx (small trx refl)

  value_is_old : (table key : ℕ) → value_of is.donor table key ≡ finite.get (committed_rows d) (table, key)
  value_is_old table key =
      value_is is.donor (committed_rows d) (finite.get is.donor.locks (table, key)) [] table key is.history refl
      (none_left (finite.get is.donor.locks (table, key)) (λ trx held. is.shown.locked.few.numbers trx (is.shown.locked.holders table key trx held)))

  abbrev left : Contents
  left = contents_of now

  same_value : (key k : ℕ) (o : Option (List ℕ)) (value : List ℕ) → present key value ≡ row_slot k o → o ≡ Some value
  same_value key k None value e = absurd cc
  same_value key k (Some v) value e = cc

  here : (table key : ℕ) (value : List ℕ) → IsRowIn left (table, key, value) → finite.get (committed_rows d) (table, key) ≡ Some value
  here table key value r = sym (value_is_old table key) ∙ same_value key key (value_of is.donor table key) value (sym r.held ∙ is.shown.rows.shown table r.page r.slot_number key (ap bound_key r.held))

  there : (table key : ℕ) (value : List ℕ) → finite.get (committed_rows d) (table, key) ≡ Some value → IsRowIn left (table, key, value)
  there table key value e =
      let shows : value_of is.donor table key ≡ Some value = value_is_old table key ∙ e in
      let at = is.shown.rows.found table key value shows in
      let own = is.shown.rows.own table at.0 at.1 key at.2 in
      let listed = is.shown.tables.listed table (ap is_some own.1) in
      record {
        used = (is.shown.tables.sizes table own.0 own.1).1;
        entry = listed.0;
        named = listed.1;
        page = at.0;
        slot_number = at.1;
        held = is.shown.rows.shown table at.0 at.1 key at.2 ∙ ap (row_slot key) shows;
      }

  rows_are : HasRows (page_of now) (committed_rows d)
  rows_are = record {
    here = λ table key value r. here table key value (row_contained now is.formed (table, key, value) r);
    there = λ table key value e. row_in_image now is.formed (table, key, value) (there table key value e);
  }

-- recovery from a sound engine's pages gives the rows of its history
pub recovered_rows : (d : Donor) (image : Image) → IsFormed image → IsSound d (contents_of image) → HasRows (page_of (recovered image)) (committed_rows d)
unfolding recovered
recovered_rows d image formed sound = rows_are d image (taken_back_below 64 image) (taken d image formed sound 64 (omega arith))

-- Recovery leaves the image formed, with the chains that it had.
pub recovered_spaces : (d : Donor) (image : Image) → IsFormed image → IsSound d (contents_of image) → IsFormed (recovered image) × SameSpaces (contents_of image) (contents_of (recovered image))
unfolding recovered
recovered_spaces d image formed sound = let is = taken d image formed sound 64 (omega arith) in (is.formed, is.spaces)

-- the rows that undo records tell of are there
rows_there : (d : Donor) (now : Image) (old : Rows) (cs : List Change) (es : List UndoEntry) → IsShown d (contents_of now) → TellsChanges (contents_of now).slot old cs es → AllByRecursion (λ e. IsThere now e.table e.page) es
rows_there d now old [] [] shown tells = tt
rows_there d now old [] (e ∷ es) shown tells = absurd tells
rows_there d now old (c ∷ cs) [] shown tells = absurd tells
rows_there d now old (c ∷ cs) (e ∷ es) shown tells =
    (page_there now e.table e.page (bound_there d (contents_of now) e shown.tables shown.chains shown.rows tells.0.bound), rows_there d now (after_change old c) cs es shown tells.1)

-- taking back names only pages that are there
pub can_take_back : (d : Donor) (image : Image) → IsFormed image → IsSound d (contents_of image) → CanTakeBack image
can_take_back d image formed sound = λ s low. at s low (taken_back_below s image) (taken d image formed sound s (omega (arith, low))) (finite.get d.active s) (sound.undo s low)
  where
    at : (s : ℕ) → s < 64 → (now : Image) → IsTakenBack d image s now → (o : Option Commit) → StandsFor d (contents_of image).slot o ((contents_of image).undo s) → AreThere now s (undo_slot_of now s)
    at s low now is None free = subst (AreThere now s) (sym (sym (undo_is now s low) ∙ is.undo s (omega arith) ∙ free)) tt
    at s low now is (Some commit) own =
        subst (AreThere now s) (sym (sym (undo_is now s low) ∙ is.undo s (omega arith) ∙ own.is))
        (page_there now 0 (header_page s) (257, is.formed.size, omega (arith, low)), rows_there is.donor now (committed_rows d) commit.changes own.records is.shown (tells_on (contents_of image).slot (contents_of now).slot (committed_rows d) commit.changes own.records is.keeps own.tells))
