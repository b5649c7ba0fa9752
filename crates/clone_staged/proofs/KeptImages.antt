-- An image that keeps a donor is against the format nowhere.
use Rattle.std.proofs.Common.{◌≡◌, ◌<◌, ℕ, zero, suc, List, [], ◌∷◌, ◌++◌, length, refl, sym, ap, subst, ◌∙◌, arith, cond, Option, Some, None, IsSome, IsSomeAnd, is_some, inl, inr, Bool}
use Rattle.std.specs.Prelude.{option_map}
use Rattle.std.specs.FinMap as finite
use Rattle.std.specs.List.{AllByRecursion}
use Rattle.std.proofs.lemmas.Bool.{cases_lt}
use Rattle.std.proofs.lemmas.Option.{none-some, same_Some}
use Rattle.clone_model.specs.History.{Rows, after_change}
use Rattle.clone_model.specs.declared.change.Change.{Change}
use Rattle.clone_model.specs.declared.change.Commit.{Commit}
use Rattle.clone_page.specs.Dictionary.{Lists, entry_space}
use Rattle.clone_undo.specs.Entries.{UndoEntry, IsEntry}
use Rattle.clone_undo.specs.Places.{header_page, record_page}
use Rattle.clone_undo.specs.Slots.{UndoSlot, is_in_use, count_of, entries, entry_on}
use Rattle.clone_undo.proofs.Entries.{length-entries}
use Rattle.clone_undo.proofs.Headers.{slot_of}
use Rattle.clone_image.specs.Image.{Image, page_of, page_count}
use Rattle.clone_image.specs.Recovered.{system_pages, undo_slot_of}
use Rattle.clone_image.specs.Rows.{IsListed}
use Rattle.clone_image.proofs.Pages.{all_pages-is}
use Rattle.clone_contents.specs.Contents.{Contents, contents_of, named}
use Rattle.clone_contents.proofs.ChangeLemmas.{undo_is, page_there}
use Rattle.clone_contents.proofs.ImagePages.{there}
use Rattle.clone_contents.proofs.SystemLemmas.{named_on, named_past}
use Rattle.clone_plain.specs.Donor.{Donor}
use Rattle.clone_plain.specs.Locked.{committed_rows}
use Rattle.clone_recover.specs.Damage.{NamesMissing, CountsTooMany, IsSound, IsUnsound, IsBroken}
use Rattle.clone_recover.proofs.OverlayReadLemmas.{system_is}
use Rattle.clone_trx.specs.Sound.{Slots, IsBound, IsKept, StandsFor, TellsChanges}
use Rattle.clone_trx.proofs.KeptLemmas.{known_records}
use Rattle.clone_trx.proofs.TakingBackLemmas.{bound_there}

-- Undo records.

-- the record is in its ranges, and its slot is bound to its key
record IsTold (slot : Slots) (e : UndoEntry) : Type 0 where
  in_range : IsEntry e
  bound : IsBound slot e.table e.page e.slot e.key

each_told : (slot : Slots) (rows : Rows) (cs : List Change) (es : List UndoEntry) → TellsChanges slot rows cs es → AllByRecursion (IsTold slot) es
each_told slot rows [] [] tells = tt
each_told slot rows [] (e ∷ es) tells = absurd tells
each_told slot rows (c ∷ cs) [] tells = absurd tells
each_told slot rows (c ∷ cs) (e ∷ es) tells = (record { in_range = tells.0.in_range; bound = tells.0.bound }, each_told slot (after_change rows c) cs es tells.1)

module _ (P : UndoEntry → Type 0) where
  all_but_last : (es : List UndoEntry) (e : UndoEntry) → AllByRecursion P (es ++ e ∷ []) → AllByRecursion P es × P e
  all_but_last [] e all = (tt, all.0)
  all_but_last (x ∷ es) e all = let rest = all_but_last es e all.1 in ((all.0, rest.0), rest.1)

  -- what holds of all records of an undo slot holds of the one of a number
  of_number : (s : ℕ) (pages : ℕ → List ℕ) (n i : ℕ) → i < n → AllByRecursion P (entries s pages n) → P (entry_on i (pages (record_page s i)))
  of_number s pages zero i low all = absurd (omega (arith, low))
  of_number s pages (suc n) i low all =
      let both = all_but_last (entries s pages n) (entry_on n (pages (record_page s n))) all in
      elim (cases_lt i n) [
        | inl less ↦ of_number s pages n i less both.0
        | inr last ↦ let same : n ≡ i = omega (arith, low, last) in subst (λ (k : ℕ). P (entry_on k (pages (record_page s k)))) same both.1
      ]

module _ (d : Donor) (image : Image) (is : IsKept d image) where
  abbrev c : Contents
  c = contents_of image

  -- the dictionary names only spaces that are there
  pub none_missing : NamesMissing image → ⊥
  none_missing missing = let sized = (is.sound.tables.sizes (named c entry_number) count.0 count.1).0 in none-some sized.pages (sym gone ∙ sized.size)
    where
      entry_number : ℕ
      entry_number = missing.names.entry_number

      listed : named c entry_number ≡ entry_space entry_number missing.system
      listed = named_on image entry_number missing.names.within ∙ ap (entry_space entry_number) (all_pages-is image 0 0 missing.system missing.there)

      value : (o : Option ℕ) → IsSome o → (n : ℕ) × (o ≡ Some n)
      value None some = cc
      value (Some n) some = (n, refl)

      count : (n : ℕ) × (finite.get d.tables (named c entry_number) ≡ Some n)
      count = value (finite.get d.tables (named c entry_number)) (is.sound.tables.tables entry_number (λ z. missing.names.used (sym listed ∙ z)))

      gone : page_count image (named c entry_number) ≡ None
      gone = ap (page_count image) listed ∙ ap (option_map length) missing.names.missing

  -- no undo slot counts more records than fit
  counts_fit : (slot page : ℕ) → CountsTooMany image slot page → ⊥
  counts_fit slot page many =
      let header : system_pages image (header_page slot) ≡ many.bytes = system_is image page (header_page slot) many.bytes many.is many.there in
      let used : undo_slot_of image slot ≡ Some (slot_of slot (system_pages image)) = ap (λ (b : Bool). cond b (Some (slot_of slot (system_pages image))) None) (ap is_in_use header ∙ many.used) in
      let known = known_records d image slot (slot_of slot (system_pages image)) is many.within used in
      omega (arith, known.few, length-entries slot (system_pages image) (count_of (system_pages image (header_page slot))), ap count_of header, many.many)

  -- a table that is there is listed
  listed_there : (table count : ℕ) → finite.get d.tables table ≡ Some count → IsListed (page_of image) table
  listed_there table count some =
      let system = there image 0 0 257 is.formed.size (omega arith) in
      let ranges = is.sound.tables.sizes table count some in
      let entry = is.sound.tables.listed table (ap is_some some) in
      elim (cases_lt entry.0 62) [
        | inl low ↦ subst (λ (o : Option (List ℕ)). IsSomeAnd o (λ page. Lists page table)) (sym system.1) (record {
          entry_number = entry.0;
          within = low;
          used = omega (arith, ranges.1);
          named = ap (entry_space entry.0) (sym (all_pages-is image 0 0 system.0 system.1)) ∙ sym (named_on image entry.0 low) ∙ entry.1;
        })
        | inr high ↦ absurd (let none = sym entry.1 ∙ named_past image entry.0 high in omega (arith, none, ranges.1))
      ]

  -- a record that tells of a change is sound
  told_sound : (e : UndoEntry) → IsTold c.slot e → IsSound image e
  told_sound e told =
      let own = is.sound.rows.own e.table e.page e.slot e.key told.bound in
      let row = page_there image e.table e.page (bound_there d c e is.sound.tables is.sound.chains is.sound.rows told.bound) in
      record { ranges = told.in_range; listed = listed_there e.table own.0 own.1; row = row.0; there = row.1 }

  module _ (slot page : ℕ) (unsound : IsUnsound image slot page) where
    abbrev pages : ℕ → List ℕ
    pages = system_pages image

    abbrev count : ℕ
    count = count_of (pages (header_page slot))

    used : c.undo slot ≡ Some (slot_of slot pages)
    used = undo_is image slot unsound.within ∙ ap (λ (b : Bool). cond b (Some (slot_of slot pages)) None) unsound.used

    all_told : (o : Option Commit) → StandsFor d c.slot o (c.undo slot) → AllByRecursion (IsTold c.slot) (entries slot pages count)
    all_told None free = absurd (none-some (slot_of slot pages) (sym free ∙ used))
    all_told (Some commit) own =
        let same : ◌≡◌ {A = UndoSlot} (record { writer = commit.writer; index = commit.index; records = own.records }) (slot_of slot pages) = same_Some _ _ (sym own.is ∙ used) in
        subst (AllByRecursion (IsTold c.slot)) (ap (λ (u : UndoSlot). u.records) same) (each_told c.slot (committed_rows d) commit.changes own.records own.tells)

    never_unsound : ⊥
    never_unsound =
        let number : ℕ = unsound.below.number in
        let on : ℕ = record_page slot number in
        let found = there image 0 on 257 is.formed.size (omega (arith, unsound.within)) in
        let told = of_number (IsTold c.slot) slot pages count number unsound.below.counted (all_told (finite.get d.active slot) (is.sound.undo slot unsound.within)) in
        unsound.below.at.against found.0 (ap (page_of image 0) unsound.below.at.is ∙ found.1)
        (told_sound (entry_on number found.0) (subst (λ (p : List ℕ). IsTold c.slot (entry_on number p)) (system_is image on on found.0 refl found.1) told))

  -- no undo slot is against the format
  pub none_broken : (slot page : ℕ) → IsBroken image slot page → ⊥
  none_broken slot page (inl many) = counts_fit slot page many
  none_broken slot page (inr unsound) = never_unsound slot page unsound
