-- The mini-transaction that makes a table.
use Rattle.std.specs.FinMap as finite
use Rattle.clone_model.specs.History.{Drops}
use Rattle.clone_trx.proofs.Common.{◌≡◌, ◌≢◌, ◌<◌, ◌≤◌, ℕ, List, length, refl, sym, ap, subst, ◌∙◌, arith, Option, Some, None, Result, nat_cmp, option_map, option_and_then, slice_get, IsTrue, is_some, ◌==◌, eqb-false, page_of-elsewhere, Content, PageName, frame_at, Buffered, IsBuffer, Shown, image_of, Creates, create_cause, TableExists, TooManyTables, EngineRefusal, records_of_create, nat_cmp_total, exact_unsigned, removed_again, Image, page_of, Cause, Commit, Donor, Locks, Opened, created, donor_of, TABLE_LIMIT, whether, IsKept, IsHeld, create_way, number_of_free_entry, system_page, HasNoFresh, makes, Makes, Goes, Holds, Answers, Carries, StaysCreating, StaysStanding, let_go, page_in, DiskImage, after_create, Ok, Err}
use Rattle.clone_trx.proofs.CauseLemmas.{both_none, is_not, not_equal, passed}
use Rattle.clone_trx.proofs.PlacedLemmas.{held_frame}
use Rattle.clone_trx.proofs.SystemPageLemmas.{system_there}
use Rattle.clone_trx.proofs.WayLemmas.{goes_on}
use Rattle.clone_trx.proofs.WriteLemmas.{is_none}

-- where there is no cause against it, there is no such table, and room for one
pub may_create : (d : Donor) (table : ℕ) → finite.len d.tables ≤ TABLE_LIMIT → create_cause d table ≡ None → (finite.get d.tables table ≡ None) × (finite.len d.tables < TABLE_LIMIT)
may_create d table most none =
    let parts = both_none (whether (finite.contains_key d.tables table) TableExists) (whether (finite.len d.tables == TABLE_LIMIT) TooManyTables) none in
    let other : finite.len d.tables ≢ TABLE_LIMIT = eqb-false (finite.len d.tables) TABLE_LIMIT (is_not _ _ parts.1) in
    (is_none (finite.get d.tables table) (is_not _ _ parts.0), omega (arith, most, other))

-- its space isn't there
pub no_space : (d : Donor) (image : Image) (table : ℕ) → IsKept d image → 1 ≤ table → finite.get d.tables table ≡ None → finite.get image table ≡ None
no_space d image table kept some none = by (finite.get image table) (kept.sound.tables.spaces table (λ zero. omega (arith, zero, some)) none)
  where
    by : (o : Option (List (List ℕ))) → option_map length o ≡ None → o ≡ None
    by None is = refl
    by (Some pages) is = absurd (let e = is in cc)

-- so no frame has a page of it
pub unheld : (image : Image) (table : ℕ) (name : PageName) (bytes : List ℕ) → finite.get image table ≡ None → page_of image name.space name.number ≡ Some bytes → name.space ≢ table
unheld image table name bytes none there same =
    absurd (let gone = sym (ap (λ (o : Option (List (List ℕ))). option_and_then (λ pages. slice_get pages name.number) o) (ap (finite.get image) same ∙ none)) ∙ there in cc)

-- the records make the space
pub creates : (d : Donor) (v : Buffered) (table buckets : ℕ) → IsBuffer v → IsKept d (image_of v) → 1 ≤ table → finite.get d.tables table ≡ None → IsHeld (system_page 0) v.pool.frames → HasNoFresh table v.pool.frames → IsTrue v.right
    → (entry_number : ℕ) → Creates v (records_of_create entry_number table buckets)
creates d v table buckets b kept some none held fresh right entry_number =
    let image : Image = image_of v in
    let absent = no_space d image table kept some none in
    record {
      absent = λ _. absent;
      edits = (tt, tt);
      there = λ _. (ap is_some (page_of-elsewhere image table buckets 0 0 (λ zero. omega (arith, zero, some))) ∙ system_there image 0 kept.formed (omega arith), tt);
      unheld = λ at name is. unheld image table name (frame_at v.pool.frames at).page absent (subst (λ (content : Content). Shown image content (frame_at v.pool.frames at).page) is (b.shows right at));
      framed = (held_frame v.pool.frames (system_page 0) held, tt);
      named = λ at name is same low. absurd (fresh at name is same);
    }

-- The table is taken away again where the disk fails.
pub donor_again : (tables inserted removed : finite.FinMap nat_cmp ℕ) (active : Opened) (locks : Locks) (binlog : List Commit) (drops : Drops) (d : Donor) (table buckets : ℕ) → donor_of tables active locks binlog drops ≡ d → finite.get d.tables table ≡ None
    → inserted ≡ finite.insert tables table buckets → removed ≡ finite.remove inserted table → donor_of removed active locks binlog drops ≡ d
donor_again tables inserted removed active locks binlog drops d table buckets is none put taken =
    let free : finite.get tables table ≡ None = ap (λ (e : Donor). finite.get e.tables table) is ∙ none in
    let same : removed ≡ tables = taken ∙ ap (λ m. finite.remove m table) put ∙ removed_again nat_cmp_total exact_unsigned tables table buckets free in
    ap (λ (m : finite.FinMap nat_cmp ℕ). donor_of m active locks binlog drops) same ∙ is

-- The way of the call.

pub no_cause : (d : Donor) (table : ℕ) → finite.get d.tables table ≡ None → finite.len d.tables ≢ TABLE_LIMIT → create_cause d table ≡ None
no_cause d table none other =
    passed (ap (λ (o : Option ℕ). whether (is_some o) TableExists) none) ∙ ap (λ b. whether b TooManyTables) (not_equal (finite.len d.tables) TABLE_LIMIT other)

pub create_goes : {X : Type 0} (d : Donor) (table buckets at : ℕ) (old mid last new : Buffered) (result : Result X EngineRefusal) → Holds (system_page 0) at old mid → Makes (records_of_create (number_of_free_entry (page_in at mid)) table buckets) mid last result → new ≡ let_go at last → Goes (create_way table buckets) old new result
create_goes d table buckets at old mid last new result holds made is = goes_on (system_page 0) (λ page. makes (records_of_create (number_of_free_entry page) table buckets)) at old mid last new result holds made is

pub create_answers : {X : Type 0} (d after : Donor) (table buckets : ℕ) (old new : Buffered) (result : Result X EngineRefusal) → create_cause d table ≡ None → Goes (create_way table buckets) old new result → Carries d after result (λ _. after ≡ created table buckets d)
    → Answers (create_cause d table) (create_way table buckets) d after old new result (λ _. after ≡ created table buckets d)
create_answers d after table buckets old new result none goes does =
    subst (λ (o : Option Cause). Answers o (create_way table buckets) d after old new result (λ _. after ≡ created table buckets d)) (sym none) (goes, does)

-- The system page is held before, and let go after.
pub stays_creating : {X : Type 0} (table buckets : ℕ) (result : Result X EngineRefusal) (old mid last new : Buffered) (before between after : Option DiskImage) → StaysStanding old mid before between → StaysCreating table buckets result mid last between after → StaysStanding last new after after
    → StaysCreating table buckets result old new before after
stays_creating table buckets (Ok x) old mid last new before between after holding creating letting = λ beside st. letting (record beside { copy = after_create table buckets beside.copy }) (creating beside (holding beside st))
stays_creating table buckets (Err refusal) old mid last new before between after holding creating letting = λ beside st. letting beside (creating beside (holding beside st))
