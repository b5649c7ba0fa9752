-- What a call of transactions writes, by its way: a few mini-transactions of it stand behind the old
-- log.
use Rattle.std.proofs.Common.{[], ◌≡◌, ◌≤◌, ◌+◌, ◌-◌, ◌++◌, inl, inr, ℕ, List, ◌∷◌, refl, sym, ap, subst, ◌∙◌, arith, append_assoc, Option, Result, Ok, Err, ◌<◌, ◌==◌, if◌then◌else◌, Bool, true, false, length, slice_get, nat_le, None, Some, IsSome, is_some, unwrap_or, eqb-true, ◌≢◌, ◌⊎◌, replicate, IsTrue, option_map, option_and_then}
use Rattle.std.proofs.lemmas.List.{append-nil, length-append}
use Rattle.std.specs.List.{AllByRecursion}
use Rattle.clone_mtr.specs.declared.record.Record.{Record}
use Rattle.clone_mtr.specs.Spelling.{spelling}
use Rattle.clone_ring.specs.Window.{Window}
use Rattle.clone_buffer.specs.Buffered.{Buffered, image_of}
use Rattle.clone_buffer.specs.Dropping.{without_pages}
use Rattle.clone_buffer.specs.Writing.{written}
use Rattle.clone_recover.specs.Reading.{IsOfTable, AreOfTables}
use Rattle.clone_plain.specs.declared.refusal.EngineRefusal.{EngineRefusal}
use Rattle.clone_plain.specs.declared.refusal.EngineRefusal.TheVariants.{Because, NoMemory}
use Rattle.clone_engine.specs.Growth.{GrowsBy, KeepsRing, PagesStay}
use Rattle.clone_trx.proofs.SpotLemmas.{all_stays}
use Rattle.clone_trx.specs.Ways.{Way, reads, walks, stops, writes, freshens, lengthens, makes, drops, ends, Goes, Writes, Drops, WritesWithout, held, page_in, Answers}
use Rattle.std.proofs.lemmas.Bool.{and_parts, cases_eq}
use Rattle.std.specs.Option.{option_map_or}
use Rattle.std.specs.FinMap as finite
use Rattle.clone_model.proofs.Cuts.{recursion-append}
use Rattle.clone_model.specs.declared.change.Change.{Change}
use Rattle.clone_model.specs.declared.change.Commit.{Commit}
use Rattle.clone_model.specs.declared.line.TheConstants.{MOST_PAGES}
use Rattle.clone_row.specs.Slots as rows
use Rattle.clone_page.specs.declared.kind.PageKind.{PageKind}
use Rattle.clone_page.specs.declared.kind.PageKind.TheVariants.{Undo, Bucket}
use Rattle.clone_undo.specs.Entries.{UndoEntry}
use Rattle.clone_undo.specs.Places.{header_page, record_page, header_offset}
use Rattle.clone_undo.specs.Slots.{header_bytes, entry_on}
use Rattle.clone_undo.specs.Changes.{made_first, records_of_change, entry_record, count_record, row_record, system_write}
use Rattle.clone_space.specs.Records.{records_of_growth, records_of_create}
use Rattle.clone_overlay.specs.Images.{redo_space}
use Rattle.clone_plain.specs.declared.refusal.Cause.TheVariants.{SpaceFull}
use Rattle.clone_plain.specs.Causes.{change_cause, least_unused, create_cause, begin_cause, get_cause, no_trx}
use Rattle.clone_plain.specs.Donor.{Donor, changes_of}
use Rattle.clone_trx.specs.Calls.{create_way, begin_way, change_way, change_at, slot_way, grown_way, number_of_entry, pages_told, get_way, undo_way, undo_last, commit_way, before_change, tells_of, last_change, is_new, number_of_free_entry}
use Rattle.clone_trx.specs.RowSlots.{told, page_number, held_value}
use Rattle.clone_trx.proofs.CauseLemmas.{may_change}
use Rattle.clone_trx.specs.Kept.{IsSafe}
use Rattle.clone_page.specs.Header.{zero_page}
use Rattle.clone_mtr.specs.declared.record.Record.TheVariants.{Init, Write, Extend, Create, Drop}
use Rattle.clone_image.specs.Image.{Image, page_of, page_count, with_pages, extended, after_record, after_records}
use Rattle.clone_image.specs.Replay.{replayed}
use Rattle.clone_image.proofs.Images.{page_of-elsewhere}
use Rattle.clone_image.proofs.Pages.{records_pages}
use Rattle.clone_buffer.proofs.ImageLemmas.{longer, longer_new, longer_same, new_or_not, New}
use Rattle.clone_buffer.proofs.WrittenLemmas.{replayed-push}
use Rattle.clone_plain.specs.declared.refusal.Cause.{Cause}
use Rattle.clone_plain.specs.Effects.{created, Begins, Changes, Undoes, Commits}
use Rattle.clone_plain.specs.declared.refusal.Undone.{Undone}
use Rattle.clone_plain.specs.declared.refusal.Undone.TheVariants.{Left, Ended}

-- RECORDS

-- a record that takes no page away
abbrev pub KeepsPages : Record → Type 0
KeepsPages (Init space number kind) = Unit {0}
KeepsPages (Write space number patch) = Unit {0}
KeepsPages (Extend space count) = Unit {0}
KeepsPages (Create space count) = ⊥
KeepsPages (Drop space) = ⊥

-- A record of a change: of a table or of the system space, and it takes no page away.
abbrev pub IsChange : Record → Type 0
IsChange r = IsOfTable r × KeepsPages r

-- what follows for each of a list
each : {X : Type 0} (P Q : X → Type 0) → ((x : X) → P x → Q x) → (xs : List X) → AllByRecursion P xs → AllByRecursion Q xs
each P Q to [] all = tt
each P Q to (x ∷ xs) all = (to x all.0, each P Q to xs all.1)

mapped : {X Y : Type 0} (f : X → Y) (o : Option X) → IsSome o → IsSome (option_map f o)
mapped f None there = there
mapped f (Some x) there = refl

record_stays : (lsn : ℕ) (image : Image) (r : Record) (s n : ℕ) → KeepsPages r → IsSome (page_of image s n) → IsSome (page_of (after_record lsn image r) s n)
record_stays lsn image (Init space number kind) s n keeps there = subst IsSome (sym (records_pages lsn image (Init space number kind ∷ []) s n (tt, tt))) (mapped _ (page_of image s n) there)
record_stays lsn image (Write space number patch) s n keeps there = subst IsSome (sym (records_pages lsn image (Write space number patch ∷ []) s n (tt, tt))) (mapped _ (page_of image s n) there)
record_stays lsn image (Extend space count) s n keeps there = by (finite.get image space) refl
  where
    at : (c : ℕ) (size : page_count image space ≡ Some c) → New space c count s n ⊎ (New space c count s n → ⊥) → IsSome (page_of (longer image space count) s n)
    at c size (inl new) = subst (λ (x : ℕ). IsSome (page_of (longer image space count) x n)) (sym new.0) (subst IsSome (sym (longer_new image space c count size n new.1 new.2)) refl)
    at c size (inr old) = subst IsSome (sym (longer_same image space c count size s n old)) there

    by : (o : Option (List (List ℕ))) → finite.get image space ≡ o → IsSome (page_of (longer image space count) s n)
    by None none = subst (λ (o : Option (List (List ℕ))). IsSome (page_of (with_pages image space (option_map (extended count) o)) s n)) (sym none) there
    by (Some pages) some = at (length pages) (ap (option_map (λ (ps : List (List ℕ)). length ps)) some) (new_or_not space (length pages) count s n)
record_stays lsn image (Create space count) s n keeps there = absurd keeps
record_stays lsn image (Drop space) s n keeps there = absurd keeps

pub records_stay : (lsn : ℕ) (image : Image) (rs : List Record) (s n : ℕ) → AllByRecursion KeepsPages rs → IsSome (page_of image s n) → IsSome (page_of (after_records lsn image rs) s n)
records_stay lsn image [] s n keeps there = there
records_stay lsn image (r ∷ rs) s n keeps there = records_stay lsn (after_record lsn image r) rs s n keeps.1 (record_stays lsn image r s n keeps.0 there)

-- the pages that a log makes are there after another one too
abbrev pub Stay : List (List Record) → List (List Record) → Type 0
Stay old new = (space number : ℕ) → IsSome (page_of (replayed old) space number) → IsSome (page_of (replayed new) space number)

same_stay : (old new : List (List Record)) → new ≡ old → Stay old new
same_stay old new same = λ s n. subst (λ (l : List (List Record)). IsSome (page_of (replayed l) s n)) (sym same)

pushed_stay : (log new : List (List Record)) (records : List Record) → AllByRecursion KeepsPages records → new ≡ log ++ records ∷ [] → Stay log new
pushed_stay log new records keeps is = λ s n there.
    subst (λ (l : List (List Record)). IsSome (page_of (replayed l) s n)) (sym is) (subst (λ (i : Image). IsSome (page_of i s n)) (sym (replayed-push log records _ refl)) (records_stay _ (replayed log) records s n keeps there))

abbrev log_of : Buffered → List (List Record)
log_of b = b.log

-- THE LOG THAT A WAY LEAVES

-- Whatever is read, the way writes so many mini-transactions at most, of such records.
abbrev pub WritesOf : (Record → Type 0) → ℕ → Way → Type 0
WritesOf P most (reads page rest) = (bytes : List ℕ) → WritesOf P most (rest bytes)
WritesOf P most (walks course rest) = (page : ℕ) (slot : Option ℕ) (bytes : List ℕ) → WritesOf P most (rest page slot bytes)
WritesOf P most (stops cause) = Unit {0}
WritesOf P most (writes records) = AllByRecursion P records × (1 ≤ most)
WritesOf P most (freshens page rest) = WritesOf P most rest
WritesOf P most (lengthens records rest) = AllByRecursion P records × (1 ≤ most) × WritesOf P (most - 1) rest
WritesOf P most (makes records) = AllByRecursion P records × (1 ≤ most)
WritesOf P most (drops table pages records) = AllByRecursion P records × (1 ≤ most)
WritesOf P most ends = Unit {0}

-- what becomes of a log and its ring
pub record Grows (P : Record → Type 0) (most : ℕ) (old new : Buffered) : Type 0 where
  pub log : GrowsBy most old.log new.log
  pub all : AllByRecursion (λ records. AllByRecursion P records) log.more
  pub floor : new.ring.floor ≡ old.ring.floor
  pub ring : KeepsRing old.ring new.ring

-- the log stays
pub log_same : (most : ℕ) (old new : List (List Record)) → new ≡ old → GrowsBy most old new
log_same most old new is = record { more = []; is = is ∙ sym (append-nil old); few = omega arith }

module _ (P : Record → Type 0) where
  -- nothing was written
  pub unwritten : (most : ℕ) (old new : Buffered) → new.log ≡ old.log → new.ring ≡ old.ring → Grows P most old new
  unwritten most old new log ring = record {
    log = record { more = []; is = log ∙ sym (append-nil old.log); few = omega arith };
    all = tt;
    floor = ap (λ (w : Window). w.floor) ring;
    ring = subst (KeepsRing old.ring) (sym ring) (record { floor = refl; size = refl; end = omega arith });
  }

  same_grows : (most : ℕ) (old new : Buffered) → new ≡ old → Grows P most old new
  same_grows most old new is = unwritten most old new (ap log_of is) (ap (λ (b : Buffered). b.ring) is)

  -- around what leaves log and ring
  around : (most : ℕ) (old next last new : Buffered) → next.log ≡ old.log → next.ring ≡ old.ring → new.log ≡ last.log → new.ring ≡ last.ring → Grows P most next last → Grows P most old new
  around most old next last new log ring log_after ring_after g = record {
    log = record { more = g.log.more; is = log_after ∙ g.log.is ∙ ap (λ (l : List (List Record)). l ++ g.log.more) log; few = g.log.few };
    all = g.all;
    floor = ap (λ (w : Window). w.floor) ring_after ∙ g.floor ∙ ap (λ (w : Window). w.floor) ring;
    ring = subst (λ (p : Window × Window). KeepsRing p.0 p.1) (λ i. (ring i, sym ring_after i)) g.ring;
  }

  -- one behind the other
  and_then : (one two most : ℕ) (a b c : Buffered) → one + two ≤ most → Grows P one a b → Grows P two b c → Grows P most a c
  and_then one two most a b c fits first second = record {
    log = record {
      more = first.log.more ++ second.log.more;
      is = second.log.is ∙ ap (λ (l : List (List Record)). l ++ second.log.more) first.log.is ∙ append_assoc a.log first.log.more second.log.more;
      few = omega (arith, fits, first.log.few, second.log.few, length-append first.log.more second.log.more);
    };
    all = recursion-append (λ records. AllByRecursion P records) first.log.more second.log.more first.all second.all;
    floor = second.floor ∙ first.floor;
    ring = record { floor = second.ring.floor ∙ first.ring.floor; size = second.ring.size ∙ first.ring.size; end = omega (arith, first.ring.end, second.ring.end) };
  }

  -- a mini-transaction was written
  one_grows : (most : ℕ) (records : List Record) (old new : Buffered) → 1 ≤ most → AllByRecursion P records → new ≡ written records old → Grows P most old new
  one_grows most records old new some all is = record {
    log = record { more = records ∷ []; is = ap log_of is; few = some };
    all = (all, tt);
    floor = ap (λ (b : Buffered). b.ring.floor) is;
    ring = subst (KeepsRing old.ring) (sym (ap (λ (b : Buffered). b.ring) is)) (record { floor = refl; size = refl; end = omega (arith, length-append old.ring.bytes (spelling records)) });
  }

  written_grows : {X : Type 0} (most : ℕ) (records : List Record) (old new : Buffered) (result : Result X EngineRefusal) → AllByRecursion P records × (1 ≤ most) → Writes records old new result → Grows P most old new
  written_grows most records old new (Ok x) all w = one_grows most records old new all.1 all.0 w.1
  written_grows most records old new (Err (Because cause)) all w = same_grows most old new w.1
  written_grows most records old new (Err NoMemory) all w = same_grows most old new w.1

  -- without the pages of a space
  gone_grows : (most table pages : ℕ) (records : List Record) (old new : Buffered) → AllByRecursion P records × (1 ≤ most) → WritesWithout table pages records old new → Grows P most old new
  gone_grows most table pages records old new all w =
      let left : Buffered = without_pages table pages old in
      around most old left new new refl refl refl refl (one_grows most records left new all.1 all.0 w.1)

  dropped_grows : {X : Type 0} (most table pages : ℕ) (records : List Record) (old new : Buffered) (result : Result X EngineRefusal) → AllByRecursion P records × (1 ≤ most) → Drops table pages records old new result → Grows P most old new
  dropped_grows most table pages records old new (Ok x) all w = gone_grows most table pages records old new all w
  dropped_grows most table pages records old new (Err (Because cause)) all (inl full) = same_grows most old new full.1
  dropped_grows most table pages records old new (Err (Because cause)) all (inr failed) = gone_grows most table pages records old new all failed.1
  dropped_grows most table pages records old new (Err NoMemory) all none = same_grows most old new none.1

  -- the way is gone
  pub goes_grows : {X : Type 0} (most : ℕ) (w : Way) (old new : Buffered) (result : Result X EngineRefusal) → WritesOf P most w → Goes w old new result → Grows P most old new
  goes_grows most (reads page rest) old new result all (inl miss) = unwritten most old new (ap log_of miss.2.same) (ap (λ (b : Buffered). b.ring) miss.2.same)
  goes_grows most (reads page rest) old new result all (inr on) =
      let at : ℕ = on.0 in
      let next : Buffered = on.1 in
      let last : Buffered = on.2 in
      around most old (held at next) last new on.3.log on.3.ring (ap log_of on.5) (ap (λ (b : Buffered). b.ring) on.5)
      (goes_grows most (rest (page_in at next)) (held at next) last result (all (page_in at next)) on.4)
  goes_grows most (walks course rest) old new result all (inl miss) = let left = all_stays course old new (Err (Because miss.0)) miss.2 in unwritten most old new left.log left.ring
  goes_grows most (walks course rest) old new result all (inr on) =
      let spot = on.0 in
      let next : Buffered = on.1 in
      let last : Buffered = on.2 in
      let left = all_stays course old next (Ok spot) on.3 in
      around most old next last new left.log left.ring (ap log_of on.5) (ap (λ (b : Buffered). b.ring) on.5)
      (goes_grows most (rest spot.page spot.slot (page_in spot.at next)) next last result (all spot.page spot.slot (page_in spot.at next)) on.4)
  goes_grows most (stops cause) old new result all stopped = same_grows most old new stopped.1
  goes_grows most (writes records) old new result all w = written_grows most records old new result all w
  goes_grows most (freshens page rest) old new result all (inl none) = same_grows most old new none.3
  goes_grows most (freshens page rest) old new result all (inr on) =
      around most old on.1 on.2 new (ap log_of on.3.same) (ap (λ (b : Buffered). b.ring) on.3.same) (ap log_of on.5) (ap (λ (b : Buffered). b.ring) on.5)
      (goes_grows most rest on.1 on.2 result all on.4)
  goes_grows most (lengthens records rest) old new result all (inl full) = same_grows most old new full.3
  goes_grows most (lengthens records rest) old new result all (inr on) =
      let longer : Buffered = written records old in
      and_then 1 (most - 1) most old longer new (omega (arith, all.1)) (one_grows 1 records old longer (omega arith) all.0 refl) (goes_grows (most - 1) rest longer new result all.2 on.1)
  goes_grows most (makes records) old new result all (inl w) = written_grows most records old new result all w
  goes_grows most (makes records) old new result all (inr failed) = same_grows most old new failed.2
  goes_grows most (drops table pages records) old new result all d = dropped_grows most table pages records old new result all d
  goes_grows most ends old new result all ended = same_grows most old new ended.1

  -- by the answer
  pub answers_grow : {X : Type 0} (most : ℕ) (cause : Option Cause) (w : Way) (d e : Donor) (old new : Buffered) (result : Result X EngineRefusal) (Does : X → Type 0) → (cause ≡ None → WritesOf P most w) → Answers cause w d e old new result Does → Grows P most old new
  answers_grow most (Some cause) w d e old new result Does all a = same_grows most old new a.2
  answers_grow most None w d e old new result Does all a = goes_grows most w old new result (all refl) a.0

  -- its records are of tables still
  pub of_tables : (most : ℕ) (old new : Buffered) → ((r : Record) → P r → IsOfTable r) → Grows P most old new → AreOfTables old.log → AreOfTables new.log
  of_tables most old new to g all =
      subst AreOfTables (sym g.log.is) (recursion-append (λ records. AllByRecursion IsOfTable records) old.log g.log.more all (each (λ records. AllByRecursion P records) (λ records. AllByRecursion IsOfTable records) (each P IsOfTable to) g.log.more g.all))

  -- NO PAGE GOES where no record takes one away.
  stay_over : (to : (r : Record) → P r → KeepsPages r) (log more : List (List Record)) → AllByRecursion (λ records. AllByRecursion P records) more → Stay log (log ++ more)
  stay_over to log [] all = same_stay log (log ++ []) (append-nil log)
  stay_over to log (rs ∷ more) all = λ s n there.
      same_stay ((log ++ rs ∷ []) ++ more) (log ++ rs ∷ more) (sym (append_assoc log (rs ∷ []) more)) s n (stay_over to (log ++ rs ∷ []) more all.1 s n (pushed_stay log (log ++ rs ∷ []) rs (each P KeepsPages to rs all.0) refl s n there))

  pub pages_stay : (most : ℕ) (old new : Buffered) → ((r : Record) → P r → KeepsPages r) → Grows P most old new → PagesStay old new
  pages_stay most old new to g = λ right s n there. same_stay (old.log ++ g.log.more) new.log g.log.is s n (stay_over to old.log g.log.more g.all s n there)

stays_around : (old next last new : Buffered) → next.log ≡ old.log → new.log ≡ last.log → Stay next.log last.log → Stay old.log new.log
stays_around old next last new log log_after stay = λ s n there. same_stay last.log new.log log_after s n (stay s n (same_stay old.log next.log log s n there))

-- A space that isn't there is made.
made_stay : (log new : List (List Record)) (table count : ℕ) (rest : List Record) → finite.get (replayed log) table ≡ None → AllByRecursion KeepsPages rest → new ≡ log ++ (Create table count ∷ rest) ∷ [] → Stay log new
made_stay log new table count rest none keeps is = λ s n there.
    subst (λ (l : List (List Record)). IsSome (page_of (replayed l) s n)) (sym is)
    (subst (λ (i : Image). IsSome (page_of i s n)) (sym (replayed-push log (Create table count ∷ rest) _ refl)) (records_stay _ (finite.insert (replayed log) table (replicate count zero_page)) rest s n keeps (by s n there (cases_eq s table))))
  where
    by : (s n : ℕ) → IsSome (page_of (replayed log) s n) → (s ≡ table) ⊎ (s ≢ table) → IsSome (page_of (finite.insert (replayed log) table (replicate count zero_page)) s n)
    by s n there (inl same) = absurd (let e = subst IsSome (ap (λ (o : Option (List (List ℕ))). option_and_then (λ pages. slice_get pages n) o) (ap (finite.get (replayed log)) same ∙ none)) there in cc)
    by s n there (inr other) = subst IsSome (sym (page_of-elsewhere (replayed log) table count s n other)) there

pub create_stay : {X : Type 0} (cause : Option Cause) (d e : Donor) (old new : Buffered) (table buckets : ℕ) (result : Result X EngineRefusal) (Does : X → Type 0) → (IsTrue old.right → finite.get (image_of old) table ≡ None) → Answers cause (create_way table buckets) d e old new result Does → PagesStay old new
create_stay (Some cause) d e old new table buckets result Does none a = λ right. same_stay old.log new.log (ap log_of a.2)
create_stay {X = X} None d e old new table buckets result Does none a = λ right. goes right a.0
  where
    goes : IsTrue old.right → Goes (create_way table buckets) old new result → Stay old.log new.log
    goes right (inl miss) = same_stay old.log new.log (ap log_of miss.2.same)
    goes right (inr on) = stays_around old (held on.0 on.1) on.2 new on.3.log (ap log_of on.5) (wrote on.4)
      where
        gone : finite.get (replayed (held on.0 on.1).log) table ≡ None
        gone = subst (λ (l : List (List Record)). finite.get (replayed l) table ≡ None) (sym on.3.log) (none right)

        by : (r : Result X EngineRefusal) (last : Buffered) (entry_number : ℕ) → Writes (records_of_create entry_number table buckets) (held on.0 on.1) last r → Stay (held on.0 on.1).log last.log
        by (Ok x) last entry_number w = made_stay (held on.0 on.1).log last.log table buckets _ gone (tt, tt) (ap log_of w.1)
        by (Err (Because cause)) last entry_number w = same_stay (held on.0 on.1).log last.log (ap log_of w.1)
        by (Err NoMemory) last entry_number w = same_stay (held on.0 on.1).log last.log (ap log_of w.1)

        entry_number : ℕ
        entry_number = number_of_free_entry (page_in on.0 on.1)

        wrote : Goes (makes (records_of_create entry_number table buckets)) (held on.0 on.1) on.2 result → Stay (held on.0 on.1).log on.2.log
        wrote (inl w) = by result on.2 entry_number w
        wrote (inr failed) = same_stay (held on.0 on.1).log on.2.log (ap log_of failed.2)

-- THE RECORDS OF EACH WAY

first_tables : (unused : Bool) (space page : ℕ) (kind : PageKind) → space < redo_space → AllByRecursion IsChange (made_first unused space page kind)
first_tables true space page kind low = ((low, tt), tt)
first_tables false space page kind low = tt

abbrev AllOfTables : List Record → Type 0
AllOfTables records = AllByRecursion IsChange records

system : 0 < redo_space
system = omega arith

below : {table : ℕ} → table ≤ 1000000 → table < redo_space
below high = omega (arith, high)

change_tables : (unused row_unused : Bool) (s count : ℕ) (e : UndoEntry) (image : List ℕ) → e.table < redo_space → AllOfTables (records_of_change unused row_unused s count e image)
change_tables unused row_unused s count e image low =
    let row : AllOfTables (made_first row_unused e.table e.page Bucket ++ row_record e image ∷ []) = recursion-append IsChange (made_first row_unused e.table e.page Bucket) (row_record e image ∷ []) (first_tables row_unused e.table e.page Bucket low) ((low, tt), tt) in
    recursion-append IsChange (made_first unused 0 (record_page s count) Undo) (entry_record s count e ∷ count_record s (count + 1) ∷ (made_first row_unused e.table e.page Bucket ++ row_record e image ∷ []))
    (first_tables unused 0 (record_page s count) Undo system) ((system, tt), ((system, tt), row))

pub create_tables : (table buckets : ℕ) → table ≤ 1000000 → WritesOf IsOfTable 1 (create_way table buckets)
create_tables table buckets high page = ((below high, (system, tt)), omega arith)

pub begin_tables : (d : Donor) (writer index : ℕ) → WritesOf IsChange 1 (begin_way d writer index)
begin_tables d writer index page =
    let trx = unwrap_or (least_unused d.active) 0 in
    let last : AllOfTables (system_write (header_page trx) header_offset (header_bytes 0 writer index) ∷ []) = ((system, tt), tt) in
    (recursion-append IsChange (made_first (is_new page) 0 (header_page trx) Undo) (system_write (header_page trx) header_offset (header_bytes 0 writer index) ∷ []) (first_tables (is_new page) 0 (header_page trx) Undo system) last, omega arith)

slot_tables : (most : ℕ) (d : Donor) (trx : ℕ) (change : Change) (page slot_number : ℕ) (new : Bool) (value : Option (List ℕ)) → 1 ≤ most → change.table ≤ 1000000 → WritesOf IsChange most (slot_way d trx change page slot_number new value)
slot_tables most d trx change page slot_number new value some high = λ header undo.
    (change_tables (is_new undo) new trx (length (changes_of d trx)) (told change.table page change.key slot_number value) (rows.image change.key change.value) (below high), some)

-- a space that gets a page more
grown_tables : (d : Donor) (trx : ℕ) (change : Change) (last entry_number pages : ℕ) → change.table ≤ 1000000 → WritesOf IsChange 2 (grown_way d trx change last entry_number pages)
grown_tables d trx change last entry_number pages high = by (nat_le MOST_PAGES pages)
  where
    by : (b : Bool) → WritesOf IsChange 2 (if b then stops SpaceFull else lengthens (records_of_growth entry_number change.table pages last) (slot_way d trx change pages 0 false None))
    by true = tt
    by false = (((system, tt), ((below high, tt), ((below high, tt), ((below high, tt), tt)))), omega arith, slot_tables 1 d trx change pages 0 false None (omega arith) high)

change_at_tables : (d : Donor) (trx : ℕ) (change : Change) (number : ℕ) (slot : Option ℕ) (row : List ℕ) → change.table ≤ 1000000 → WritesOf IsChange 2 (change_at d trx change number slot row)
change_at_tables d trx change number None row high = λ page. let entry_number = number_of_entry change.table page in grown_tables d trx change number entry_number (pages_told page entry_number) high
change_at_tables d trx change number (Some slot_number) row high = slot_tables 2 d trx change number slot_number (is_new row) (held_value row slot_number) (omega arith) high

pub change_way_tables : (d : Donor) (trx : ℕ) (change : Change) → change.table ≤ 1000000 → WritesOf IsChange 2 (change_way d trx change)
change_way_tables d trx change high number slot row = change_at_tables d trx change number slot row high

pub get_tables : (d : Donor) (table key : ℕ) → WritesOf IsChange 0 (get_way d table key)
get_tables d table key number slot row = tt

-- an undo record that counts as one of a row names the row's table
before_table : (d : Donor) (table key : ℕ) (e : UndoEntry) → (before_change d table key e).table ≡ table
before_table d table key e = by (tells_of table key e) refl
  where
    by : (b : Bool) → tells_of table key e ≡ b → (if b then e else told table (page_number d table key) key 0 None).table ≡ table
    by true is = eqb-true e.table table (and_parts (e.table == table) _ is).0
    by false is = refl

undo_last_tables : (d : Donor) (trx : ℕ) (o : Option Change) → ((change : Change) → o ≡ Some change → change.table ≤ 1000000) → WritesOf IsChange 1 (undo_last d trx o)
undo_last_tables d trx None high = (((system, tt), tt), omega arith)
undo_last_tables d trx (Some change) high = λ page row.
    let low = below (high change refl) in
    let same = before_table d change.table change.key (entry_on (length (changes_of d trx) - 1) page) in
    (((subst (λ n. n < redo_space) (sym same) low, tt), ((system, tt), tt)), omega arith)

-- the table of a change that a transaction has made is there
changed_table : (d : Donor) (trx : ℕ) (change : Change) → IsSafe d → last_change d trx ≡ Some change → change.table ≤ 1000000
changed_table d trx change safe is = by (finite.get d.active trx) refl
  where
    at : (o : Option ℕ) → finite.get d.tables change.table ≡ o → IsSome (finite.get d.tables change.table) → change.table ≤ 1000000
    at None none there = absurd (let e = sym (ap is_some none) ∙ there in cc)
    at (Some count) some there = (safe.tables.ranges change.table count some).1

    by : (o : Option Commit) → finite.get d.active trx ≡ o → change.table ≤ 1000000
    by None none = absurd (let e = sym (ap (λ (o : Option Commit). slice_get (option_map_or (λ (c : Commit). c.changes) o []) (length (option_map_or (λ (c : Commit). c.changes) o []) - 1)) none) ∙ is in cc)
    by (Some commit) some =
        let last : slice_get commit.changes (length commit.changes - 1) ≡ Some change = sym (ap (λ (o : Option Commit). slice_get (option_map_or (λ (c : Commit). c.changes) o []) (length (option_map_or (λ (c : Commit). c.changes) o []) - 1)) some) ∙ is in
        at (finite.get d.tables change.table) refl (safe.rows change.table change.key trx (safe.locked.own trx commit (length commit.changes - 1) change some last))

pub undo_tables : (d : Donor) (trx : ℕ) → IsSafe d → WritesOf IsChange 1 (undo_way d trx)
undo_tables d trx safe header = undo_last_tables d trx (last_change d trx) (λ change is. changed_table d trx change safe is)

pub commit_tables : (d : Donor) (trx : ℕ) → WritesOf IsChange 1 (commit_way d trx)
commit_tables d trx header page = (((system, tt), ((system, tt), tt)), omega arith)

-- the table of a change against which there is no cause is there
pub may_change_table : (d : Donor) (trx table key long : ℕ) → IsSafe d → change_cause d trx table key long ≡ None → table ≤ 1000000
may_change_table d trx table key long safe none =
    let may = may_change d trx table key long safe.locked none in
    (safe.tables.ranges table may.buckets may.was_table).1

-- the tables, by the answer of a call that makes none
pub answers_tables : {X : Type 0} (cause : Option Cause) (w : Way) (d e : Donor) (old new : Buffered) (result : Result X EngineRefusal) (Does : X → Type 0) → ((x : X) → Does x → e.tables ≡ d.tables) → Answers cause w d e old new result Does → e.tables ≡ d.tables
answers_tables (Some cause) w d e old new result Does to a = ap (λ (x : Donor). x.tables) a.1
answers_tables None w d e old new (Ok x) Does to a = to x a.1
answers_tables None w d e old new (Err refusal) Does to a = ap (λ (x : Donor). x.tables) a.1

-- What each call of transactions leaves of the log and of the tables, by its answer.

-- the log has grown by records of changes, and the tables are those of before
pub record Leaves (most : ℕ) (d e : Donor) (old new : Buffered) : Type 0 where
  pub grows : Grows IsChange most old new
  pub tables : e.tables ≡ d.tables

module _ (d e : Donor) (old new : Buffered) where
  pub create_grows : {X : Type 0} (table buckets : ℕ) (result : Result X EngineRefusal) → table ≤ 1000000 → Answers (create_cause d table) (create_way table buckets) d e old new result (λ _. e ≡ created table buckets d) → Grows IsOfTable 1 old new
  create_grows table buckets result high a = answers_grow IsOfTable 1 (create_cause d table) (create_way table buckets) d e old new result (λ _. e ≡ created table buckets d) (λ _. create_tables table buckets high) a

  leaves : {X : Type 0} (most : ℕ) (cause : Option Cause) (w : Way) (result : Result X EngineRefusal) (Does : X → Type 0) → (cause ≡ None → WritesOf IsChange most w) → ((x : X) → Does x → e.tables ≡ d.tables) → Answers cause w d e old new result Does → Leaves most d e old new
  leaves most cause w result Does all tables a = record {
    grows = answers_grow IsChange most cause w d e old new result Does all a;
    tables = answers_tables cause w d e old new result Does tables a;
  }

  pub begin_leaves : (writer index : ℕ) (result : Result ℕ EngineRefusal) → Answers (begin_cause d) (begin_way d writer index) d e old new result (λ trx. Begins d writer index trx e) → Leaves 1 d e old new
  begin_leaves writer index result = leaves 1 (begin_cause d) (begin_way d writer index) result (λ trx. Begins d writer index trx e) (λ _. begin_tables d writer index) (λ trx does. ap (λ (x : Donor). x.tables) does.1)

  pub change_leaves : {X : Type 0} (trx long : ℕ) (change : Change) (result : Result X EngineRefusal) → IsSafe d → Answers (change_cause d trx change.table change.key long) (change_way d trx change) d e old new result (λ _. Changes d trx change e) → Leaves 2 d e old new
  change_leaves trx long change result safe = leaves 2 (change_cause d trx change.table change.key long) (change_way d trx change) result (λ _. Changes d trx change e)
      (λ none. change_way_tables d trx change (may_change_table d trx change.table change.key long safe none)) (λ _ does. ap (λ (x : Donor). x.tables) does.is)

  undone_tables : (trx : ℕ) (undone : Undone) → Undoes d trx undone e → e.tables ≡ d.tables
  undone_tables trx (Left left) does = ap (λ (x : Donor). x.tables) does.is
  undone_tables trx Ended does = ap (λ (x : Donor). x.tables) does.is

  pub undo_leaves : (trx : ℕ) (result : Result Undone EngineRefusal) → IsSafe d → Answers (no_trx d trx) (undo_way d trx) d e old new result (λ undone. Undoes d trx undone e) → Leaves 1 d e old new
  undo_leaves trx result safe = leaves 1 (no_trx d trx) (undo_way d trx) result (λ undone. Undoes d trx undone e) (λ _. undo_tables d trx safe) (undone_tables trx)

  pub commit_leaves : (trx : ℕ) (result : Result ℕ EngineRefusal) → Answers (no_trx d trx) (commit_way d trx) d e old new result (λ position. Commits d trx position e) → Leaves 1 d e old new
  commit_leaves trx result = leaves 1 (no_trx d trx) (commit_way d trx) result (λ position. Commits d trx position e) (λ _. commit_tables d trx) (λ position does. ap (λ (x : Donor). x.tables) does.is)

pub get_leaves : {X : Type 0} (d : Donor) (trx table key : ℕ) (old new : Buffered) (result : Result X EngineRefusal) (Does : X → Type 0) → Answers (get_cause d trx table key) (get_way d table key) d d old new result Does → Leaves 0 d d old new
get_leaves d trx table key old new result Does = leaves d d old new 0 (get_cause d trx table key) (get_way d table key) result Does (λ _. get_tables d table key) (λ x does. refl)
