-- An engine is opened, and tables are dropped.
use Rattle.std.proofs.Common.{[], ◌≡◌, ◌≢◌, ◌==◌, ◌<◌, ◌⊎◌, inl, inr, ℕ, Bool, true, false, List, ◌∷◌, length, eq-eqb, eqb-true, refl, sym, ap, subst, ◌∙◌, arith, Option, None, Some, IsTrue, is_some, nat_le, option_map, if◌then◌else◌, ◌≤◌, IsSome, Result, Ok, Err, OnOk, OnErr, ◌+◌, ◌++◌, min, option_and_then, slice_get, IfOk, not, length-append}
use Rattle.std.specs.FinMap as finite
use Rattle.std.proofs.lemmas.Bool.{cases_eq, leb-true, true≢false}
use Rattle.std.proofs.lemmas.List.{length-map}
use Rattle.std.specs.Ordering.{nat_cmp}
use Rattle.clone_outside.specs.Disk.{DiskImage, ForTold, Steps, blank, space_numbers, with_created, IsBeforeOrAfter, with_removed}
use Rattle.clone_outside.specs.declared.disk.Held.{Held}
use Rattle.clone_model.specs.Keys.{row_cmp}
use Rattle.clone_image.specs.Replay.{first_lsn, replayed}
use Rattle.clone_contents.specs.Records.{opening_records, system_size}
use Rattle.clone_overlay.specs.Images.{redo_space}
use Rattle.clone_image.proofs.Images.{get-put_same, get-put_other}
use Rattle.clone_image.specs.Image.{page_count, page_of, Image}
use Rattle.clone_image.specs.Redone.{past_end}
use Rattle.clone_law.specs.Machine.{Copy, Idle, Untracked, NoFiles}
use Rattle.clone_law.specs.Rule.{CopyRule}
use Rattle.clone_buffer.specs.Buffered.{Buffered, IsBuffer, image_of}
use Rattle.clone_buffer.specs.Keeping.{IsKept, Stands}
use Rattle.clone_buffer.specs.OnePage.{Beside, at_rest, engine_of, no_copies, Copies, NoFilesOf, NoFlightsOf}
use Rattle.clone_flush.specs.Flights.{Files, Flights, HasFiles, StandsFlown, IsFlown, beside_of, beyond, ends_before, HasWriteOf, IsOnDisk, write_of}
use Rattle.clone_flush.specs.declared.flusher.PageWrite.{PageWrite}
use Rattle.clone_flush.proofs.FlightLemmas.{told_stepped}
use Rattle.clone_recover.specs.Reading.{AreOfTables, IsOfTable}
use Rattle.clone_plain.specs.Donor.{Donor, no_donor}
use Rattle.clone_trx.specs.Kept.{Keeps, IsSafe}
use Rattle.clone_trx.proofs.Common.{get-empty, same_Some, get-removed_other, get-removed_same, nat_cmp-IsAntisymmetric, nat_cmp_total, len-without}
use Rattle.clone_outside.specs.DiskCalls.{DiskState, Counts}
use Rattle.clone_engine.specs.Engine.{AreOfDonor, IsEngine, MakesPages, Engine, LiesIn, StandsBeside}
use Rattle.clone_engine.specs.Opened.{IsNotEmpty}
use Rattle.clone_engine.proofs.EngineLemmas.{past_rule, stands_with, is_there, spaced_page, engine, first_files, first_made, past_made, stays_flown, made_flown, right_told, still_engine, made_files, no_table, space_left, space_made}
use Rattle.clone_engine.proofs.ToldLemmas.{for_told, either_tells, told_both, told_either, told_if}
use Rattle.clone_archive.specs.Archived.{Archived, kept_from}
use Rattle.clone_contents.specs.Placed.{WasPlaced}
use Rattle.clone_contents.proofs.PlacedLemmas.{placed_first}
use Rattle.clone_flush.specs.Calls.{needed_from, with_file, without_file}
use Rattle.clone_session.specs.Cloning.{Cloning, Session, IsCloning, IsIdle, IsInSession}
use Rattle.clone_engine.specs.Donor as staged
use Rattle.clone_engine.specs.Donor.{IsDonor, list_of}
use Rattle.clone_engine.specs.Taken.{IsTaken, IsTakenBy, nothing, Taken}
use Rattle.clone_engine.proofs.MomentLemmas.{can_unarchived, grown}
use Rattle.clone_engine.proofs.SessionActs.{no_notes, none_is}
use Rattle.std.specs.Cmp.{nat_cmp_total}
use Rattle.std.proofs.lemmas.Map.Lookups.{exact_unsigned}
use Rattle.clone_base.proofs.OrderedMaps.{removed_again}
use Rattle.clone_buffer.proofs.LawLemmas.{copy_kept}
use Rattle.clone_model.specs.declared.line.TheConstants.{MOST_PAGES}
use Rattle.clone_plain.specs.Causes.{create_cause, drop_cause}
use Rattle.clone_plain.specs.Effects.{created, dropped}
use Rattle.clone_plain.specs.declared.refusal.Cause.{Cause}
use Rattle.clone_plain.specs.declared.refusal.Cause.TheVariants.{NoSuchTrx, NoSuchTable, TableExists, RowLocked, ValueTooLong, UndoFull, SpaceFull, LogFull, PoolFull, TooManyTransactions, TooManyTables, CloneRunning, TableInUse, NotDirty, InFlight, NoFlush, DiskFault}
use Rattle.clone_plain.specs.declared.refusal.EngineRefusal.{EngineRefusal}
use Rattle.clone_plain.specs.declared.refusal.EngineRefusal.TheVariants.{Because, NoMemory}
use Rattle.clone_contents.specs.Contents.{contents_of}
use Rattle.clone_trx.specs.Calls.{create_way, drop_way, number_of_entry, pages_told}
use Rattle.clone_trx.specs.Sound.{HasSize}
use Rattle.clone_trx.specs.Ways.{Way, Answers, CarriesDrop, Drops, Goes, StaysOutside, StaysStanding, held, page_in}
use Rattle.clone_trx.proofs.CreateLemmas.{no_space}
use Rattle.std.specs.Prelude.{IsErrOf}
use Rattle.clone_plain.specs.declared.call.EngineAnswer.{EngineAnswer}
use Rattle.clone_plain.specs.declared.call.EngineAnswer.TheVariants as answers
use Rattle.clone_plain.specs.declared.call.EngineCall.{EngineCall}
use Rattle.clone_plain.specs.declared.call.EngineCall.TheVariants as to_engine
use Rattle.clone_engine.specs.Growth.{Makes, PagesStay, GoesOn}
use Rattle.clone_engine.proofs.GoingLemmas.{transacts, goes_to, same_refusal, of_few, like_same, Stays, donor_goes, is_taken}
use Rattle.clone_engine.proofs.WayLemmas.{create_grows, create_stay, records_stay, Grows, WritesOf, goes_grows, of_tables}
use Rattle.clone_outside.specs.Disk as disk
use Rattle.clone_mtr.specs.declared.record.Record.{Record}
use Rattle.clone_space.specs.Records.{records_of_drop, free_record}
use Rattle.clone_pool.specs.declared.frame.PageName.{PageName}
use Rattle.clone_buffer.proofs.WrittenLemmas.{replayed-push}
use Rattle.clone_trx.proofs.CauseLemmas.{both_none, is_not}
use Rattle.clone_engine.specs.Steps as steps
use Rattle.clone_engine.specs.Copies.{AreIdle}
use Rattle.clone_engine.specs.Acts as act
use Rattle.clone_engine.specs.Serving.{AnswersCall, taken_by}

-- An engine is opened.

-- A donor over a disk that was empty.

-- Flights without a write, from the log's beginning on.
module _ (b : Buffered) (f : Flights) (writes : f.writes ≡ finite.empty) (checkpoint : f.checkpoint ≡ first_lsn) where
  no_write : (page : ℕ × ℕ) → finite.get f.writes page ≡ None
  no_write page = ap (λ (w : finite.FinMap row_cmp PageWrite). finite.get w page) writes ∙ get-empty row_cmp page

  same : at_rest ≡ beside_of f no_copies
  same = λ i. record {
    checkpoint = sym checkpoint i;
    image = λ space number. sym (ap (λ (o : Option PageWrite). option_map (λ (w : PageWrite). w.image) o) (no_write (space, number))) i;
    copy = no_copies;
  }

  pub first_flown : (told : Option DiskImage) → b.ring.floor ≡ first_lsn → Stands b at_rest told → StandsFlown b f no_copies told
  first_flown told floor = for_told (IsKept b at_rest) (IsFlown b f no_copies) told (λ m k. record {
    kept = subst (λ (beside : Beside). IsKept b beside m) same k;
    there = λ page w is. absurd (let e = sym (no_write (page.space, page.number)) ∙ is in cc);
    floor = omega (arith, floor, checkpoint);
  })

system : 0 < redo_space
system = omega arith

pub first_tables : AreOfTables (opening_records ∷ [])
first_tables = ((system, (system, tt)), tt)

-- A DONOR IS OPENED
module _ (d : Donor) (b : Buffered) (f : Flights) (before : Option DiskImage) (k : DiskState) (donor : d ≡ no_donor) (log : b.log ≡ opening_records ∷ []) (keeps : Keeps d b) (buffer : IsBuffer b) (floor : b.ring.floor ≡ first_lsn) (stood : Stands b at_rest k.told)
    (writes : f.writes ≡ finite.empty) (checkpoint : f.checkpoint ≡ first_lsn) (files : f.files ≡ finite.insert finite.empty 0 system_size) (made : Steps before k.told (λ m. with_created m 0 system_size)) where
  first_stands : StandsFlown b f no_copies k.told
  first_stands = first_flown b f writes checkpoint k.told floor stood

  abbrev first : Files
  first = finite.insert finite.empty 0 system_size

  -- the pages of the system space
  known : (space pages : ℕ) → finite.get f.files space ≡ Some pages → (space ≡ 0) × (pages ≡ system_size)
  known space pages is = by (cases_eq space 0)
    where
      there : finite.get first space ≡ Some pages
      there = sym (ap (λ (x : Files). finite.get x space) files) ∙ is

      by : (space ≡ 0) ⊎ (space ≢ 0) → (space ≡ 0) × (pages ≡ system_size)
      by (inl zero) = (zero, same_Some pages system_size (sym there ∙ ap (finite.get first) zero ∙ get-put_same finite.empty 0 system_size))
      by (inr other) = absurd (let e = sym there ∙ get-put_other finite.empty 0 space system_size other ∙ get-empty nat_cmp space in cc)

  system_sized : IsTrue b.right → page_count (image_of b) 0 ≡ Some system_size
  system_sized right = (keeps.kept right).formed.size

  within : ForTold k.told (λ _. MakesPages f.files b)
  within = for_told (IsFlown b f no_copies) (λ _. MakesPages f.files b) k.told (λ m first_stands space number inside.
      let own = known space inside.pages inside.file in
      is_there b space number system_size (ap (page_count (image_of b)) own.0 ∙ system_sized first_stands.kept.right) (omega (arith, inside.within, own.1))) first_stands

  opened_rule : (m : DiskImage) → IsFlown b f no_copies (with_created m 0 system_size) → (space number : ℕ) → CopyRule space number (engine_of b (beside_of f no_copies) (with_created m 0 system_size) space number) (beyond f.files space number)
  opened_rule m first_stands space number = by (cases_eq space 0)
    where
      R : ℕ → Copy → Type 0
      R s c = CopyRule s number (engine_of b (beside_of f no_copies) (with_created m 0 system_size) s number) c

      chosen : (s : ℕ) → Option ℕ → Type 0
      chosen s o = R s (if ends_before o number then Untracked (past_end ∷ []) else Idle)

      own : (fresh : Bool) → nat_le system_size number ≡ fresh → R 0 (if fresh then Untracked (past_end ∷ []) else Idle)
      own true past =
          let out = past_made m 0 system_size number (leb-true system_size number past) in
          past_rule b f no_copies (with_created m 0 system_size) first_stands 0 number out.0 out.1 (spaced_page b 0 number system_size buffer (system_sized first_stands.kept.right))
      own false past = tt

      by : (space ≡ 0) ⊎ (space ≢ 0) → R space (beyond f.files space number)
      by (inl zero) = subst (λ (s : ℕ). R s (beyond f.files s number)) (sym zero) (subst (chosen 0) (sym (ap (λ (x : Files). finite.get x 0) files ∙ get-put_same finite.empty 0 system_size)) (own (nat_le system_size number) refl))
      by (inr other) = subst (chosen space) (sym (ap (λ (x : Files). finite.get x space) files ∙ get-put_other finite.empty 0 space system_size other ∙ get-empty nat_cmp space)) tt

  short : StandsFlown b f (beyond f.files) k.told
  short = by before made first_stands
    where
      by : (fresh : Option DiskImage) → Steps fresh k.told (λ m. with_created m 0 system_size) → StandsFlown b f no_copies k.told → StandsFlown b f (beyond f.files) k.told
      by None step st = subst (StandsFlown b f (beyond f.files)) (sym step) tt
      by (Some m) step st =
          let k' = subst (StandsFlown b f no_copies) step st in
          subst (StandsFlown b f (beyond f.files)) (sym step) (stands_with b f no_copies (beyond f.files) (with_created m 0 system_size) k' (opened_rule m k'))

  pub opened_engine : IsEngine (engine d b f k)
  opened_engine = record {
    keeps = keeps;
    stands = first_stands;
    files = subst (λ (x : Files). ForTold k.told (HasFiles x)) (sym files) (told_stepped (λ m. ◌≡◌ m m) (HasFiles (finite.insert finite.empty 0 system_size)) before k.told (λ m. with_created m 0 system_size) made (λ m same. first_made m) (always before));
    spaces = subst (λ (p : Donor × Files). AreOfDonor p.0 p.1) (λ i. (sym donor i, sym files i)) first_files;
    within = within;
    short = short;
    tables = subst AreOfTables (sym log) first_tables;
  }
    where
      always : (told : Option DiskImage) → ForTold told (λ m. ◌≡◌ m m)
      always None = tt
      always (Some m) = refl

-- A disk is empty, or isn't.

count_spaces : (m : DiskImage) → length (space_numbers m) ≡ finite.len m.spaces
count_spaces m = length-map (finite.entries m.spaces) (λ (e : ℕ × List Held). e.0) ∙ sym (finite.len-entries m.spaces)

pub some_space : (told : Option DiskImage) (spaces : List ℕ) → (length spaces == 0) ≡ false → ForTold told (λ m. spaces ≡ space_numbers m) → ForTold told IsNotEmpty
some_space told spaces some all = for_told (λ m. spaces ≡ space_numbers m) IsNotEmpty told (λ m is. inl (λ no_write.
    let zero : length spaces ≡ 0 = ap length is ∙ count_spaces m ∙ ap finite.len no_write ∙ finite.len-empty nat_cmp (List Held) in
    true≢false (sym (eq-eqb (length spaces) 0 zero) ∙ some))) all

pub is_blank : (told : Option DiskImage) (spaces : List ℕ) (mark : Option (List ℕ)) → (length spaces == 0) ≡ true → is_some mark ≡ false → ForTold told (λ m. spaces ≡ space_numbers m) → ForTold told (λ m. mark ≡ m.mark) → ForTold told (λ m. m ≡ blank)
is_blank None spaces mark no_write unmarked all marked = tt
is_blank (Some m) spaces mark no_write unmarked all marked =
    let zero : finite.len m.spaces ≡ 0 = sym (ap length all ∙ count_spaces m) ∙ eqb-true (length spaces) 0 no_write in
    λ i. record { spaces = finite.empty_of_len m.spaces zero i; mark = (sym marked ∙ no_mark mark unmarked) i }
  where
    no_mark : (o : Option (List ℕ)) → is_some o ≡ false → o ≡ None
    no_mark None is = refl
    no_mark (Some x) is = absurd (true≢false is)

-- A donor that has opened, and gives no clone.

module _ (e : Engine) (c : Cloning) (engine : IsEngine e) (no_write : c.session ≡ None) where
  abbrev fresh : staged.Donor
  fresh = record { engine = e; cloning = c }

  -- what holds where the pages stand over the disk holds where the disk tells what it holds
  told : (P : DiskImage → Type 0) → ((m : DiskImage) → IsFlown e.buffer e.flights no_copies m → P m) → ForTold e.disk.told P
  told P to = for_told (IsFlown e.buffer e.flights no_copies) P e.disk.told to engine.stands

  no_list : list_of c ≡ None
  no_list = ap (option_map (λ (s : Session). s.snap.list)) no_write

  pub fresh_donor : IsBuffer e.buffer → e.buffer.log ≡ opening_records ∷ [] → c.tracking.pages ≡ None → c.archive ≡ None → c.ring ≡ e.buffer.ring.size → e.buffer.ring.floor ≡ first_lsn → e.flights.checkpoint ≡ first_lsn → IsDonor fresh
  fresh_donor buffer log pages archive ring floor checkpoint = record {
    engine = engine;
    ring = ring;
    archives = can_unarchived c e.buffer.ring archive;
    redo = λ a some. absurd (none_is c.archive a archive some);
    floor = subst (λ (o : Option Archived). ForTold e.disk.told (λ m. e.buffer.ring.floor ≡ needed_from e.flights.checkpoint (kept_from o))) (sym archive)
        (told (λ m. e.buffer.ring.floor ≡ e.flights.checkpoint) (λ m first_stands. floor ∙ sym checkpoint));
    placed = told (λ m. (space number : ℕ) → WasPlaced space number e.buffer.log)
        (λ m first_stands. grown (record e { buffer = record e.buffer { log = [] } }) e engine buffer opening_records first_stands.kept.right log (λ space number. placed_first space number));
    own = λ l some. absurd (none_is (list_of c) l no_list some);
    notes = no_notes e.disk.told e c.tracking.pages pages;
  }

  pub fresh_taken : IsTaken fresh nothing
  fresh_taken = record {
    stands = engine.stands;
    stage = told (λ m. IsTakenBy c e.buffer.log nothing (list_of c)) (λ m first_stands. subst (IsTakenBy c e.buffer.log nothing) (sym no_list) (λ space number. refl));
  }

-- A table is dropped.

-- A table is dropped.

-- What holds of every donor after a table was dropped, or wasn't.

-- A table against whose drop there is no cause is there.
may_drop : (d : Donor) (table : ℕ) → drop_cause d table ≡ None → IsSome (finite.get d.tables table)
may_drop d table none = by (finite.get d.tables table) (is_not _ _ (both_none _ _ none).0)
  where
    by : (o : Option ℕ) → not (is_some o) ≡ false → IsSome o
    by None is = absurd (true≢false is)
    by (Some count) is = refl

-- a map of tables or of files without a table
gone : (m : finite.FinMap nat_cmp ℕ) (table : ℕ) → finite.get (finite.remove m table) table ≡ None
gone m table = get-removed_same nat_cmp_total nat_cmp-IsAntisymmetric m table

kept : (m : finite.FinMap nat_cmp ℕ) (table s : ℕ) → s ≢ table → finite.get (finite.remove m table) s ≡ finite.get m s
kept m table s apart = get-removed_other nat_cmp_total nat_cmp-IsAntisymmetric m table s apart

-- what is there is not the table
apart_from : (m : finite.FinMap nat_cmp ℕ) (table s : ℕ) → IsSome (finite.get (finite.remove m table) s) → s ≢ table
apart_from m table s there same = absurd (let e = subst IsSome (ap (finite.get (finite.remove m table)) same ∙ gone m table) there in cc)

was_there : (m : finite.FinMap nat_cmp ℕ) (table s n : ℕ) → finite.get (finite.remove m table) s ≡ Some n → (s ≢ table) × (finite.get m s ≡ Some n)
was_there m table s n is = let apart = apart_from m table s (subst IsSome (sym is) refl) in (apart, sym (kept m table s apart) ∙ is)

one_less : (m : finite.FinMap nat_cmp ℕ) (table : ℕ) → IsSome (finite.get m table) → finite.len m ≡ finite.len (finite.remove m table) + 1
one_less m table there = by (finite.get m table) refl there
  where
    by : (o : Option ℕ) → finite.get m table ≡ o → IsSome o → finite.len m ≡ finite.len (finite.remove m table) + 1
    by None none some = absurd (cc)
    by (Some n) is some = len-without nat_cmp_total nat_cmp-IsAntisymmetric m table n is

-- a table is dropped, with its file
left_files : (d : Donor) (files : Files) (table : ℕ) → 1 ≤ table → IsSome (finite.get d.tables table) → AreOfDonor d files → AreOfDonor (dropped table d) (finite.remove files table)
left_files d files table low there are = record {
  system = subst IsSome (sym (kept files table 0 (λ zero. omega (arith, low, zero)))) are.system;
  tables = λ left has. let other = apart_from d.tables table left has in subst IsSome (sym (kept files table left other)) (are.tables left (subst IsSome (kept d.tables table left other) has));
  others = λ s apart has. let other = apart_from files table s has in subst IsSome (sym (kept d.tables table s other)) (are.others s apart (subst IsSome (kept files table s other) has));
  count = omega (arith, one_less files table (are.tables table there), one_less d.tables table there, are.count);
  sizes = λ s n is. are.sizes s n (was_there files table s n is).1;
}

-- The disk keeps the other files.
removed_other : (m : DiskImage) (table s : ℕ) → s ≢ table → finite.get (with_removed m table).spaces s ≡ finite.get m.spaces s
removed_other m table s other = get-removed_other nat_cmp_total nat_cmp-IsAntisymmetric m.spaces table s other

fewer_files : (files : Files) (table : ℕ) (m : DiskImage) → HasFiles files m → HasFiles (finite.remove files table) m
fewer_files files table m has s n is = has s n (was_there files table s n is).1

files_removed : (files : Files) (table : ℕ) (m : DiskImage) → HasFiles files m → HasFiles (finite.remove files table) (with_removed m table)
files_removed files table m has s n is =
    let was = was_there files table s n is in
    let long = has s n was.1 in
    (long.0, ap (option_map (λ (ps : List Held). length ps)) (removed_other m table s was.0) ∙ long.1, long.2)

-- No page of another space goes.

dropped_pages : (log new : List (List Record)) (entry_number table : ℕ) → new ≡ log ++ records_of_drop entry_number table ∷ [] → (s n : ℕ) → s ≢ table → IsSome (page_of (replayed log) s n) → IsSome (page_of (replayed new) s n)
dropped_pages log new entry_number table is s n other there =
    subst (λ (l : List (List Record)). IsSome (page_of (replayed l) s n)) (sym is)
    (subst (λ (i : Image). IsSome (page_of i s n)) (sym (replayed-push log (records_of_drop entry_number table) _ refl))
    (records_stay _ (finite.remove (replayed log) table) (free_record entry_number ∷ []) s n (tt, tt)
    (subst IsSome (sym (ap (λ (o : Option (List (List ℕ))). option_and_then (λ pages. slice_get pages n) o) (get-removed_other nat_cmp_total nat_cmp-IsAntisymmetric (replayed log) table s other))) there)))

-- Where the way of a drop has written, it has dropped the table.
abbrev log_of : Buffered → List (List Record)
log_of b = b.log

-- the log has one mini-transaction more, which drops the table
abbrev HasDropped : ℕ → Buffered → Buffered → Type 0
HasDropped table old new = (entry_number : ℕ) × (new.log ≡ old.log ++ records_of_drop entry_number table ∷ [])

wrote_drop : {X : Type 0} (table pages entry_number : ℕ) (old new : Buffered) (result : Result X EngineRefusal) → Drops table pages (records_of_drop entry_number table) old new result → (new.log ≡ old.log) ⊎ HasDropped table old new
wrote_drop table pages entry_number old new (Ok x) d = inr (entry_number, ap log_of d.1)
wrote_drop table pages entry_number old new (Err (Because cause)) (inl full) = inl (ap log_of full.1)
wrote_drop table pages entry_number old new (Err (Because cause)) (inr failed) = inr (entry_number, ap log_of failed.1.1)
wrote_drop table pages entry_number old new (Err NoMemory) d = inl (ap log_of d.1)

drop_log : {X : Type 0} (table : ℕ) (old new : Buffered) (result : Result X EngineRefusal) → Goes (drop_way table) old new result → (new.log ≡ old.log) ⊎ HasDropped table old new
drop_log table old new result (inl miss) = inl (ap log_of miss.2.same)
drop_log table old new result (inr on) =
    let page : List ℕ = page_in on.0 on.1 in
    let entry_number : ℕ = number_of_entry table page in
    elim (wrote_drop table (min (pages_told page entry_number) MOST_PAGES) entry_number (held on.0 on.1) on.2 result on.4) [
      | inl same ↦ inl (ap log_of on.5 ∙ same ∙ on.3.log)
      | inr wrote ↦ inr (wrote.0, ap log_of on.5 ∙ wrote.1 ∙ ap (λ (l : List (List Record)). l ++ records_of_drop wrote.0 table ∷ []) on.3.log)
    ]

-- A log that has got longer isn't the old one.
longer_log : (old new : Buffered) (table : ℕ) → HasDropped table old new → new.log ≡ old.log → ⊥
longer_log old new table wrote same = let records : List Record = records_of_drop wrote.0 table in omega (arith, ap length (sym same ∙ wrote.1), length-append old.log (records ∷ []))

drop_tables : (table : ℕ) → table ≤ 1000000 → WritesOf IsOfTable 1 (drop_way table)
drop_tables table high page =
    let low : table < redo_space = omega (arith, high) in
    let system : 0 < redo_space = omega arith in
    ((low, (system, tt)), omega arith)

-- WHAT BECAME OF THE TABLE, by the answer
pub data Became {X : Type 0} (table : ℕ) (d e : Donor) (old new : Buffered) (result : Result X EngineRefusal) : Type 0 where
  stayed : e ≡ d → new.log ≡ old.log → Became table d e old new result
  went : e ≡ dropped table d → HasDropped table old new → Became table d e old new result

ok_drops : {X : Type 0} (x : X) (table pages entry_number : ℕ) (old new : Buffered) → Drops table pages (records_of_drop entry_number table) old new (Ok x) → HasDropped table old new
ok_drops x table pages entry_number old new d = (entry_number, ap log_of d.1)

became : {X : Type 0} (table : ℕ) (d e : Donor) (old new : Buffered) (result : Result X EngineRefusal) → Goes (drop_way table) old new result → CarriesDrop table d e old new result → Became table d e old new result
became table d e old new (Ok x) (inl miss) is = absurd (let e = miss.1 in cc)
became {X} table d e old new (Ok x) (inr on) is =
    let page : List ℕ = page_in on.0 on.1 in
    let entry_number : ℕ = number_of_entry table page in
    let wrote = ok_drops x table (min (pages_told page entry_number) MOST_PAGES) entry_number (held on.0 on.1) on.2 on.4 in
    went is (wrote.0, ap log_of on.5 ∙ wrote.1 ∙ ap (λ (l : List (List Record)). l ++ records_of_drop wrote.0 table ∷ []) on.3.log)
became table d e old new (Err refusal) way (inl left) = stayed left.1 left.0
became table d e old new (Err refusal) way (inr failed) = elim (drop_log table old new (Err refusal) way) [
  | inl same ↦ absurd (failed.1 same)
  | inr wrote ↦ went failed.2 wrote
]

-- no page of the table is on its way to the disk
no_flights : (f : Flights) (table : ℕ) (copies : Copies) → (HasWriteOf table f → ⊥) → NoFlightsOf table (beside_of f copies)
no_flights f table copies quiet number = by (finite.get f.writes (table, number)) refl
  where
    by : (o : Option PageWrite) → finite.get f.writes (table, number) ≡ o → option_map (λ (w : PageWrite). w.image) o ≡ None
    by None is = refl
    by (Some w) is = absurd (quiet (number, ap is_some is))

-- A DROP THAT WENT ITS WAY, with no page of the table on its way.
module _ (d e : Donor) (old new : Buffered) (f : Flights) (k l : DiskState) (table : ℕ) (is : IsEngine (engine d old f k)) (low : 1 ≤ table) (quiet : HasWriteOf table f → ⊥) (keeps : Keeps e new) (grows : Grows IsOfTable 1 old new) where
  -- THE TABLE STAYED
  module _ (becomes : e ≡ d) (log : new.log ≡ old.log) (told : l.told ≡ k.told) (stays : StaysStanding old new k.told l.told) where
    stayed_engine : IsEngine (engine e new f l)
    stayed_engine = still_engine IsOfTable (λ r is. is) 1 d e old new f k l is keeps grows (λ right s n. subst (λ (m : List (List Record)). IsSome (page_of (replayed m) s n)) (sym log)) stays told (ap (λ (x : Donor). x.tables) becomes)

  -- IT IS GONE
  module _ (there : IsSome (finite.get d.tables table)) (becomes : e ≡ dropped table d) (has : HasDropped table old new) (told : IsBeforeOrAfter k.told l.told (λ m. with_removed m table)) (stays : StaysOutside table old new k.told l.told) where
    abbrev fewer_flights : Flights
    fewer_flights = without_file table f

    -- a write is one of another space, whose page is on the disk still
    write_left : (m : DiskImage) (page : PageName) (w : PageWrite) → write_of f page ≡ Some w → IsOnDisk w (disk.page_of m page.space page.number) → IsOnDisk w (disk.page_of (with_removed m table) page.space page.number)
    write_left m page w flies on =
        let other : page.space ≢ table = λ same. quiet (page.number, subst (λ (s : ℕ). IsSome (finite.get f.writes (s, page.number))) same (ap is_some flies)) in
        subst (IsOnDisk w) (sym (ap (λ (o : Option (List Held)). option_and_then (λ pages. slice_get pages page.number) o) (removed_other m table page.space other))) on

    flown_left : (copies : Copies) (m after : DiskImage) → (after ≡ m) ⊎ (after ≡ with_removed m table) → (Stands old (beside_of f copies) (Some m) → Stands new (beside_of f copies) (Some after)) → IsFlown old f copies m → IsFlown new fewer_flights copies after
    flown_left copies m after left kept x = record {
      kept = kept x.kept;
      there = λ page w flies. elim left [
        | inl same ↦ subst (λ (left : DiskImage). IsOnDisk w (disk.page_of left page.space page.number)) (sym same) (x.there page w flies)
        | inr removed ↦ subst (λ (left : DiskImage). IsOnDisk w (disk.page_of left page.space page.number)) (sym removed) (write_left m page w flies (x.there page w flies))
      ];
      floor = omega (arith, grows.floor, x.floor);
    }

    gone_copies : (copies : Copies) → NoFilesOf table copies → StandsFlown old f copies k.told → StandsFlown new fewer_flights copies l.told
    gone_copies copies calm st = by k.told l.told told (stays (beside_of f copies) calm (no_flights f table copies quiet)) st
      where
        by : (before after : Option DiskImage) → IsBeforeOrAfter before after (λ m. with_removed m table) → (Stands old (beside_of f copies) before → Stands new (beside_of f copies) after) → StandsFlown old f copies before → StandsFlown new fewer_flights copies after
        by None after (inl same) kept st = subst (StandsFlown new fewer_flights copies) (sym same) tt
        by None after (inr step) kept st = subst (StandsFlown new fewer_flights copies) (sym step) tt
        by (Some m) None (inl same) kept st = tt
        by (Some m) None (inr step) kept st = tt
        by (Some m) (Some after) (inl same) kept st = flown_left copies m after (inl (let e : after ≡ m = cc in e)) kept st
        by (Some m) (Some after) (inr step) kept st = flown_left copies m after (inr (let e : after ≡ with_removed m table = cc in e)) kept st

    -- the pages within the other files are there
    makes_left : MakesPages f.files old → MakesPages fewer_flights.files new
    makes_left had space number inside =
        let was = was_there f.files table space inside.pages inside.file in
        dropped_pages old.log new.log has.0 table has.1 space number was.0 (had space number (record { pages = inside.pages; file = was.1; within = inside.within }))

    -- A page past the end of another file may be had as one that isn't there, and of the table
    -- nothing is had.
    abbrev chosen : Option ℕ → ℕ → Copy
    chosen o number = if ends_before o number then Untracked (past_end ∷ []) else Idle

    own_calm : NoFilesOf table (beyond fewer_flights.files)
    own_calm number = subst NoFiles (sym (ap (λ (o : Option ℕ). chosen o number) (gone f.files table))) tt

    other_rule : (m : DiskImage) → IsFlown old f (beyond f.files) m → (space number : ℕ) → CopyRule space number (engine_of old (beside_of f (beyond f.files)) m space number) (beyond fewer_flights.files space number)
    other_rule m x space number = elim (cases_eq space table) [
      | inl same ↦ subst (CopyRule space number (engine_of old (beside_of f (beyond f.files)) m space number)) (sym (ap (λ (o : Option ℕ). chosen o number) (ap (finite.get fewer_flights.files) same ∙ gone f.files table))) tt
      | inr apart ↦ subst (CopyRule space number (engine_of old (beside_of f (beyond f.files)) m space number)) (sym (ap (λ (o : Option ℕ). chosen o number) (kept f.files table space apart))) (copy_kept old (beside_of f (beyond f.files)) m space number x.kept).copy
    ]

    fewer : (told : Option DiskImage) → StandsFlown old f (beyond f.files) told → StandsFlown old f (beyond fewer_flights.files) told
    fewer None st = tt
    fewer (Some m) x = stands_with old f (beyond f.files) (beyond fewer_flights.files) m x (other_rule m x)

    gone_engine : IsEngine (engine e new fewer_flights l)
    gone_engine = record {
      keeps = keeps;
      stands = gone_copies no_copies (λ number. tt) is.stands;
      files = told_either k.told l.told (λ m. with_removed m table) (HasFiles f.files) (HasFiles fewer_flights.files) told (fewer_files f.files table) (files_removed f.files table) is.files;
      spaces = subst (λ (x : Donor). AreOfDonor x fewer_flights.files) (sym becomes) (left_files d f.files table low there is.spaces);
      within = told_either k.told l.told (λ m. with_removed m table) (λ _. MakesPages f.files old) (λ _. MakesPages fewer_flights.files new) told (λ m. makes_left) (λ m. makes_left) is.within;
      short = gone_copies (beyond fewer_flights.files) own_calm (fewer k.told is.short);
      tables = of_tables IsOfTable 1 old new (λ r is. is) grows is.tables;
    }

-- the table is there as long as it stayed
stayed_there : (d e : Donor) (table : ℕ) (f : Flights) → IsSome (finite.get d.tables table) → e ≡ d → steps.left_by e table f ≡ f
stayed_there d e table f there same = ap (λ (b : Bool). if b then f else without_file table f) (ap (λ (x : Donor). finite.contains_key x.tables table) same ∙ there)

gone_there : (d e : Donor) (table : ℕ) (f : Flights) → e ≡ dropped table d → steps.left_by e table f ≡ without_file table f
gone_there d e table f same = ap (λ (b : Bool). if b then f else without_file table f) (ap (λ (x : Donor). finite.contains_key x.tables table) same ∙ ap is_some (gone d.tables table))

-- WHAT A DROP LEAVES of an engine, where there is no cause against it and no page of the table is on
-- its way to the disk.
module _ (d e : Donor) (old new : Buffered) (f : Flights) (k l : DiskState) (table : ℕ) (result : Result (Unit {0}) EngineRefusal) where
  -- what the transactions say of it
  pub record Dropping : Type 0 where
    pub free : drop_cause d table ≡ None
    pub quiet : HasWriteOf table f → ⊥
    pub way : Goes (drop_way table) old new result
    pub donor : CarriesDrop table d e old new result
    pub keeps : Keeps e new
    pub file : OnOk result (disk.Steps k.told l.told (λ m. with_removed m table))
    pub removed : IsBeforeOrAfter k.told l.told (λ m. with_removed m table)
    pub same : new.log ≡ old.log → l.told ≡ k.told
    pub stays : new.log ≡ old.log → StaysStanding old new k.told l.told
    pub stands : StaysOutside table old new k.told l.told

  abbrev dropped_as : Unit {0} → EngineAnswer
  dropped_as x = answers.Drop

  abbrev s : Engine
  s = engine d old f k

  abbrev left : Engine
  left = engine e new (steps.left_by e table f) l

  module _ (is : IsEngine (engine d old f k)) (safe : IsSafe d) (call : Dropping) where
    there : IsSome (finite.get d.tables table)
    there = may_drop d table call.free

    range : (1 ≤ table) × (table ≤ 1000000)
    range = by (finite.get d.tables table) refl there
      where
        by : (o : Option ℕ) → finite.get d.tables table ≡ o → IsSome o → (1 ≤ table) × (table ≤ 1000000)
        by None none some = absurd (cc)
        by (Some count) has some = let r = safe.tables.ranges table count has in (r.0, r.1)

    drop_grows : Grows IsOfTable 1 old new
    drop_grows = goes_grows IsOfTable 1 (drop_way table) old new result (drop_tables table range.1) call.way

    outcome : Became table d e old new result
    outcome = became table d e old new result call.way call.donor

    with_flights : (P : Flights → Type 0) (g : Flights) → steps.left_by e table f ≡ g → P g → P (steps.left_by e table f)
    with_flights P g same p = subst P (sym same) p

    drop_engine : IsEngine left
    drop_engine = by outcome
      where
        by : Became table d e old new result → IsEngine left
        by (stayed same log) = with_flights (λ fewer_flights. IsEngine (engine e new fewer_flights l)) f (stayed_there d e table f there same)
            (stayed_engine d e old new f k l table is range.0 call.quiet call.keeps drop_grows same log (call.same log) (call.stays log))
        by (went gone has) = with_flights (λ fewer_flights. IsEngine (engine e new fewer_flights l)) (without_file table f) (gone_there d e table f gone)
            (gone_engine d e old new f k l table is range.0 call.quiet call.keeps drop_grows there gone has call.removed call.stands)

    drop_copies : (copies : Copies) → NoFilesOf table copies → StandsFlown old f copies k.told → StandsFlown new (steps.left_by e table f) copies l.told
    drop_copies copies calm st = by outcome
      where
        by : Became table d e old new result → StandsFlown new (steps.left_by e table f) copies l.told
        by (stayed same log) = with_flights (λ fewer_flights. StandsFlown new fewer_flights copies l.told) f (stayed_there d e table f there same)
            (stays_flown f copies old new k.told l.told (call.same log) (call.stays log (beside_of f copies)) drop_grows.floor st)
        by (went gone has) = with_flights (λ fewer_flights. StandsFlown new fewer_flights copies l.told) (without_file table f) (gone_there d e table f gone)
            (gone_copies d e old new f k l table is range.0 call.quiet call.keeps drop_grows there gone has call.removed call.stands copies calm st)

    carried : (r : Result (Unit {0}) EngineRefusal) → CarriesDrop table d e old new r → CarriesDrop table d e old new (steps.answer_of dropped_as r)
    carried (Ok x) is = is
    carried (Err refusal) is = is

    answered : (r : Result (Unit {0}) EngineRefusal) → IfOk (steps.answer_of dropped_as r) (λ x. x ≡ answers.Drop)
    answered (Ok x) = refl
    answered (Err refusal) = tt

    removed_file : (r : Result (Unit {0}) EngineRefusal) → OnOk r (disk.Steps k.told l.told (λ m. with_removed m table)) → IfOk (steps.answer_of dropped_as r) (λ _. disk.Steps k.told l.told (λ m. with_removed m table))
    removed_file (Ok x) is = is
    removed_file (Err refusal) is = tt

    drop_tells : is_some l.told ≡ is_some k.told
    drop_tells = either_tells k.told l.told (λ m. with_removed m table) call.removed

    drop_step : Counts (IsErrOf result (Because DiskFault)) k l → steps.Drops table s left (steps.answer_of dropped_as result)
    drop_step counts = record {
      answers = subst (λ (o : Option Cause). steps.AnswersDrop o table s left (steps.answer_of dropped_as result)) (sym call.free) (inr (record {
        quiet = call.quiet;
        way = goes_to dropped_as (drop_way table) old new result call.way;
        donor = carried result call.donor;
        flights = refl;
        did = answered result;
      }));
      file = removed_file result call.file;
      disk = record {
        visits = record { later = counts.later; orders = counts.orders; tells = drop_tells };
        fault = λ is. counts.fault (same_refusal dropped_as result (Because DiskFault) is);
      };
      holds = call.removed;
    }

    drop_checkpoint : left.flights.checkpoint ≡ f.checkpoint
    drop_checkpoint = by (finite.contains_key e.tables table)
      where
        by : (b : Bool) → (if b then f else without_file table f).checkpoint ≡ f.checkpoint
        by true = refl
        by false = refl

    pub drops : IsBuffer new → Counts (IsErrOf result (Because DiskFault)) k l → Makes (to_engine.Drop table) s left (steps.answer_of dropped_as result)
    drops buffer counts = record {
      step = drop_step counts;
      goes = record { engine = drop_engine; buffer = buffer; checkpoint = drop_checkpoint; tells = drop_tells; log = of_few 1 s left (omega arith) drop_grows.log; ring = drop_grows.ring };
      copies = drop_copies;
    }

-- A table is dropped while no session stands.

-- no session has a number
pub no_session : (o : Option Session) → option_map (λ (s : Session). s.number) o ≡ None → o ≡ None
no_session None is = refl
no_session (Some s) is = absurd (cc)

idle_of : (c : Cloning) → IsCloning c → c.session ≡ None → IsIdle c
idle_of c k none = subst (IsInSession c) none k.session

module _ (table : ℕ) (d : staged.Donor) (e : Engine) (none : d.cloning.session ≡ None) where
  no_files : (copies : Copies) → AreIdle copies → NoFilesOf table copies
  no_files copies idle number = subst NoFiles (sym (idle table number)) tt

  tables_stay : staged.IsDonor d → IsCloning d.cloning → GoesOn d.engine e → ((copies : Copies) → NoFilesOf table copies → StandsBeside d.engine copies → StandsBeside e copies) → Stays d (record d { engine = e })
  tables_stay is k goes copies = record {
    donor = donor_goes d e d.cloning is goes (record { ring = refl; archive = refl; list = refl })
        (λ l stands. absurd (none_is (staged.list_of d.cloning) l (ap (option_map (λ (s : Session). s.snap.list)) none) stands))
        (no_notes e.disk.told e d.cloning.tracking.pages (idle_of d.cloning k none).untracked);
    taken = λ taken was.
        let idle = subst (λ o. ForTold d.engine.disk.told (λ m. IsTakenBy d.cloning d.engine.buffer.log taken o)) (ap (λ (o : Option Session). option_map (λ (s : Session). s.snap.list) o) none) was.stage in
        is_taken d e d.cloning (like_same d.cloning) goes.tells goes.log.log taken
        (told_if (AreIdle taken.copies) (IsFlown d.engine.buffer d.engine.flights taken.copies) (IsFlown e.buffer e.flights taken.copies) d.engine.disk.told e.disk.told goes.tells idle (λ idle. copies taken.copies (no_files taken.copies idle))) was;
  }

  pub tables_acts : (call : EngineCall) (answer : Result EngineAnswer EngineRefusal) (c : Cloning) → c ≡ d.cloning → staged.IsDonor d → IsCloning d.cloning → GoesOn d.engine e → ((copies : Copies) → NoFilesOf table copies → StandsBeside d.engine copies → StandsBeside e copies) → ((taken : Taken) → taken_by call answer taken ≡ taken) → AnswersCall call d (record d { engine = e }) answer
      → act.EngineActs call answer d (record { engine = e; cloning = c })
  tables_acts call answer c same is k goes copies kept does =
      let on = tables_stay is k goes copies in
      subst (λ (c : Cloning). act.EngineActs call answer d (record { engine = e; cloning = c })) (sym same) (record {
        does = does;
        donor = on.donor;
        taken = λ taken was. subst (IsTaken (record d { engine = e })) (sym (kept taken)) (on.taken taken was);
      })
