-- A table is made, also while a session stands: the files that it copies stay, and of a page of the
-- new table a clone has what the page was made as.
use Rattle.std.proofs.Common.{[], ◌≡◌, ◌≢◌, ◌==◌, ◌⊎◌, inl, inr, ℕ, Bool, true, false, List, ◌∷◌, refl, sym, ap, subst, ◌∙◌, arith, Option, None, Some, IsTrue, is_some, nat_le, if◌then◌else◌, ◌≤◌, IsSome, Result, Ok, Err, OnOk, OnErr, ◌+◌, ◌++◌}
use Rattle.std.specs.FinMap as finite
use Rattle.std.proofs.lemmas.Bool.{cases_eq, leb-true, true≢false}
use Rattle.clone_outside.specs.Disk.{DiskImage, ForTold, Steps, with_created, IsBeforeOrAfter}
use Rattle.clone_image.proofs.Images.{get-put_same, get-put_other}
use Rattle.clone_image.specs.Image.{page_count, page_of}
use Rattle.clone_image.specs.Redone.{past_end, Standing}
use Rattle.clone_law.specs.Machine.{Copy, Idle, Untracked, NoFiles}
use Rattle.clone_law.specs.Rule.{CopyRule}
use Rattle.clone_buffer.specs.Buffered.{Buffered, IsBuffer, image_of}
use Rattle.clone_buffer.specs.Keeping.{Stands}
use Rattle.clone_buffer.specs.OnePage.{engine_of, no_copies, Copies, NoFilesOf, after_create}
use Rattle.clone_flush.specs.Flights.{Files, Flights, HasFiles, StandsFlown, IsFlown, beside_of, beyond, ends_before}
use Rattle.clone_flush.proofs.FlightLemmas.{told_stepped}
use Rattle.clone_recover.specs.Reading.{IsOfTable}
use Rattle.clone_plain.specs.Donor.{Donor}
use Rattle.clone_trx.specs.Kept.{Keeps}
use Rattle.clone_trx.proofs.Common.{none-some, same_Some, nat_cmp_total}
use Rattle.clone_outside.specs.DiskCalls.{DiskState, Counts}
use Rattle.clone_engine.specs.Engine.{AreOfDonor, IsEngine, MakesPages, Engine, LiesIn}
use Rattle.clone_engine.proofs.EngineLemmas.{past_rule, stands_with, is_there, spaced_page, engine, past_made, made_flown, right_told, made_files, no_table, space_left, space_made, becomes_flown}
use Rattle.clone_engine.proofs.ToldLemmas.{either_tells, told_both, told_either, told_stays}
use Rattle.clone_archive.specs.Archived.{Archived}
use Rattle.clone_flush.specs.Calls.{with_file}
use Rattle.clone_session.specs.Cloning.{Cloning}
use Rattle.clone_engine.specs.Donor as staged
use Rattle.clone_engine.specs.Donor.{IsDonor, list_of}
use Rattle.clone_engine.specs.Taken.{IsTakenBy, nothing, Taken, HasStopped, IsTakenIn}
use Rattle.clone_engine.proofs.MomentLemmas.{grown}
use Rattle.std.specs.Cmp.{nat_cmp_total}
use Rattle.std.proofs.lemmas.Map.Lookups.{exact_unsigned}
use Rattle.clone_base.proofs.OrderedMaps.{removed_again}
use Rattle.clone_buffer.proofs.LawLemmas.{copy_kept}
use Rattle.clone_model.specs.declared.line.TheConstants.{MOST_PAGES}
use Rattle.clone_plain.specs.Causes.{create_cause}
use Rattle.clone_plain.specs.Effects.{created}
use Rattle.clone_plain.specs.declared.refusal.Cause.{Cause}
use Rattle.clone_plain.specs.declared.refusal.Cause.TheVariants.{NoSuchTrx, NoSuchTable, TableExists, RowLocked, ValueTooLong, UndoFull, SpaceFull, LogFull, PoolFull, TooManyTransactions, TooManyTables, CloneRunning, TableInUse, NotDirty, InFlight, NoFlush, DiskFault}
use Rattle.clone_plain.specs.declared.refusal.EngineRefusal.{EngineRefusal}
use Rattle.clone_plain.specs.declared.refusal.EngineRefusal.TheVariants.{Because, NoMemory}
use Rattle.clone_contents.specs.Contents.{contents_of}
use Rattle.clone_trx.specs.Calls.{create_way}
use Rattle.clone_trx.specs.Sound.{HasSize}
use Rattle.clone_trx.specs.Ways.{Way, Answers, StaysCreating}
use Rattle.clone_trx.proofs.CreateLemmas.{no_space}
use Rattle.std.specs.Prelude.{IsErrOf}
use Rattle.clone_plain.specs.declared.call.EngineAnswer.{EngineAnswer}
use Rattle.clone_plain.specs.declared.call.EngineAnswer.TheVariants as answers
use Rattle.clone_plain.specs.declared.call.EngineCall.TheVariants as to_engine
use Rattle.clone_engine.specs.Growth.{Makes, PagesStay, GrowsBy, KeepsPages, KeepsImage}
use Rattle.clone_engine.proofs.GoingLemmas.{transacts, of_few, like_same, donor_goes, noted_stay, own_goes, stopped_as, taken_grows, image_stays, same_files, same_image}
use Rattle.clone_engine.proofs.WayLemmas.{create_grows, create_stay, Grows, of_tables}
use Rattle.clone_outside.specs.Disk as disk
use Rattle.clone_mtr.specs.declared.record.Record.{Record}
use Rattle.clone_engine.specs.Steps as steps
use Rattle.clone_engine.specs.Copies.{AreIdle, AreInFiles, AreInPages, AreStopped, IsInFiles, is_noted}
use Rattle.clone_engine.specs.Serving.{taken_by}
use Rattle.clone_law.specs.Machine as machine
use Rattle.clone_track.specs.TrackedPages.{Pages}
use Rattle.clone_snapshot.specs.StageLists as lists
use Rattle.clone_engine.specs.Acts.{EngineActs}
use Rattle.clone_engine.specs.Steps.{copies_made}
use Rattle.clone_image.specs.Redone as image
use Rattle.clone_buffer.proofs.SpaceLemmas.{create_calm}

-- What holds of every donor after a table was made, or wasn't.

-- the disk failed, or the cause is another
pub is_fault : (cause : Cause) → (cause ≡ DiskFault) ⊎ (cause ≡ DiskFault → ⊥)
is_fault NoSuchTrx = inr (λ e. cc)
is_fault NoSuchTable = inr (λ e. cc)
is_fault TableExists = inr (λ e. cc)
is_fault (RowLocked holder) = inr (λ e. cc)
is_fault ValueTooLong = inr (λ e. cc)
is_fault UndoFull = inr (λ e. cc)
is_fault SpaceFull = inr (λ e. cc)
is_fault (LogFull need free) = inr (λ e. cc)
is_fault (PoolFull frames) = inr (λ e. cc)
is_fault TooManyTransactions = inr (λ e. cc)
is_fault TooManyTables = inr (λ e. cc)
is_fault (CloneRunning session) = inr (λ e. cc)
is_fault (TableInUse trx) = inr (λ e. cc)
is_fault NotDirty = inr (λ e. cc)
is_fault InFlight = inr (λ e. cc)
is_fault NoFlush = inr (λ e. cc)
is_fault DiskFault = inl refl

-- a file isn't known
pub unknown_is : (o p : Option ℕ) → o ≡ p → is_some o ≡ false → p ≡ None
unknown_is None p is none = sym is
unknown_is (Some n) p is none = absurd (true≢false none)

-- the file of a table that is made, or isn't
pub left_flown : (f : Flights) (table buckets : ℕ) (made : Result (Unit {0}) EngineRefusal) → finite.get f.files table ≡ None → steps.left_unmade made table (with_file table buckets f) ≡ steps.flown (to_engine.Create table buckets) (steps.answer_of (λ (x : Unit {0}). answers.Create) made) f
left_flown f table buckets (Ok x) unknown = refl
left_flown f table buckets (Err refusal) unknown = λ i. record f { files = removed_again nat_cmp_total exact_unsigned f.files table buckets unknown i }

-- a call that was refused leaves the donor, and one that was carried out has made the table
module _ {X : Type 0} (d e : Donor) (old new : Buffered) where
  refused_donor : (cause : Option Cause) (refusal : EngineRefusal) (w : Way) (Does : X → Type 0) → Answers cause w d e old new (Err refusal) Does → e ≡ d
  refused_donor (Some cause) refusal w Does a = a.1
  refused_donor None refusal w Does a = a.1

  done_donor : (cause : Option Cause) (x : X) (w : Way) (Does : X → Type 0) → Answers cause w d e old new (Ok x) Does → Does x
  done_donor (Some cause) x w Does a = absurd (let e = a.0 in cc)
  done_donor None x w Does a = a.1

-- What the disk tells then, by the answer.
module _ (k l : DiskState) (table buckets : ℕ) {X : Type 0} (result : Result X EngineRefusal) where
  abbrev made : DiskImage → DiskImage
  made m = with_created m table buckets

  pub record OnDisk : Type 0 where
    pub made_is : OnOk result (Steps k.told l.told made)
    pub left : result ≡ Err (Because DiskFault) → IsBeforeOrAfter k.told l.told made
    pub same : (result ≡ Err (Because DiskFault) → ⊥) → OnErr result (l.told ≡ k.told)

  module _ (on : OnDisk) where
    told_same : (refusal : EngineRefusal) → result ≡ Err refusal → (refusal ≡ Because DiskFault → ⊥) → l.told ≡ k.told
    told_same refusal is other = subst (λ (r : Result X EngineRefusal). OnErr r (l.told ≡ k.told)) is (on.same (λ fault. other (let both : Err refusal ≡ Err (Because DiskFault) = sym is ∙ fault in cc)))

    -- by the refusal: as before, or with the space made
    pub told_left : (refusal : EngineRefusal) → result ≡ Err refusal → IsBeforeOrAfter k.told l.told made
    told_left NoMemory is = inl (told_same NoMemory is (λ e. cc))
    told_left (Because cause) is = by (is_fault cause)
      where
        by : (cause ≡ DiskFault) ⊎ (cause ≡ DiskFault → ⊥) → IsBeforeOrAfter k.told l.told made
        by (inl fault) = on.left (is ∙ ap (λ (c : Cause). Err (Because c)) fault)
        by (inr other) = inl (told_same (Because cause) is (λ e. other (cc)))

-- WHAT A CALL THAT MAKES A TABLE leaves of an engine where the table's file isn't known, by what the
-- transactions answer
module _ (d e : Donor) (old new : Buffered) (f : Flights) (k l : DiskState) (table buckets : ℕ) (is : IsEngine (engine d old f k)) (was : IsBuffer old) (buffer : IsBuffer new) (ranges : (1 ≤ table) × (table ≤ 1000000) × (1 ≤ buckets) × (buckets ≤ MOST_PAGES)) (unknown : finite.get f.files table ≡ None) (kept : Keeps e new) where
  abbrev did : Unit {0} → EngineAnswer
  did x = answers.Create

  abbrev Does : Unit {0} → Type 0
  Does x = e ≡ created table buckets d

  abbrev pub AnswersSo : Result (Unit {0}) EngineRefusal → Type 0
  AnswersSo r = Answers (create_cause d table) (create_way table buckets) d e old new r Does

  -- what a clone has of each page then stands over the disk
  abbrev pub StaysMade : Result (Unit {0}) EngineRefusal → Type 0
  StaysMade r = StaysCreating table buckets r old new k.told l.told

  becomes_beside : (r : Result (Unit {0}) EngineRefusal) → StaysMade r → (copies : Copies) → Stands old (beside_of f copies) k.told → Stands new (beside_of f (copies_made r table buckets copies)) l.told
  becomes_beside (Ok x) stays copies = stays (beside_of f copies)
  becomes_beside (Err refusal) stays copies = stays (beside_of f copies)

  module _ (r : Result (Unit {0}) EngineRefusal) (answer : AnswersSo r) (stays : StaysMade r) where
    grows : Grows IsOfTable 1 old new
    grows = create_grows d e old new table buckets r ranges.1 answer

    pages_there : PagesStay old new
    pages_there = create_stay (create_cause d table) d e old new table buckets r Does (λ right. no_space d (image_of old) table (is.keeps.kept right) ranges.0 (no_table d f.files table is.spaces unknown)) answer

    abbrev after : DiskImage → DiskImage
    after m = with_created m table buckets

    none : finite.get d.tables table ≡ None
    none = no_table d f.files table is.spaces unknown

    -- its space is made on the disk, or isn't
    either_copies : IsBeforeOrAfter k.told l.told after → (copies : Copies) → StandsFlown old f copies k.told → StandsFlown new f (copies_made r table buckets copies) l.told
    either_copies (inl same) copies = becomes_flown f copies (copies_made r table buckets copies) old new k.told l.told same (becomes_beside r stays copies) grows.floor
    either_copies (inr step) copies = made_flown d f copies (copies_made r table buckets copies) old new table buckets was is.keeps.kept ranges.0 none grows.floor k.told l.told step (becomes_beside r stays copies)

    files_left : IsBeforeOrAfter k.told l.told after → ForTold l.told (HasFiles f.files)
    files_left either = told_either k.told l.told after (HasFiles f.files) (HasFiles f.files) either (λ m h. h) (λ m h. space_left m table buckets f.files unknown h) is.files

    -- the pages of known files are there still
    makes : IsBeforeOrAfter k.told l.told after → ForTold l.told (λ _. MakesPages f.files new)
    makes either =
        told_either k.told l.told after (λ _. MakesPages f.files new) (λ _. MakesPages f.files new) either (λ m had. had) (λ m had. had)
        (told_both (λ _. IsTrue old.right) (λ _. MakesPages f.files old) (λ _. MakesPages f.files new) k.told (λ m right had space number inside. pages_there right space number (had space number inside)) (right_told old f no_copies k.told is.stands) is.within)

    -- no page goes
    keeps_image : IsBeforeOrAfter k.told l.told after → ForTold l.told (λ m. KeepsImage (engine d old f k) (engine e new f l))
    keeps_image either = image_stays (engine d old f k) (engine e new f l) is (either_tells k.told l.told after either) pages_there

  -- THE CALL WAS REFUSED
  module _ (refusal : EngineRefusal) (answer : AnswersSo (Err refusal)) (stays : StaysMade (Err refusal)) where
    abbrev refused : Result (Unit {0}) EngineRefusal
    refused = Err refusal

    refused_engine : e ≡ d → IsBeforeOrAfter k.told l.told (after refused answer stays) → IsEngine (engine e new f l)
    refused_engine same either = subst (λ (x : Donor). IsEngine (engine x new f l)) (sym same) (record {
      keeps = subst (λ (x : Donor). Keeps x new) same kept;
      stands = either_copies refused answer stays either no_copies is.stands;
      files = files_left refused answer stays either;
      spaces = is.spaces;
      within = makes refused answer stays either;
      short = either_copies refused answer stays either (beyond f.files) is.short;
      tables = of_tables IsOfTable 1 old new (λ r is. is) (grows refused answer stays) is.tables;
    })

  -- THE TABLE WAS MADE
  module _ (x : Unit {0}) (answer : AnswersSo (Ok x)) (stays : StaysMade (Ok x)) (becomes : e ≡ created table buckets d) (step : Steps k.told l.told (made k l table buckets (Ok x))) where
    abbrev done : Result (Unit {0}) EngineRefusal
    done = Ok x

    abbrev with_table : DiskImage → DiskImage
    with_table m = with_created m table buckets

    abbrev g : Flights
    g = with_file table buckets f

    refiled : (copies : Copies) (told : Option DiskImage) → StandsFlown new f copies told → StandsFlown new g copies told
    refiled copies None st = tt
    refiled copies (Some m) k = record { kept = k.kept; there = k.there; floor = k.floor }

    made_copies : (copies : Copies) → StandsFlown old f copies k.told → StandsFlown new g (after_create table buckets copies) l.told
    made_copies copies st = refiled (after_create table buckets copies) l.told (either_copies done answer stays (inr step) copies st)

    calm : NoFilesOf table (beyond f.files)
    calm number = subst (λ (o : Option ℕ). NoFiles (if ends_before o number then Untracked (past_end ∷ []) else Idle)) (sym unknown) tt

    sized : IsTrue new.right → HasSize (contents_of (image_of new)) table buckets
    sized right = ((kept.kept right).sound.tables.sizes table buckets (ap (λ (x : Donor). finite.get x.tables table) becomes ∙ get-put_same d.tables table buckets)).0

    -- a page past the end of the new file
    short_rule : (m : DiskImage) → IsFlown new g (beyond f.files) (with_table m) → (space number : ℕ) → CopyRule space number (engine_of new (beside_of g (beyond f.files)) (with_table m) space number) (beyond g.files space number)
    short_rule m flying space number = by (cases_eq space table)
      where
        R : ℕ → Copy → Type 0
        R s c = CopyRule s number (engine_of new (beside_of g (beyond f.files)) (with_table m) s number) c

        own : (t : Bool) → nat_le buckets number ≡ t → R table (if t then Untracked (past_end ∷ []) else Idle)
        own true past =
            let out = past_made m table buckets number (leb-true buckets number past) in
            past_rule new g (beyond f.files) (with_table m) flying table number out.0 out.1 (let size = sized flying.kept.right in spaced_page new table number size.pages buffer size.size)
        own false past = tt

        by : (space ≡ table) ⊎ (space ≢ table) → R space (beyond g.files space number)
        by (inl same) = subst (λ (s : ℕ). R s (beyond g.files s number)) (sym same)
            (subst (λ (o : Option ℕ). R table (if ends_before o number then Untracked (past_end ∷ []) else Idle)) (sym (get-put_same f.files table buckets)) (own (nat_le buckets number) refl))
        by (inr other) = subst (λ (o : Option ℕ). R space (if ends_before o number then Untracked (past_end ∷ []) else Idle)) (sym (get-put_other f.files table space buckets other))
            (copy_kept new (beside_of g (beyond f.files)) (with_table m) space number flying.kept).copy

    made_short : StandsFlown new g (beyond g.files) l.told
    made_short = by k.told step (subst (λ (c : Copies). StandsFlown new g c l.told) (create_calm table buckets (beyond f.files) calm) (made_copies (beyond f.files) is.short))
      where
        by : (before : Option DiskImage) → Steps before l.told with_table → StandsFlown new g (beyond f.files) l.told → StandsFlown new g (beyond g.files) l.told
        by None stepped st = subst (StandsFlown new g (beyond g.files)) (sym stepped) tt
        by (Some m) stepped st = subst (StandsFlown new g (beyond g.files)) (sym stepped)
            (stands_with new g (beyond f.files) (beyond g.files) (with_table m) (subst (StandsFlown new g (beyond f.files)) stepped st) (short_rule m (subst (StandsFlown new g (beyond f.files)) stepped st)))

    made_stands : StandsFlown new g no_copies l.told
    made_stands = subst (λ (c : Copies). StandsFlown new g c l.told) (create_calm table buckets no_copies (λ number. tt)) (made_copies no_copies is.stands)

    made_within : ForTold l.told (λ _. MakesPages g.files new)
    made_within = told_both (λ _. MakesPages f.files new) (λ _. IsTrue new.right) (λ _. MakesPages g.files new) l.told (λ m had right space number inside. one had right space number inside (cases_eq space table)) (makes done answer stays (inr step)) (right_told new g no_copies l.told made_stands)
      where
        one : MakesPages f.files new → IsTrue new.right → (space number : ℕ) → LiesIn g.files space number → (space ≡ table) ⊎ (space ≢ table) → IsSome (page_of (image_of new) space number)
        one had right space number inside (inl same) =
            let value = same_Some buckets inside.pages (sym (get-put_same f.files table buckets) ∙ ap (finite.get g.files) (sym same) ∙ inside.file) in
            let size = sized right in
            is_there new space number size.pages (ap (page_count (image_of new)) same ∙ size.size) (omega (arith, inside.within, value, size.enough))
        one had right space number inside (inr other) = had space number (record { pages = inside.pages; file = sym (get-put_other f.files table space buckets other) ∙ inside.file; within = inside.within })

    made_engine : IsEngine (engine e new g l)
    made_engine = record {
      keeps = kept;
      stands = made_stands;
      files = told_stepped (HasFiles f.files) (HasFiles g.files) k.told l.told with_table step (λ m h. space_made m table buckets f.files h) is.files;
      spaces = subst (λ (x : Donor). AreOfDonor x g.files) (sym becomes) (made_files d f.files table buckets ranges.0 (ranges.2, ranges.3) unknown is.spaces);
      within = made_within;
      short = made_short;
      tables = of_tables IsOfTable 1 old new (λ r is. is) (grows done answer stays) is.tables;
    }

  module _ (r : Result (Unit {0}) EngineRefusal) (answer : AnswersSo r) (stays : StaysMade r) where
    makes_as : OnDisk k l table buckets r → Counts (IsErrOf r (Because DiskFault)) k l → IsEngine (engine e new (steps.flown (to_engine.Create table buckets) (steps.answer_of did r) f) l) → (steps.flown (to_engine.Create table buckets) (steps.answer_of did r) f).checkpoint ≡ f.checkpoint → IsBeforeOrAfter k.told l.told (made k l table buckets r) → ((copies : Copies) → StandsFlown old f copies k.told → StandsFlown new (steps.flown (to_engine.Create table buckets) (steps.answer_of did r) f) (copies_made (steps.answer_of did r) table buckets copies) l.told)
        → Makes (to_engine.Create table buckets) (engine d old f k) (engine e new (steps.flown (to_engine.Create table buckets) (steps.answer_of did r) f) l) (steps.answer_of did r)
    makes_as on counts is_engine checkpoint holds copies =
        let tells = either_tells k.told l.told (made k l table buckets r) holds in
        let t : Engine = engine e new (steps.flown (to_engine.Create table buckets) (steps.answer_of did r) f) l in
        record {
          step = transacts did (to_engine.Create table buckets) (engine d old f k) t r Does (λ x does. record { does = does; sees = tt; fresh = unknown }) refl answer (record { later = counts.later; orders = counts.orders; tells = tells }) counts.fault holds;
          goes = record { engine = is_engine; buffer = buffer; checkpoint = checkpoint; tells = tells; log = of_few 1 (engine d old f k) t (omega arith) (grows r answer stays).log; ring = (grows r answer stays).ring };
          copies = copies;
        }

  pub creates : (r : Result (Unit {0}) EngineRefusal) (answer : AnswersSo r) → StaysMade r → OnDisk k l table buckets r → Counts (IsErrOf r (Because DiskFault)) k l → Makes (to_engine.Create table buckets) (engine d old f k) (engine e new (steps.flown (to_engine.Create table buckets) (steps.answer_of did r) f) l) (steps.answer_of did r)
  creates (Ok x) answer stays on counts =
      let becomes = done_donor d e old new (create_cause d table) x (create_way table buckets) Does answer in
      makes_as (Ok x) answer stays on counts (made_engine x answer stays becomes on.made_is) refl (inr on.made_is) (made_copies x answer stays becomes on.made_is)
  creates (Err refusal) answer stays on counts =
      let left = told_left k l table buckets (Err refusal) on refusal refl in
      makes_as (Err refusal) answer stays on counts (refused_engine refusal answer stays (refused_donor d e old new (create_cause d table) refusal (create_way table buckets) Does answer) left) refl left (either_copies (Err refusal) answer stays left)

  -- and the files and the pages stay that were there
  pub creates_keep : (r : Result (Unit {0}) EngineRefusal) (answer : AnswersSo r) → StaysMade r → OnDisk k l table buckets r → KeepsPages (engine d old f k) (engine e new (steps.flown (to_engine.Create table buckets) (steps.answer_of did r) f) l)
  creates_keep (Ok x) answer stays on = record {
    files = λ space pages known. record {
      pages = pages;
      known = get-put_other f.files table space buckets (λ same. none-some pages (sym unknown ∙ ap (finite.get f.files) (sym same) ∙ known)) ∙ known;
      enough = omega arith;
    };
    image = keeps_image (Ok x) answer stays (inr on.made_is);
  }
  creates_keep (Err refusal) answer stays on = record { files = same_files f.files f.files refl; image = keeps_image (Err refusal) answer stays (told_left k l table buckets (Err refusal) on refusal refl) }

-- so they do where nothing was done
pub keeps_same : (s t : Engine) → t ≡ s → KeepsPages s t
keeps_same s t same = subst (KeepsPages s) (sym same) (record { files = same_files s.flights.files s.flights.files refl; image = same_image s s refl })

-- WHAT A CLONE HAS OF EACH PAGE stays that of its stage.

created_in_files : (v : Standing) (noted : Bool) (copy : machine.Copy) → IsInFiles noted copy → IsInFiles noted (machine.created v copy)
created_in_files v true copy is = ap (machine.created v) is
created_in_files v false copy is = (v ∷ [], ap (machine.created v) is.1)

-- where it leaves what a clone has of a page, so does a table that is made
chosen_same : (t : Bool) (v : Standing) (copy same : machine.Copy) → machine.created v same ≡ same → copy ≡ same → (if t then machine.created v copy else copy) ≡ same
chosen_same true v copy same stays is = subst (λ (c : machine.Copy). machine.created v c ≡ same) (sym is) stays
chosen_same false v copy same stays is = is

module _ (table buckets : ℕ) (copies : Copies) where
  abbrev with_table_made : Copies
  with_table_made = after_create table buckets copies

  made_in_files : (pages : Option Pages) → AreInFiles pages copies → AreInFiles pages with_table_made
  made_in_files pages are space number = by (space == table)
    where
      by : (t : Bool) → IsInFiles (is_noted pages space number) (if t then machine.created (image.made number buckets) (copies space number) else copies space number)
      by true = created_in_files (image.made number buckets) (is_noted pages space number) (copies space number) (are space number)
      by false = are space number

  made_in_pages : (start : ℕ) → AreInPages start copies → AreInPages start with_table_made
  made_in_pages start are space number =
      let has = are space number in
      (has.0, chosen_same (space == table) (image.made number buckets) (copies space number) (machine.Copied start has.0) refl has.1)

  made_stopped : (start : ℕ) (log : List (List Record)) → AreStopped start log copies → AreStopped start log with_table_made
  made_stopped start log are space number =
      let has = are space number in
      (has.0, chosen_same (space == table) (image.made number buckets) (copies space number) (machine.Stopped start log has.0) refl has.1)

  made_idle : AreIdle copies → AreIdle with_table_made
  made_idle are space number = chosen_same (space == table) (image.made number buckets) (copies space number) machine.Idle refl (are space number)

-- WHAT WAS TAKEN, over a log that has grown
module _ (c : Cloning) (log rest : List (List Record)) (taken : Taken) (table buckets : ℕ) where
  abbrev with_made : Taken
  with_made = record taken { copies = after_create table buckets taken.copies }

  stopped_made : (a : Archived) → HasStopped c log taken a → HasStopped c (log ++ rest) with_made a
  stopped_made a = stopped_as c c log rest (log ++ rest) taken with_made a a refl refl refl refl (λ moment are. made_stopped table buckets taken.copies a.start moment are)

  in_made : (l : lists.StageList) → IsTakenIn c log taken l → IsTakenIn c (log ++ rest) with_made l
  in_made (lists.Files spaces) are = made_in_files table buckets taken.copies c.tracking.pages are
  in_made (lists.Pages list) are = λ a is. made_in_pages table buckets taken.copies a.start (are a is)
  in_made (lists.Redo start end) has = λ a is. stopped_made a (has a is)
  in_made lists.Nothing has = λ a is. stopped_made a (has a is)

  by_made : (o : Option lists.StageList) → IsTakenBy c log taken o → IsTakenBy c (log ++ rest) with_made o
  by_made None idle = made_idle table buckets taken.copies idle
  by_made (Some l) are = in_made l are

-- by the answer
module _ (d : staged.Donor) (e : Engine) (table buckets : ℕ) (taken : Taken) (grows : GrowsBy 2 d.engine.buffer.log e.buffer.log) where
  abbrev Before : Type 0
  Before = IsTakenBy d.cloning d.engine.buffer.log taken (list_of d.cloning)

  taken_then : (answer : Result EngineAnswer EngineRefusal) → Before → IsTakenBy d.cloning e.buffer.log (taken_by (to_engine.Create table buckets) answer taken) (list_of d.cloning)
  taken_then (Ok did) was =
      subst (λ (l : List (List Record)). IsTakenBy d.cloning l (taken_by (to_engine.Create table buckets) (Ok did) taken) (list_of d.cloning)) (sym grows.is)
      (by_made d.cloning d.engine.buffer.log grows.more taken table buckets (list_of d.cloning) was)
  taken_then (Err refusal) was = taken_grows d.cloning d.cloning taken (like_same d.cloning) d.engine.buffer.log e.buffer.log grows was

-- A TABLE IS MADE, or it isn't
pub create_acts : (d : staged.Donor) (e : Engine) (table buckets : ℕ) (answer : Result EngineAnswer EngineRefusal) (c : Cloning) → c ≡ d.cloning → IsDonor d → Makes (to_engine.Create table buckets) d.engine e answer → KeepsPages d.engine e
    → EngineActs (to_engine.Create table buckets) answer d (record { engine = e; cloning = c })
create_acts d e table buckets answer c same is makes keeps =
    subst (λ (k : Cloning). EngineActs (to_engine.Create table buckets) answer d (record { engine = e; cloning = k })) (sym same) (record {
      does = record { steps = makes.step; cloning = refl };
      donor = donor_goes d e d.cloning is makes.goes (record { ring = refl; archive = refl; list = refl }) (own_goes d e d.cloning is makes.goes (record { ring = refl; archive = refl; list = refl }) keeps)
          (noted_stay d.engine e keeps makes.goes.tells d.cloning.tracking.pages is.notes);
      taken = λ taken was. record {
        stands = makes.copies taken.copies was.stands;
        stage = told_stays (IsTakenBy d.cloning d.engine.buffer.log taken (list_of d.cloning)) (IsTakenBy d.cloning e.buffer.log (taken_by (to_engine.Create table buckets) answer taken) (list_of d.cloning)) d.engine.disk.told e.disk.told makes.goes.tells (taken_then d e table buckets taken makes.goes.log.log answer) was.stage;
      };
    })
