-- A call of a flush: what it leaves of an engine, and of a donor.
use Rattle.std.proofs.Common.{[], ◌≡◌, ◌≢◌, ◌≤◌, ◌+◌, ◌⊎◌, ◌∙◌, ℕ, Bool, true, false, inl, inr, arith, refl, sym, ap, subst, Option, None, Some, Result, Ok, Err, ◌<◌, List, ◌∷◌, nat_le, nat_lt, IsSome, is_some, if◌then◌else◌, ◌==◌, cond, IsTrue, option_map}
use Rattle.std.proofs.lemmas.Bool.{and_parts, cases_eq, leb-true, le-leb, ltb-true, eqb-true}
use Rattle.std.specs.Prelude.{nat_lt, IsErrOf}
use Rattle.std.specs.FinMap as finite
use Rattle.clone_outside.specs.Disk.{DiskImage, ForTold, IsBeforeOrAfter, Steps, half_written, rest_written, opened}
use Rattle.clone_image.proofs.Images.{get-put_same, get-put_other}
use Rattle.clone_model.specs.declared.line.TheConstants.{MOST_PAGES}
use Rattle.clone_pool.specs.declared.frame.PageName.{PageName}
use Rattle.clone_flush.specs.Flights.{Files, ends_before, is_short, Flights, HasFiles, IsFlown, StandsFlown, beside_of, beyond}
use Rattle.clone_flush.specs.declared.refusal.FlushRefusal.{FlushRefusal}
use Rattle.clone_engine.specs.Donor.{HasPages, IsPageOf, NotesPages, list_of, Donor, IsDonor}
use Rattle.clone_engine.proofs.GoingLemmas.{same_files, stopped_as, Like, like, like_same, StaysNear, Stays, donor_goes, noted_stay, of_few, own_goes, same_image, stays}
use Rattle.clone_image.specs.Image.{page_of}
use Rattle.clone_image.specs.Redone.{past_end}
use Rattle.clone_image.specs.Replay.{replayed}
use Rattle.clone_mtr.specs.declared.record.Record.{Record}
use Rattle.clone_pool.specs.Frames.{begun, landed, failed}
use Rattle.clone_pool.specs.Pool.{IsPool}
use Rattle.clone_buffer.specs.Buffered.{Buffered, IsBuffer, image_of}
use Rattle.clone_pool.proofs.NameLemmas.{named}
use Rattle.clone_pool.specs.Index.{is_name_of, is_same}
use Rattle.clone_law.specs.Machine as machine
use Rattle.clone_law.specs.Rule.{CopyRule}
use Rattle.clone_buffer.specs.Flushing.{with_change, with_noted, with_noted as with_noted_page}
use Rattle.clone_buffer.specs.OnePage.{Copies, engine_of, no_copies}
use Rattle.clone_buffer.proofs.LawLemmas.{copy_kept}
use Rattle.clone_flush.specs.declared.flusher.PageWrite.{PageWrite}
use Rattle.clone_flush.proofs.FlightLemmas.{told_stepped}
use Rattle.clone_flush.proofs.FileLemmas.{known_is, long_is, short_is, short_known}
use Rattle.clone_recover.specs.Reading.{AreOfTables}
use Rattle.clone_plain.specs.Donor as plain
use Rattle.clone_trx.specs.Kept.{Keeps}
use Rattle.clone_trx.proofs.Common.{same_Some}
use Rattle.clone_outside.specs.DiskCalls.{Counts, DiskState}
use Rattle.clone_engine.specs.Engine.{AreOfDonor, IsEngine, LiesIn, MakesPages, Engine, StandsBeside, state_of}
use Rattle.clone_engine.proofs.EngineLemmas.{stands_with, engine, retold, below_there, change_keeps, dirty_held, dirty_known, in_image, page_written, raised_files}
use Rattle.clone_engine.proofs.ToldLemmas.{for_told, step_tells, either_tells, told_either, told_stays, told_both}
use Rattle.std.proofs.lemmas.List.{append-nil}
use Rattle.std.specs.Option.{ForSome}
use Rattle.clone_track.specs.TrackedPages.{Pages, noted}
use Rattle.clone_archive.specs.Archived.{Archived}
use Rattle.clone_snapshot.specs.StageLists as lists
use Rattle.clone_session.specs.Cloning.{Cloning, Session, IsCloning, IsInSession, IsInStage}
use Rattle.clone_engine.specs.Copies.{AreInFiles, AreInPages, is_noted}
use Rattle.clone_engine.specs.Taken.{HasStopped, IsTakenBy, IsTakenIn, Taken, IsTaken}
use Rattle.clone_engine.proofs.TakenPages.{begun_idle, begun_in_files, begun_in_pages, begun_stopped, noted_by}
use Rattle.clone_ring.specs.Window.{Window, end_of}
use Rattle.clone_flush.specs.Calls as flushing
use Rattle.clone_flush.specs.declared.refusal.FlushRefusal.TheVariants as flush
use Rattle.clone_plain.specs.declared.call.EngineAnswer.{EngineAnswer}
use Rattle.clone_plain.specs.declared.call.EngineAnswer.TheVariants as answers
use Rattle.clone_plain.specs.declared.call.EngineCall.{EngineCall}
use Rattle.clone_plain.specs.declared.call.EngineCall.TheVariants as call
use Rattle.clone_plain.specs.declared.refusal.Cause.TheVariants as cause
use Rattle.clone_plain.specs.declared.refusal.EngineRefusal.{EngineRefusal}
use Rattle.clone_plain.specs.declared.refusal.EngineRefusal.TheVariants as refusal
use Rattle.clone_plain.specs.declared.refusal.EngineRefusal.TheVariants.{Because}
use Rattle.clone_session.specs.Effects as effects
use Rattle.clone_engine.specs.Acts as act
use Rattle.clone_engine.specs.Growth.{GoesOn, KeepsFiles, KeepsPages}
use Rattle.clone_engine.specs.Serving.{AnswersCall, taken_by}
use Rattle.clone_engine.specs.Steps as steps
use Rattle.clone_engine.specs.Steps.{AnswersFlush, Flushes, answer_of, flush_answer}
use Rattle.clone_engine.proofs.SessionActs.{like_stays}
use Rattle.clone_engine.proofs.WayLemmas.{log_same}

-- A call of a flush, and what it leaves of an engine.

-- What the beginning of a flush leaves: the log with its ring, the checkpoint, and each file, as
-- long as it was at least.

-- the log, its ring and the checkpoint stay, and no file gets shorter
pub record Still (old new : flushing.State) : Type 0 where
  pub log : new.buffer.log ≡ old.buffer.log
  pub ring : new.buffer.ring ≡ old.buffer.ring
  pub checkpoint : new.flights.checkpoint ≡ old.flights.checkpoint
  pub files : KeepsFiles old.flights.files new.flights.files

pub still_as : (old like new : flushing.State) → Still old like → new ≡ like → Still old new
still_as old like new still is = subst (Still old) (sym is) still

-- A file that ends before a page gets longer.
module _ (files : Files) (space number : ℕ) (short : ends_before (finite.get files space) number ≡ true) where
  below : (o : Option ℕ) (pages : ℕ) → o ≡ Some pages → ends_before o number ≡ true → pages ≤ number
  below None pages known short = absurd (cc)
  below (Some count) pages known short = let same : count ≡ pages = cc in omega (arith, same, leb-true count number short)

  longer : KeepsFiles files (finite.insert files space (number + 1))
  longer s pages known = by (cases_eq s space)
    where
      by : (s ≡ space) ⊎ (s ≢ space) → HasPages (finite.insert files space (number + 1)) (s, pages)
      by (inl same) = record {
        pages = number + 1;
        known = ap (finite.get (finite.insert files space (number + 1))) same ∙ get-put_same files space (number + 1);
        enough = omega (arith, below (finite.get files space) pages (sym (ap (finite.get files) same) ∙ known) short);
      }
      by (inr other) = record { pages = pages; known = get-put_other files space s (number + 1) other ∙ known; enough = omega arith }

module _ (page : PageName) (old new : flushing.State) where
  abbrev files : Files
  files = old.flights.files

  same : KeepsFiles files files
  same = same_files files files refl

  as_it_was : new ≡ old → Still old new
  as_it_was is = still_as old old new (record { log = refl; ring = refl; checkpoint = refl; files = same }) is

  refused_still : (refusal : FlushRefusal) (before after : Option DiskImage) → flushing.RefusesBegin refusal page old new before after → Still old new
  refused_still flush.NotDirty before after is = as_it_was is.1
  refused_still flush.InFlight before after is = as_it_was is.3
  refused_still flush.NoFlush before after is = absurd is
  refused_still flush.DiskFault before after is = still_as old _ new (record { log = refl; ring = refl; checkpoint = refl; files = same }) is.state
  refused_still flush.NoMemory before after is = as_it_was is.0

  -- where the page's file is short it gets longer, and else it stays
  long_files : (short : Bool) → flushing.ends_short page old.flights ≡ short → KeepsFiles files (flushing.lengthened short page old.flights).files
  long_files false is = same
  long_files true is = longer files page.space page.number (and_parts (is_short files page.space page.number) (nat_lt page.number MOST_PAGES) is).0

  pub begin_still : (before after : Option DiskImage) (r : Result (Unit {0}) FlushRefusal) → flushing.Begins page old new before after r → Still old new
  begin_still before after (Ok x) is =
      still_as old _ new (record { log = refl; ring = refl; checkpoint = long_checkpoint (flushing.ends_short page old.flights); files = long_files (flushing.ends_short page old.flights) refl }) is.2
    where
      long_checkpoint : (short : Bool) → (flushing.lengthened short page old.flights).checkpoint ≡ old.flights.checkpoint
      long_checkpoint false = refl
      long_checkpoint true = refl
  begin_still before after (Err refusal) is = refused_still refusal before after is

  -- a page whose flush began was dirty
  pub begun_dirty : (before after : Option DiskImage) (r : Result (Unit {0}) FlushRefusal) → flushing.has_begun r ≡ true → flushing.Begins page old new before after r → (at : ℕ) × flushing.HasDirty page old.buffer at
  begun_dirty before after (Ok x) begun is = (is.0, is.1.dirty)
  begun_dirty before after (Err flush.DiskFault) begun is = (is.at, is.waits.dirty)
  begun_dirty before after (Err flush.NotDirty) begun is = absurd (cc)
  begun_dirty before after (Err flush.InFlight) begun is = absurd (cc)
  begun_dirty before after (Err flush.NoFlush) begun is = absurd (cc)
  begun_dirty before after (Err flush.NoMemory) begun is = absurd (cc)

-- What holds of every donor, after a call of a flush.

-- the same log makes the pages of the same files
makes_same : (fs gs : Files) (old new : Buffered) → gs ≡ fs → new.log ≡ old.log → MakesPages fs old → MakesPages gs new
makes_same fs gs old new is log = subst (λ (p : Files × List (List Record)). (space number : ℕ) → LiesIn p.0 space number → IsSome (page_of (replayed p.1) space number)) (λ i. (sym is i, sym log i))

-- A FLUSH BEGINS, or doesn't.

-- without a clone no tracker notes it
no_tracker : (page : PageName) → with_noted page no_copies ≡ no_copies
no_tracker page = λ i. λ space number. either (is_name_of page (Some (record { space = space; number = number }))) i
  where
    either : (b : Bool) → (if b then machine.Idle else machine.Idle) ≡ machine.Idle
    either true = refl
    either false = refl

-- the log makes each page within its file, after that was lengthened to a page that it makes
made_to : (b : Buffered) (files : Files) (page : PageName) → IsSome (page_of (image_of b) page.space page.number) → MakesPages files b → MakesPages (finite.insert files page.space (page.number + 1)) b
made_to b files page there made space number inside = by (cases_eq space page.space)
  where
    by : (space ≡ page.space) ⊎ (space ≢ page.space) → IsSome (page_of (image_of b) space number)
    by (inl same) =
        let value = same_Some (page.number + 1) inside.pages (sym (get-put_same files page.space (page.number + 1)) ∙ ap (finite.get (finite.insert files page.space (page.number + 1))) (sym same) ∙ inside.file) in
        subst (λ (s : ℕ). IsSome (page_of (image_of b) s number)) (sym same) (below_there b page.space page.number number there (omega (arith, inside.within, value)))
    by (inr other) = made space number (record { pages = inside.pages; file = sym (get-put_other files page.space space (page.number + 1) other) ∙ inside.file; within = inside.within })

-- What a clone may have of a page past the end of its file is what it had, or nothing.
module _ (page : PageName) (f : Flights) where
  abbrev IsLeft : Bool → ℕ → ℕ → Type 0
  IsLeft t s n = (beyond (flushing.lengthened t page f).files s n ≡ machine.Idle) ⊎ (beyond (flushing.lengthened t page f).files s n ≡ with_noted page (beyond f.files) s n)

  abbrev chosen : Bool → machine.Copy
  chosen t = if t then machine.Untracked (past_end ∷ []) else machine.Idle

  not_noted : (s n : ℕ) → is_name_of page (Some (record { space = s; number = n })) ≡ false → with_noted page (beyond f.files) s n ≡ beyond f.files s n
  not_noted s n is = ap (λ (b : Bool). if b then machine.noted (beyond f.files s n) else beyond f.files s n) is

  -- the page itself
  own_left : (t : Bool) → flushing.ends_short page f ≡ t → page.number < MOST_PAGES → beyond (flushing.lengthened t page f).files page.space page.number ≡ machine.Idle
  own_left false e low = ap chosen (long_is page f low e)
  own_left true e low = ap (λ (o : Option ℕ). chosen (ends_before o page.number)) (get-put_same f.files page.space (page.number + 1)) ∙ ap chosen (past (nat_le (page.number + 1) page.number) refl)
    where
      past : (b : Bool) → nat_le (page.number + 1) page.number ≡ b → b ≡ false
      past true is = absurd (let high = leb-true (page.number + 1) page.number is in omega (arith, high))
      past false is = refl

  -- another one
  other_left : (t : Bool) → flushing.ends_short page f ≡ t → (s n : ℕ) → is_name_of page (Some (record { space = s; number = n })) ≡ false → IsLeft t s n
  other_left false e s n is = inr (sym (not_noted s n is))
  other_left true e s n is = by (cases_eq s page.space)
    where
      by : (s ≡ page.space) ⊎ (s ≢ page.space) → IsLeft true s n
      by (inr other) = inr (ap (λ (o : Option ℕ). chosen (ends_before o n)) (get-put_other f.files page.space s (page.number + 1) other) ∙ sym (not_noted s n is))
      by (inl same) = at (nat_le (page.number + 1) n) refl
        where
          now : finite.get (flushing.lengthened true page f).files s ≡ Some (page.number + 1)
          now = ap (finite.get (flushing.lengthened true page f).files) same ∙ get-put_same f.files page.space (page.number + 1)

          at : (b : Bool) → nat_le (page.number + 1) n ≡ b → IsLeft true s n
          at false low = inl (ap (λ (o : Option ℕ). chosen (ends_before o n)) now ∙ ap chosen low)
          at true high =
              let known = short_known f.files page.space page.number (short_is page f e) in
              let was : is_short f.files s n ≡ true = ap (λ (o : Option ℕ). ends_before o n) (ap (finite.get f.files) same ∙ known.1) ∙ le-leb known.0 n (let above = leb-true (page.number + 1) n high in omega (arith, known.2, above)) in
              inr (ap (λ (o : Option ℕ). chosen (ends_before o n)) now ∙ ap chosen high ∙ sym (ap chosen was) ∙ sym (not_noted s n is))

  pub each_left : page.number < MOST_PAGES → (s n : ℕ) → IsLeft (flushing.ends_short page f) s n
  each_left low s n = by (is_name_of page (Some q)) refl
    where
      q : PageName
      q = record { space = s; number = n }

      by : (b : Bool) → is_name_of page (Some q) ≡ b → IsLeft (flushing.ends_short page f) s n
      by true is =
          let both : Some q ≡ Some page = named page (Some q) is in
          let same : page ≡ q = cc in
          inl (subst (λ (w : PageName). beyond (flushing.lengthened (flushing.ends_short page f) page f).files w.space w.number ≡ machine.Idle) same (own_left (flushing.ends_short page f) refl low))
      by false is = other_left (flushing.ends_short page f) refl s n is

  -- so the pages stand with it
  pub short_stays : (b : Buffered) (g : Flights) (m : DiskImage) → g.files ≡ (flushing.lengthened (flushing.ends_short page f) page f).files → page.number < MOST_PAGES → IsFlown b g (with_noted page (beyond f.files)) m → IsFlown b g (beyond g.files) m
  short_stays b g m files low k = subst (λ (fs : Files). IsFlown b g (beyond fs) m) (sym files) (stands_with b g (with_noted page (beyond f.files)) (beyond (flushing.lengthened (flushing.ends_short page f) page f).files) m k (λ s n. by s n (each_left low s n)))
    where
      R : ℕ → ℕ → machine.Copy → Type 0
      R s n c = CopyRule s n (engine_of b (beside_of g (with_noted page (beyond f.files))) m s n) c

      by : (s n : ℕ) → IsLeft (flushing.ends_short page f) s n → R s n (beyond (flushing.lengthened (flushing.ends_short page f) page f).files s n)
      by s n (inl idle) = subst (R s n) (sym idle) tt
      by s n (inr same) = subst (R s n) (sym same) (copy_kept b (beside_of g (with_noted page (beyond f.files))) m s n k.kept).copy

-- what holds of the donor still
pub record Begun (d : plain.Donor) (old new : flushing.State) (k l : DiskState) (page : PageName) (result : Result (Unit {0}) FlushRefusal) : Type 0 where
  pub engine_is : IsEngine (engine d new.buffer new.flights l)
  pub copies : (copies : Copies) → StandsFlown old.buffer old.flights copies k.told → StandsFlown new.buffer new.flights (flushing.after_begin page (flushing.has_begun result) copies) l.told
  pub tells : is_some l.told ≡ is_some k.told

either_step : (t : Bool) (page : PageName) (before after : Option DiskImage) → flushing.Lengthens t page before after → IsBeforeOrAfter before after (flushing.reaching page)
either_step false page before after same = inl same
either_step true page before after step = inr step

-- a flush that has begun, or has failed at once
module _ (d : plain.Donor) (old new : flushing.State) (k l : DiskState) (page : PageName) (at : ℕ) (p : IsPool old.buffer.pool) (b : IsBuffer old.buffer) (is : IsEngine (engine d old.buffer old.flights k)) (waits : flushing.Waits page old.buffer at) (either : IsBeforeOrAfter k.told l.told (flushing.reaching page)) where
  abbrev Known : Type 0
  Known = IsSome (finite.get old.flights.files page.space) × (page.number < MOST_PAGES) × IsSome (page_of (image_of old.buffer) page.space page.number)

  known : ForTold k.told (λ _. Known)
  known = by k.told is.stands
    where
      by : (told : Option DiskImage) → StandsFlown old.buffer old.flights no_copies told → ForTold told (λ _. Known)
      by None st = tt
      by (Some m) st =
          let own = dirty_known d old.buffer old.flights.files page at p b st.kept.right (is.keeps.kept st.kept.right) is.spaces waits.dirty in
          let found = in_image old.buffer page b st.kept.right (dirty_held old.buffer page at p waits.dirty) in
          (own.0, own.1, subst IsSome (sym found.1) refl)

  -- what is told then needs what is known where it was told
  pub told_then : (P : DiskImage → Type 0) → (Known → ForTold l.told P) → ForTold l.told P
  told_then P to = by k.told refl known
    where
      by : (told : Option DiskImage) → k.told ≡ told → ForTold told (λ _. Known) → ForTold l.told P
      by None none had = told_either k.told l.told (flushing.reaching page) (λ _. ⊥) P either (λ m no. absurd no) (λ m no. absurd no) (subst (λ (told : Option DiskImage). ForTold told (λ _. ⊥)) (sym none) tt)
      by (Some m) some had = to had

  -- each page within its file is made, where the files are so
  pub made_then : (files : Files) → new.buffer.log ≡ old.buffer.log → new.flights.files ≡ files → (Known → MakesPages old.flights.files old.buffer → MakesPages files old.buffer) → ForTold l.told (λ _. MakesPages new.flights.files new.buffer)
  made_then files log same to = told_then (λ _. MakesPages new.flights.files new.buffer) (λ own. told_either k.told l.told (flushing.reaching page) (λ _. MakesPages old.flights.files old.buffer) (λ _. MakesPages new.flights.files new.buffer) either (λ m. made own) (λ m. made own) is.within)
    where
      made : Known → MakesPages old.flights.files old.buffer → MakesPages new.flights.files new.buffer
      made own had = makes_same files new.flights.files old.buffer new.buffer same log (to own had)

lengthened_spaces : (d : plain.Donor) (page : PageName) (f : Flights) (t : Bool) → flushing.ends_short page f ≡ t → AreOfDonor d f.files → AreOfDonor d (flushing.lengthened t page f).files
lengthened_spaces d page f false e are = are
lengthened_spaces d page f true e are = raised_files d f.files page.space (page.number + 1) (known_is page f e) (let low : page.number < MOST_PAGES = ltb-true page.number MOST_PAGES (and_parts (is_short f.files page.space page.number) (nat_lt page.number MOST_PAGES) e).1 in (omega (arith), omega (arith, low))) are

lengthened_made : (b : Buffered) (page : PageName) (f : Flights) (t : Bool) → IsSome (page_of (image_of b) page.space page.number) → MakesPages f.files b → MakesPages (flushing.lengthened t page f).files b
lengthened_made b page f false there made = made
lengthened_made b page f true there made = made_to b f.files page there made

-- nothing has changed
unchanged : (d : plain.Donor) (old new : flushing.State) (k l : DiskState) → new ≡ old → l.told ≡ k.told → IsEngine (engine d old.buffer old.flights k) → IsEngine (engine d new.buffer new.flights l)
unchanged d old new k l same told is = subst (λ (s : flushing.State). IsEngine (engine d s.buffer s.flights l)) (sym same) (retold (engine d old.buffer old.flights k) l told is)

module _ (d : plain.Donor) (old new : flushing.State) (k l : DiskState) (page : PageName) (result : Result (Unit {0}) FlushRefusal) where
  -- what the flusher ensures
  pub record Ensures : Type 0 where
    pub counts : Counts (IsErrOf result flush.DiskFault) k l
    pub begins : flushing.Begins page old new k.told l.told result
    pub files : ForTold k.told (HasFiles old.flights.files) → ForTold l.told (HasFiles new.flights.files)
    pub stands : (copies : Copies) → StandsFlown old.buffer old.flights copies k.told → ForTold k.told (HasFiles old.flights.files) → IsSome (finite.get old.flights.files page.space) → page.number < MOST_PAGES
        → StandsFlown new.buffer new.flights (flushing.after_begin page (flushing.has_begun result) copies) l.told
    pub unwritten : result ≡ Err flush.DiskFault → (copies : Copies) → StandsFlown old.buffer old.flights copies k.told → StandsFlown new.buffer new.flights copies l.told

began : (d : plain.Donor) (old new : flushing.State) (k l : DiskState) (page : PageName) (x : Unit {0}) → IsPool old.buffer.pool → IsBuffer old.buffer → IsEngine (engine d old.buffer old.flights k) → Ensures d old new k l page (Ok x) → Begun d old new k l page (Ok x)
began d old new k l page x p b is en = record {
  engine_is = record {
    keeps = subst (λ (s : flushing.State). Keeps d s.buffer) (sym path) (change_keeps d old.buffer at begun refl is.keeps);
    stands = subst (λ (copies : Copies). StandsFlown new.buffer new.flights copies l.told) (no_tracker page) (all no_copies is.stands);
    files = en.files is.files;
    spaces = subst (AreOfDonor d) (sym files_are) (lengthened_spaces d page old.flights (flushing.ends_short page old.flights) refl is.spaces);
    within = made_then d old new k l page at p b is waits either (flushing.lengthened (flushing.ends_short page old.flights) page old.flights).files log files_are (λ own. lengthened_made old.buffer page old.flights (flushing.ends_short page old.flights) own.2);
    short = told_then d old new k l page at p b is waits either (IsFlown new.buffer new.flights (beyond new.flights.files)) (λ own. for_told (IsFlown new.buffer new.flights (with_noted page (beyond old.flights.files))) (IsFlown new.buffer new.flights (beyond new.flights.files)) l.told
        (λ m. short_stays page old.flights new.buffer new.flights m files_are own.1) (all (beyond old.flights.files) is.short));
    tables = subst AreOfTables (sym log) is.tables;
  };
  copies = all;
  tells = either_tells k.told l.told (flushing.reaching page) either;
}
  where
    at : ℕ
    at = en.begins.0

    waits : flushing.Waits page old.buffer at
    waits = en.begins.1

    path : new ≡ record { buffer = with_change at begun old.buffer; flights = flushing.with_write page (flushing.new_write at old.buffer) (flushing.lengthened (flushing.ends_short page old.flights) page old.flights) }
    path = en.begins.2

    either : IsBeforeOrAfter k.told l.told (flushing.reaching page)
    either = either_step (flushing.ends_short page old.flights) page k.told l.told en.begins.3

    log : new.buffer.log ≡ old.buffer.log
    log = ap (λ (s : flushing.State). s.buffer.log) path

    files_are : new.flights.files ≡ (flushing.lengthened (flushing.ends_short page old.flights) page old.flights).files
    files_are = ap (λ (s : flushing.State). s.flights.files) path

    all : (copies : Copies) → StandsFlown old.buffer old.flights copies k.told → StandsFlown new.buffer new.flights (with_noted page copies) l.told
    all copies st = told_then d old new k l page at p b is waits either (IsFlown new.buffer new.flights (with_noted page copies)) (λ own. en.stands copies st is.files own.0 own.1)

failed_at_once : (d : plain.Donor) (old new : flushing.State) (k l : DiskState) (page : PageName) → IsPool old.buffer.pool → IsBuffer old.buffer → IsEngine (engine d old.buffer old.flights k) → Ensures d old new k l page (Err flush.DiskFault) → Begun d old new k l page (Err flush.DiskFault)
failed_at_once d old new k l page p b is en = record {
  engine_is = record {
    keeps = subst (λ (s : flushing.State). Keeps d s.buffer) (sym fails.state) (change_keeps d (with_change fails.at begun old.buffer) fails.at failed refl (change_keeps d old.buffer fails.at begun refl is.keeps));
    stands = en.unwritten refl no_copies is.stands;
    files = en.files is.files;
    spaces = subst (AreOfDonor d) (sym files_are) is.spaces;
    within = made_then d old new k l page fails.at p b is fails.waits fails.disk old.flights.files log files_are (λ own made. made);
    short = subst (λ (fs : Files). StandsFlown new.buffer new.flights (beyond fs) l.told) (sym files_are) (en.unwritten refl (beyond old.flights.files) is.short);
    tables = subst AreOfTables (sym log) is.tables;
  };
  copies = λ copies st. told_then d old new k l page fails.at p b is fails.waits fails.disk (IsFlown new.buffer new.flights (with_noted page copies)) (λ own. en.stands copies st is.files own.0 own.1);
  tells = either_tells k.told l.told (flushing.reaching page) fails.disk;
}
  where
    fails : flushing.FailsToLengthen page old new k.told l.told
    fails = en.begins

    log : new.buffer.log ≡ old.buffer.log
    log = ap (λ (s : flushing.State). s.buffer.log) fails.state

    files_are : new.flights.files ≡ old.flights.files
    files_are = ap (λ (s : flushing.State). s.flights.files) fails.state

nothing_began : (d : plain.Donor) (old new : flushing.State) (k l : DiskState) (page : PageName) (result : Result (Unit {0}) FlushRefusal) → flushing.has_begun result ≡ false → new ≡ old → l.told ≡ k.told → IsEngine (engine d old.buffer old.flights k) → Begun d old new k l page result
nothing_began d old new k l page result none same told is = record {
  engine_is = unchanged d old new k l same told is;
  copies = λ copies st. subst (λ (t : Bool). StandsFlown new.buffer new.flights (flushing.after_begin page t copies) l.told) (sym none) (subst (λ (s : flushing.State). StandsFlown s.buffer s.flights copies l.told) (sym same) (subst (StandsFlown old.buffer old.flights copies) (sym told) st));
  tells = ap is_some told;
}

pub begun_engine : (d : plain.Donor) (old new : flushing.State) (k l : DiskState) (page : PageName) (result : Result (Unit {0}) FlushRefusal) → IsPool old.buffer.pool → IsBuffer old.buffer → IsEngine (engine d old.buffer old.flights k) → Ensures d old new k l page result → Begun d old new k l page result
begun_engine d old new k l page (Ok x) p b is en = began d old new k l page x p b is en
begun_engine d old new k l page (Err flush.DiskFault) p b is en = failed_at_once d old new k l page p b is en
begun_engine d old new k l page (Err flush.NotDirty) p b is en = nothing_began d old new k l page (Err flush.NotDirty) refl en.begins.1 en.begins.2 is
begun_engine d old new k l page (Err flush.InFlight) p b is en = nothing_began d old new k l page (Err flush.InFlight) refl en.begins.3 en.begins.4 is
begun_engine d old new k l page (Err flush.NoFlush) p b is en = absurd en.begins
begun_engine d old new k l page (Err flush.NoMemory) p b is en = nothing_began d old new k l page (Err flush.NoMemory) refl en.begins.0 en.begins.1 is

-- A HALF IS WRITTEN, or isn't.

pub record Written (d : plain.Donor) (old new : flushing.State) (before after : Option DiskImage) : Type 0 where
  pub keeps : Keeps d old.buffer → Keeps d new.buffer
  pub still : Still old new
  pub same : new.flights.files ≡ old.flights.files
  pub files : ForTold before (HasFiles old.flights.files) → ForTold after (HasFiles old.flights.files)
  pub tells : is_some after ≡ is_some before

-- all of it stays
stands_still : (s : flushing.State) → Still s s
stands_still s = record { log = refl; ring = refl; checkpoint = refl; files = same_files s.flights.files s.flights.files refl }

nothing : (d : plain.Donor) (old new : flushing.State) (before after : Option DiskImage) → new ≡ old → after ≡ before → Written d old new before after
nothing d old new before after same told = record {
  keeps = subst (λ (s : flushing.State). Keeps d s.buffer) (sym same);
  still = still_as old old new (stands_still old) same;
  same = ap (λ (s : flushing.State). s.flights.files) same;
  files = subst (λ (t : Option DiskImage). ForTold t (HasFiles old.flights.files)) (sym told);
  tells = ap is_some told;
}

something : (d : plain.Donor) (old new next : flushing.State) (before after : Option DiskImage) (step : DiskImage → DiskImage) → new ≡ next → (Keeps d old.buffer → Keeps d next.buffer) → Still old next → next.flights.files ≡ old.flights.files → ((m : DiskImage) → HasFiles old.flights.files m → HasFiles old.flights.files (step m)) → Steps before after step
    → Written d old new before after
something d old new next before after step is keeps still same files stepped = record {
  keeps = λ k. subst (λ (s : flushing.State). Keeps d s.buffer) (sym is) (keeps k);
  still = still_as old next new still is;
  same = ap (λ (s : flushing.State). s.flights.files) is ∙ same;
  files = told_stepped (HasFiles old.flights.files) (HasFiles old.flights.files) before after step stepped files;
  tells = step_tells before after step stepped;
}

abbrev refused : FlushRefusal → Result (Unit {0}) FlushRefusal
refused refusal = Err refusal

module _ (d : plain.Donor) (page : PageName) (old new : flushing.State) (before after : Option DiskImage) where
  still : Still old old
  still = stands_still old

  refused_half : (halved : Bool) (refusal : FlushRefusal) (state : ℕ → PageWrite → flushing.State) (disk : PageWrite → DiskImage → DiskImage) → flushing.WritesHalf page halved old new before after (refused refusal) state disk → Written d old new before after
  refused_half halved flush.NoFlush state disk is = nothing d old new before after is.1 is.2
  refused_half halved flush.DiskFault state disk is = something d old new _ before after _ is.3 (change_keeps d old.buffer is.1 failed refl) (record { log = refl; ring = refl; checkpoint = refl; files = still.files }) refl (λ m files. page_written old.flights.files m page.space page.number (opened is.4.0) files) is.4.1
  refused_half halved flush.NoMemory state disk is = nothing d old new before after is.0 is.1
  refused_half halved flush.NotDirty state disk is = absurd is
  refused_half halved flush.InFlight state disk is = absurd is

  pub half_written_is : (result : Result (Unit {0}) FlushRefusal) → flushing.Halves page old new before after result → Written d old new before after
  half_written_is (Ok x) is = something d old new _ before after _ is.3 (λ k. k) (record { log = refl; ring = refl; checkpoint = refl; files = still.files }) refl (λ m files. page_written old.flights.files m page.space page.number (half_written is.0.image) files) is.4
  half_written_is (Err refusal) is = refused_half false refusal _ _ is

  pub landed_is : (result : Result (Unit {0}) FlushRefusal) → flushing.Lands page old new before after result → Written d old new before after
  landed_is (Ok x) is = something d old new _ before after _ is.3 (change_keeps d old.buffer is.1 landed refl) (record { log = refl; ring = refl; checkpoint = refl; files = still.files }) refl (λ m files. page_written old.flights.files m page.space page.number (rest_written is.0.image) files) is.4
  landed_is (Err refusal) is = refused_half true refusal _ _ is

pub written_engine : (d : plain.Donor) (old new : flushing.State) (k l : DiskState) → IsEngine (engine d old.buffer old.flights k) → Written d old new k.told l.told → ((copies : Copies) → StandsFlown old.buffer old.flights copies k.told → StandsFlown new.buffer new.flights copies l.told) → IsEngine (engine d new.buffer new.flights l)
written_engine d old new k l is w stands = record {
  keeps = w.keeps is.keeps;
  stands = stands no_copies is.stands;
  files = subst (λ (fs : Files). ForTold l.told (HasFiles fs)) (sym w.same) (w.files is.files);
  spaces = subst (AreOfDonor d) (sym w.same) is.spaces;
  within = told_stays (MakesPages old.flights.files old.buffer) (MakesPages new.flights.files new.buffer) k.told l.told w.tells (makes_same old.flights.files new.flights.files old.buffer new.buffer w.same w.still.log) is.within;
  short = subst (λ (fs : Files). StandsFlown new.buffer new.flights (beyond fs) l.told) (sym w.same) (stands (beyond old.flights.files) is.short);
  tables = subst AreOfTables (sym w.still.log) is.tables;
}

-- The calls of a flush, made on a donor.

-- A page whose flush begins is noted, while pages are tracked.

-- a dirty page is one of the image
pub dirty_own : (e : Engine) (page : PageName) (at : ℕ) → IsBuffer e.buffer → IsPool e.buffer.pool → IsTrue e.buffer.right → flushing.HasDirty page e.buffer at → IsPageOf e page.space page.number
dirty_own e page at buffer pool right dirty = ap is_some (in_image e.buffer page buffer right (dirty_held e.buffer page at pool dirty)).1

module _ (e : Engine) (page : PageName) (own : IsPageOf e page.space page.number) where
  -- so is each page that was noted
  pub noted_own : (pages : Option Pages) → NotesPages e pages → NotesPages e (noted (page.space, page.number) pages)
  noted_own None notes space number is = notes space number is
  noted_own (Some set) notes space number is =
      by (is_same page (record { space = space; number = number })) refl (sym (noted_by (Some set) page space number refl) ∙ is)
    where
      by : (same : Bool) → is_same page (record { space = space; number = number }) ≡ same → cond same true (is_noted (Some set) space number) ≡ true → IsPageOf e space number
      by false other is = notes space number is
      by true same is =
          let both = and_parts (page.space == space) (page.number == number) same in
          subst (λ n. IsPageOf e space n) (eqb-true page.number number both.1) (subst (λ s. IsPageOf e s page.number) (eqb-true page.space space both.0) own)

-- while files are copied, pages are tracked
pub tracks_files : (c : Cloning) (spaces : List (ℕ × ℕ)) → IsCloning c → list_of c ≡ Some (lists.Files spaces) → IsSome c.tracking.pages
tracks_files c spaces is list = by c.session is.session list
  where
    by : (o : Option Session) → IsInSession c o → option_map (λ (s : Session). s.snap.list) o ≡ Some (lists.Files spaces) → IsSome c.tracking.pages
    by None idle list = absurd (cc)
    by (Some s) in_session list =
        let same : s.snap.list ≡ lists.Files spaces = cc in
        (subst (IsInStage c s) same in_session.2).tracked

-- What was taken, once the page is noted.
module _ (old new : Cloning) (log : List (List Record)) (taken : Taken) (page : PageName)
    (pages : new.tracking.pages ≡ noted (page.space, page.number) old.tracking.pages) (archive : new.archive ≡ old.archive) (stop : new.stop ≡ old.stop) where
  abbrev pub noted_taken : Taken
  noted_taken = record taken { copies = with_noted_page page taken.copies }

  stopped : (a : Archived) → HasStopped old log taken a → HasStopped new log noted_taken a
  stopped a = stopped_as old new log [] log taken noted_taken a a (sym (append-nil log)) stop refl refl (λ moment are. begun_stopped a.start moment page taken.copies are)

  in_noted : (l : lists.StageList) → ((spaces : List (ℕ × ℕ)) → l ≡ lists.Files spaces → IsSome old.tracking.pages) → IsTakenIn old log taken l → IsTakenIn new log noted_taken l
  in_noted (lists.Files spaces) tracks are = subst (λ (o : Option Pages). AreInFiles o (with_noted_page page taken.copies)) (sym pages) (begun_in_files old.tracking.pages page taken.copies (tracks spaces refl) are)
  in_noted (lists.Pages list) tracks are = subst (λ (o : Option Archived). ForSome o (λ a. AreInPages a.start (with_noted_page page taken.copies))) (sym archive) (λ a is. begun_in_pages a.start page taken.copies (are a is))
  in_noted (lists.Redo start end) tracks has = subst (λ (o : Option Archived). ForSome o (HasStopped new log noted_taken)) (sym archive) (λ a is. stopped a (has a is))
  in_noted lists.Nothing tracks has = subst (λ (o : Option Archived). ForSome o (HasStopped new log noted_taken)) (sym archive) (λ a is. stopped a (has a is))

  by_noted : (o : Option lists.StageList) → list_of old ≡ o → IsCloning old → IsTakenBy old log taken o → IsTakenBy new log noted_taken o
  by_noted None none k idle = begun_idle page taken.copies idle
  by_noted (Some l) some k are = in_noted l (λ spaces files. tracks_files old spaces k (some ∙ ap (λ (l : lists.StageList). Some l) files)) are

  pub note_taken : list_of new ≡ list_of old → IsCloning old → IsTakenBy old log taken (list_of old) → IsTakenBy new log noted_taken (list_of new)
  note_taken list k is = subst (IsTakenBy new log noted_taken) (sym list) (by_noted (list_of old) refl k is)

-- The calls of a flush, made on a donor.

-- WHAT A CALL OF A FLUSH ANSWERS
module _ (did : EngineAnswer) where
  abbrev pub flushed : Result (Unit {0}) FlushRefusal → Result EngineAnswer EngineRefusal
  flushed r = answer_of (λ (x : Unit {0}). did) (flush_answer r)

  flush_answers : (Does : Result (Unit {0}) FlushRefusal → Type 0) (r : Result (Unit {0}) FlushRefusal) → Does r → AnswersFlush did Does (flushed r)
  flush_answers Does (Ok x) is = (refl, is)
  flush_answers Does (Err refusal) is = (refusal, refl, is)

  -- the disk failed exactly where the flush says so
  fault : (r : Result (Unit {0}) FlushRefusal) → flushed r ≡ Err (Because cause.DiskFault) → IsErrOf r flush.DiskFault
  fault (Ok x) is = absurd (let e = is in cc)
  fault (Err flush.DiskFault) is = refl
  fault (Err flush.NotDirty) is = absurd (let e = is in cc)
  fault (Err flush.InFlight) is = absurd (let e = is in cc)
  fault (Err flush.NoFlush) is = absurd (let e = is in cc)
  fault (Err flush.NoMemory) is = absurd (let e = is in cc)

  -- whether it has begun
  pub begun_is : (r : Result (Unit {0}) FlushRefusal) → steps.has_begun (flushed r) ≡ flushing.has_begun r
  begun_is (Ok x) = refl
  begun_is (Err flush.DiskFault) = refl
  begun_is (Err flush.NotDirty) = refl
  begun_is (Err flush.InFlight) = refl
  begun_is (Err flush.NoFlush) = refl
  begun_is (Err flush.NoMemory) = refl

  flushes : (s t : Engine) (Does : Result (Unit {0}) FlushRefusal → Type 0) (r : Result (Unit {0}) FlushRefusal) → t.donor ≡ s.donor → Does r → Counts (IsErrOf r flush.DiskFault) s.disk t.disk → is_some t.disk.told ≡ is_some s.disk.told → Flushes did s t (flushed r) Does
  flushes s t Does r same is counts tells = record {
    does = flush_answers Does r is;
    donor = same;
    disk = record { visits = record { later = counts.later; orders = counts.orders; tells = tells }; fault = λ is. counts.fault (fault r is) };
  }

-- A donor that goes on over a call of a flush, which leaves the log
module _ (d : Donor) (t : flushing.State) (l : DiskState) (space number : ℕ) (r : Result (Unit {0}) FlushRefusal) (is : IsDonor d) (buffer : IsBuffer t.buffer) where
  abbrev page : PageName
  page = record { space = space; number = number }

  abbrev s : flushing.State
  s = state_of d.engine

  abbrev pub flown : Engine
  flown = engine d.engine.donor t.buffer t.flights l

  goes : IsEngine flown → Still s t → is_some l.told ≡ is_some d.engine.disk.told → GoesOn d.engine flown
  goes is_engine begin_is tells = record {
    engine = is_engine;
    buffer = buffer;
    checkpoint = begin_is.checkpoint;
    tells = tells;
    log = of_few 0 d.engine flown (omega arith) (log_same 0 s.buffer.log t.buffer.log begin_is.log);
    ring = record {
      floor = ap (λ (w : Window). w.floor) begin_is.ring;
      size = ap (λ (w : Window). w.size) begin_is.ring;
      end = omega (arith, ap (λ (w : Window). end_of w) begin_is.ring);
    };
  }

  keeps : Still s t → KeepsPages d.engine flown
  keeps begin_is = record { files = begin_is.files; image = same_image d.engine flown begin_is.log }

  -- A HALF is written
  module _ (answer : Result (Unit {0}) EngineRefusal) (code : answer ≡ flush_answer r) (counts : Counts (IsErrOf r flush.DiskFault) d.engine.disk l) (stands : (copies : Copies) → StandsBeside d.engine copies → StandsBeside flown copies) where
    written : Written d.engine.donor s t d.engine.disk.told l.told → Stays d (record d { engine = flown })
    written w = stays d flown d.cloning (like_same d.cloning) is (goes (written_engine d.engine.donor s t d.engine.disk l is.engine w stands) w.still w.tells) (keeps w.still) stands

    acts : (call : EngineCall) (did : EngineAnswer) (Does : Result (Unit {0}) FlushRefusal → Type 0) → (Flushes did d.engine flown (flushed did r) Does → AnswersCall call d (record d { engine = flown }) (flushed did r)) → ((answer : Result EngineAnswer EngineRefusal) (taken : Taken) → taken_by call answer taken ≡ taken) → Does r
        → Written d.engine.donor s t d.engine.disk.told l.told → act.EngineActs call (answer_of (λ (x : Unit {0}). did) answer) d (record d { engine = flown })
    acts call did Does serves same does w =
        let on = written w in
        subst (λ (a : Result (Unit {0}) EngineRefusal). act.EngineActs call (answer_of (λ (x : Unit {0}). did) a) d (record d { engine = flown })) (sym code) (record {
          does = serves (flushes did d.engine flown Does r refl does counts w.tells);
          donor = on.donor;
          taken = λ taken was. subst (IsTaken (record d { engine = flown })) (sym (same (flushed did r) taken)) (on.taken taken was);
        })

    pub half_acts : flushing.Halves page s t d.engine.disk.told l.told r → act.EngineActs (call.FlushHalf space number) (answer_of (λ (x : Unit {0}). answers.FlushHalf) answer) d (record d { engine = flown })
    half_acts does = acts (call.FlushHalf space number) answers.FlushHalf (flushing.Halves page s t d.engine.disk.told l.told) (λ steps. record { steps = steps; cloning = refl }) (λ answer taken. refl) does (half_written_is d.engine.donor page s t d.engine.disk.told l.told r does)

    pub land_acts : flushing.Lands page s t d.engine.disk.told l.told r → act.EngineActs (call.FlushLand space number) (answer_of (λ (x : Unit {0}). answers.FlushLand) answer) d (record d { engine = flown })
    land_acts does = acts (call.FlushLand space number) answers.FlushLand (flushing.Lands page s t d.engine.disk.told l.told) (λ steps. record { steps = steps; cloning = refl }) (λ answer taken. refl) does (landed_is d.engine.donor page s t d.engine.disk.told l.told r does)

  -- A FLUSH BEGINS, or doesn't.
  module _ (pool : IsPool d.engine.buffer.pool) (old : IsBuffer d.engine.buffer) (k : IsCloning d.cloning) (c : Cloning) (ensures : Ensures d.engine.donor s t d.engine.disk l page r) where
    begins : Begun d.engine.donor s t d.engine.disk l page r
    begins = begun_engine d.engine.donor s t d.engine.disk l page r pool old is.engine ensures

    begin_is : Still s t
    begin_is = begin_still page s t d.engine.disk.told l.told r ensures.begins

    on : GoesOn d.engine flown
    on = goes begins.engine_is begin_is begins.tells

    abbrev after : Donor
    after = record { engine = flown; cloning = c }

    -- what is taken then, where it has begun, or hasn't
    abbrev taken_as : Bool → Taken → Taken
    taken_as begun taken = record taken { copies = flushing.after_begin page begun taken.copies }

    record Goes (begun : Bool) : Type 0 where
      pub donor : IsDonor after
      pub taken : (taken : Taken) → (StandsBeside d.engine taken.copies → StandsBeside flown (flushing.after_begin page begun taken.copies)) → IsTaken d taken → IsTaken after (taken_as begun taken)

    -- the page is one of the image, and so is each page that was noted
    begun_goes : flushing.has_begun r ≡ true → effects.Becomes c (effects.with_noted (space, number) d.cloning) → Goes true
    begun_goes begun becomes = record {
      donor = donor_goes d flown c is on near (own_goes d flown c is on near (keeps begin_is)) notes;
      taken = λ taken stands was. record {
        stands = stands was.stands;
        stage = told_stays (IsTakenBy d.cloning s.buffer.log taken (list_of d.cloning)) (IsTakenBy c t.buffer.log (taken_as true taken) (list_of c)) d.engine.disk.told l.told begins.tells
            (λ by. subst (λ (log : List (List Record)). IsTakenBy c log (taken_as true taken) (list_of c)) (sym begin_is.log) (note_taken d.cloning c s.buffer.log taken page same.pages same.archive same.stop same.list k by)) was.stage;
      };
    }
      where
        same : Like c (effects.with_noted (space, number) d.cloning)
        same = like c (effects.with_noted (space, number) d.cloning) becomes

        near : StaysNear c d.cloning
        near = record { ring = same.ring; archive = same.archive; list = same.list }

        notes : ForTold l.told (λ m. NotesPages flown c.tracking.pages)
        notes =
            let pages = noted (space, number) d.cloning.tracking.pages in
            let dirty = begun_dirty page s t d.engine.disk.told l.told r begun ensures.begins in
            subst (λ (o : Option Pages). ForTold l.told (λ m. NotesPages flown o)) (sym same.pages)
            (noted_stay d.engine flown (keeps begin_is) begins.tells pages
            (told_both (IsFlown s.buffer s.flights no_copies) (λ m. NotesPages d.engine d.cloning.tracking.pages) (λ m. NotesPages d.engine pages) d.engine.disk.told
            (λ m flown notes. noted_own d.engine page (dirty_own d.engine page dirty.0 old pool flown.kept.right dirty.1) d.cloning.tracking.pages notes) is.engine.stands is.notes))

    unbegun_goes : flushing.has_begun r ≡ false → effects.Becomes c d.cloning → Goes false
    unbegun_goes none becomes =
        let stands = λ (copies : Copies). subst (λ (b : Bool). StandsBeside d.engine copies → StandsBeside flown (flushing.after_begin page b copies)) none (begins.copies copies) in
        let on = stays d flown c (like c d.cloning becomes) is on (keeps begin_is) stands in
        record { donor = on.donor; taken = λ taken stands was. on.taken taken was }

    pub begin_acts : (answer : Result (Unit {0}) EngineRefusal) → answer ≡ flush_answer r → (begun : Bool) → steps.has_begun answer ≡ begun → effects.Becomes c (if begun then effects.with_noted (space, number) d.cloning else d.cloning) → act.EngineActs (call.FlushBegin space number) (answer_of (λ (x : Unit {0}). answers.FlushBegin) answer) d after
    begin_acts answer is begun code becomes = subst (λ (a : Result (Unit {0}) EngineRefusal). act.EngineActs (call.FlushBegin space number) (answer_of (λ (x : Unit {0}). answers.FlushBegin) a) d after) (sym is) (record {
      does = record {
        steps = flushes answers.FlushBegin d.engine flown (flushing.Begins page s t d.engine.disk.told l.told) r refl ensures.begins ensures.counts begins.tells;
        cloning = subst (λ (b : Bool). effects.Becomes c (if b then effects.with_noted (space, number) d.cloning else d.cloning)) (sym is_begun) becomes;
      };
      donor = (goes_as begun was becomes).donor;
      taken = λ taken. subst (λ (b : Bool). IsTaken d taken → IsTaken after (taken_as b taken)) (sym is_begun)
          ((goes_as begun was becomes).taken taken (subst (λ (b : Bool). StandsBeside d.engine taken.copies → StandsBeside flown (flushing.after_begin page b taken.copies)) was (begins.copies taken.copies)));
    })
      where
        same : (r : Result (Unit {0}) EngineRefusal) → steps.has_begun (answer_of (λ (x : Unit {0}). answers.FlushBegin) r) ≡ steps.has_begun r
        same (Ok x) = refl
        same (Err (Because cause.DiskFault)) = refl
        same (Err refusal) = refl

        is_begun : steps.has_begun (flushed answers.FlushBegin r) ≡ begun
        is_begun = same (flush_answer r) ∙ ap (λ (a : Result (Unit {0}) EngineRefusal). steps.has_begun a) (sym is) ∙ code

        was : flushing.has_begun r ≡ begun
        was = sym (begun_is answers.FlushBegin r) ∙ is_begun

        goes_as : (b : Bool) → flushing.has_begun r ≡ b → effects.Becomes c (if b then effects.with_noted (space, number) d.cloning else d.cloning) → Goes b
        goes_as true begun becomes = begun_goes begun becomes
        goes_as false none becomes = unbegun_goes none becomes

-- no flush begins where memory ran out
pub unbegun : (d : Donor) (c : Cloning) (space number : ℕ) → IsDonor d → effects.Becomes c d.cloning → act.EngineActs (call.FlushBegin space number) (Err refusal.NoMemory) d (record { engine = d.engine; cloning = c })
unbegun d c space number is becomes =
    let stays = like_stays d c (like c d.cloning becomes) is in
    record {
      does = record {
        steps = record { does = (flush.NoMemory, refl, (refl, refl)); donor = refl; disk = record { visits = record { later = omega arith; orders = refl; tells = refl }; fault = λ e. absurd (cc) } };
        cloning = becomes;
      };
      donor = stays.donor;
      taken = stays.taken;
    }
