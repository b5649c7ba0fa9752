-- The calls of a clone, made on a donor, but for its blocks.
use Rattle.std.proofs.Common.{IfOk, ◌⊎◌, inl, inr, ◌≢◌, eqb-true, MatchResult, [], ◌≡◌, ◌∙◌, ℕ, refl, sym, ap, subst, Option, Some, None, Result, Ok, Err, is_some, ◌≤◌, Bool, true, false, IfSome, nat_lt, nat_le, ◌&&◌, if◌then◌else◌, List, length, arith, ◌==◌, option_map}
use Rattle.std.specs.Prelude.{IsErr, IsErrAnd}
use Rattle.std.proofs.lemmas.Bool.{cases_eq}
use Rattle.clone_chunk.specs.Stages.{stage_number}
use Rattle.clone_session.specs.declared.ending.Moment.{Moment}
use Rattle.clone_outside.specs.Disk.{DiskImage, ForTold}
use Rattle.clone_outside.specs.DiskCalls.{DiskState, Orders}
use Rattle.clone_outside.specs.declared.disk.DiskOrder.{DiskOrder}
use Rattle.std.specs.declared.alloc.AllocError.{AllocError}
use Rattle.clone_track.specs.TrackedPages.{Pages, listed, all_noted}
use Rattle.clone_archive.specs.Archived.{Archived, kept_from, begun, stopped}
use Rattle.clone_contents.specs.Placed.{WasPlaced}
use Rattle.clone_flush.specs.Calls.{needed_from, floored, settled, nearest_in}
use Rattle.clone_flush.specs.Flights.{StandsFlown, beyond, IsFlown, beside_of}
use Rattle.clone_session.specs.declared.caller.Caller.{Caller}
use Rattle.clone_chunk.specs.declared.cause.CloneCause.{CloneCause}
use Rattle.clone_session.specs.Cloning.{Cloning, Session, CopiesPages, IsCloning, IsInSession, IsInStage, IsIdle}
use Rattle.clone_session.specs.declared.refusal.CloneRefusal.{CloneRefusal}
use Rattle.clone_session.specs.declared.refusal.CloneRefusal.TheVariants.{Because, NoMemory}
use Rattle.clone_session.specs.CloneCalls.{Claims, Decided, CanArchive, Archives, archived_on, Acknowledges, Reinits}
use Rattle.clone_chunk.specs.declared.partials.PartialChunk.{PartialChunk}
use Rattle.clone_session.specs.Effects.{Becomes, aside, left, acknowledged, advanced, created_since, rejoined, files_ended, pages_ended, stopped_at, Tells, opened, reopened}
use Rattle.clone_session.proofs.PartLemmas.{stands_as}
use Rattle.clone_calls.specs.declared.answer.DonorAnswer.{DonorAnswer}
use Rattle.clone_calls.specs.declared.answer.DonorAnswer.TheVariants as answer
use Rattle.clone_calls.specs.declared.call.DonorCall.{DonorCall}
use Rattle.clone_calls.specs.declared.call.DonorCall.TheVariants as call
use Rattle.clone_engine.specs.Acts as act
use Rattle.clone_engine.specs.Answering as answering
use Rattle.clone_engine.specs.Answering.{Answered, CarriesOut, CarriesOutFreely, taken_on}
use Rattle.clone_engine.specs.Donor.{Donor, IsDonor, NotesPages, CopiesOwn, list_of, ArePages, HasPages, known_files}
use Rattle.clone_engine.proofs.MomentLemmas.{can_same, can_settled, can_unarchived, can_archived, IsInRing, can_begun, can_stopped, nearest_in_ring, of_archived, floor_above, of_begun, of_stopped}
use Rattle.clone_engine.specs.Growth.{KeepsPages}
use Rattle.clone_engine.proofs.GoingLemmas.{stopped_as, Like, like, like_same, like_session, like_trans, Stays, is_taken, noted_stay, own_stays, same_files, same_image, taken_grows, in_stays}
use Rattle.clone_engine.proofs.EngineLemmas.{retold}
use Rattle.clone_engine.proofs.WayLemmas.{log_same}
use Rattle.std.specs.Option.{ForSome, option_map_or}
use Rattle.clone_ring.specs.Window.{Window, end_of, raised}
use Rattle.clone_buffer.specs.Buffered.{IsBuffer}
use Rattle.clone_buffer.specs.Flushing.{IsReached}
use Rattle.clone_buffer.specs.OnePage.{Copies, no_copies}
use Rattle.clone_pool.specs.Pool.{IsPool, AreOpenPages}
use Rattle.clone_flush.proofs.FlightLemmas.{floor_settled, stands_checked, stands_settled, start_told}
use Rattle.clone_plain.specs.declared.call.EngineAnswer.TheVariants as answers
use Rattle.clone_plain.specs.declared.call.EngineCall.TheVariants as to_engine
use Rattle.clone_engine.specs.Archives.{IsOfLog}
use Rattle.clone_engine.specs.Engine.{Engine, IsEngine, StandsBeside}
use Rattle.clone_engine.specs.Taken.{Taken, IsTaken, IsTakenBy, nothing, HasStopped, IsTakenIn}
use Rattle.clone_mtr.specs.declared.record.Record.{Record}
use Rattle.clone_engine.proofs.ToldLemmas.{for_told, for_one, of_told, told_both}
use Rattle.clone_engine.proofs.TakenPages.{left_flown, files_over_flown, pages_over_flown, first_flown, listed_pages, unnoted, all_entries, no_file, open_notes}
use Rattle.clone_snapshot.specs.StageLists as lists
use Rattle.clone_session.specs.declared.info.Stop.{Stop}
use Rattle.clone_engine.specs.Copies.{AreInFiles, AreInPages, AreStopped, files_over, first_copies}
use Rattle.std.proofs.lemmas.List.{append-nil}
use Rattle.clone_session.specs.declared.info.StageInfo.{StageInfo}
use Rattle.clone_session.specs.CloneCauses.{acknowledgement_cause, attach_cause, donor_stage, hello_cause}
use Rattle.clone_engine.specs.Copying.{moment_of, taken_after, taken_over, BeginsAs, taken_at}
use Rattle.std.specs.FinMap as finite
use Rattle.clone_buffer.specs.Reading.{OthersAreClosed}
use Rattle.clone_flush.specs.Flights as flights
use Rattle.clone_session.specs.declared.caller.Hello.{Hello}
use Rattle.clone_engine.specs.Reading.{ListsOpen}

-- A donor whose clone has changed in its room, its chunks or its caller alone, over a disk that
-- tells the same.

module _ (d : Donor) (k : DiskState) (told : k.told ≡ d.engine.disk.told) (c : Cloning) (same : Like c d.cloning) where
  abbrev pub retold_as : Donor
  retold_as = record { engine = record d.engine { disk = k }; cloning = c }

  keeps : KeepsPages d.engine retold_as.engine
  keeps = record { files = same_files d.engine.flights.files d.engine.flights.files refl; image = same_image d.engine retold_as.engine refl }

  pub retold_stays : IsDonor d → Stays d retold_as
  retold_stays is = record {
    donor = record {
      engine = retold d.engine k told is.engine;
      ring = same.ring ∙ is.ring;
      archives = can_same d.cloning c d.engine.buffer.ring same.archive is.archives;
      redo = λ a stands. is.redo a (sym same.archive ∙ stands);
      floor = subst (λ (p : Option DiskImage × Option Archived). ForTold p.0 (λ m. d.engine.buffer.ring.floor ≡ needed_from d.engine.flights.checkpoint (kept_from p.1))) (λ i. (sym told i, sym same.archive i)) is.floor;
      placed = subst (λ (o : Option DiskImage). ForTold o (λ m. (space number : ℕ) → WasPlaced space number d.engine.buffer.log)) (sym told) is.placed;
      own = λ l stands. own_stays d.engine retold_as.engine keeps (ap is_some told) l (is.own l (sym same.list ∙ stands));
      notes = subst (λ (o : Option Pages). ForTold k.told (λ m. NotesPages d.engine o)) (sym same.pages) (noted_stay d.engine retold_as.engine keeps (ap is_some told) d.cloning.tracking.pages is.notes);
    };
    taken = λ taken. is_taken d retold_as.engine c same (ap is_some told) (log_same 2 d.engine.buffer.log d.engine.buffer.log refl) taken (subst (StandsFlown d.engine.buffer d.engine.flights taken.copies) (sym told));
  }

pub like_stays : (d : Donor) (c : Cloning) → Like c d.cloning → IsDonor d → Stays d (record { engine = d.engine; cloning = c })
like_stays d c same is = retold_stays d d.engine.disk refl c same is

-- AN ORDER to the disk, given or not, leaves what it tells.
pub order_told : (order : DiskOrder) (old new : DiskState) (r : Result (Unit {0}) AllocError) → Orders order old new r → new.told ≡ old.told
order_told order old new (Ok x) is = ap (λ (s : DiskState). s.told) is
order_told order old new (Err e) is = ap (λ (s : DiskState). s.told) is

pub orders : (d : Donor) (k : DiskState) → k.told ≡ d.engine.disk.told → IsDonor d → act.Acts act.Orders d (record d { engine = record d.engine { disk = k } })
orders d k told is =
    let stays = retold_stays d k told d.cloning (like_same d.cloning) is in
    record { does = record { disk = k; told = told; same = refl }; donor = stays.donor; taken = stays.taken }

-- a call of a clone that wasn't carried out leaves what was
pub refused_becomes : {X : Type 0} (cause : Option CloneCause) (old new : Cloning) (refusal : CloneRefusal) (Does : X → Type 0) → Decided cause old new (Err refusal) Does → Becomes new old
refused_becomes cause old new (Because e) Does is = ap aside is.1
refused_becomes cause old new NoMemory Does is = is.1

-- A CALL OF A CLONE that leaves what its session copies, and what was taken.
pub quiet_acts : (asked : DonorCall) (given : DonorAnswer) (d : Donor) (c : Cloning) → Like c d.cloning → IsDonor d → ((taken : Taken) → taken_on asked given d (record { engine = d.engine; cloning = c }) taken ≡ taken)
    → Answered asked given d (record { engine = d.engine; cloning = c }) → act.CloneActs asked given d (record { engine = d.engine; cloning = c })
quiet_acts asked given d c same is quiet does =
    let stays = like_stays d c same is in
    record { does = does; donor = stays.donor; taken = λ taken was. subst (IsTaken (record { engine = d.engine; cloning = c })) (sym (quiet taken)) (stays.taken taken was) }

-- it was refused, or memory ran out
pub refused_out : {X Y : Type 0} (cause : Option CloneCause) (d : Donor) (c : Cloning) (why : CloneRefusal) (Did : Y → Type 0) (Does : X → Type 0) → Decided cause d.cloning c (Err why) Did → CarriesOut cause (Err why) d (record { engine = d.engine; cloning = c }) Does
refused_out cause d c (Because why) Did Does is = (is.0, λ i. record { engine = d.engine; cloning = is.1 i })
refused_out cause d c NoMemory Did Does is = (is.0, (is.1, refl))

pub refused_like : {X : Type 0} (cause : Option CloneCause) (d : Donor) (c : Cloning) (why : CloneRefusal) (Did : X → Type 0) → Decided cause d.cloning c (Err why) Did → Like c d.cloning
refused_like cause d c why Did is = like c d.cloning (refused_becomes cause d.cloning c why Did is)

-- a result that is this refusal, or some
pub err_is : {X E : Type 0} (r : Result X E) (e : E) → IsErrAnd r (λ y. y ≡ e) → r ≡ Err e
err_is (Ok x) e is = absurd is
err_is (Err y) e is = ap (λ (z : _). Err z) is

pub by_err : {X E : Type 0} (r : Result X E) (P : Result X E → Type 0) → IsErr r → ((e : E) → P (Err e)) → P r
by_err (Ok x) P is to = absurd (let e = is in cc)
by_err (Err e) P is to = to e

-- it takes no memory, and changes nothing
pub freely : {X : Type 0} (P : X → Type 0) (cause : Option CloneCause) (d : Donor) (result : Result X CloneCause) → MatchResult result (λ x. (cause ≡ None) × P x) (λ why. cause ≡ Some why) → CarriesOutFreely cause result d d (λ x. P x × (d ≡ d))
freely P cause d (Ok x) is = (is.0, (is.1, refl))
freely P cause d (Err why) is = (is, refl)

pub freely_none : {X : Type 0} (cause : Option CloneCause) (d : Donor) (result : Result X CloneCause) → MatchResult result (λ _. cause ≡ None) (λ why. cause ≡ Some why) → CarriesOutFreely cause result d d (λ _. d ≡ d)
freely_none cause d (Ok x) is = (is, refl)
freely_none cause d (Err why) is = (is, refl)

-- A CLAIM
claims_like : (caller : Caller) (stage : ℕ) (old new : Cloning) (result : Result (Option ℕ) CloneCause) → Claims caller stage old new result → Like new old
claims_like caller stage old new (Ok None) is = subst (λ (c : Cloning). Like c old) (sym is.2) (like_same old)
claims_like caller stage old new (Ok (Some chunk)) is =
    subst (λ (c : Cloning). Like c old) (sym is.1.2.1) (like_session old is.1.0 _ (stands_as old.session caller.session is.1.0 is.1.1) refl)
claims_like caller stage old new (Err cause) is = subst (λ (c : Cloning). Like c old) (sym is.1) (like_same old)

pub claims : (d : Donor) (c : Cloning) (caller : Caller) (stage : ℕ) (result : Result (Option ℕ) CloneCause) → IsDonor d → Claims caller stage d.cloning c result → act.CloneActs (call.Claim caller stage) (answer.Claim result) d (record { engine = d.engine; cloning = c })
claims d c caller stage result is did = quiet_acts (call.Claim caller stage) (answer.Claim result) d c (claims_like caller stage d.cloning c result did) is (λ taken. refl) (did, refl)

-- A TASK JOINS the session.
pub attaches : (d : Donor) (caller : Caller) (result : Result StageInfo CloneRefusal) → IsDonor d → Decided (attach_cause d.cloning caller) d.cloning d.cloning result (Tells d.cloning) → act.CloneActs (call.Attach caller) (answer.Attach result) d d
attaches d caller result is decided = quiet_acts (call.Attach caller) (answer.Attach result) d d.cloning (like_same d.cloning) is (λ taken. refl) (by result decided, refl)
  where
    by : (r : Result StageInfo CloneRefusal) → Decided (attach_cause d.cloning caller) d.cloning d.cloning r (Tells d.cloning) → CarriesOut (attach_cause d.cloning caller) r d d (Tells d.cloning)
    by (Ok info) is = is
    by (Err why) is = refused_out (attach_cause d.cloning caller) d d.cloning why (Tells d.cloning) (Tells d.cloning) is

-- A LATER INCARNATION JOINS the session.
rejoins_like : (caller : Caller) (stage : ℕ) (bitmap : List ℕ) (partials : List PartialChunk) (info : StageInfo) (old new : Cloning) → Reinits caller stage bitmap partials old new info → Like new old
rejoins_like caller stage bitmap partials info old new did =
    let s = did.0 in
    let on = did.2 in
    like_trans new (rejoined caller.incarnation on.0 s old) old (like new (rejoined caller.incarnation on.0 s old) on.3) (like_session old s (record s { incarnation = caller.incarnation; snap = on.0 }) (stands_as old.session caller.session s did.1) on.1)

module _ (d : Donor) (c : Cloning) (cause : Option CloneCause) (caller : Caller) (stage : ℕ) (bitmap : List ℕ) (partials : List PartialChunk) where
  abbrev joined : Donor
  joined = record { engine = d.engine; cloning = c }

  pub rejoins_out : (result : Result StageInfo CloneRefusal) → Decided cause d.cloning c result (Reinits caller stage bitmap partials d.cloning c)
      → CarriesOut cause result d joined (λ info. Reinits caller stage bitmap partials d.cloning c info × (d.engine ≡ d.engine))
  rejoins_out (Ok info) decided = (decided.0, (decided.1, refl))
  rejoins_out (Err why) decided = refused_out cause d c why (Reinits caller stage bitmap partials d.cloning c) (λ info. Reinits caller stage bitmap partials d.cloning c info × (d.engine ≡ d.engine)) decided

  pub rejoined_like : (result : Result StageInfo CloneRefusal) → Decided cause d.cloning c result (Reinits caller stage bitmap partials d.cloning c) → Like c d.cloning
  rejoined_like (Ok info) decided = rejoins_like caller stage bitmap partials info d.cloning c decided.1
  rejoined_like (Err why) decided = refused_like cause d c why (Reinits caller stage bitmap partials d.cloning c) decided

-- A donor whose clone has changed, and whose log was let go then: all of it that isn't needed from
-- an LSN on, which is the last checkpoint, or one that is taken there.

abbrev pub let_go : ℕ → Cloning → Engine → Engine
let_go lsn c e = record e {
  buffer = settled lsn (kept_from c.archive) e.buffer;
  flights = record e.flights { checkpoint = lsn };
}

floored_size : (lsn : ℕ) (ring : Window) → (floored lsn ring).size ≡ ring.size
floored_size lsn ring = by (nat_lt ring.floor lsn && nat_le lsn (end_of ring))
  where
    by : (b : Bool) → (if b then raised lsn ring else ring).size ≡ ring.size
    by true = refl
    by false = refl

-- What a call leaves of a clone before the log is let go.
pub record Left (d : Donor) (c : Cloning) : Type 0 where
  pub ring : c.ring ≡ d.cloning.ring
  pub can : CanArchive c d.engine.buffer.ring
  pub redo : ForSome c.archive (IsOfLog d.engine.buffer.log)
  pub own : ForSome (list_of c) (CopiesOwn d.engine)
  pub notes : ForTold d.engine.disk.told (λ m. NotesPages d.engine c.tracking.pages)

pub like_left : (d : Donor) (c : Cloning) → Like c d.cloning → IsDonor d → Left d c
like_left d c same is = let on = (like_stays d c same is).donor in record { ring = same.ring; can = on.archives; redo = on.redo; own = on.own; notes = on.notes }

module _ (d : Donor) (c : Cloning) (lsn : ℕ) (is : IsDonor d) (buffer : IsBuffer d.engine.buffer) (left : Left d c)
    (stood : (copies : Copies) → StandsBeside d.engine copies → StandsFlown d.engine.buffer (record d.engine.flights { checkpoint = lsn }) copies d.engine.disk.told) where
  abbrev e : Engine
  e = let_go lsn c d.engine

  stands : (copies : Copies) → StandsBeside d.engine copies → StandsBeside e copies
  stands copies st = stands_settled d.engine.buffer e.flights copies d.engine.disk.told (kept_from c.archive) (stood copies st)

  engine : IsEngine e
  engine = record {
    keeps = record { loose = is.engine.keeps.loose; kept = is.engine.keeps.kept };
    stands = stands no_copies is.engine.stands;
    files = is.engine.files;
    spaces = is.engine.spaces;
    within = is.engine.within;
    short = stands (beyond d.engine.flights.files) is.engine.short;
    tables = is.engine.tables;
  }

  low : (k : Option ℕ) → k ≡ kept_from c.archive → IfSome k (λ kept. d.engine.buffer.ring.floor ≤ kept)
  low None needs = tt
  low (Some kept) needs = (left.can.kept kept (sym needs)).0

  pub donor_let_go : IsDonor (record { engine = e; cloning = c })
  donor_let_go = record {
    engine = engine;
    ring = left.ring ∙ is.ring ∙ sym (floored_size (needed_from lsn (kept_from c.archive)) d.engine.buffer.ring);
    archives = can_settled c lsn d.engine.buffer left.can;
    redo = left.redo;
    floor = floor_settled d.engine.buffer e.flights no_copies d.engine.disk.told (kept_from c.archive) buffer (stood no_copies is.engine.stands) (low (kept_from c.archive) refl);
    placed = is.placed;
    own = left.own;
    notes = left.notes;
  }

  -- what is taken then stands beside the pages as it stood before the log was let go
  pub taken_let_go : (taken : Taken) → StandsBeside d.engine taken.copies → ForTold d.engine.disk.told (λ m. IsTakenBy c d.engine.buffer.log taken (list_of c)) → IsTaken (record { engine = e; cloning = c }) taken
  taken_let_go taken st stage = record { stands = stands taken.copies st; stage = stage }

-- BEHIND A CALL OF A CLONE, from the last checkpoint on
abbrev pub settled_as : Donor → Cloning → Donor
settled_as d c = record { engine = record d.engine { buffer = settled d.engine.flights.checkpoint (kept_from c.archive) d.engine.buffer }; cloning = c }

module _ (d : Donor) (c : Cloning) (is : IsDonor d) (buffer : IsBuffer d.engine.buffer) (left : Left d c) where
  pub settled_donor : IsDonor (settled_as d c)
  settled_donor = donor_let_go d c d.engine.flights.checkpoint is buffer left (λ copies st. st)

  pub settled_taken : (taken : Taken) → StandsBeside d.engine taken.copies → ForTold d.engine.disk.told (λ m. IsTakenBy c d.engine.buffer.log taken (list_of c)) → IsTaken (settled_as d c) taken
  settled_taken = taken_let_go d c d.engine.flights.checkpoint is buffer left (λ copies st. st)

-- A CHECKPOINT
pub checks : (d : Donor) (lsn : ℕ) → IsDonor d → IsBuffer d.engine.buffer → IsPool d.engine.buffer.pool → IsReached d.engine.buffer lsn
    → act.EngineActs to_engine.Checkpoint (Ok (answers.Checkpoint lsn)) d (record d { engine = let_go lsn d.cloning d.engine })
checks d lsn is buffer pool reached = record {
  does = record { steps = record { reached = reached; state = refl; donor = refl; disk = refl }; cloning = refl };
  donor = donor_let_go d d.cloning lsn is buffer left stood;
  taken = λ taken was. taken_let_go d d.cloning lsn is buffer left stood taken was.stands was.stage;
}
  where
    left : Left d d.cloning
    left = like_left d d.cloning (like_same d.cloning) is

    stood : (copies : Copies) → StandsBeside d.engine copies → StandsFlown d.engine.buffer (record d.engine.flights { checkpoint = lsn }) copies d.engine.disk.told
    stood copies = stands_checked d.engine.buffer d.engine.flights copies d.engine.disk.told lsn pool reached

-- A donor whose session is gone, before its log is settled.

pub none_is : {X : Type 0} (o : Option X) (x : X) → o ≡ None → o ≡ Some x → ⊥
none_is o x none some = let both : None ≡ Some x = sym none ∙ some in cc

-- no page is tracked
pub no_notes : (told : Option DiskImage) (e : Engine) (pages : Option Pages) → pages ≡ None → ForTold told (λ m. NotesPages e pages)
no_notes told e pages none = subst (λ (o : Option Pages). ForTold told (λ m. NotesPages e o)) (sym none) (by told)
  where
    by : (o : Option DiskImage) → ForTold o (λ m. NotesPages e None)
    by None = tt
    by (Some m) = λ space number noted. absurd (cc)

module _ (d : Donor) (c : Cloning) (becomes : Becomes c (left d.cloning)) where
  gone : Like c (left d.cloning)
  gone = like c (left d.cloning) becomes

  pub leaves : Left d c
  leaves = record {
    ring = gone.ring;
    can = can_unarchived c d.engine.buffer.ring gone.archive;
    redo = λ a stands. absurd (none_is c.archive a gone.archive stands);
    own = λ l stands. absurd (none_is (list_of c) l gone.list stands);
    notes = no_notes d.engine.disk.told d.engine c.tracking.pages gone.pages;
  }

  stage : (told : Option DiskImage) (log : List (List Record)) → ForTold told (λ m. IsTakenBy c log nothing (list_of c))
  stage None log = tt
  stage (Some m) log = subst (IsTakenBy c log nothing) (sym gone.list) (λ space number. refl)

  -- THE SESSION ENDS
  pub leaves_acts : (asked : DonorCall) (given : DonorAnswer) → ((taken : Taken) → taken_on asked given d (settled_as d c) taken ≡ nothing) → (answering.Leaves d (settled_as d c) → Answered asked given d (settled_as d c)) → IsDonor d → IsBuffer d.engine.buffer → act.CloneActs asked given d (settled_as d c)
  leaves_acts asked given gone does is buffer = record {
    does = does (becomes, refl);
    donor = settled_donor d c is buffer leaves;
    taken = λ taken was. subst (IsTaken (settled_as d c)) (sym (gone taken)) (
        let flown = for_told (IsFlown d.engine.buffer d.engine.flights taken.copies) (IsFlown d.engine.buffer d.engine.flights no_copies) d.engine.disk.told (λ m flown. left_flown d.engine.buffer d.engine.flights m taken.copies flown) was.stands in
        settled_taken d c is buffer leaves nothing flown (stage d.engine.disk.told d.engine.buffer.log));
  }

-- More of the log is archived, before the log is settled.

-- what was taken stays where an archive has become another one that starts and ends the with_archive_is
module _ (c e : Cloning) (log : List (List Record)) (taken : Taken) (a b : Archived)
    (stands : c.archive ≡ Some a) (with_archive_is : Like e (record c { archive = Some b }))
    (start : b.start ≡ a.start) (end : b.stop ≡ a.stop) where
  -- a fact of the archive
  with_archive : (P Q : Archived → Type 0) → (P a → Q b) → ForSome c.archive P → ForSome e.archive Q
  with_archive P Q to was = for_one Q e.archive b with_archive_is.archive (to (was a stands))

  stopped_on : HasStopped c log taken a → HasStopped e log taken b
  stopped_on = stopped_as c e log [] log taken taken a b (sym (append-nil log)) with_archive_is.stop refl end (λ moment are. subst (λ (n : ℕ). AreStopped n moment taken.copies) (sym start) are)

  in_archived : (l : lists.StageList) → IsTakenIn c log taken l → IsTakenIn e log taken l
  in_archived (lists.Files spaces) are = subst (λ (o : Option Pages). AreInFiles o taken.copies) (sym with_archive_is.pages) are
  in_archived (lists.Pages pages) are = with_archive (λ k. AreInPages k.start taken.copies) (λ k. AreInPages k.start taken.copies) (subst (λ (n : ℕ). AreInPages n taken.copies) (sym start)) are
  in_archived (lists.Redo start end) has = with_archive (HasStopped c log taken) (HasStopped e log taken) stopped_on has
  in_archived lists.Nothing has = with_archive (HasStopped c log taken) (HasStopped e log taken) stopped_on has

  by_archived : (o : Option lists.StageList) → IsTakenBy c log taken o → IsTakenBy e log taken o
  by_archived None idle = idle
  by_archived (Some l) are = in_archived l are

  pub taken_archived : IsTakenBy c log taken (list_of c) → IsTakenBy e log taken (list_of e)
  taken_archived was = subst (IsTakenBy e log taken) (sym with_archive_is.list) (by_archived (list_of c) was)

module _ (d : Donor) (c : Cloning) (limit : ℕ) (is : IsDonor d) (buffer : IsBuffer d.engine.buffer) where
  abbrev ByTold : Cloning → Taken → Option DiskImage → Type 0
  ByTold k taken told = ForTold told (λ m. IsTakenBy k d.engine.buffer.log taken (list_of k))

  -- what archiving leaves
  pub record Leaves : Type 0 where
    pub left : Left d c
    pub taken : (taken : Taken) (told : Option DiskImage) → ByTold d.cloning taken told → ByTold c taken told

  for_any : (taken : Taken) (told : Option DiskImage) → (IsTakenBy d.cloning d.engine.buffer.log taken (list_of d.cloning) → IsTakenBy c d.engine.buffer.log taken (list_of c)) → ByTold d.cloning taken told → ByTold c taken told
  for_any taken None to was = tt
  for_any taken (Some m) to was = to was

  unarchived : c ≡ d.cloning → Leaves
  unarchived with_archive_is = record {
    left = like_left d c (subst (λ (k : Cloning). Like k d.cloning) (sym with_archive_is) (like_same d.cloning)) is;
    taken = λ taken told was. subst (λ (k : Cloning). ByTold k taken told) (sym with_archive_is) was;
  }

  module _ (a : Archived) (stands : d.cloning.archive ≡ Some a) (becomes : Becomes c (record d.cloning { archive = Some (archived_on limit d.engine.buffer.ring a) })) where
    with_archive_is : Like c (record d.cloning { archive = Some (archived_on limit d.engine.buffer.ring a) })
    with_archive_is = like c (record d.cloning { archive = Some (archived_on limit d.engine.buffer.ring a) }) becomes

    archived : Leaves
    archived = record {
      left = record {
        ring = with_archive_is.ring;
        can = can_archived d.cloning a limit d.engine.buffer.ring stands is.archives c with_archive_is.archive (omega (arith, (is.redo a stands).within, buffer.end));
        redo = for_one (IsOfLog d.engine.buffer.log) c.archive (archived_on limit d.engine.buffer.ring a) with_archive_is.archive (of_archived d.engine.buffer d.cloning a limit buffer stands is.archives (is.redo a stands));
        own = λ l some. is.own l (sym with_archive_is.list ∙ some);
        notes = subst (λ (o : Option Pages). ForTold d.engine.disk.told (λ m. NotesPages d.engine o)) (sym with_archive_is.pages) is.notes;
      };
      taken = λ taken told. for_any taken told (taken_archived d.cloning c d.engine.buffer.log taken a (archived_on limit d.engine.buffer.ring a) stands with_archive_is refl refl);
    }

  pub archives_leaves : (reached : Option ℕ) → Archives {E = AllocError} limit d.engine.buffer.ring d.cloning c (Ok reached) → Leaves
  archives_leaves None did = unarchived did.1
  archives_leaves (Some lsn) did = archived did.0 did.1 did.2

  archives_did : (reached : Option ℕ) → Archives {E = AllocError} limit d.engine.buffer.ring d.cloning c (Ok reached) → Archives {E = Unit {0}} limit d.engine.buffer.ring d.cloning c (Ok reached)
  archives_did None did = did
  archives_did (Some lsn) did = did

  -- MORE OF THE LOG IS ARCHIVED
  pub archives_acts : (reached : Option ℕ) → Archives {E = AllocError} limit d.engine.buffer.ring d.cloning c (Ok reached) → act.CloneActs (call.Archive limit) (answer.Archive (Ok reached)) d (settled_as d c)
  archives_acts reached did =
      let leaves = archives_leaves reached did in
      record {
        does = (archives_did reached did, refl);
        donor = settled_donor d c is buffer leaves.left;
        taken = λ taken was. settled_taken d c is buffer leaves.left taken was.stands (leaves.taken taken d.engine.disk.told was.stage);
      }

-- A stage is acknowledged: what is left of a clone, and of what was taken, before the log is
-- settled.

-- a donor, and its clone after a call
module _ (d : Donor) (c : Cloning) where
  abbrev log : List (List Record)
  log = d.engine.buffer.log

  abbrev Flown : Taken → DiskImage → Type 0
  Flown taken m = IsFlown d.engine.buffer d.engine.flights taken.copies m

  abbrev By : Cloning → Taken → Type 0
  By k taken = IsTakenBy k log taken (list_of k)

  -- What was taken becomes this, and stands beside the pages over a disk that tells what it holds.
  pub record Ends (to : Taken → Taken) : Type 0 where
    pub left : Left d c
    pub taken : (taken : Taken) (m : DiskImage) → d.engine.disk.told ≡ Some m → Flown taken m → By d.cloning taken → Flown (to taken) m × By c (to taken)

module _ (d : Donor) (c : Cloning) (s : Session) (is : IsDonor d) (buffer : IsBuffer d.engine.buffer) (stands : d.cloning.session ≡ Some s) (files : List (ℕ × ℕ)) where
  abbrev base : ℕ
  base = nearest_in d.engine.buffer.ring d.engine.flights.checkpoint

  -- what was taken, where the session's stage copies this list
  as_list : (l : lists.StageList) → s.snap.list ≡ l → (taken : Taken) → By d c d.cloning taken → IsTakenIn d.cloning (log d c) taken l
  as_list l list taken by = subst (IsTakenBy d.cloning (log d c) taken) (ap (option_map (λ (s : Session). s.snap.list)) stands ∙ ap (λ (l : lists.StageList). Some l) list) by

  -- the stage isn't the donor's, or what is copied next is nothing
  same_ends : Like c d.cloning → Ends d c (λ taken. taken)
  same_ends same = record {
    left = like_left d c same is;
    taken = λ taken m told flown by. (flown, taken_grows d.cloning c taken same (log d c) (log d c) (log_same 2 (log d c) (log d c) refl) by);
  }

  -- THE COPY OF FILES ENDS
  files_end : (spaces created : List (ℕ × ℕ)) → s.snap.list ≡ lists.Files spaces → Becomes c (files_ended (moment_of d.engine) created s d.cloning) → Ends d c (taken_over d.engine (lists.Files spaces))
  files_end spaces created list becomes = record { left = left; taken = goes }
    where
      same : Like c (files_ended (moment_of d.engine) created s d.cloning)
      same = like c (files_ended (moment_of d.engine) created s d.cloning) becomes

      in_ring : IsInRing d.engine.buffer.ring base
      in_ring = nearest_in_ring d.engine.buffer.ring d.engine.flights.checkpoint

      left : Left d c
      left = record {
        ring = same.ring;
        can = can_begun c base d.engine.buffer.ring same.archive in_ring.0 in_ring.1;
        redo = for_one (IsOfLog (log d c)) c.archive (begun base) same.archive (of_begun (log d c) base (omega (arith, floor_above d.engine.buffer buffer, in_ring.0)) (omega (arith, in_ring.1, buffer.end)));
        own = for_one (CopiesOwn d.engine) (list_of c) (lists.Pages (listed d.cloning.tracking.pages)) same.list
            (for_told (λ m. NotesPages d.engine d.cloning.tracking.pages) (λ m. ArePages d.engine (listed d.cloning.tracking.pages)) d.engine.disk.told (λ m notes. listed_pages d.engine d.cloning.tracking.pages notes) is.notes);
        notes = no_notes d.engine.disk.told d.engine c.tracking.pages same.pages;
      }

      goes : (taken : Taken) (m : DiskImage) → d.engine.disk.told ≡ Some m → Flown d c taken m → By d c d.cloning taken → Flown d c (taken_over d.engine (lists.Files spaces) taken) m × By d c c (taken_over d.engine (lists.Files spaces) taken)
      goes taken m told flown by =
          let after = taken_over d.engine (lists.Files spaces) taken in
          let over = subst (λ (n : ℕ). IsFlown d.engine.buffer d.engine.flights (files_over n taken.copies) m × AreInPages n (files_over n taken.copies)) (sym (start_told d.engine.buffer d.engine.flights taken.copies (Some m) buffer flown))
          (files_over_flown d.engine.buffer d.engine.flights m d.cloning.tracking.pages taken.copies (as_list (lists.Files spaces) list taken by) flown) in
          (over.0, subst (IsTakenBy c (log d c) after) (sym same.list) (for_one (λ (a : Archived). AreInPages a.start after.copies) c.archive (begun base) same.archive over.1))

  -- THE STOP
  module _ (room : ℕ) (pages : List (ℕ × ℕ)) (list : s.snap.list ≡ lists.Pages pages) (had : CopiesPages d.cloning room) (becomes : Becomes c (pages_ended (moment_of d.engine) s d.cloning)) where
    abbrev a : Archived
    a = had.archive

    abbrev end : ℕ
    end = end_of d.engine.buffer.ring

    stops : Like c (stopped_at (moment_of d.engine) s a d.cloning)
    stops = subst (Like c) (ap (λ (o : Option Archived). option_map_or (λ a. stopped_at (moment_of d.engine) s a d.cloning) o d.cloning) had.stands) (like c (pages_ended (moment_of d.engine) s d.cloning) becomes)

    pages_end : Ends d c (taken_over d.engine (lists.Pages pages))
    pages_end = record { left = left; taken = goes }
      where
        left : Left d c
        left = record {
          ring = stops.ring;
          can = can_stopped d.cloning c a d.engine.buffer.ring had.stands had.unended stops.archive is.archives;
          redo = for_one (IsOfLog (log d c)) c.archive (stopped end a) stops.archive (of_stopped (log d c) a end (is.redo a had.stands));
          own = for_one (CopiesOwn d.engine) (list_of c) (lists.Redo a.start end) stops.list tt;
          notes = no_notes d.engine.disk.told d.engine c.tracking.pages (stops.pages ∙ had.untracked);
        }

        goes : (taken : Taken) (m : DiskImage) → d.engine.disk.told ≡ Some m → Flown d c taken m → By d c d.cloning taken → Flown d c (taken_over d.engine (lists.Pages pages) taken) m × By d c c (taken_over d.engine (lists.Pages pages) taken)
        goes taken m told flown by =
            let after = taken_over d.engine (lists.Pages pages) taken in
            let over = pages_over_flown d.engine.buffer d.engine.flights m a.start taken.copies (as_list (lists.Pages pages) list taken by a had.stands) flown in
            let stopped_is : HasStopped c (log d c) after (stopped end a) = record {
              at = d.engine;
              stop = refl;
              engine = is.engine;
              buffer = buffer;
              right = flown.kept.right;
              placed = of_told (λ m. (space number : ℕ) → WasPlaced space number (log d c)) d.engine.disk.told m told is.placed;
              copies = over.1;
              rest = [];
              grown = sym (append-nil (log d c));
              end = ap (λ (n : ℕ). Some n) buffer.end;
              position = for_one (λ (last : Stop). last.position ≡ length d.engine.donor.binlog) c.stop _ stops.stop refl;
            } in
            (over.0, subst (IsTakenBy c (log d c) after) (sym stops.list) (for_one (HasStopped c (log d c) after) c.archive (stopped end a) stops.archive stopped_is))

  -- THE COPY OF REDO ENDS, and nothing is copied any more
  redo_ends : (start end : ℕ) → s.snap.list ≡ lists.Redo start end → Becomes c (advanced (moment_of d.engine) files s (lists.Redo start end) d.cloning) → Ends d c (λ taken. taken)
  redo_ends start end list becomes = record {
    left = record {
      ring = same.ring;
      can = can_same d.cloning c d.engine.buffer.ring same.archive is.archives;
      redo = λ a some. is.redo a (sym same.archive ∙ some);
      own = for_one (CopiesOwn d.engine) (list_of c) lists.Nothing same.list tt;
      notes = subst (λ (o : Option Pages). ForTold d.engine.disk.told (λ m. NotesPages d.engine o)) (sym same.pages) is.notes;
    };
    taken = λ taken m told flown by. (
      flown,
      subst (IsTakenBy c (log d c) taken) (sym same.list) (subst (λ (l : List (List Record)). IsTakenIn c l taken lists.Nothing) (append-nil (log d c))
          (in_stays d.cloning c (log d c) [] taken same.pages same.archive same.stop lists.Nothing (as_list (lists.Redo start end) list taken by))),
    );
  }
    where
      same : Like c (advanced (moment_of d.engine) files s (lists.Redo start end) d.cloning)
      same = like c (advanced (moment_of d.engine) files s (lists.Redo start end) d.cloning) becomes

  on_list : (l : lists.StageList) → s.snap.list ≡ l → IsInStage d.cloning s l → Becomes c (advanced (moment_of d.engine) files s l d.cloning) → Ends d c (taken_over d.engine l)
  on_list (lists.Files spaces) list in_stage becomes = files_end spaces (created_since spaces files) list becomes
  on_list (lists.Pages pages) list in_stage becomes = pages_end s.snap.room pages list in_stage becomes
  on_list (lists.Redo start end) list in_stage becomes = redo_ends start end list becomes
  on_list lists.Nothing list in_stage becomes = same_ends (like c d.cloning becomes)

  by_stage : (own : Bool) → IsInStage d.cloning s s.snap.list → Becomes c (if own then advanced (moment_of d.engine) files s s.snap.list d.cloning else d.cloning) → Ends d c (λ taken. if own then taken_over d.engine s.snap.list taken else taken)
  by_stage true in_stage becomes = on_list s.snap.list refl in_stage becomes
  by_stage false in_stage becomes = same_ends (like c d.cloning becomes)

-- an acknowledgement of another stage than the copy of files asks for no files
pub for_files : (now : Moment) (files known : List (ℕ × ℕ)) (stage : ℕ) (s : Session) (c : Cloning) → (stage ≡ 1 → files ≡ known) → acknowledged now files stage s c ≡ acknowledged now known stage s c
for_files now files known stage s c at = by (cases_eq stage 1)
  where
    same : (l : lists.StageList) → (stage ≡ 1 → ⊥) → (stage == stage_number (lists.stage_of l)) ≡ true → advanced now files s l c ≡ advanced now known s l c
    same (lists.Files spaces) other own = absurd (other (eqb-true stage 1 own))
    same (lists.Pages pages) other own = refl
    same (lists.Redo from until) other own = refl
    same lists.Nothing other own = refl

    chosen : (own : Bool) → (stage ≡ 1 → ⊥) → (stage == donor_stage s) ≡ own → (if own then advanced now files s s.snap.list c else c) ≡ (if own then advanced now known s s.snap.list c else c)
    chosen true other own = same s.snap.list other own
    chosen false other own = refl

    by : (stage ≡ 1) ⊎ (stage ≢ 1) → acknowledged now files stage s c ≡ acknowledged now known stage s c
    by (inl first) = ap (λ (f : List (ℕ × ℕ)). acknowledged now f stage s c) (at first)
    by (inr other) = chosen (stage == donor_stage s) other refl

-- A STAGE IS ACKNOWLEDGED
module _ (d : Donor) (c : Cloning) (is : IsDonor d) (buffer : IsBuffer d.engine.buffer) (cloning : IsCloning d.cloning) (caller : Caller) (stage floor : ℕ) (info : StageInfo) (none : acknowledgement_cause d.cloning caller stage floor (moment_of d.engine).position ≡ None) (did : Acknowledges (moment_of d.engine) (known_files d.engine) caller.session stage d.cloning c info) where
  -- what is taken, where this session stands
  abbrev taken_where : Option Session → Taken → Taken
  taken_where o taken = option_map_or (λ (s : Session). if stage == donor_stage s then taken_over d.engine s.snap.list taken else taken) o taken

  acked : Ends d c (taken_after d stage)
  acked =
      let s = did.0 in
      let stands : d.cloning.session ≡ Some s = stands_as d.cloning.session caller.session s did.1 in
      subst (λ (o : Option Session). Ends d c (taken_where o)) (sym stands) (by_stage d c s is buffer stands (known_files d.engine) (stage == donor_stage s) (subst (IsInSession d.cloning) stands cloning.session).2 did.2)

  abbrev Both : Taken → DiskImage → Type 0
  Both taken m = Flown d c (taken_after d stage taken) m × By d c c (taken_after d stage taken)

  both : (taken : Taken) (told : Option DiskImage) → d.engine.disk.told ≡ told → ForTold told (Flown d c taken) → ForTold told (λ m. By d c d.cloning taken) → ForTold told (Both taken)
  both taken None is flown by = tt
  both taken (Some m) is flown by = acked.taken taken m is flown by

  pub acks : act.CloneActs (call.Ack caller stage floor) (answer.Ack (Ok info)) d (settled_as d c)
  acks = record {
    does = (none, record { acknowledges = did; settles = refl });
    donor = settled_donor d c is buffer acked.left;
    taken = λ taken was.
        let after = taken_after d stage taken in
        let has = both taken d.engine.disk.told refl was.stands was.stage in
        settled_taken d c is buffer acked.left after (for_told (Both taken) (Flown d c after) d.engine.disk.told (λ m has. has.0) has) (for_told (Both taken) (λ m. By d c c after) d.engine.disk.told (λ m has. has.1) has);
  }

-- A session begins, or begins again.

-- A SESSION BEGINS, where none stands.
module _ (d : Donor) (c : Cloning) (hello : Hello) (in_flight : List (ℕ × ℕ)) (info : StageInfo) (none : d.cloning.session ≡ None) (cloning : IsCloning d.cloning)
    (becomes : Becomes c (opened hello (known_files d.engine) in_flight d.cloning)) (is : IsDonor d) where
  abbrev t : Donor
  t = record { engine = d.engine; cloning = c }

  abbrev tracked : Option Pages
  tracked = Some (all_noted in_flight finite.empty)

  same : Like c (opened hello (known_files d.engine) in_flight d.cloning)
  same = like c (opened hello (known_files d.engine) in_flight d.cloning) becomes

  abbrev files : flights.Files
  files = d.engine.flights.files

  idle : IsIdle d.cloning
  idle = subst (IsInSession d.cloning) none cloning.session

  opened_donor : IsBuffer d.engine.buffer → IsPool d.engine.buffer.pool → AreOpenPages d.engine.buffer.pool.frames in_flight → IsDonor t
  opened_donor buffer pool opens = record {
    engine = is.engine;
    ring = same.ring ∙ is.ring;
    archives = can_unarchived c d.engine.buffer.ring same.archive;
    redo = λ a some. absurd (none_is c.archive a same.archive some);
    floor = subst (λ (o : Option Archived). ForTold d.engine.disk.told (λ m. d.engine.buffer.ring.floor ≡ needed_from d.engine.flights.checkpoint (kept_from o))) (idle.unarchived ∙ sym same.archive) is.floor;
    placed = is.placed;
    own = for_one (CopiesOwn d.engine) (list_of c) (lists.Files (known_files d.engine)) same.list
        (all_entries (λ space pages. HasPages files (space, pages)) files (λ space pages known. record { pages = pages; known = known; enough = omega arith }));
    notes = for_told (IsFlown d.engine.buffer d.engine.flights no_copies) (λ m. NotesPages d.engine c.tracking.pages) d.engine.disk.told
        (λ m flown. subst (NotesPages d.engine) (sym same.pages) (open_notes d.engine in_flight buffer pool flown.kept.right opens)) is.engine.stands;
  }

  abbrev First : DiskImage → Type 0
  First m = IsFlown d.engine.buffer d.engine.flights (first_copies tracked files) m × AreInFiles tracked (first_copies tracked files)

  -- each page that isn't noted is closed
  first : IsBuffer d.engine.buffer → (m : DiskImage) → IsFlown d.engine.buffer d.engine.flights (beyond files) m → ((copies : Copies) → OthersAreClosed d.engine.buffer (beside_of d.engine.flights copies) m in_flight) → First m
  first buffer m short closed = first_flown d.engine.buffer d.engine.flights m tracked
      (λ space number none. let rest = closed no_copies space number (unnoted in_flight space number none) in (rest.closed, rest.grounded))
      (no_file d.engine is.engine buffer short.kept.right) short

  abbrev after : Taken
  after = record { copies = first_copies tracked files; stop = None }

  opened_taken : IsBuffer d.engine.buffer → ListsOpen d.engine in_flight → (taken : Taken) → IsTaken t (taken_at d t d.cloning.session taken)
  opened_taken buffer closed taken =
      let has = told_both (IsFlown d.engine.buffer d.engine.flights (beyond files)) (λ m. (copies : Copies) → OthersAreClosed d.engine.buffer (beside_of d.engine.flights copies) m in_flight) First d.engine.disk.told (first buffer) is.engine.short closed in
      subst (λ (o : Option Session). IsTaken t (taken_at d t o taken)) (sym none)
      (subst (λ (o : Option Pages). IsTaken t (record { copies = first_copies o files; stop = None })) (sym same.pages) (record {
        stands = for_told First (IsFlown d.engine.buffer d.engine.flights (first_copies tracked files)) d.engine.disk.told (λ m has. has.0) has;
        stage = for_told First (λ m. IsTakenBy c d.engine.buffer.log after (list_of c)) d.engine.disk.told
            (λ m has. subst (IsTakenBy c d.engine.buffer.log after) (sym same.list) (subst (λ (o : Option Pages). AreInFiles o after.copies) (sym same.pages) has.1)) has;
      }))

  pub opened_acts : IsBuffer d.engine.buffer → IsPool d.engine.buffer.pool → AreOpenPages d.engine.buffer.pool.frames in_flight → ListsOpen d.engine in_flight → hello_cause d.cloning hello ≡ None → Tells c info → act.CloneActs (call.Init hello) (answer.Init (Ok info)) d t
  opened_acts buffer pool opens closed free tells = record {
    does = (free, record { engine = refl; begins = subst (BeginsAs hello d t) (sym none) (in_flight, opens, becomes); tells = tells });
    donor = opened_donor buffer pool opens;
    taken = λ taken was. opened_taken buffer closed taken;
  }

-- It begins again.
module _ (d : Donor) (c : Cloning) (hello : Hello) (s : Session) (info : StageInfo) (stands : d.cloning.session ≡ Some s) (becomes : Becomes c (reopened hello s d.cloning)) where
  abbrev u : Donor
  u = record { engine = d.engine; cloning = c }

  reopened_like : Like c d.cloning
  reopened_like = like_trans c (reopened hello s d.cloning) d.cloning (like c (reopened hello s d.cloning) becomes) (like_session d.cloning s _ stands refl)

  pub reopened_acts : IsDonor d → hello_cause d.cloning hello ≡ None → Tells c info → act.CloneActs (call.Init hello) (answer.Init (Ok info)) d u
  reopened_acts is free tells =
      let stays = like_stays d c reopened_like is in
      record {
        does = (free, record { engine = refl; begins = subst (BeginsAs hello d u) (sym stands) becomes; tells = tells });
        donor = stays.donor;
        taken = λ taken was. subst (λ (o : Option Session). IsTaken u (taken_at d u o taken)) (sym stands) (stays.taken taken was);
      }
