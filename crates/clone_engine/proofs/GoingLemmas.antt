-- What holds of a donor, and what was taken of it, go on over a call.
use Rattle.std.proofs.Common.{[], ◌≡◌, ◌∙◌, ◌++◌, List, length, sym, ap, subst, Option, Some, None, refl, option_map, ◌≤◌, ℕ, ◌∷◌, arith, is_some, IsSome, inl, inr, Result, Ok, Err, IsOk}
use Rattle.std.proofs.lemmas.List.{append_assoc, length-append}
use Rattle.std.specs.Option.{ForSome}
use Rattle.clone_mtr.specs.declared.record.Record.{Record}
use Rattle.clone_track.specs.TrackedPages.{Pages}
use Rattle.clone_archive.specs.Archived.{Archived, kept_from}
use Rattle.clone_snapshot.specs.StageLists as lists
use Rattle.clone_session.specs.Cloning.{Cloning, Session}
use Rattle.clone_session.specs.declared.info.Stop.{Stop}
use Rattle.clone_engine.specs.Copies.{AreInFiles, AreInPages, AreStopped}
use Rattle.clone_engine.specs.Donor.{list_of, ArePages, CopiesOwn, Donor, HasPages, IsDonor, IsPageOf, NotesPages}
use Rattle.clone_engine.specs.Taken.{Taken, HasStopped, IsTakenIn, IsTakenBy, IsTaken}
use Rattle.clone_session.specs.Effects.{Becomes}
use Rattle.std.proofs.lemmas.List.Elements.{All-weaker}
use Rattle.std.specs.FinMap as finite
use Rattle.clone_outside.specs.Disk.{ForTold}
use Rattle.clone_image.specs.Image.{page_of}
use Rattle.clone_image.specs.Replay.{replayed}
use Rattle.clone_buffer.specs.OnePage.{Copies, no_copies}
use Rattle.clone_flush.specs.Calls.{needed_from}
use Rattle.clone_flush.specs.Flights.{Files, IsFlown, Flights, beside_of}
use Rattle.clone_session.specs.CloneCalls.{CanArchive}
use Rattle.clone_trx.specs.Kept.{KeptBetween, Keeps}
use Rattle.clone_engine.specs.Archives.{IsOfLog}
use Rattle.clone_engine.specs.Engine.{Engine, IsEngine, StandsBeside}
use Rattle.clone_engine.specs.Growth.{GoesOn, GrowsBy, KeepsFiles, KeepsImage, KeepsPages, LogGoes, PagesStay}
use Rattle.clone_engine.proofs.MomentLemmas.{of_grown, can_grown, can_same, placed_on}
use Rattle.clone_engine.proofs.ToldLemmas.{for_told, told_always, told_stays, told_with}
use Rattle.clone_buffer.specs.Buffered.{Buffered, IsBuffer}
use Rattle.clone_buffer.specs.Writing.{written}
use Rattle.clone_outside.specs.Causes.{Rose}
use Rattle.clone_plain.specs.Calls.{cause_of}
use Rattle.clone_plain.specs.declared.call.EngineAnswer.{EngineAnswer}
use Rattle.clone_plain.specs.declared.call.EngineCall.{EngineCall}
use Rattle.clone_plain.specs.Donor as plain
use Rattle.clone_plain.specs.declared.refusal.Cause.{Cause}
use Rattle.clone_plain.specs.declared.refusal.Cause.TheVariants.{DiskFault}
use Rattle.clone_plain.specs.declared.refusal.EngineRefusal.{EngineRefusal}
use Rattle.clone_plain.specs.declared.refusal.EngineRefusal.TheVariants.{Because, NoMemory}
use Rattle.clone_trx.specs.Ways.{Way, reads, walks, stops, writes, freshens, lengthens, makes, drops, ends, Goes, Writes, Carries, Answers, held, page_in, StaysStanding}
use Rattle.clone_engine.specs.Disks.{Visits}
use Rattle.clone_engine.specs.Steps as steps
use Rattle.clone_engine.specs.Steps.{answer_of, flown, way_of, Did, FollowsItsWay, Holds, Transacts}
use Rattle.std.specs.Prelude.{IsErrOf}
use Rattle.clone_outside.specs.DiskCalls.{DiskState, Reads}
use Rattle.clone_engine.specs.Acts as act
use Rattle.clone_engine.specs.Serving.{AnswersCall, taken_by}
use Rattle.clone_engine.proofs.WayLemmas.{IsChange, Leaves, pages_stay}
use Rattle.clone_engine.proofs.EngineLemmas.{stays_flown, engine, still_engine}

-- What holds of a donor, and what was taken of it, go on where its engine goes on.

-- What was taken of a donor stays so while its session and its archive stay, and its log grows.

-- a donor that has come to the stop, over a log that has grown, and with what was taken of it since
pub stopped_as : (c e : Cloning) (log rest new : List (List Record)) (taken after : Taken) (a b : Archived) → new ≡ log ++ rest → e.stop ≡ c.stop → after.stop ≡ taken.stop → b.stop ≡ a.stop → ((moment : List (List Record)) → AreStopped a.start moment taken.copies → AreStopped b.start moment after.copies) → HasStopped c log taken a → HasStopped e new after b
stopped_as c e log rest new taken after a b is stop same end copies has = record {
  at = has.at;
  stop = same ∙ has.stop;
  engine = has.engine;
  buffer = has.buffer;
  right = has.right;
  placed = has.placed;
  copies = copies has.at.buffer.log has.copies;
  rest = has.rest ++ rest;
  grown = is ∙ ap (λ (l : List (List Record)). l ++ rest) has.grown ∙ append_assoc has.at.buffer.log has.rest rest;
  end = end ∙ has.end;
  position = subst (λ (o : Option Stop). ForSome o (λ last. last.position ≡ length has.at.donor.binlog)) (sym stop) has.position;
}

module _ (c e : Cloning) (log rest : List (List Record)) (taken : Taken)
    (pages : e.tracking.pages ≡ c.tracking.pages) (archive : e.archive ≡ c.archive)
    (stop : e.stop ≡ c.stop) where
  stopped : (a : Archived) → HasStopped c log taken a → HasStopped e (log ++ rest) taken a
  stopped a = stopped_as c e log rest (log ++ rest) taken taken a a refl stop refl refl (λ moment are. are)

  pub in_stays : (l : lists.StageList) → IsTakenIn c log taken l → IsTakenIn e (log ++ rest) taken l
  in_stays (lists.Files spaces) are = subst (λ (o : Option Pages). AreInFiles o taken.copies) (sym pages) are
  in_stays (lists.Pages list) are = subst (λ (o : Option Archived). ForSome o (λ a. AreInPages a.start taken.copies)) (sym archive) are
  in_stays (lists.Redo start end) has = subst (λ (o : Option Archived). ForSome o (HasStopped e (log ++ rest) taken)) (sym archive) (λ a is. stopped a (has a is))
  in_stays lists.Nothing has = subst (λ (o : Option Archived). ForSome o (HasStopped e (log ++ rest) taken)) (sym archive) (λ a is. stopped a (has a is))

  by_stays : (o : Option lists.StageList) → IsTakenBy c log taken o → IsTakenBy e (log ++ rest) taken o
  by_stays None idle = idle
  by_stays (Some l) are = in_stays l are

  -- with more room and a longer log
  pub taken_stays : list_of e ≡ list_of c → IsTakenBy c log taken (list_of c) → IsTakenBy e (log ++ rest) taken (list_of e)
  taken_stays same is = subst (IsTakenBy e (log ++ rest) taken) (sym same) (by_stays (list_of c) is)

-- What a clone keeps that has changed in its room, its chunks or its caller alone.

-- It copies, tracks and archives the same, and has the same last stop.
pub record Like (new old : Cloning) : Type 0 where
  pub ring : new.ring ≡ old.ring
  pub list : list_of new ≡ list_of old
  pub archive : new.archive ≡ old.archive
  pub pages : new.tracking.pages ≡ old.tracking.pages
  pub stop : new.stop ≡ old.stop

pub like_same : (c : Cloning) → Like c c
like_same c = record { ring = refl; list = refl; archive = refl; pages = refl; stop = refl }

pub like_trans : (a b c : Cloning) → Like a b → Like b c → Like a c
like_trans a b c first second = record {
  ring = first.ring ∙ second.ring;
  list = first.list ∙ second.list;
  archive = first.archive ∙ second.archive;
  pages = first.pages ∙ second.pages;
  stop = first.stop ∙ second.stop;
}

-- a session without its room
abbrev bare : Session → Session
bare s = record s { snap = record s.snap { room = 0 } }

bare_list : (o : Option Session) → option_map (λ (s : Session). s.snap.list) (option_map bare o) ≡ option_map (λ (s : Session). s.snap.list) o
bare_list None = refl
bare_list (Some s) = refl

pub like : (new old : Cloning) → Becomes new old → Like new old
like new old is = record {
  ring = ap (λ (c : Cloning). c.ring) is;
  list = sym (bare_list new.session) ∙ ap (λ (c : Cloning). list_of c) is ∙ bare_list old.session;
  archive = ap (λ (c : Cloning). c.archive) is;
  pages = ap (λ (c : Cloning). c.tracking.pages) is;
  stop = ap (λ (c : Cloning). c.stop) is;
}

-- with another state of its session, which copies the same
pub like_session : (c : Cloning) (s t : Session) → c.session ≡ Some s → t.snap.list ≡ s.snap.list → Like (record c { session = Some t }) c
like_session c s t stands list = record {
  ring = refl;
  list = ap (λ (l : lists.StageList). Some l) list ∙ sym (ap (λ (o : Option Session). option_map (λ (x : Session). x.snap.list) o) stands);
  archive = refl;
  pages = refl;
  stop = refl;
}

-- What holds of a donor, and what was taken of it, go on where its engine goes on.

-- THE LOG

-- by one mini-transaction at most: none is between
pub of_few : (most : ℕ) (s t : Engine) → most ≤ 1 → GrowsBy most s.buffer.log t.buffer.log → LogGoes s t
of_few most s t one g = record {
  log = record { more = g.more; is = g.is; few = omega (arith, g.few, one) };
  between = λ first second is right.
      let old : List (List Record) = s.buffer.log in
      let two : List (List Record) = first ∷ second ∷ [] in
      absurd (omega (arith, g.few, one, ap length (sym g.is ∙ is), length-append old g.more, length-append old two));
}

-- by two: the image between them keeps what the donor was
pub of_two : (s t : Engine) → GrowsBy 2 s.buffer.log t.buffer.log → KeptBetween s.donor s.buffer t.buffer → LogGoes s t
of_two s t g between = record { log = g; between = λ first second is right. (between first second is right).formed }

-- FILES AND PAGES: what is copied and noted stays the engine's, as its files and its image only grow.

pub same_files : (old new : Files) → new ≡ old → KeepsFiles old new
same_files old new same space pages known = record { pages = pages; known = subst (λ (f : Files). finite.get f space ≡ Some pages) (sym same) known; enough = omega arith }

has_more : (old new : Files) → KeepsFiles old new → (file : ℕ × ℕ) → HasPages old file → HasPages new file
has_more old new keeps file has =
    let more = keeps file.0 has.pages has.known in
    record { pages = more.pages; known = more.known; enough = omega (arith, has.enough, more.enough) }

-- with the log as it was
pub same_image : (s t : Engine) → t.buffer.log ≡ s.buffer.log → ForTold t.disk.told (λ m. KeepsImage s t)
same_image s t log = told_always (KeepsImage s t) t.disk.told (λ space number there. subst (λ (l : List (List Record)). IsSome (page_of (replayed l) space number)) (sym log) there)

-- after a call that leaves the pages there
pub image_stays : (s t : Engine) → IsEngine s → is_some t.disk.told ≡ is_some s.disk.told → PagesStay s.buffer t.buffer → ForTold t.disk.told (λ m. KeepsImage s t)
image_stays s t is tells stay =
    told_stays (KeepsImage s t) (KeepsImage s t) s.disk.told t.disk.told tells (λ keeps. keeps)
    (for_told (IsFlown s.buffer s.flights no_copies) (λ m. KeepsImage s t) s.disk.told (λ m flown. stay flown.kept.right) is.stands)

module _ (s t : Engine) (keeps : KeepsImage s t) where
  listed_stay : (pages : List (ℕ × ℕ)) → ArePages s pages → ArePages t pages
  listed_stay [] are = tt
  listed_stay (p ∷ ps) are = (keeps p.0 p.1 are.0, listed_stay ps are.1)

  notes_stay : (pages : Option Pages) → NotesPages s pages → NotesPages t pages
  notes_stay pages notes space number is = keeps space number (notes space number is)

module _ (s t : Engine) (keeps : KeepsPages s t) (tells : is_some t.disk.told ≡ is_some s.disk.told) where
  pub own_stays : (l : lists.StageList) → CopiesOwn s l → CopiesOwn t l
  own_stays (lists.Files spaces) own = All-weaker (HasPages s.flights.files) (HasPages t.flights.files) (has_more s.flights.files t.flights.files keeps.files) spaces own
  own_stays (lists.Pages pages) own = told_with (λ m. KeepsImage s t) (ArePages s pages) (ArePages t pages) s.disk.told t.disk.told tells (λ m image are. listed_stay s t image pages are) keeps.image own
  own_stays (lists.Redo start end) own = tt
  own_stays lists.Nothing own = tt

  pub noted_stay : (pages : Option Pages) → ForTold s.disk.told (λ m. NotesPages s pages) → ForTold t.disk.told (λ m. NotesPages t pages)
  noted_stay pages notes = told_with (λ m. KeepsImage s t) (NotesPages s pages) (NotesPages t pages) s.disk.told t.disk.told tells (λ m image notes. notes_stay s t image pages notes) keeps.image notes

-- WHAT WAS TAKEN, over a log that has grown by two mini-transactions at most
module _ (c e : Cloning) (taken : Taken) (is : Like e c) where
  abbrev pub IsBy : Cloning → List (List Record) → Type 0
  IsBy k log = IsTakenBy k log taken (list_of k)

  stays_with : (log rest : List (List Record)) → IsBy c log → IsBy e (log ++ rest)
  stays_with log rest = taken_stays c e log rest taken is.pages is.archive is.stop is.list

  pub taken_grows : (old new : List (List Record)) → GrowsBy 2 old new → IsBy c old → IsBy e new
  taken_grows old new g was = subst (IsBy e) (sym g.is) (stays_with old g.more was)

-- with what a clone has of each page beside the pages
pub is_taken : (d : Donor) (e : Engine) (c : Cloning) → Like c d.cloning → is_some e.disk.told ≡ is_some d.engine.disk.told → GrowsBy 2 d.engine.buffer.log e.buffer.log → (taken : Taken) → (StandsBeside d.engine taken.copies → StandsBeside e taken.copies) → IsTaken d taken
    → IsTaken (record { engine = e; cloning = c }) taken
is_taken d e c same tells log taken stands was = record {
  stands = stands was.stands;
  stage = told_stays (IsTakenBy d.cloning d.engine.buffer.log taken (list_of d.cloning)) (IsTakenBy c e.buffer.log taken (list_of c)) d.engine.disk.told e.disk.told tells (taken_grows d.cloning c taken same d.engine.buffer.log e.buffer.log log) was.stage;
}

-- WHAT HOLDS OF THE DONOR

-- what stays of a clone but for the pages that are noted
pub record StaysNear (new old : Cloning) : Type 0 where
  pub ring : new.ring ≡ old.ring
  pub archive : new.archive ≡ old.archive
  pub list : list_of new ≡ list_of old

module _ (d : Donor) (e : Engine) (c : Cloning) (is : IsDonor d) (goes : GoesOn d.engine e) (near : StaysNear c d.cloning) where
  can : CanArchive c e.buffer.ring
  can = can_grown c d.engine.buffer.ring e.buffer.ring goes.ring.floor goes.ring.end (can_same d.cloning c d.engine.buffer.ring near.archive is.archives)

  of_log : (a : Archived) → GrowsBy 2 d.engine.buffer.log e.buffer.log → IsOfLog d.engine.buffer.log a → IsOfLog e.buffer.log a
  of_log a g of = subst (λ (l : List (List Record)). IsOfLog l a) (sym g.is) (of_grown d.engine.buffer.log g.more a of)

  abbrev FloorIs : Engine → Cloning → Type 0
  FloorIs f k = f.buffer.ring.floor ≡ needed_from f.flights.checkpoint (kept_from k.archive)

  floor_is : FloorIs d.engine d.cloning → FloorIs e c
  floor_is was = goes.ring.floor ∙ was ∙ (λ i. needed_from (sym goes.checkpoint i) (kept_from (sym near.archive i)))

  -- with what is copied and noted still the donor's
  pub donor_goes : ForSome (list_of c) (CopiesOwn e) → ForTold e.disk.told (λ m. NotesPages e c.tracking.pages) → IsDonor (record { engine = e; cloning = c })
  donor_goes own notes = record {
    engine = goes.engine;
    ring = near.ring ∙ is.ring ∙ sym goes.ring.size;
    archives = can;
    redo = λ a stands. of_log a goes.log.log (is.redo a (sym near.archive ∙ stands));
    floor = told_stays (FloorIs d.engine d.cloning) (FloorIs e c) d.engine.disk.told e.disk.told goes.tells floor_is is.floor;
    placed = placed_on d.engine e goes.engine goes.buffer goes.tells goes.log is.placed;
    own = own;
    notes = notes;
  }

  -- which is the donor's where the pages stay
  pub own_goes : KeepsPages d.engine e → ForSome (list_of c) (CopiesOwn e)
  own_goes keeps l stands = own_stays d.engine e keeps goes.tells l (is.own l (sym near.list ∙ stands))

-- A DONOR GOES ON
pub record Stays (d t : Donor) : Type 0 where
  pub donor : IsDonor t
  pub taken : (taken : Taken) → IsTaken d taken → IsTaken t taken

-- over a call that keeps the files and the image, with a clone that copies the same
pub stays : (d : Donor) (e : Engine) (c : Cloning) → Like c d.cloning → IsDonor d → GoesOn d.engine e → KeepsPages d.engine e → ((copies : Copies) → StandsBeside d.engine copies → StandsBeside e copies) → Stays d (record { engine = e; cloning = c })
stays d e c same is goes keeps copies = record {
  donor = donor_goes d e c is goes near (own_goes d e c is goes near keeps)
      (subst (λ (o : Option Pages). ForTold e.disk.told (λ m. NotesPages e o)) (sym same.pages) (noted_stay d.engine e keeps goes.tells d.cloning.tracking.pages is.notes));
  taken = λ taken. is_taken d e c same goes.tells goes.log.log taken (copies taken.copies);
}
  where
    near : StaysNear c d.cloning
    near = record { ring = same.ring; archive = same.archive; list = same.list }

-- The answer of a call of transactions, and what it leaves of a donor.

-- The answer of a call of transactions, as the call that was carried out or why it wasn't.

module _ {X : Type 0} (did : X → EngineAnswer) where
  -- the answer is a refusal exactly where the call was refused for it
  pub same_refusal : (result : Result X EngineRefusal) (e : EngineRefusal) → answer_of did result ≡ Err e → result ≡ Err e
  same_refusal (Ok x) e is = absurd (let e = is in cc)
  same_refusal (Err refusal) e is = let same : refusal ≡ e = cc in ap (λ (r : EngineRefusal). Err r) same

  refused : (result : Result X EngineRefusal) (e : EngineRefusal) → result ≡ Err e → answer_of did result ≡ Err e
  refused (Ok x) e is = absurd (let e = is in cc)
  refused (Err refusal) e is = let same : refusal ≡ e = cc in ap (λ (r : EngineRefusal). Err r) same

  wrote : (records : List Record) (old new : Buffered) (result : Result X EngineRefusal) → Writes records old new result → Writes records old new (answer_of did result)
  wrote records old new (Ok x) w = w
  wrote records old new (Err (Because cause)) w = w
  wrote records old new (Err NoMemory) w = w

  was_ok : (result : Result X EngineRefusal) → IsOk result → IsOk (answer_of did result)
  was_ok (Ok x) is = is
  was_ok (Err refusal) is = is

  -- THE WAY IS GONE
  pub goes_to : (w : Way) (old new : Buffered) (result : Result X EngineRefusal) → Goes w old new result → Goes w old new (answer_of did result)
  goes_to (reads page rest) old new result (inl miss) = inl (miss.0, refused result (Because miss.0) miss.1, miss.2)
  goes_to (reads page rest) old new result (inr on) = inr (on.0, on.1, on.2, on.3, goes_to (rest (page_in on.0 on.1)) (held on.0 on.1) on.2 result on.4, on.5)
  goes_to (walks course rest) old new result (inl miss) = inl (miss.0, refused result (Because miss.0) miss.1, miss.2)
  goes_to (walks course rest) old new result (inr on) = inr (on.0, on.1, on.2, on.3, goes_to (rest on.0.page on.0.slot (page_in on.0.at on.1)) on.1 on.2 result on.4, on.5)
  goes_to (stops cause) old new result stopped = (refused result (Because cause) stopped.0, stopped.1)
  goes_to (writes records) old new result w = wrote records old new result w
  goes_to (freshens page rest) old new result (inl none) = inl (none.0, refused result (Because none.0) none.1, none.2, none.3)
  goes_to (freshens page rest) old new result (inr on) = inr (on.0, on.1, on.2, on.3, goes_to rest on.1 on.2 result on.4, on.5)
  goes_to (lengthens records rest) old new result (inl full) = inl (full.0, refused result (Because full.0) full.1, full.2, full.3)
  goes_to (lengthens records rest) old new result (inr on) = inr (on.0, goes_to rest (written records old) new result on.1)
  goes_to (makes records) old new result (inl w) = inl (wrote records old new result w)
  goes_to (makes records) old new result (inr failed) = inr (failed.0, refused result _ failed.1, failed.2)
  goes_to (drops table pages records) old new (Ok x) d = d
  goes_to (drops table pages records) old new (Err (Because cause)) d = d
  goes_to (drops table pages records) old new (Err NoMemory) d = d
  goes_to ends old new result ended = (was_ok result ended.0, ended.1)

  carries_to : (d e : plain.Donor) (result : Result X EngineRefusal) (Does : X → Type 0) (Did : EngineAnswer → Type 0) → ((x : X) → Does x → Did (did x)) → Carries d e result Does → Carries d e (answer_of did result) Did
  carries_to d e (Ok x) Does Did to does = to x does
  carries_to d e (Err refusal) Does Did to same = same

  pub answers_to : (cause : Option Cause) (w : Way) (d e : plain.Donor) (old new : Buffered) (result : Result X EngineRefusal) (Does : X → Type 0) (Did : EngineAnswer → Type 0) → ((x : X) → Does x → Did (did x)) → Answers cause w d e old new result Does
      → Answers cause w d e old new (answer_of did result) Did
  answers_to (Some cause) w d e old new result Does Did to a = (refused result (Because cause) a.0, a.1, a.2)
  answers_to None w d e old new result Does Did to a = (goes_to w old new result a.0, carries_to d e result Does Did to a.1)

module _ {X : Type 0} (did : X → EngineAnswer) (call : EngineCall) (s t : Engine) (result : Result X EngineRefusal) (Does : X → Type 0) (to : (x : X) → Does x → Did call s t (did x)) where
  pub goes_of : Answers (cause_of s.donor call) (way_of s.donor call) s.donor t.donor s.buffer t.buffer result Does → steps.Goes call s t (answer_of did result)
  goes_of a = by result (answers_to did (cause_of s.donor call) (way_of s.donor call) s.donor t.donor s.buffer t.buffer result Does (Did call s t) to a)
    where
      by : (r : Result X EngineRefusal) → FollowsItsWay call s t (answer_of did r) → steps.Goes call s t (answer_of did r)
      by (Ok x) follows = follows
      by (Err (Because cause)) follows = follows
      by (Err NoMemory) follows = inr follows

  -- THE STEP OF A CALL OF TRANSACTIONS
  pub transacts : t.flights ≡ flown call (answer_of did result) s.flights → Answers (cause_of s.donor call) (way_of s.donor call) s.donor t.donor s.buffer t.buffer result Does → Visits s.disk t.disk → (result ≡ Err (Because DiskFault) → Rose s.disk.failures t.disk.failures) → Holds call s.disk.told t.disk.told
      → Transacts call s t (answer_of did result)
  transacts flights a visits fault holds = record {
    goes = goes_of a;
    flights = flights;
    disk = record { visits = visits; fault = λ is. fault (same_refusal did result (Because DiskFault) is) };
    holds = holds;
  }

-- A call of transactions, made on a donor over a disk that holds what it held.

module _ (d : Donor) (e : plain.Donor) (b : Buffered) (l : DiskState) where
  abbrev pub after : Engine
  after = engine e b d.engine.flights l

  -- it goes on, by what the call leaves
  goes_on : (most : ℕ) → IsDonor d → IsBuffer b → Leaves most d.engine.donor e d.engine.buffer b → LogGoes d.engine after → Keeps e b → StaysStanding d.engine.buffer b d.engine.disk.told l.told → l.told ≡ d.engine.disk.told → Stays d (record d { engine = after })
  goes_on most is buffer leaves log kept stands told =
      let pages = pages_stay IsChange most d.engine.buffer b (λ r is. is.1) leaves.grows in
      stays d after d.cloning (like_same d.cloning) is
      (record {
        engine = still_engine IsChange (λ r is. is.0) most d.engine.donor e d.engine.buffer b d.engine.flights d.engine.disk l is.engine kept leaves.grows pages stands told leaves.tables;
        buffer = buffer;
        checkpoint = refl;
        tells = ap is_some told;
        log = log;
        ring = leaves.grows.ring;
      })
      (record { files = same_files d.engine.flights.files d.engine.flights.files refl; image = image_stays d.engine after is.engine (ap is_some told) pages })
      (λ copies. stays_flown d.engine.flights copies d.engine.buffer b d.engine.disk.told l.told told (stands (beside_of d.engine.flights copies)) leaves.grows.floor)

  -- THE ACT, by what is done where the call is carried out
  pub acts : {X : Type 0} (did : X → EngineAnswer) (call : EngineCall) (result : Result X EngineRefusal) (Does : X → Type 0) (most : ℕ) → ((answer : Result EngineAnswer EngineRefusal) → Transacts call d.engine after answer → AnswersCall call d (record d { engine = after }) answer) → ((answer : Result EngineAnswer EngineRefusal) (taken : Taken) → taken_by call answer taken ≡ taken) → ((x : X) → Does x → Did call d.engine after (did x)) → ((answer : Result EngineAnswer EngineRefusal) → flown call answer d.engine.flights ≡ d.engine.flights)
      → IsDonor d → IsBuffer b → Leaves most d.engine.donor e d.engine.buffer b → LogGoes d.engine after → Keeps e b → Answers (cause_of d.engine.donor call) (way_of d.engine.donor call) d.engine.donor e d.engine.buffer b result Does → Reads (IsErrOf result (Because DiskFault)) d.engine.disk l → Holds call d.engine.disk.told l.told → StaysStanding d.engine.buffer b d.engine.disk.told l.told
      → act.EngineActs call (answer_of did result) d (record d { engine = after })
  acts did call result Does most serves same to still is buffer leaves log kept answer asks holds stands =
      let on = goes_on most is buffer leaves log kept stands asks.told in
      record {
        does = serves (answer_of did result) (transacts did call d.engine after result Does to (sym (still (answer_of did result))) answer (record { later = asks.later; orders = asks.orders; tells = ap is_some asks.told }) asks.fault holds);
        donor = on.donor;
        taken = λ taken was. subst (IsTaken (record d { engine = after })) (sym (same (answer_of did result) taken)) (on.taken taken was);
      }
