-- Over each act of a donor what its session copies stays in order.
use Rattle.std.proofs.Common.{ℕ, ◌≡◌, ◌==◌, List, Bool, true, false, if◌then◌else◌, Option, None, Some, IsSome, Ok, Err, Result, option_map, not, refl, sym, ap, subst}
use Rattle.std.specs.Option.{option_map_or}
use Rattle.clone_outside.specs.Disk.{DiskImage}
use Rattle.clone_archive.specs.Archived.{Archived}
use Rattle.clone_ring.specs.Window.{Window}
use Rattle.clone_chunk.specs.declared.cause.CloneCause.{CloneCause}
use Rattle.clone_chunk.specs.declared.partials.PartialChunk.{PartialChunk}
use Rattle.clone_plain.specs.declared.call.EngineAnswer.{EngineAnswer}
use Rattle.clone_plain.specs.declared.call.EngineCall.{EngineCall}
use Rattle.clone_plain.specs.declared.call.EngineCall.TheVariants as engine
use Rattle.clone_plain.specs.declared.refusal.EngineRefusal.{EngineRefusal}
use Rattle.clone_plain.specs.declared.refusal.EngineRefusal.TheVariants as refused
use Rattle.clone_snapshot.specs.StageLists as lists
use Rattle.clone_snapshot.specs.StageLists.{StageList}
use Rattle.clone_snapshot.specs.Snaps.{Snap}
use Rattle.clone_session.specs.declared.caller.Caller.{Caller}
use Rattle.clone_session.specs.declared.caller.Hello.{Hello}
use Rattle.clone_session.specs.declared.ending.Moment.{Moment}
use Rattle.clone_session.specs.declared.refusal.CloneRefusal.{CloneRefusal}
use Rattle.clone_session.specs.declared.refusal.CloneRefusal.TheVariants.{Because, NoMemory}
use Rattle.clone_session.specs.Cloning.{Cloning, Session}
use Rattle.clone_session.specs.CloneCalls.{Archives, Claims, Rejoins, archived_on}
use Rattle.clone_session.specs.CloneCauses.{donor_stage, session_of}
use Rattle.clone_session.specs.Effects.{Becomes, advanced, claimed, finished, is_listed, left, opened, rejoined, reopened, stopped_at, with_noted}
use Rattle.clone_session.proofs.PartLemmas.{stands_as}
use Rattle.clone_calls.specs.declared.answer.DonorAnswer.{DonorAnswer}
use Rattle.clone_calls.specs.declared.answer.DonorAnswer.TheVariants as answer
use Rattle.clone_calls.specs.declared.block.BlockRefusal.{BlockRefusal}
use Rattle.clone_calls.specs.declared.block.BlockRefusal.TheVariants as unread
use Rattle.clone_calls.specs.declared.call.DonorCall.{DonorCall}
use Rattle.clone_calls.specs.declared.call.DonorCall.TheVariants as call
use Rattle.clone_engine.specs.Acts.{Act, Acts, Calls, Orders}
use Rattle.clone_engine.specs.Answering.{Answered, CarriesOut}
use Rattle.clone_engine.specs.Copying.{BeginsAs, RefusesBlock, moment_of}
use Rattle.clone_engine.specs.Donor.{Donor, IsDonor, NotesPages, known_files}
use Rattle.clone_engine.specs.Serving.{AnswersCall, Drops, noted_by}
use Rattle.clone_engine.specs.Steps.{has_begun}
use Rattle.clone_engine.proofs.ToldLemmas.{of_told}
use Rattle.clone_sides.proofs.OptionLemmas.{told_disk}
use Rattle.clone_paired.specs.Order.{CopiesInOrder, IsInOrder, SpacesAscend}
use Rattle.clone_paired.proofs.DonorPremisesFiles.{files_ascend, pages_listed}
use Rattle.clone_paired.proofs.DonorPremisesOrder.{kept_ascend}

-- how much room there is for chunks matters not
abbrev strip : Option Session → Option Session
strip session = option_map (λ (s : Session). record s { snap = record s.snap { room = 0 } }) session

stripped : (o : Option Session) → CopiesInOrder o → CopiesInOrder (strip o)
stripped None is = tt
stripped (Some s) is = is

unstripped : (o : Option Session) → CopiesInOrder (strip o) → CopiesInOrder o
unstripped None is = tt
unstripped (Some s) is = is

abbrev Ordered : Cloning → Type 0
Ordered c = CopiesInOrder c.session

becomes_ordered : (like new : Cloning) → Becomes new like → Ordered like → Ordered new
becomes_ordered like new is had = unstripped new.session (subst CopiesInOrder (sym (ap (λ (c : Cloning). c.session) is)) (stripped like.session had))

noted_ordered : (asked : EngineCall) (given : Result EngineAnswer EngineRefusal) (c : Cloning) → Ordered c → Ordered (noted_by asked given c)
noted_ordered (engine.FlushBegin space page) given c had = by (has_begun given)
  where
    by : (b : Bool) → Ordered (if b then with_noted (space, page) c else c)
    by true = had
    by false = had
noted_ordered asked given c had = had

module _ (d t : Donor) (is : IsDonor d) (told : IsSome d.engine.disk.told) (had : Ordered d.cloning) where
  disk : (m : DiskImage) × (d.engine.disk.told ≡ Some m)
  disk = told_disk d.engine.disk.told told

  known : SpacesAscend 0 (known_files d.engine)
  known = files_ascend d.engine is.engine disk.0 disk.1

  same_donor : t ≡ d → Ordered t.cloning
  same_donor same = subst (λ (x : Donor). Ordered x.cloning) (sym same) had

  same_clone : t.cloning ≡ d.cloning → Ordered t.cloning
  same_clone same = subst Ordered (sym same) had

  becomes : (like : Cloning) → Becomes t.cloning like → Ordered like → Ordered t.cloning
  becomes like = becomes_ordered like t.cloning

  -- ---- calls of the engine

  serves : (asked : EngineCall) (given : Result EngineAnswer EngineRefusal) → Becomes t.cloning (noted_by asked given d.cloning) → Ordered t.cloning
  serves asked given like = becomes (noted_by asked given d.cloning) like (noted_ordered asked given d.cloning had)

  drops : (o : Option Session) (table : ℕ) (given : Result EngineAnswer EngineRefusal) → Drops o table d t given → Ordered t.cloning
  drops None table given did = serves (engine.Drop table) given did.cloning
  drops (Some s) table given did = same_donor did.1

  engine_call : (asked : EngineCall) (given : Result EngineAnswer EngineRefusal) → AnswersCall asked d t given → Ordered t.cloning
  engine_call (engine.Drop table) given did = drops d.cloning.session table given did
  engine_call asked given did = serves asked given did.cloning

  -- ---- calls of a clone

  refuses : {X : Type 0} (cause : Option CloneCause) (why : CloneRefusal) (Did : X → Type 0) → CarriesOut {X = X} cause (Err why) d t Did → Ordered t.cloning
  refuses cause (Because why) Did did = same_donor did.1
  refuses cause NoMemory Did did = becomes d.cloning did.1.0 had

  there_of : (asked : ℕ) (s : Session) → session_of d.cloning asked ≡ Some s → d.cloning.session ≡ Some s
  there_of asked s found = stands_as d.cloning.session asked s found

  module _ (s : Session) (there : d.cloning.session ≡ Some s) where
    own : IsInOrder s.created s.snap.list
    own = subst CopiesInOrder there had

    reopens : (hello : Hello) → Becomes t.cloning (reopened hello s d.cloning) → Ordered t.cloning
    reopens hello like = becomes (reopened hello s d.cloning) like own

    rejoins : (incarnation : ℕ) (snap : Snap) → snap.list ≡ s.snap.list → Becomes t.cloning (rejoined incarnation snap s d.cloning) → Ordered t.cloning
    rejoins incarnation snap list like = becomes (rejoined incarnation snap s d.cloning) like (subst (IsInOrder s.created) (sym list) own)

    claims : (task chunk : ℕ) → t.cloning ≡ claimed task chunk s d.cloning → Ordered t.cloning
    claims task chunk same = subst Ordered (sym same) own

    finishes : (last : Bool) (chunk : ℕ) → t.cloning ≡ (if last then finished chunk s d.cloning else d.cloning) → Ordered t.cloning
    finishes true chunk same = subst Ordered (sym same) own
    finishes false chunk same = same_clone same

    stops : (now : Moment) (o : Option Archived) → Becomes t.cloning (option_map_or (λ a. stopped_at now s a d.cloning) o d.cloning) → Ordered t.cloning
    stops now None like = becomes d.cloning like had
    stops now (Some a) like = becomes (stopped_at now s a d.cloning) like tt

    noted : NotesPages d.engine d.cloning.tracking.pages
    noted = of_told (λ m. NotesPages d.engine d.cloning.tracking.pages) d.engine.disk.told disk.0 disk.1 is.notes

    advances : (now : Moment) (list : StageList) → Becomes t.cloning (advanced now (known_files d.engine) s list d.cloning) → Ordered t.cloning
    advances now (lists.Files spaces) like =
        let listed = pages_listed d.engine is.engine disk.0 disk.1 d.cloning.tracking.pages noted in
        becomes (advanced now (known_files d.engine) s (lists.Files spaces) d.cloning) like (listed.0, listed.1, kept_ascend (λ (file : ℕ × ℕ). not (is_listed file.0 spaces)) 0 (known_files d.engine) known)
    advances now (lists.Pages pages) like = stops now d.cloning.archive like
    advances now (lists.Redo start end) like = becomes (advanced now (known_files d.engine) s (lists.Redo start end) d.cloning) like tt
    advances now lists.Nothing like = becomes d.cloning like had

    acks : (b : Bool) (now : Moment) → Becomes t.cloning (if b then advanced now (known_files d.engine) s s.snap.list d.cloning else d.cloning) → Ordered t.cloning
    acks true now like = advances now s.snap.list like
    acks false now like = becomes d.cloning like had

  opens : (hello : Hello) (o : Option Session) → d.cloning.session ≡ o → BeginsAs hello d t o → Ordered t.cloning
  opens hello None there (in_flight, pages, like) = becomes (opened hello (known_files d.engine) in_flight d.cloning) like known
  opens hello (Some s) there like = reopens s there hello like

  claim : (caller : Caller) (stage : ℕ) (result : Result (Option ℕ) CloneCause) → Claims caller stage d.cloning t.cloning result → Ordered t.cloning
  claim caller stage (Ok None) did = same_clone did.2
  claim caller stage (Ok (Some chunk)) did = claims did.1.0 (there_of caller.session did.1.0 did.1.1) caller.task chunk did.1.2.1
  claim caller stage (Err cause) did = same_clone did.1

  unreads : (caller : Caller) (stage chunk block : ℕ) (why : BlockRefusal) → RefusesBlock caller stage chunk block d t why → Ordered t.cloning
  unreads caller stage chunk block (unread.Clone (Because cause)) did = same_donor did.1
  unreads caller stage chunk block (unread.Clone NoMemory) did = same_clone did.1
  unreads caller stage chunk block (unread.Engine (refused.Because cause)) did = same_clone did.3
  unreads caller stage chunk block (unread.Engine refused.NoMemory) did = absurd did

  archives : (limit : ℕ) (ring : Window) (reached : Option ℕ) → Archives {E = Unit {0}} limit ring d.cloning t.cloning (Ok reached) → Ordered t.cloning
  archives limit ring None did = same_clone did.1
  archives limit ring (Some lsn) did = becomes (record d.cloning { archive = Some (archived_on limit ring did.0) }) did.2 had

  leaves : Becomes t.cloning (left d.cloning) → Ordered t.cloning
  leaves like = becomes (left d.cloning) like tt

  joins : (caller : Caller) (found : Session) → session_of d.cloning caller.session ≡ Some found → (stage : ℕ) (bitmap : List ℕ) (partials : List PartialChunk) → Rejoins caller.incarnation stage bitmap partials found d.cloning t.cloning → Ordered t.cloning
  joins caller found there stage bitmap partials (snap, list, reset, like) = rejoins found (there_of caller.session found there) caller.incarnation snap list like

  call_ordered : (asked : DonorCall) (given : DonorAnswer) → Answered asked given d t → Ordered t.cloning
  call_ordered (call.Engine asked) (answer.Engine given) did = engine_call asked given did
  call_ordered (call.Init hello) (answer.Init (Ok info)) did = opens hello d.cloning.session refl did.1.begins
  call_ordered (call.Init hello) (answer.Init (Err why)) did = refuses _ why _ did
  call_ordered (call.Attach caller) (answer.Attach result) did = same_donor did.1
  call_ordered (call.Reinit caller stage finished) (answer.Reinit (Ok info)) did = let r = did.1.0 in joins caller r.0 r.1 stage _ _ r.2
  call_ordered (call.Reinit caller stage finished) (answer.Reinit (Err why)) did = refuses _ why _ did
  call_ordered (call.ReinitBlocks caller stage has) (answer.ReinitBlocks (Ok info)) did = let r = did.1.0 in joins caller r.0 r.1 stage _ _ r.2
  call_ordered (call.ReinitBlocks caller stage has) (answer.ReinitBlocks (Err why)) did = refuses _ why _ did
  call_ordered (call.Kept caller stage chunk) (answer.Kept (Ok mask)) did = same_donor did.1.1
  call_ordered (call.Kept caller stage chunk) (answer.Kept (Err why)) did = same_donor did.1
  call_ordered (call.Execute caller stage) (answer.Execute (Ok done)) did = same_donor did.1
  call_ordered (call.Execute caller stage) (answer.Execute (Err why)) did = same_donor did.1
  call_ordered (call.Claim caller stage) (answer.Claim result) did = claim caller stage result did.0
  call_ordered (call.ReadBlock caller stage chunk block) (answer.ReadBlock (Ok (read, last))) did = let g = did.1.answers in finishes g.0 (there_of caller.session g.0 g.1) last chunk g.2.1
  call_ordered (call.ReadBlock caller stage chunk block) (answer.ReadBlock (Err why)) did = unreads caller stage chunk block why did
  call_ordered (call.Ack caller stage floor) (answer.Ack (Ok info)) did =
      let a = did.1.acknowledges in
      acks a.0 (there_of caller.session a.0 a.1) (stage == donor_stage a.0) (moment_of d.engine) a.2
  call_ordered (call.Ack caller stage floor) (answer.Ack (Err why)) did = refuses _ why _ did
  call_ordered (call.Exit caller) (answer.Exit (Ok gone)) did = leaves did.1.0
  call_ordered (call.Exit caller) (answer.Exit (Err why)) did = same_donor did.1
  call_ordered (call.Abandon session) (answer.Abandon (Ok gone)) did = leaves did.1.0
  call_ordered (call.Abandon session) (answer.Abandon (Err why)) did = same_donor did.1
  call_ordered (call.Archive limit) (answer.Archive (Ok reached)) did = archives limit d.engine.buffer.ring reached did.0
  call_ordered (call.Archive limit) (answer.Archive (Err why)) did = becomes d.cloning did.0 had
  call_ordered asked given did = absurd did

  pub act_ordered : (act : Act) → Acts act d t → Ordered t.cloning
  act_ordered (Calls asked given) acts = call_ordered asked given acts.does
  act_ordered Orders acts = same_clone (ap (λ (x : Donor). x.cloning) acts.does.same)

pub none_ordered : (d : Donor) → d.cloning.session ≡ None → Ordered d.cloning
none_ordered d none = subst CopiesInOrder (sym none) tt
