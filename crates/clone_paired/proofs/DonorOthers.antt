-- What a donor does for others leaves the session of a clone.
use Rattle.std.proofs.Common.{ℕ, ◌≡◌, ◌≢◌, ◌∙◌, ◌==◌, List, Bool, true, false, if◌then◌else◌, Option, None, Some, Ok, Err, Result, option_map, option_and_then, refl, sym, ap, subst}
use Rattle.std.specs.Bool.{⊤}
use Rattle.std.specs.Prelude.{not}
use Rattle.std.specs.Option.{option_map_or, option_or}
use Rattle.std.proofs.lemmas.Bool.{both_ways, eqb-true, ne_eqb}
use Rattle.clone_chunk.specs.declared.cause.CloneCause.{CloneCause}
use Rattle.clone_chunk.specs.declared.cause.CloneCause.TheVariants.{Busy, CompressionRefused, NoSuchSession, PageSizeMismatch, TasksOutOfRange, VersionMismatch}
use Rattle.clone_base.specs.declared.limits.TheConstants.{MOST_TASKS, PAGE_SIZE}
use Rattle.std.specs.Prelude.{nat_lt, ◌||◌}
use Rattle.clone_snapshot.specs.StageLists as lists
use Rattle.clone_snapshot.specs.StageLists.{StageList}
use Rattle.clone_archive.specs.Archived.{Archived}
use Rattle.clone_ring.specs.Window.{Window}
use Rattle.clone_plain.specs.declared.call.EngineAnswer.{EngineAnswer}
use Rattle.clone_plain.specs.declared.call.EngineCall.{EngineCall}
use Rattle.clone_plain.specs.declared.call.EngineCall.TheVariants as engine
use Rattle.clone_plain.specs.declared.refusal.EngineRefusal.{EngineRefusal}
use Rattle.clone_plain.specs.declared.refusal.EngineRefusal.TheVariants as refused
use Rattle.clone_session.specs.declared.caller.Caller.{Caller}
use Rattle.clone_session.specs.declared.caller.Hello.{Hello}
use Rattle.clone_session.specs.declared.ending.Moment.{Moment}
use Rattle.clone_session.specs.declared.refusal.CloneRefusal.{CloneRefusal}
use Rattle.clone_session.specs.declared.refusal.CloneRefusal.TheVariants.{Because, NoMemory}
use Rattle.clone_session.specs.Cloning.{Cloning, Session}
use Rattle.clone_session.specs.CloneCalls.{Archives, Claims, archived_on}
use Rattle.clone_session.specs.CloneCauses.{donor_stage, hello_cause, is_version, on_session, session_of, stale, standing_cause, whether}
use Rattle.clone_session.specs.Effects.{Becomes, advanced, aside, claimed, finished, left, opened, rejoined, reopened, stopped_at, with_noted}
use Rattle.clone_session.proofs.PartLemmas.{stands_as}
use Rattle.clone_calls.specs.declared.answer.DonorAnswer.{DonorAnswer}
use Rattle.clone_calls.specs.declared.answer.DonorAnswer.TheVariants as answer
use Rattle.clone_calls.specs.declared.block.BlockRefusal.{BlockRefusal}
use Rattle.clone_calls.specs.declared.block.BlockRefusal.TheVariants as unread
use Rattle.clone_calls.specs.declared.call.DonorCall.{DonorCall}
use Rattle.clone_calls.specs.declared.call.DonorCall.TheVariants as call
use Rattle.clone_engine.specs.Acts.{Act, Acts, Calls, Orders}
use Rattle.clone_engine.specs.Answering.{Answered, CarriesOut}
use Rattle.clone_engine.specs.Copying.{BeginsAs, RefusesBlock, moment_of}
use Rattle.clone_engine.specs.Donor.{Donor, known_files}
use Rattle.clone_engine.specs.Serving.{AnswersCall, Drops, noted_by}
use Rattle.clone_engine.specs.Steps.{has_begun}
use Rattle.clone_sides.proofs.KeptLemmas.{number_is}
use Rattle.clone_recipient.specs.Receptions.{Reception}
use Rattle.clone_network.specs.Networks.{Network}
use Rattle.clone_paired.specs.Paired.{IsPaired}
use Rattle.clone_paired.specs.Own.{ActsAside, LeavesIt, own_session}

-- what is first against a call is against it
pub or_second : {X : Type 0} (a b : Option X) → option_or a b ≡ None → b ≡ None
or_second None b is = is
or_second (Some x) b is = absurd (cc (is))

pub or_first : {X : Type 0} (a b : Option X) → option_or a b ≡ None → a ≡ None
or_first None b is = refl
or_first (Some x) b is = absurd (cc (is))

pub not_whether : (b : Bool) (cause : CloneCause) → whether (not b) cause ≡ None → b ≡ true
not_whether true cause is = refl
not_whether false cause is = absurd (cc (is))

module _ (number : ℕ) where
  abbrev Own : Cloning → Option Session
  Own c = own_session number c

  pub becomes_own : (old new : Cloning) → Becomes new old → Own new ≡ Own old
  becomes_own old new is = ap (λ (c : Cloning). session_of c number) is

  pub same_own : (old new : Cloning) → new ≡ old → Own new ≡ Own old
  same_own old new is = ap Own is

  -- another session stands
  pub none_own : (c : Cloning) (s : Session) → c.session ≡ Some s → s.number ≢ number → Own c ≡ None
  none_own c s is other =
      ap (λ (o : Option Session). option_and_then (λ (t : Session). if t.number == number then Some t else None) (option_map (λ (t : Session). record t { snap = record t.snap { room = 0 } }) o)) is
      ∙ ap (λ (b : Bool). if b then Some (record s { snap = record s.snap { room = 0 } }) else None) (ne_eqb s.number number other)

  pub gone_own : (c : Cloning) → c.session ≡ None → Own c ≡ None
  gone_own c is = ap (λ (o : Option Session). option_and_then (λ (t : Session). if t.number == number then Some t else None) (option_map (λ (t : Session). record t { snap = record t.snap { room = 0 } }) o)) is

  -- a session of another number has become another one
  pub others_own : (old like new : Cloning) (s t : Session) → old.session ≡ Some s → s.number ≢ number → like.session ≡ Some t → t.number ≡ s.number → Becomes new like → Own new ≡ Own old
  others_own old like new s t there other here same becomes =
      becomes_own like new becomes ∙ none_own like t here (λ is. other (sym same ∙ is)) ∙ sym (none_own old s there other)

  -- ---- calls of the engine

  noted_own : (asked : EngineCall) (given : Result EngineAnswer EngineRefusal) (c : Cloning) → Own (noted_by asked given c) ≡ Own c
  noted_own (engine.FlushBegin space page) given c = by (has_begun given)
    where
      by : (b : Bool) → Own (if b then with_noted (space, page) c else c) ≡ Own c
      by true = refl
      by false = refl
  noted_own asked given c = refl

  module _ (d t : Donor) where
    abbrev Stays : Type 0
    Stays = Own t.cloning ≡ Own d.cloning

    pub same_donor : t ≡ d → Stays
    same_donor is = ap (λ (x : Donor). Own x.cloning) is

    serves_own : (asked : EngineCall) (given : Result EngineAnswer EngineRefusal) → Becomes t.cloning (noted_by asked given d.cloning) → Stays
    serves_own asked given is = becomes_own (noted_by asked given d.cloning) t.cloning is ∙ noted_own asked given d.cloning

    drops_own : (o : Option Session) (table : ℕ) (given : Result EngineAnswer EngineRefusal) → Drops o table d t given → Stays
    drops_own None table given did = serves_own (engine.Drop table) given did.cloning
    drops_own (Some s) table given did = same_donor did.1

    engine_own : (asked : EngineCall) (given : Result EngineAnswer EngineRefusal) → AnswersCall asked d t given → Stays
    engine_own (engine.Drop table) given did = drops_own d.cloning.session table given did
    engine_own asked given did = serves_own asked given did.cloning

    -- ---- calls of a clone

    pub refused_own : {X : Type 0} (cause : Option CloneCause) (why : CloneRefusal) (Did : X → Type 0) → CarriesOut {X = X} cause (Err why) d t Did → Stays
    refused_own cause (Because why) Did did = same_donor did.1
    refused_own cause NoMemory Did did = becomes_own d.cloning t.cloning did.1.0

    -- a session of another number changes
    module _ (s : Session) (there : d.cloning.session ≡ Some s) (other : s.number ≢ number) where
      changed_own : (like : Cloning) (x : Session) → like.session ≡ Some x → x.number ≡ s.number → Becomes t.cloning like → Stays
      changed_own like x here same becomes = others_own d.cloning like t.cloning s x there other here same becomes

      exactly_own : (like : Cloning) (x : Session) → like.session ≡ Some x → x.number ≡ s.number → t.cloning ≡ like → Stays
      exactly_own like x here same is = changed_own like x here same (ap aside is)

      left_own : Becomes t.cloning (left d.cloning) → Stays
      left_own becomes = becomes_own (left d.cloning) t.cloning becomes ∙ gone_own (left d.cloning) refl ∙ sym (none_own d.cloning s there other)

      finished_own : (last : Bool) (chunk : ℕ) → t.cloning ≡ (if last then finished chunk s d.cloning else d.cloning) → Stays
      finished_own true chunk is = exactly_own (finished chunk s d.cloning) _ refl refl is
      finished_own false chunk is = same_own d.cloning t.cloning is

      stopped_own : (now : Moment) (o : Option Archived) → Becomes t.cloning (option_map_or (λ a. stopped_at now s a d.cloning) o d.cloning) → Stays
      stopped_own now None is = becomes_own d.cloning t.cloning is
      stopped_own now (Some a) is = changed_own (stopped_at now s a d.cloning) _ refl refl is

      advanced_own : (now : Moment) (files : List (ℕ × ℕ)) (list : StageList) → Becomes t.cloning (advanced now files s list d.cloning) → Stays
      advanced_own now files (lists.Files spaces) is = changed_own (advanced now files s (lists.Files spaces) d.cloning) _ refl refl is
      advanced_own now files (lists.Pages pages) is = stopped_own now d.cloning.archive is
      advanced_own now files (lists.Redo start end) is = changed_own (advanced now files s (lists.Redo start end) d.cloning) _ refl refl is
      advanced_own now files lists.Nothing is = becomes_own d.cloning t.cloning is

      acked_own : (b : Bool) (now : Moment) (files : List (ℕ × ℕ)) → Becomes t.cloning (if b then advanced now files s s.snap.list d.cloning else d.cloning) → Stays
      acked_own true now files is = advanced_own now files s.snap.list is
      acked_own false now files is = becomes_own d.cloning t.cloning is

    other_of : (asked : ℕ) (s : Session) → asked ≢ number → session_of d.cloning asked ≡ Some s → s.number ≢ number
    other_of asked s other is = λ same. other (sym (number_is d.cloning asked s is) ∙ same)

    there_of : (asked : ℕ) (s : Session) → session_of d.cloning asked ≡ Some s → d.cloning.session ≡ Some s
    there_of asked s is = stands_as d.cloning.session asked s is

    -- it begins, or begins again
    opens_own : (hello : Hello) → hello.session ≢ number → hello_cause d.cloning hello ≡ None → (o : Option Session) → d.cloning.session ≡ o → BeginsAs hello d t o → Stays
    opens_own hello other none None there (in_flight, pages, becomes) =
        becomes_own (opened hello (known_files d.engine) in_flight d.cloning) t.cloning becomes ∙ none_own (opened hello (known_files d.engine) in_flight d.cloning) _ refl other ∙ sym (gone_own d.cloning there)
    opens_own hello other none (Some s) there becomes =
        changed_own s there (λ same. other (sym (eqb-true s.number hello.session own) ∙ same)) (reopened hello s d.cloning) _ refl refl becomes
      where
        standing : standing_cause d.cloning.session hello ≡ None
        standing =
            or_second (whether ((hello.tasks == 0) || nat_lt MOST_TASKS hello.tasks) (TasksOutOfRange hello.tasks)) (standing_cause d.cloning.session hello)
            (or_second (whether hello.compress CompressionRefused) _
            (or_second (whether (not (hello.page_size == PAGE_SIZE)) (PageSizeMismatch hello.page_size)) _
            (or_second (whether (not (is_version hello.version)) (VersionMismatch hello.version)) _ none)))

        own : (s.number == hello.session) ≡ true
        own = not_whether (s.number == hello.session) (Busy s.number) (or_first (whether (not (s.number == hello.session)) (Busy s.number)) _ (subst (λ (x : Option Session). standing_cause x hello ≡ None) there standing))

    claims_own : (caller : Caller) (stage : ℕ) → caller.session ≢ number → (result : Result (Option ℕ) CloneCause) → Claims caller stage d.cloning t.cloning result → Stays
    claims_own caller stage other (Ok None) did = same_own d.cloning t.cloning did.2
    claims_own caller stage other (Ok (Some chunk)) did =
        let s = did.1.0 in
        exactly_own s (there_of caller.session s did.1.1) (other_of caller.session s other did.1.1) (claimed caller.task chunk s d.cloning) _ refl refl did.1.2.1
    claims_own caller stage other (Err cause) did = same_own d.cloning t.cloning did.1

    pub unread_own : (caller : Caller) (stage chunk block : ℕ) (why : BlockRefusal) → RefusesBlock caller stage chunk block d t why → Stays
    unread_own caller stage chunk block (unread.Clone (Because cause)) did = same_donor did.1
    unread_own caller stage chunk block (unread.Clone NoMemory) did = same_own d.cloning t.cloning did.1
    unread_own caller stage chunk block (unread.Engine (refused.Because cause)) did = same_own d.cloning t.cloning did.3
    unread_own caller stage chunk block (unread.Engine refused.NoMemory) did = absurd did

    archives_own : (limit : ℕ) (ring : Window) (reached : Option ℕ) → Archives {E = Unit {0}} limit ring d.cloning t.cloning (Ok reached) → Stays
    archives_own limit ring None did = same_own d.cloning t.cloning did.1
    archives_own limit ring (Some lsn) did = becomes_own (record d.cloning { archive = Some (archived_on limit ring did.0) }) t.cloning did.2

    -- the session that a call found
    pub found_one : (asked : ℕ) (cause : Session → Option CloneCause) → on_session d.cloning asked cause ≡ None → (s : Session) × (session_of d.cloning asked ≡ Some s)
    found_one asked cause none = by (session_of d.cloning asked) refl none
      where
        by : (o : Option Session) → session_of d.cloning asked ≡ o → option_map_or cause o (Some NoSuchSession) ≡ None → (s : Session) × (session_of d.cloning asked ≡ Some s)
        by None is none = absurd (cc (none))
        by (Some s) is none = (s, is)

    leaves_own : (asked : ℕ) (cause : Session → Option CloneCause) → asked ≢ number → on_session d.cloning asked cause ≡ None → Becomes t.cloning (left d.cloning) → Stays
    leaves_own asked cause other none becomes =
        let s = found_one asked cause none in
        left_own s.0 (there_of asked s.0 s.1) (other_of asked s.0 other s.1) becomes

    -- A CALL that isn't of this session leaves it.
    pub call_own : (asked : DonorCall) (given : DonorAnswer) → LeavesIt number asked → Answered asked given d t → Stays
    call_own (call.Engine asked) (answer.Engine given) aside_is did = engine_own asked given did
    call_own (call.Init hello) (answer.Init (Ok info)) other did = opens_own hello other did.0 d.cloning.session refl did.1.begins
    call_own (call.Init hello) (answer.Init (Err why)) other did = refused_own _ why _ did
    call_own (call.Attach caller) (answer.Attach result) aside_is did = same_donor did.1
    call_own (call.Reinit caller stage finished) (answer.Reinit (Ok info)) other did =
        let r = did.1.0 in
        changed_own r.0 (there_of caller.session r.0 r.1) (other_of caller.session r.0 other r.1) (rejoined caller.incarnation r.2.0 r.0 d.cloning) _ refl refl r.2.3
    call_own (call.Reinit caller stage finished) (answer.Reinit (Err why)) other did = refused_own _ why _ did
    call_own (call.ReinitBlocks caller stage has) (answer.ReinitBlocks (Ok info)) other did =
        let r = did.1.0 in
        changed_own r.0 (there_of caller.session r.0 r.1) (other_of caller.session r.0 other r.1) (rejoined caller.incarnation r.2.0 r.0 d.cloning) _ refl refl r.2.3
    call_own (call.ReinitBlocks caller stage has) (answer.ReinitBlocks (Err why)) other did = refused_own _ why _ did
    call_own (call.Kept caller stage chunk) (answer.Kept (Ok mask)) aside_is did = same_donor did.1.1
    call_own (call.Kept caller stage chunk) (answer.Kept (Err why)) aside_is did = same_donor did.1
    call_own (call.Execute caller stage) (answer.Execute (Ok done)) aside_is did = same_donor did.1
    call_own (call.Execute caller stage) (answer.Execute (Err why)) aside_is did = same_donor did.1
    call_own (call.Claim caller stage) (answer.Claim result) other did = claims_own caller stage other result did.0
    call_own (call.ReadBlock caller stage chunk block) (answer.ReadBlock (Ok (read, last))) other did =
        let g = did.1.answers in
        finished_own g.0 (there_of caller.session g.0 g.1) (other_of caller.session g.0 other g.1) last chunk g.2.1
    call_own (call.ReadBlock caller stage chunk block) (answer.ReadBlock (Err why)) other did = unread_own caller stage chunk block why did
    call_own (call.Ack caller stage floor) (answer.Ack (Ok info)) other did =
        let a = did.1.acknowledges in
        acked_own a.0 (there_of caller.session a.0 a.1) (other_of caller.session a.0 other a.1) (stage == donor_stage a.0) (moment_of d.engine) (known_files d.engine) a.2
    call_own (call.Ack caller stage floor) (answer.Ack (Err why)) other did = refused_own _ why _ did
    call_own (call.Exit caller) (answer.Exit (Ok gone)) other did = leaves_own caller.session (λ s. stale s caller.incarnation) other did.0 did.1.0
    call_own (call.Exit caller) (answer.Exit (Err why)) other did = same_donor did.1
    call_own (call.Abandon session) (answer.Abandon (Ok gone)) other did = leaves_own session (λ s. None) other did.0 did.1.0
    call_own (call.Abandon session) (answer.Abandon (Err why)) other did = same_donor did.1
    call_own (call.Archive limit) (answer.Archive (Ok reached)) aside_is did = archives_own limit d.engine.buffer.ring reached did.0
    call_own (call.Archive limit) (answer.Archive (Err why)) aside_is did = becomes_own d.cloning t.cloning did.0
    call_own asked given aside_is did = absurd did

  pub act_own : (d t : Donor) (act : Act) → Acts act d t → ActsAside number act → Own t.cloning ≡ Own d.cloning
  act_own d t (Calls asked given) acts leaves = call_own d t asked given leaves acts.does
  act_own d t Orders acts leaves = ap (λ (x : Donor). Own x.cloning) acts.does.same

pub acts_pair : (d t : Donor) (act : Act) (r : Reception) (n : Network) → Acts act d t → ActsAside r.table.session act → IsPaired (own_session r.table.session d.cloning) r n → IsPaired (own_session r.table.session t.cloning) r n
acts_pair d t act r n acts leaves = subst (λ (o : Option Session). IsPaired o r n) (sym (act_own r.table.session d t act acts leaves))
