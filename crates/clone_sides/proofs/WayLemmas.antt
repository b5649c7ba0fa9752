-- WHAT AN ACT IS to sessions: it says nothing to any, it tells the stage of the open one, it opens
-- one, it gives a block, it acknowledges a stage, or it ends the open one.
use Rattle.std.proofs.Common.{◌≡◌, [], ℕ, Bool, true, false, List, Option, None, Some, Result, Ok, Err, is_some, refl, sym, ap, subst, ◌∙◌}
use Rattle.std.proofs.lemmas.Bool.{eqb-true, true≢false}
use Rattle.std.specs.declared.alloc.AllocError.{AllocError}
use Rattle.clone_snapshot.specs.StageLists.{StageList}
use Rattle.clone_chunk.specs.declared.cause.CloneCause.{CloneCause}
use Rattle.clone_chunk.specs.declared.partials.PartialChunk.{PartialChunk}
use Rattle.clone_accepted.specs.Answers.{Stage}
use Rattle.clone_calls.specs.declared.answer.DonorAnswer.TheVariants as answer
use Rattle.clone_calls.specs.declared.block.Block.{Block}
use Rattle.clone_calls.specs.declared.block.BlockRefusal.{BlockRefusal}
use Rattle.clone_calls.specs.declared.block.BlockRefusal.TheVariants as unread
use Rattle.clone_calls.specs.declared.call.DonorCall.TheVariants as call
use Rattle.clone_plain.specs.declared.refusal.EngineRefusal.TheVariants as engine
use Rattle.clone_session.specs.declared.caller.Caller.{Caller}
use Rattle.clone_session.specs.declared.caller.Hello.{Hello}
use Rattle.clone_session.specs.declared.info.StageInfo.{StageInfo}
use Rattle.clone_session.specs.declared.refusal.CloneRefusal.{CloneRefusal}
use Rattle.clone_session.specs.declared.refusal.CloneRefusal.TheVariants.{Because, NoMemory}
use Rattle.clone_session.specs.Cloning.{Cloning, Session}
use Rattle.clone_session.specs.CloneCalls.{Claims, Reinits}
use Rattle.clone_session.specs.CloneCauses.{acknowledgement_cause, block_cause}
use Rattle.clone_session.specs.Effects.{Becomes, Tells as TellsInfo, begun, left, opened, rejoined, reopened}
use Rattle.clone_session.proofs.PartLemmas.{stands_as}
use Rattle.clone_engine.specs.Acts as act
use Rattle.clone_engine.specs.Acts.{Act, Does, after_act}
use Rattle.clone_engine.specs.Answering.{Answered, CarriesOut}
use Rattle.clone_engine.specs.Reading.{OnlyVisits}
use Rattle.clone_engine.specs.Copying.{Acks, Begins, BeginsAs, Gives, RefusesBlock, Settles, moment_of, taken_at}
use Rattle.clone_engine.specs.Donor.{Donor, known_files}
use Rattle.clone_engine.specs.Engine.{Engine}
use Rattle.clone_engine.specs.Taken.{Taken}
use Rattle.clone_sides.specs.Answered.{answered_by, ends, opens, to_session, told_by}
use Rattle.clone_sides.proofs.CallLemmas.{Tells, call_leaves, follows_call, follows_same, leaves_same_donor}
use Rattle.clone_sides.proofs.KeptLemmas.{Leaves, leaves_archived, leaves_as, leaves_becomes, leaves_same, leaves_session, session_left, number_in, number_there}
use Rattle.clone_sides.proofs.HistoryLemmas.{Lengthens, lengthens_none}
use Rattle.clone_sides.proofs.MadeLemmas.{Follows}

-- it opens no session, and ends none
pub record IsNeither (a : Act) : Type 0 where
  pub opens_none : (number : ℕ) → opens number a ≡ false
  pub ends_none : ends a ≡ false

pub record IsQuiet (a : Act) (d t : Donor) : Type 0 where
  pub silent : (number : ℕ) → answered_by number a ≡ []
  pub neither : IsNeither a
  pub leaves : Leaves d.cloning t.cloning
  pub follows : (s : Session) → d.cloning.session ≡ Some s → (taken : Taken) → Follows d t taken (after_act a d t taken)

pub record IsTelling (a : Act) (d t : Donor) (info : StageInfo) : Type 0 where
  pub says : (number : ℕ) → answered_by number a ≡ to_session number info.session (Stage (told_by info.plan))
  pub opens_own : (number : ℕ) → opens number a ≡ true → info.session ≡ number
  pub ends_none : ends a ≡ false
  pub leaves : Leaves d.cloning t.cloning
  pub same : t.engine ≡ d.engine
  pub news : (taken : Taken) → after_act a d t taken ≡ taken
  pub tells : TellsInfo t.cloning info

pub record IsOpening (a : Act) (d t : Donor) (hello : Hello) (info : StageInfo) : Type 0 where
  pub is : a ≡ act.Calls (call.Init hello) (answer.Init (Ok info))
  pub none : d.cloning.session ≡ None
  pub in_flight : List (ℕ × ℕ)
  pub becomes : Becomes t.cloning (opened hello (known_files d.engine) in_flight d.cloning)
  pub same : t.engine ≡ d.engine
  pub tells : TellsInfo t.cloning info

pub record IsGiving (a : Act) (d t : Donor) (caller : Caller) (stage chunk number : ℕ) (read : Block) (last : Bool) : Type 0 where
  pub is : a ≡ act.Calls (call.ReadBlock caller stage chunk number) (answer.ReadBlock (Ok (read, last)))
  pub none : block_cause d.cloning caller stage chunk number ≡ None
  pub gives : Gives caller chunk number d t read last

pub record IsAcking (a : Act) (d t : Donor) (caller : Caller) (stage floor : ℕ) (info : StageInfo) : Type 0 where
  pub is : a ≡ act.Calls (call.Ack caller stage floor) (answer.Ack (Ok info))
  pub none : acknowledgement_cause d.cloning caller stage floor (moment_of d.engine).position ≡ None
  pub acks : Acks caller stage d t info

pub record IsLeaving (a : Act) (d t : Donor) : Type 0 where
  pub silent : (number : ℕ) → answered_by number a ≡ []
  pub opens_none : (number : ℕ) → opens number a ≡ false
  pub ends_it : ends a ≡ true
  pub becomes : Becomes t.cloning (left d.cloning)

pub data Way (a : Act) (d t : Donor) : Type 0 where
  Quiet : IsQuiet a d t → Way a d t
  Telling : (info : StageInfo) → IsTelling a d t info → Way a d t
  Opening : (hello : Hello) (info : StageInfo) → IsOpening a d t hello info → Way a d t
  Giving : (caller : Caller) (stage chunk number : ℕ) (read : Block) (last : Bool) → IsGiving a d t caller stage chunk number read last → Way a d t
  Acking : (caller : Caller) (stage floor : ℕ) (info : StageInfo) → IsAcking a d t caller stage floor info → Way a d t
  Leaving : IsLeaving a d t → Way a d t

-- WHAT AN ANSWER TELLS is of the session that is open.

pub told_number : (c : Cloning) (info : StageInfo) → TellsInfo c info → number_in c ≡ Some info.session
told_number c info (s, there, is) = number_there c s there ∙ ap (λ (i : StageInfo). Some i.session) (sym is)

-- AN ACT, with whether the disk tells and what becomes of the history
pub record Went (a : Act) (d t : Donor) : Type 0 where
  pub way : Way a d t
  pub tells : Tells d.engine t.engine
  pub lengthens : Lengthens d.engine.donor t.engine.donor

module _ (d t : Donor) where
  same_engine : t.engine ≡ d.engine → Tells d.engine t.engine × Lengthens d.engine.donor t.engine.donor
  same_engine same = (ap (λ (e : Engine). is_some e.disk.told) same, lengthens_none d.engine.donor t.engine.donor (ap (λ (e : Engine). e.donor) same))

  -- nothing is answered, and nothing has changed but the disk's count of faults and the room
  quietly : (a : Act) → ((number : ℕ) → answered_by number a ≡ []) → IsNeither a → ((taken : Taken) → after_act a d t taken ≡ taken) → Leaves d.cloning t.cloning → t.engine.flights.files ≡ d.engine.flights.files → Way a d t
  quietly a silent neither news leaves files = Quiet (record {
    silent = silent;
    neither = neither;
    leaves = leaves;
    follows = λ s stands taken. subst (Follows d t taken) (sym (news taken)) (follows_same d t taken files);
  })

  -- so it is where a call is refused
  refused : {X : Type 0} (a : Act) → ((number : ℕ) → answered_by number a ≡ []) → IsNeither a → ((taken : Taken) → after_act a d t taken ≡ taken) → (cause : Option CloneCause) (why : CloneRefusal) (Did : X → Type 0) → CarriesOut {X = X} cause (Err why) d t Did → Went a d t
  refused {X} a silent neither news cause why Did did =
      let (engine, leaves) = by why did in
      let same = same_engine engine in
      record { way = quietly a silent neither news leaves (ap (λ (e : Engine). e.flights.files) engine); tells = same.0; lengthens = same.1 }
    where
      by : (why : CloneRefusal) → CarriesOut {X = X} cause (Err why) d t Did → (t.engine ≡ d.engine) × Leaves d.cloning t.cloning
      by (Because why) did = (ap (λ (x : Donor). x.engine) did.1, leaves_same d.cloning t.cloning (ap (λ (x : Donor). x.cloning) did.1))
      by NoMemory did = (did.1.1, leaves_becomes d.cloning t.cloning did.1.0)

  unchanged : (a : Act) → ((number : ℕ) → answered_by number a ≡ []) → IsNeither a → ((taken : Taken) → after_act a d t taken ≡ taken) → t ≡ d → Went a d t
  unchanged a silent neither news same =
      let leaves = leaves_same_donor d t same in
      record { way = quietly a silent neither news leaves.leaves (ap (λ (x : Donor). x.engine.flights.files) same); tells = leaves.tells; lengthens = leaves.lengthens }

  -- a claim
  claimed : (caller : Caller) (stage : ℕ) (result : Result (Option ℕ) CloneCause) → Claims caller stage d.cloning t.cloning result → Leaves d.cloning t.cloning
  claimed caller stage (Ok None) is = leaves_same d.cloning t.cloning is.2
  claimed caller stage (Ok (Some chunk)) is =
      subst (λ (c : Cloning). Leaves d.cloning c) (sym is.1.2.1) (leaves_session d.cloning is.1.0 _ (stands_as d.cloning.session caller.session is.1.0 is.1.1) refl)
  claimed caller stage (Err cause) is = leaves_same d.cloning t.cloning is.1

  -- a block that wasn't read
  unread_went : (caller : Caller) (stage chunk number : ℕ) (why : BlockRefusal) → RefusesBlock caller stage chunk number d t why → Went (act.Calls (call.ReadBlock caller stage chunk number) (answer.ReadBlock (Err why))) d t
  unread_went caller stage chunk number why did =
      let (tells, lengthens, leaves, files) = by why did in
      record { way = quietly _ (λ n. refl) (record { opens_none = λ n. refl; ends_none = refl }) (λ taken. refl) leaves files; tells = tells; lengthens = lengthens }
    where
      same_donor : t ≡ d → Tells d.engine t.engine × Lengthens d.engine.donor t.engine.donor × Leaves d.cloning t.cloning × (t.engine.flights.files ≡ d.engine.flights.files)
      same_donor same = (let leaves = leaves_same_donor d t same in (leaves.tells, leaves.lengthens, leaves.leaves, ap (λ (x : Donor). x.engine.flights.files) same))

      visited : OnlyVisits d.engine t.engine → t.cloning ≡ d.cloning → Tells d.engine t.engine × Lengthens d.engine.donor t.engine.donor × Leaves d.cloning t.cloning × (t.engine.flights.files ≡ d.engine.flights.files)
      visited visits same = (
        ap (λ (e : Engine). is_some e.disk.told) visits.same,
        lengthens_none d.engine.donor t.engine.donor (ap (λ (e : Engine). e.donor) visits.same),
        leaves_same d.cloning t.cloning same,
        ap (λ (e : Engine). e.flights.files) visits.same,
      )

      by : (why : BlockRefusal) → RefusesBlock caller stage chunk number d t why → Tells d.engine t.engine × Lengthens d.engine.donor t.engine.donor × Leaves d.cloning t.cloning × (t.engine.flights.files ≡ d.engine.flights.files)
      by (unread.Clone (Because cause)) did = same_donor did.1
      by (unread.Clone NoMemory) did = visited did.0 did.1
      by (unread.Engine (engine.Because cause)) did = visited did.2 did.3
      by (unread.Engine engine.NoMemory) did = absurd did

  -- a later incarnation joins the session
  rejoined_leaves : (caller : Caller) (stage : ℕ) (bitmap : List ℕ) (partials : List PartialChunk) (info : StageInfo) → Reinits caller stage bitmap partials d.cloning t.cloning info → Leaves d.cloning t.cloning
  rejoined_leaves caller stage bitmap partials info did =
      let s = did.0 in
      let snap = did.2.0 in
      leaves_as d.cloning (rejoined caller.incarnation snap s d.cloning) t.cloning
      (session_left d.cloning s (record s { incarnation = caller.incarnation; snap = snap }) (stands_as d.cloning.session caller.session s did.1) (ap (λ (l : StageList). (s.number, l, s.created)) did.2.1)) refl refl did.2.3

  telling : (a : Act) (info : StageInfo) → ((number : ℕ) → answered_by number a ≡ to_session number info.session (Stage (told_by info.plan))) → IsNeither a → ((taken : Taken) → after_act a d t taken ≡ taken) → Leaves d.cloning t.cloning → t.engine ≡ d.engine → TellsInfo t.cloning info → Went a d t
  telling a info says neither news leaves same tells =
      let both = same_engine same in
      record {
        way = Telling info (record { says = says; opens_own = λ number is. absurd (true≢false (sym is ∙ neither.opens_none number)); ends_none = neither.ends_none; leaves = leaves; same = same; news = news; tells = tells });
        tells = both.0;
        lengthens = both.1;
      }

  -- a session begins, or begins again
  begins : (hello : Hello) (info : StageInfo) → Begins hello d t info → Went (act.Calls (call.Init hello) (answer.Init (Ok info))) d t
  begins hello info did =
      let both = same_engine did.engine in
      record { way = by d.cloning.session refl did.begins; tells = both.0; lengthens = both.1 }
    where
      by : (o : Option Session) → d.cloning.session ≡ o → BeginsAs hello d t o → Way (act.Calls (call.Init hello) (answer.Init (Ok info))) d t
      by None none (in_flight, pages, becomes) = Opening hello info (record { is = refl; none = none; in_flight = in_flight; becomes = becomes; same = did.engine; tells = did.tells })
      by (Some s) stands becomes = Telling info (record {
        says = λ number. refl;
        opens_own = λ number is. eqb-true info.session number is;
        ends_none = refl;
        leaves = leaves_as d.cloning (reopened hello s d.cloning) t.cloning (session_left d.cloning s (record s { incarnation = hello.incarnation; snap = begun s.snap.list }) stands refl) refl refl becomes;
        same = did.engine;
        news = λ taken. ap (λ (o : Option Session). taken_at d t o taken) stands;
        tells = did.tells;
      })

  -- the session is gone
  leaving : (a : Act) → ((number : ℕ) → answered_by number a ≡ []) → ((number : ℕ) → opens number a ≡ false) → ends a ≡ true → Becomes t.cloning (left d.cloning) × Settles d t → Went a d t
  leaving a silent opens_none ends_it did = record {
    way = Leaving (record { silent = silent; opens_none = opens_none; ends_it = ends_it; becomes = did.0 });
    tells = ap (λ (e : Engine). is_some e.disk.told) did.1;
    lengthens = lengthens_none d.engine.donor t.engine.donor (ap (λ (e : Engine). e.donor) did.1);
  }

  archived : (limit : ℕ) (result : Result (Option ℕ) AllocError) → Answered (call.Archive limit) (answer.Archive result) d t → Went (act.Calls (call.Archive limit) (answer.Archive result)) d t
  archived limit (Ok reached) did = record {
    way = quietly _ (λ n. refl) (record { opens_none = λ n. refl; ends_none = refl }) (λ taken. refl) (leaves_archived limit d.engine.buffer.ring d.cloning t.cloning reached did.0) (ap (λ (e : Engine). e.flights.files) did.1);
    tells = ap (λ (e : Engine). is_some e.disk.told) did.1;
    lengthens = lengthens_none d.engine.donor t.engine.donor (ap (λ (e : Engine). e.donor) did.1);
  }
  archived limit (Err why) did =
      let both = same_engine did.1 in
      record { way = quietly _ (λ n. refl) (record { opens_none = λ n. refl; ends_none = refl }) (λ taken. refl) (leaves_becomes d.cloning t.cloning did.0) (ap (λ (e : Engine). e.flights.files) did.1); tells = both.0; lengthens = both.1 }

  pub went : (a : Act) → Does a d t → Went a d t
  went (act.Calls (call.Engine asked) (answer.Engine given)) did =
      let left = call_leaves d t asked given did in
      record {
        way = Quiet (record { silent = λ n. refl; neither = record { opens_none = λ n. refl; ends_none = refl }; leaves = left.leaves; follows = λ s stands taken. follows_call d t taken s stands asked given did });
        tells = left.tells;
        lengthens = left.lengthens;
      }
  went (act.Calls (call.Init hello) (answer.Init (Ok info))) did = begins hello info did.1
  went (act.Calls (call.Init hello) (answer.Init (Err why))) did = refused _ (λ n. refl) (record { opens_none = λ n. refl; ends_none = refl }) (λ taken. refl) _ why _ did
  went (act.Calls (call.Attach caller) (answer.Attach (Ok info))) did =
      telling _ info (λ n. refl) (record { opens_none = λ n. refl; ends_none = refl }) (λ taken. refl) (leaves_same d.cloning t.cloning (ap (λ (x : Donor). x.cloning) did.1)) (ap (λ (x : Donor). x.engine) did.1) (subst (λ (x : Donor). TellsInfo x.cloning info) (sym did.1) did.0.1)
  went (act.Calls (call.Attach caller) (answer.Attach (Err why))) did = unchanged _ (λ n. refl) (record { opens_none = λ n. refl; ends_none = refl }) (λ taken. refl) did.1
  went (act.Calls (call.Reinit caller stage finished) (answer.Reinit (Ok info))) did =
      telling _ info (λ n. refl) (record { opens_none = λ n. refl; ends_none = refl }) (λ taken. refl) (rejoined_leaves caller stage _ _ info did.1.0) did.1.1 did.1.0.3
  went (act.Calls (call.Reinit caller stage finished) (answer.Reinit (Err why))) did = refused _ (λ n. refl) (record { opens_none = λ n. refl; ends_none = refl }) (λ taken. refl) _ why _ did
  went (act.Calls (call.ReinitBlocks caller stage has) (answer.ReinitBlocks (Ok info))) did =
      telling _ info (λ n. refl) (record { opens_none = λ n. refl; ends_none = refl }) (λ taken. refl) (rejoined_leaves caller stage _ _ info did.1.0) did.1.1 did.1.0.3
  went (act.Calls (call.ReinitBlocks caller stage has) (answer.ReinitBlocks (Err why))) did = refused _ (λ n. refl) (record { opens_none = λ n. refl; ends_none = refl }) (λ taken. refl) _ why _ did
  went (act.Calls (call.Kept caller stage chunk) (answer.Kept (Ok mask))) did = unchanged _ (λ n. refl) (record { opens_none = λ n. refl; ends_none = refl }) (λ taken. refl) did.1.1
  went (act.Calls (call.Kept caller stage chunk) (answer.Kept (Err why))) did = unchanged _ (λ n. refl) (record { opens_none = λ n. refl; ends_none = refl }) (λ taken. refl) did.1
  went (act.Calls (call.Execute caller stage) (answer.Execute (Ok done))) did = unchanged _ (λ n. refl) (record { opens_none = λ n. refl; ends_none = refl }) (λ taken. refl) did.1
  went (act.Calls (call.Execute caller stage) (answer.Execute (Err why))) did = unchanged _ (λ n. refl) (record { opens_none = λ n. refl; ends_none = refl }) (λ taken. refl) did.1
  went (act.Calls (call.Claim caller stage) (answer.Claim result)) did =
      let both = same_engine did.1 in
      record { way = quietly _ (λ n. refl) (record { opens_none = λ n. refl; ends_none = refl }) (λ taken. refl) (claimed caller stage result did.0) (ap (λ (e : Engine). e.flights.files) did.1); tells = both.0; lengthens = both.1 }
  went (act.Calls (call.ReadBlock caller stage chunk number) (answer.ReadBlock (Ok (read, last)))) did = record {
    way = Giving caller stage chunk number read last (record { is = refl; none = did.0; gives = did.1 });
    tells = ap (λ (e : Engine). is_some e.disk.told) did.1.visits.same;
    lengthens = lengthens_none d.engine.donor t.engine.donor (ap (λ (e : Engine). e.donor) did.1.visits.same);
  }
  went (act.Calls (call.ReadBlock caller stage chunk number) (answer.ReadBlock (Err why))) did = unread_went caller stage chunk number why did
  went (act.Calls (call.Ack caller stage floor) (answer.Ack (Ok info))) did = record {
    way = Acking caller stage floor info (record { is = refl; none = did.0; acks = did.1 });
    tells = ap (λ (e : Engine). is_some e.disk.told) did.1.settles;
    lengthens = lengthens_none d.engine.donor t.engine.donor (ap (λ (e : Engine). e.donor) did.1.settles);
  }
  went (act.Calls (call.Ack caller stage floor) (answer.Ack (Err why))) did = refused _ (λ n. refl) (record { opens_none = λ n. refl; ends_none = refl }) (λ taken. refl) _ why _ did
  went (act.Calls (call.Exit caller) (answer.Exit (Ok gone))) did = leaving _ (λ n. refl) (λ n. refl) refl did.1
  went (act.Calls (call.Exit caller) (answer.Exit (Err why))) did = unchanged _ (λ n. refl) (record { opens_none = λ n. refl; ends_none = refl }) (λ taken. refl) did.1
  went (act.Calls (call.Abandon session) (answer.Abandon (Ok gone))) did = leaving _ (λ n. refl) (λ n. refl) refl did.1
  went (act.Calls (call.Abandon session) (answer.Abandon (Err why))) did = unchanged _ (λ n. refl) (record { opens_none = λ n. refl; ends_none = refl }) (λ taken. refl) did.1
  went (act.Calls (call.Archive limit) (answer.Archive result)) did = archived limit result did
  went (act.Calls asked given) did = absurd did
  went act.Orders did = record {
    way = quietly _ (λ n. refl) (record { opens_none = λ n. refl; ends_none = refl }) (λ taken. refl) (leaves_same d.cloning t.cloning (ap (λ (x : Donor). x.cloning) did.same)) (ap (λ (x : Donor). x.engine.flights.files) did.same);
    tells = ap (λ (x : Donor). is_some x.engine.disk.told) did.same ∙ ap is_some did.told;
    lengthens = lengthens_none d.engine.donor t.engine.donor (ap (λ (x : Donor). x.engine.donor) did.same);
  }
