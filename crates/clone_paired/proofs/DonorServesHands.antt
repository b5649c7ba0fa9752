-- WITHIN AN EXECUTE on a task's connection each call hands on that both sides talk, and so does a step's end.
use Rattle.std.proofs.Common.{ℕ, ◌≡◌, ◌∙◌, ◌↔◌, List, get_or, [], Bool, true, false, if◌then◌else◌, Option, None, Some, Ok, Err, option_map, length, refl, sym, ap, subst}
use Rattle.std.specs.Prelude.{slice_get, slice_index, IsTrue, not, ◌&&◌}
use Rattle.std.specs.List.{All}
use Rattle.std.proofs.lemmas.List.{set-set}
use Rattle.std.proofs.lemmas.Option.{slice_get-get_or, slice_get_within}
use Rattle.clone_base.proofs.MapEntries.{slice_get-set_same}
use Rattle.clone_chunk.specs.Chunks.{IsLeastFree, IsTaken}
use Rattle.clone_chunk.specs.Stages.{copy_number}
use Rattle.clone_chunk.specs.declared.cause.CloneCause.{CloneCause}
use Rattle.clone_chunk.specs.declared.cause.CloneCause.TheVariants.{ArchiveBehind}
use Rattle.clone_chunk.specs.declared.chunk.Chunk.{Chunk}
use Rattle.clone_chunk.specs.declared.chunk.Chunk.TheVariants as chunk
use Rattle.clone_snapshot.specs.StageLists.{Part, RedoPart, StageList, block_of, blocks_at}
use Rattle.clone_snapshot.specs.Resets.{IsLast}
use Rattle.clone_marks.specs.Blocks as marks
use Rattle.clone_marks.specs.Counts.{block_counts}
use Rattle.clone_session.specs.Cloning.{Cloning, Session}
use Rattle.clone_session.specs.CloneCalls.{part_of}
use Rattle.clone_session.specs.CloneCauses.{block_cause, claim_cause, kept_cause, session_of}
use Rattle.clone_session.specs.Effects.{claimed, finished}
use Rattle.clone_session.specs.declared.caller.Caller.{Caller}
use Rattle.clone_session.specs.declared.refusal.CloneRefusal.TheVariants.{Because, NoMemory}
use Rattle.clone_wire.specs.declared.frame.Frame.{Frame}
use Rattle.clone_wire.specs.declared.frame.Side.TheVariants.{Answer as ofDonor}
use Rattle.clone_stream.specs.Streams.{IsFrameOf}
use Rattle.clone_calls.specs.Answering.{archive_in, block_in, claim_in, kept_in}
use Rattle.clone_calls.specs.declared.answer.DonorAnswer.{DonorAnswer}
use Rattle.clone_calls.specs.declared.answer.DonorAnswer.TheVariants as reply
use Rattle.clone_calls.specs.declared.block.Block.{Block}
use Rattle.clone_calls.specs.declared.block.Block.TheVariants as block
use Rattle.clone_calls.specs.declared.block.BlockRefusal.{BlockRefusal}
use Rattle.clone_calls.specs.declared.block.BlockRefusal.TheVariants as unread
use Rattle.clone_calls.specs.declared.call.DonorCall.TheVariants as call
use Rattle.clone_serve.specs.Following as following
use Rattle.clone_serve.specs.Following.{call_in, next_block, says_sent, work_after, work_at}
use Rattle.clone_serve.specs.Serving.{is_over}
use Rattle.clone_serve.specs.Telling.{block_frame, end_frame}
use Rattle.clone_serve.specs.declared.after.After.{After}
use Rattle.clone_serve.specs.declared.after.After.TheVariants.{Asks, Ends}
use Rattle.clone_serve.specs.declared.doing.Doing.{Doing}
use Rattle.clone_serve.specs.declared.doing.Doing.TheVariants as doing
use Rattle.clone_serve.specs.declared.doing.Execution.{Execution}
use Rattle.clone_serve.specs.declared.doing.Place.{Place}
use Rattle.clone_serve.specs.declared.doing.Work.{Work}
use Rattle.clone_serve.specs.declared.doing.Work.TheVariants.{Archive, Claim, Read, Weigh}
use Rattle.clone_serve.specs.declared.turn.ServeAnswer.{ServeAnswer}
use Rattle.clone_serve.specs.declared.turn.ServeAnswer.TheVariants as says
use Rattle.clone_plain.specs.declared.refusal.EngineRefusal.TheVariants as refused
use Rattle.clone_tasks.specs.Tables.{incarnation_of}
use Rattle.clone_recipient.specs.Receptions.{Reception}
use Rattle.clone_network.specs.Connections.{Connection, is_open, reaches_task, was_refused}
use Rattle.clone_network.specs.Networks.{Network, with_connection}
use Rattle.clone_engine.specs.Answering.{Answered}
use Rattle.clone_engine.specs.Copying.{Gives, IsBlock, RefusesBlock}
use Rattle.clone_engine.specs.Donor.{Donor}
use Rattle.clone_rounds.specs.World.{Serving as ServingCore}
use Rattle.clone_view.specs.Donors.{core_of, rest_at}
use Rattle.clone_view.specs.Views.{list_in}
use Rattle.clone_paired.specs.Blocks.{Ascends, HasAscending}
use Rattle.clone_paired.specs.Lines.{caller_of, connection_of}
use Rattle.clone_paired.specs.Own.{own_session}
use Rattle.clone_paired.specs.Paired.{IsTalking}
use Rattle.clone_paired.specs.Sessions.{IsPlaceOf}
use Rattle.clone_paired.specs.Speaking.{IsGiven}
use Rattle.clone_paired.proofs.DonorAwaiting.{told_on}
use Rattle.clone_paired.proofs.DonorClaims as claims
use Rattle.clone_paired.proofs.DonorClaimsChunk.{with_state}
use Rattle.clone_paired.proofs.DonorExecutes.{claim_fine}
use Rattle.clone_paired.proofs.DonorOthers.{call_own}
use Rattle.clone_paired.proofs.DonorReads.{Stands, stands, unfound}
use Rattle.clone_paired.proofs.DonorSends as sent
use Rattle.clone_paired.proofs.DonorSends.{state_after}
use Rattle.clone_paired.proofs.DonorServes.{IsIn, caller_is, is_in, session_there}
use Rattle.clone_paired.proofs.DonorServesAt.{block_fine, found_full, kept_fine, like_full, only_behind, own_state}
use Rattle.clone_paired.proofs.DonorServesEnds as ends
use Rattle.clone_paired.proofs.DonorServesFits.{block_given, block_says}
use Rattle.clone_paired.proofs.DonorServesSteps.{Comes, Hands}
use Rattle.clone_paired.proofs.DonorTurns.{first, sees, slice_set_self, there_at, x}
use Rattle.clone_paired.proofs.Linked.{Linked}

none_told : (reaches : Bool) (unread : List ℕ) → told_on reaches None unread ≡ unread
none_told true unread = refl
none_told false unread = refl

and_false : (b : Bool) → (b && false) ≡ false
and_false true = refl
and_false false = refl

and_true : (b : Bool) → b ≡ (b && true)
and_true true = refl
and_true false = refl

-- a block that was sent is no refusal
sent_fine : (chunk number : ℕ) (b : Block) → was_refused (says_sent chunk number b) ≡ false
sent_fine chunk number (block.Pages pages) = refl
sent_fine chunk number (block.Redo from bytes) = refl

module _ (r : Reception) (n : Network) (tasks : length n.seats ≡ r.table.count) (k number : ℕ) (has : connection_of n k ≡ Some number) (at : Connection) (there : slice_get n.connections number ≡ Some at) (live : is_open at ≡ true) where
  abbrev pub on : Connection → Network
  on c = with_connection number c n

  abbrev pub at_doing : Doing → Connection
  at_doing d = record at { doing = d }

  abbrev pub own : Donor → Option Session
  own u = own_session r.table.session u.cloning

  -- both sides talk while the end does this
  pub record Talks (u : Donor) (d : Doing) : Type 0 where
    pub ascend : Ascends (own u)
    pub talks : IsTalking (own u) r (on (at_doing d))

  -- as each call is asked: a chunk that was claimed has come to its first block
  abbrev pub Before : Donor → Execution → Work → Type 0
  Before u run Claim = Talks u (doing.Serving run Claim)
  Before u run (Weigh chunk) = (s : Session) × (own u ≡ Some s) × Talks u (doing.Serving run (work_at chunk (slice_index s.snap.kept chunk) 0))
  Before u run (Read place again) = Talks u (doing.Serving run (Read place false))
  Before u run (Archive place limit) = Talks u (doing.Serving run (Read place false))

  -- the connection as a step leaves it
  abbrev pub left_on : Option Frame → Doing → ServeAnswer → Connection
  left_on sends d spoke = record at {
    to_task = told_on (reaches_task at) sends at.to_task;
    doing = d;
    found_lost = at.cut && not (was_refused spoke);
  }

  abbrev pub Then : Donor → Option Frame → Doing → ServeAnswer → Type 0
  Then u sends d spoke = IsTalking (own u) r (on (left_on sends d spoke))

  abbrev Next : Donor → After → Type 0
  Next u next = Comes Before Then u next

  twice : (c0 c : Connection) → with_connection number c (on c0) ≡ on c
  twice c0 c = ap (λ (l : List Connection). record n { connections = l }) (set-set n.connections number c0 c)

  -- ---- within one

  module _ (session : Option Session) (run : Execution) (what : Work) (talks : IsTalking session r (on (at_doing (doing.Serving run what)))) where
    abbrev pub m : Network
    m = on (at_doing (doing.Serving run what))

    abbrev pub here : Linked session r m talks.lines talks.known (first session r m tasks talks k number has).rounds k
    here = x session r m tasks talks k number has

    pub at_is : here.at ≡ at_doing (doing.Serving run what)
    at_is =
        let now : slice_get m.connections number ≡ Some (at_doing (doing.Serving run what)) = slice_get-set_same n.connections number (at_doing (doing.Serving run what)) (slice_get_within n.connections number at there) in
        cc (there_at session r m tasks talks k number has, now)

    pub live_here : is_open here.at ≡ true
    live_here = ap is_open at_is ∙ ap (λ (b : Bool). not b && true) (unfound at.found_lost (is_over at.doing) live)

    pub serving : here.at.doing ≡ doing.Serving run what
    serving = ap (λ (c : Connection). c.doing) at_is

    -- it is the task's
    pub caller : run.caller ≡ caller_of r.table k
    caller = caller_is session r m tasks talks k number has live_here run what serving

    pub asks_own : run.caller.session ≡ r.table.session
    asks_own = ap (λ (c : Caller). c.session) caller

    -- a change of the connection, as it was before the step
    pub settle : (now : Session) (f : Connection → Connection) → IsTalking (Some now) r (with_connection number (f here.at) m) → IsTalking (Some now) r (on (f (at_doing (doing.Serving run what))))
    settle now f t =
        subst (λ (y : Network). IsTalking (Some now) r y) (twice (at_doing (doing.Serving run what)) (f (at_doing (doing.Serving run what))))
        (subst (λ (c : Connection). IsTalking (Some now) r (with_connection number (f c) m)) at_is t)

  module _ (s : Session) (run : Execution) (what : Work) (talks : IsTalking (Some s) r (on (at_doing (doing.Serving run what)))) (rest : List ℕ) (core : core_of s.snap.list (doing.Serving run what) ≡ Some (ServingCore (copy_number run.stage) rest)) where
    abbrev pub Known : Type 0
    Known = IsIn s r (m (Some s) run what talks) tasks talks k number has (live_here (Some s) run what talks) run what (serving (Some s) run what talks) (first (Some s) r (m (Some s) run what talks) tasks talks k number has).rounds rest

    pub known : Known
    known = is_in s r (m (Some s) run what talks) tasks talks k number has (live_here (Some s) run what talks) run what (serving (Some s) run what talks) talks.known (first (Some s) r (m (Some s) run what talks) tasks talks k number has).rounds rest (sees (Some s) r (m (Some s) run what talks) tasks talks k number has talks.known (first (Some s) r (m (Some s) run what talks) tasks talks k number has)) core

    -- the loop ends, and nothing is sent
    pub shut_talks : (spoke : ServeAnswer) (d : Doing) → is_open (left_on None d spoke) ≡ false → IsTalking (Some s) r (on (left_on None d spoke))
    shut_talks spoke d shut =
        let same = at_is (Some s) run what talks in
        subst (λ (y : Network). IsTalking (Some s) r y) (twice (at_doing (doing.Serving run what)) (left_on None d spoke))
        (ends.closed_talks s r (m (Some s) run what talks) tasks talks k number has (live_here (Some s) run what talks) run what (serving (Some s) run what talks) rest core (left_on None d spoke) (sym (ap (λ (c : Connection). c.held) same)) (sym (ap (λ (c : Connection). c.cut) same)) (none_told (reaches_task at) at.to_task ∙ sym (ap (λ (c : Connection). c.to_task) same)) shut)

  -- the session of it
  pub record Found (u : Donor) (d : Doing) : Type 0 where
    pub s : Session
    pub is : own u ≡ Some s
    pub talks : IsTalking (Some s) r (on (at_doing d))
    pub ascend : HasAscending s.snap.list
    pub st : Stands r.table.session u.cloning s

  pub found : (u : Donor) (run : Execution) (what : Work) (rest : StageList → List ℕ) → ((list : StageList) → core_of list (doing.Serving run what) ≡ Some (ServingCore (copy_number run.stage) (rest list))) → Talks u (doing.Serving run what) → Found u (doing.Serving run what)
  found u run what rest core t =
      let f = session_there (own u) r (m (own u) run what t.talks) tasks t.talks k number has (live_here (own u) run what t.talks) run what (serving (own u) run what t.talks) (rest (list_in (own u))) (core (list_in (own u))) in
      record {
        s = f.0;
        is = f.1;
        talks = subst (λ (o : Option Session). IsTalking o r (on (at_doing (doing.Serving run what)))) f.1 t.talks;
        ascend = subst Ascends f.1 t.ascend;
        st = stands r.table.session u.cloning f.0 f.1;
      }

  -- the session stays
  pub stays : (u v : Donor) (d : Doing) → own v ≡ own u → Talks u d → Talks v d
  stays u v d same t = record { ascend = subst Ascends (sym same) t.ascend; talks = subst (λ (o : Option Session). IsTalking o r (on (at_doing d))) (sym same) t.talks }

  pub own_same : (u v : Donor) → v.cloning ≡ u.cloning → own v ≡ own u
  own_same u v same = ap (own_session r.table.session) same

  -- a loop that has ended is shut
  over_shut : (spoke : ServeAnswer) → is_open (left_on None doing.Over spoke) ≡ false
  over_shut spoke = and_false (not (at.cut && not (was_refused spoke)))

  -- memory ran out, where the session is this one
  memory_now : (u : Donor) (run : Execution) (what : Work) (rest : StageList → List ℕ) → ((list : StageList) → core_of list (doing.Serving run what) ≡ Some (ServingCore (copy_number run.stage) (rest list))) → Found u (doing.Serving run what) → (v : Donor) → own v ≡ own u → Then v None doing.Over says.NoMemory
  memory_now u run what rest core t v same = subst (λ (o : Option Session). IsTalking o r (on (left_on None doing.Over says.NoMemory))) (sym (same ∙ t.is)) (shut_talks t.s run what t.talks (rest t.s.snap.list) (core t.s.snap.list) says.NoMemory doing.Over (over_shut says.NoMemory))

  -- a frame was sent
  sent_on : (s : Session) (sends : Option Frame) (d : Doing) (spoke : ServeAnswer) → was_refused spoke ≡ false → IsTalking (Some s) r (on (record at { to_task = told_on (reaches_task at) sends at.to_task; doing = d; found_lost = at.cut })) → IsTalking (Some s) r (on (left_on sends d spoke))
  sent_on s sends d spoke fine t = subst (λ (b : Bool). IsTalking (Some s) r (on (record at { to_task = told_on (reaches_task at) sends at.to_task; doing = d; found_lost = b }))) (and_true at.cut ∙ ap (λ (b : Bool). at.cut && not b) (sym fine)) t

  -- ---- a chunk is claimed, or none is free

  module _ (u v : Donor) (run : Execution) (t : Found u (doing.Serving run Claim)) where
    abbrev c_m : Network
    c_m = m (Some t.s) run Claim t.talks

    c_asks : run.caller.session ≡ r.table.session
    c_asks = asks_own (Some t.s) run Claim t.talks

    c_fine : claim_cause u.cloning run.caller (copy_number run.stage) ≡ None
    c_fine =
        let f = known t.s run Claim t.talks [] refl in
        ap (λ (y : Caller). claim_cause u.cloning y (copy_number run.stage)) (caller (Some t.s) run Claim t.talks)
        ∙ claim_fine r.table.session (incarnation_of r.table) k (copy_number run.stage) u.cloning t.s t.st f.present f.stage

    module _ (i : ℕ) (f : Session) (at_f : session_of u.cloning run.caller.session ≡ Some f) (least : IsLeastFree f.snap.chunks i) (becomes : v.cloning ≡ claimed run.caller.task i f u.cloning) where
      abbrev now : Session
      now = with_state i (chunk.Claimed k) t.s

      free : slice_get t.s.snap.chunks i ≡ Some chunk.Free
      free = like_full r.table.session u.cloning t.s t.st (λ (y : Session). slice_get y.snap.chunks i ≡ Some chunk.Free) run.caller.session c_asks f at_f least.free

      own_now : own v ≡ Some now
      own_now =
          let task : run.caller.task ≡ k = ap (λ (y : Caller). y.task) (caller (Some t.s) run Claim t.talks) in
          let full = found_full r.table.session u.cloning t.s t.st run.caller.session c_asks f at_f in
          own_state r.table.session u.cloning t.s t.st v.cloning i (chunk.Claimed k) (ap (λ (c : Cloning). c.session) becomes ∙ (λ j. Some (with_state i (chunk.Claimed (task j)) (full j))))

      claim_now : Before v run (Weigh i)
      claim_now = (
        now,
        own_now,
        record {
          ascend = subst Ascends (sym own_now) t.ascend;
          talks = subst (λ (o : Option Session). IsTalking o r (on (at_doing (doing.Serving run (work_at i (slice_index t.s.snap.kept i) 0))))) (sym own_now)
              (settle (Some t.s) run Claim t.talks now (λ (c : Connection). record c { doing = doing.Serving run (work_at i (slice_index t.s.snap.kept i) 0) })
              (claims.claimed_talks t.s r c_m tasks t.talks k number has (live_here (Some t.s) run Claim t.talks) run (serving (Some t.s) run Claim t.talks) i free));
        },
      )

    none_now : v.cloning ≡ u.cloning → (f : Session) → session_of u.cloning run.caller.session ≡ Some f → All IsTaken f.snap.chunks → IsFrameOf ofDonor (end_frame run.caller (copy_number run.stage)) → Then v (Some (end_frame run.caller (copy_number run.stage))) (doing.Ready run.caller) says.SentEnd
    none_now same f at_f taken of_end =
        let told = end_frame run.caller (copy_number run.stage) in
        let all : All IsTaken t.s.snap.chunks = like_full r.table.session u.cloning t.s t.st (λ (y : Session). All IsTaken y.snap.chunks) run.caller.session c_asks f at_f taken in
        subst (λ (o : Option Session). IsTalking o r (on (left_on (Some told) (doing.Ready run.caller) says.SentEnd))) (sym (own_same u v same ∙ t.is))
        (sent_on t.s (Some told) (doing.Ready run.caller) says.SentEnd refl
        (settle (Some t.s) run Claim t.talks t.s (λ (c : Connection). record c { to_task = told_on (reaches_task c) (Some told) c.to_task; doing = doing.Ready run.caller; found_lost = c.cut })
        (ends.end_talks t.s r c_m tasks t.talks k number has (live_here (Some t.s) run Claim t.talks) run Claim (serving (Some t.s) run Claim t.talks) [] refl refl all of_end)))

    claim_next : (given : DonorAnswer) (next : After) → Answered (call.Claim run.caller (copy_number run.stage)) given u v → option_map (following.claimed run) (claim_in given) ≡ Some next → Next v next
    claim_next (reply.Claim (Ok (Some chunk))) next did is =
        let e : Asks run (Weigh chunk) ≡ next = cc (is) in
        let o = did.0.1 in
        subst (Next v) e (claim_now chunk o.0 o.1 o.2.0 o.2.1)
    claim_next (reply.Claim (Ok None)) next did is =
        let e : Ends (doing.Ready run.caller) (Some (end_frame run.caller (copy_number run.stage))) says.SentEnd ≡ next = cc (is) in
        let o = did.0.1 in
        subst (Next v) e (λ was. none_now did.0.2 o.0 o.1 o.2 was)
    claim_next (reply.Claim (Err why)) next did is = absurd (cc (c_fine, did.0.0))
    claim_next given next did is = absurd did

    claim_fails : (given : DonorAnswer) → Answered (call.Claim run.caller (copy_number run.stage)) given u v → Then v None doing.Over says.NoMemory
    claim_fails (reply.Claim (Ok (Some chunk))) did =
        let o = did.0.1 in
        let b = claim_now chunk o.0 o.1 o.2.0 o.2.1 in
        let mask : ℕ = slice_index b.0.snap.kept chunk in
        let first_work : Work = work_at chunk mask 0 in
        let place : Place = record { chunk = chunk; kept = mask; block = next_block mask 0 } in
        memory_now v run first_work (λ list. rest_at list place) (λ list. refl) (found v run first_work (λ list. rest_at list place) (λ list. refl) b.2) v refl
    claim_fails (reply.Claim (Ok None)) did = memory_now u run Claim (λ list. []) (λ list. refl) t v (own_same u v did.0.2)
    claim_fails (reply.Claim (Err why)) did = absurd (cc (c_fine, did.0.0))
    claim_fails given did = absurd did

  -- ---- the kept blocks of the chunk are known

  module _ (u v : Donor) (run : Execution) (chunk : ℕ) (s0 : Session) (is0 : own u ≡ Some s0) (talking : Talks u (doing.Serving run (work_at chunk (slice_index s0.snap.kept chunk) 0))) where
    abbrev first_work : Work
    first_work = work_at chunk (slice_index s0.snap.kept chunk) 0

    abbrev first_place : Place
    first_place = record { chunk = chunk; kept = slice_index s0.snap.kept chunk; block = next_block (slice_index s0.snap.kept chunk) 0 }

    t_weigh : Found u (doing.Serving run first_work)
    t_weigh = found u run first_work (λ list. rest_at list first_place) (λ list. refl) talking

    place_weigh : IsPlaceOf t_weigh.s k first_place
    place_weigh = sent.here_place t_weigh.s r (m (Some t_weigh.s) run first_work t_weigh.talks) tasks t_weigh.talks k number has (live_here (Some t_weigh.s) run first_work t_weigh.talks) run first_place false (serving (Some t_weigh.s) run first_work t_weigh.talks)

    w_fine : kept_cause u.cloning run.caller (copy_number run.stage) chunk ≡ None
    w_fine =
        let f = known t_weigh.s run first_work t_weigh.talks (rest_at t_weigh.s.snap.list first_place) refl in
        ap (λ (y : Caller). kept_cause u.cloning y (copy_number run.stage) chunk) (caller (Some t_weigh.s) run first_work t_weigh.talks)
        ∙ kept_fine r.table.session u.cloning t_weigh.s t_weigh.st (incarnation_of r.table) k (copy_number run.stage) f.present f.stage chunk place_weigh.claimed

    weigh_next : (given : DonorAnswer) (next : After) → Answered (call.Kept run.caller (copy_number run.stage) chunk) given u v → option_map (following.weighed run chunk) (kept_in given) ≡ Some next → Next v next
    weigh_next (reply.Kept (Ok kept)) next did is =
        let e : Asks run (work_at chunk kept 0) ≡ next = cc (is) in
        let o = did.1.0 in
        let mask : kept ≡ slice_index t_weigh.s.snap.kept chunk = o.2 ∙ sym (like_full r.table.session u.cloning t_weigh.s t_weigh.st (λ (y : Session). slice_index y.snap.kept chunk ≡ slice_index o.0.snap.kept chunk) run.caller.session (asks_own (Some t_weigh.s) run first_work t_weigh.talks) o.0 o.1 refl) in
        let one : t_weigh.s ≡ s0 = cc (t_weigh.is, is0) in
        let same : kept ≡ slice_index s0.snap.kept chunk = mask ∙ ap (λ (y : Session). slice_index y.snap.kept chunk) one in
        subst (Next v) e (subst (λ (z : ℕ). Talks v (doing.Serving run (work_at chunk z 0))) (sym same) (stays u v (doing.Serving run first_work) (own_same u v (ap (λ (y : Donor). y.cloning) did.1.1)) talking))
    weigh_next (reply.Kept (Err why)) next did is = absurd (cc (w_fine, did.0))
    weigh_next given next did is = absurd did

    weigh_fails : (given : DonorAnswer) → Answered (call.Kept run.caller (copy_number run.stage) chunk) given u v → Then v None doing.Over says.NoMemory
    weigh_fails (reply.Kept (Ok kept)) did = memory_now u run first_work (λ list. rest_at list first_place) (λ list. refl) t_weigh v (own_same u v (ap (λ (y : Donor). y.cloning) did.1.1))
    weigh_fails (reply.Kept (Err why)) did = absurd (cc (w_fine, did.0))
    weigh_fails given did = absurd did

  -- ---- a block is read

  module _ (u v : Donor) (run : Execution) (place : Place) (talking : Talks u (doing.Serving run (Read place false))) where
    t_read : Found u (doing.Serving run (Read place false))
    t_read = found u run (Read place false) (λ list. rest_at list place) (λ list. refl) talking

    abbrev s : Session
    s = t_read.s

    abbrev r_m : Network
    r_m = m (Some s) run (Read place false) t_read.talks

    r_live : is_open (here (Some s) run (Read place false) t_read.talks).at ≡ true
    r_live = live_here (Some s) run (Read place false) t_read.talks

    r_serving : (here (Some s) run (Read place false) t_read.talks).at.doing ≡ doing.Serving run (Read place false)
    r_serving = serving (Some s) run (Read place false) t_read.talks

    r_asks : run.caller.session ≡ r.table.session
    r_asks = asks_own (Some s) run (Read place false) t_read.talks

    r_known : Known s run (Read place false) t_read.talks (rest_at s.snap.list place) refl
    r_known = known s run (Read place false) t_read.talks (rest_at s.snap.list place) refl

    place_is : IsPlaceOf s k place
    place_is = sent.here_place s r r_m tasks t_read.talks k number has r_live run place false r_serving

    counts : marks.blocks_of r.table.marks ≡ block_counts s.snap.list
    counts = sym t_read.talks.rounds.recipient ∙ ap t_read.talks.known (sym r_known.phase) ∙ t_read.talks.rounds.donor

    -- the block was read
    module _ (told : Block) (last : Bool) (g : Gives run.caller place.chunk place.block u v told last) where
      part_is : block_of s.snap.list place.chunk place.block ≡ Some (part_of g.work)
      part_is = let o = g.made_of.0 in like_full r.table.session u.cloning s t_read.st (λ (y : Session). block_of y.snap.list place.chunk place.block ≡ Some (part_of g.work)) run.caller.session r_asks o.0 o.1 o.2

      read_is : IsBlock s.snap.list u g.work told
      read_is = like_full r.table.session u.cloning s t_read.st (λ (y : Session). IsBlock y.snap.list u g.work told) run.caller.session r_asks g.session g.stands g.read

      is_last : IsTrue last ↔ IsLast s.snap.list s.snap.kept place.chunk place.block
      is_last = let o = g.answers in like_full r.table.session u.cloning s t_read.st (λ (y : Session). IsTrue last ↔ IsLast y.snap.list y.snap.kept place.chunk place.block) run.caller.session r_asks o.0 o.1 o.2.0

      abbrev told_frame : Frame
      told_frame = block_frame run.caller (copy_number run.stage) place.chunk place.block told

      given : IsGiven (Some s) r told_frame
      given = block_given r s t_read.talks.own r_known.phase counts t_read.ascend run.caller k (copy_number run.stage) (caller (Some s) run (Read place false) t_read.talks) r_known.stage place.chunk place.block u g.work told part_is g.made_of.1 read_is

      abbrev now_read : Session
      now_read = with_state place.chunk (state_after k last) s

      own_read : own v ≡ Some now_read
      own_read = by last refl g.answers.2.1
        where
          full : g.answers.0 ≡ t_read.st.full
          full = found_full r.table.session u.cloning s t_read.st run.caller.session r_asks g.answers.0 g.answers.1

          by : (b : Bool) → last ≡ b → v.cloning ≡ (if b then finished place.chunk g.answers.0 u.cloning else u.cloning) → own v ≡ Some (with_state place.chunk (state_after k b) s)
          by true is becomes = own_state r.table.session u.cloning s t_read.st v.cloning place.chunk chunk.Finished (ap (λ (c : Cloning). c.session) becomes ∙ ap (λ (y : Session). Some (with_state place.chunk chunk.Finished y)) full)
          by false is becomes = own_same u v becomes ∙ t_read.is ∙ ap (λ (l : List Chunk). Some (record s { snap = record s.snap { chunks = l } })) (sym (slice_set_self s.snap.chunks place.chunk (chunk.Claimed k) place_is.claimed))

      sent_now : IsFrameOf ofDonor told_frame → Then v (Some told_frame) (doing.Serving run (work_after place last)) (says_sent place.chunk place.block told)
      sent_now was =
          subst (λ (o : Option Session). IsTalking o r (on (left_on (Some told_frame) (doing.Serving run (work_after place last)) (says_sent place.chunk place.block told)))) (sym own_read)
          (sent_on now_read (Some told_frame) (doing.Serving run (work_after place last)) (says_sent place.chunk place.block told) (sent_fine place.chunk place.block told)
          (settle (Some s) run (Read place false) t_read.talks now_read (λ (c : Connection). record c { to_task = told_on (reaches_task c) (Some told_frame) c.to_task; doing = doing.Serving run (work_after place last); found_lost = c.cut })
          (sent.sent_talks s r r_m tasks t_read.talks k number has r_live run place false r_serving last is_last told_frame was given (block_says r s t_read.talks.own r_known.phase counts t_read.ascend run.caller k (copy_number run.stage) (caller (Some s) run (Read place false) t_read.talks) r_known.stage place.chunk place.block u g.work told part_is read_is))))

      -- memory ran out for its frame
      block_fails : Then v None doing.Over says.NoMemory
      block_fails =
          let same = at_is (Some s) run (Read place false) t_read.talks in
          subst (λ (o : Option Session). IsTalking o r (on (left_on None doing.Over says.NoMemory))) (sym own_read)
          (subst (λ (y : Network). IsTalking (Some now_read) r y) (twice (at_doing (doing.Serving run (Read place false))) (left_on None doing.Over says.NoMemory))
          (sent.lost_talks s r r_m tasks t_read.talks k number has r_live run place false r_serving last is_last told_frame (block_says r s t_read.talks.own r_known.phase counts t_read.ascend run.caller k (copy_number run.stage) (caller (Some s) run (Read place false) t_read.talks) r_known.stage place.chunk place.block u g.work told part_is read_is) (left_on None doing.Over says.NoMemory) (sym (ap (λ (c : Connection). c.held) same)) (sym (ap (λ (c : Connection). c.cut) same)) (none_told (reaches_task at) at.to_task ∙ sym (ap (λ (c : Connection). c.to_task) same)) (over_shut says.NoMemory)))

    -- it wasn't, and the loop ends
    shut_now : (spoke : ServeAnswer) (d : Doing) → own v ≡ own u → is_open (left_on None d spoke) ≡ false → Then v None d spoke
    shut_now spoke d same shut = subst (λ (o : Option Session). IsTalking o r (on (left_on None d spoke))) (sym (same ∙ t_read.is)) (shut_talks s run (Read place false) t_read.talks (rest_at s.snap.list place) refl spoke d shut)

    -- it is to be read again
    idle_now : own v ≡ own u → (b : Bool) → at.cut ≡ b → Then v None (doing.Serving run (Read place false)) says.Idle
    idle_now same true cut = shut_now says.Idle (doing.Serving run (Read place false)) same (ap (λ (b : Bool). not (b && true) && true) cut)
    idle_now same false cut = subst (λ (c : Connection). IsTalking (own v) r (on c)) (sym as_was) (stays u v (doing.Serving run (Read place false)) same talking).talks
      where
        as_was : left_on None (doing.Serving run (Read place false)) says.Idle ≡ at_doing (doing.Serving run (Read place false))
        as_was = (λ i. record at { to_task = none_told (reaches_task at) at.to_task i; doing = doing.Serving run (Read place false); found_lost = (ap (λ (b : Bool). b && true) cut ∙ sym (unfound at.found_lost (is_over at.doing) live)) i })

    refused_now : (again : Bool) (cause : CloneCause) → block_cause u.cloning run.caller (copy_number run.stage) place.chunk place.block ≡ Some cause → v ≡ u → Next v (following.read run place again (Err (unread.Clone (Because cause))))
    refused_now again cause is same = subst (λ (y : CloneCause). Next v (following.read run place again (Err (unread.Clone (Because y))))) (sym behind.2) (by again)
      where
        part : Part
        part = get_or (blocks_at s.snap.list place.chunk) place.block (RedoPart 0 0)

        has_part : block_of s.snap.list place.chunk place.block ≡ Some part
        has_part = slice_get-get_or (blocks_at s.snap.list place.chunk) place.block (RedoPart 0 0) place_is.block

        behind : (archived : ℕ) × (until : ℕ) × (cause ≡ ArchiveBehind archived until)
        behind = only_behind u.cloning.archive (block_of t_read.st.full.snap.list place.chunk place.block) cause
            (sym (ap (λ (y : Caller). block_cause u.cloning y (copy_number run.stage) place.chunk place.block) (caller (Some s) run (Read place false) t_read.talks)
            ∙ block_fine r.table.session u.cloning s t_read.st (incarnation_of r.table) k (copy_number run.stage) r_known.present r_known.stage place part place_is has_part) ∙ is)

        own_is : own v ≡ own u
        own_is = own_same u v (ap (λ (y : Donor). y.cloning) same)

        by : (b : Bool) → Next v (following.read run place b (Err (unread.Clone (Because (ArchiveBehind behind.0 behind.1)))))
        by true = λ was. idle_now own_is at.cut refl
        by false = stays u v (doing.Serving run (Read place false)) own_is talking

    unread_now : (again : Bool) (why : BlockRefusal) → RefusesBlock run.caller (copy_number run.stage) place.chunk place.block u v why → Next v (following.read run place again (Err why))
    unread_now again (unread.Clone (Because cause)) did = refused_now again cause did.0 did.1
    unread_now again (unread.Clone NoMemory) did = λ was. shut_now says.NoMemory doing.Over (own_same u v did.1) (over_shut says.NoMemory)
    unread_now again (unread.Engine (refused.Because cause)) did = λ was. shut_now says.DiskFault doing.Over (own_same u v did.3) (over_shut says.DiskFault)
    unread_now again (unread.Engine refused.NoMemory) did = absurd did

    read_next : (again : Bool) (given : DonorAnswer) (next : After) → Answered (call.ReadBlock run.caller (copy_number run.stage) place.chunk place.block) given u v → option_map (following.read run place again) (block_in given) ≡ Some next → Next v next
    read_next again (reply.ReadBlock (Ok (told, last))) next did is =
        let e : Ends (doing.Serving run (work_after place last)) (Some (block_frame run.caller (copy_number run.stage) place.chunk place.block told)) (says_sent place.chunk place.block told) ≡ next = cc (is) in
        subst (Next v) e (λ was. sent_now told last did.1 was)
    read_next again (reply.ReadBlock (Err why)) next did is =
        let e : following.read run place again (Err why) ≡ next = cc (is) in
        subst (Next v) e (unread_now again why did)
    read_next again _ next did is = absurd did

    unread_fails : (why : BlockRefusal) → RefusesBlock run.caller (copy_number run.stage) place.chunk place.block u v why → Then v None doing.Over says.NoMemory
    unread_fails (unread.Clone (Because cause)) did = shut_now says.NoMemory doing.Over (own_same u v (ap (λ (y : Donor). y.cloning) did.1)) (over_shut says.NoMemory)
    unread_fails (unread.Clone NoMemory) did = shut_now says.NoMemory doing.Over (own_same u v did.1) (over_shut says.NoMemory)
    unread_fails (unread.Engine (refused.Because cause)) did = shut_now says.NoMemory doing.Over (own_same u v did.3) (over_shut says.NoMemory)
    unread_fails (unread.Engine refused.NoMemory) did = absurd did

    read_fails : (given : DonorAnswer) → Answered (call.ReadBlock run.caller (copy_number run.stage) place.chunk place.block) given u v → Then v None doing.Over says.NoMemory
    read_fails (reply.ReadBlock (Ok (told, last))) did = block_fails told last did.1
    read_fails (reply.ReadBlock (Err why)) did = unread_fails why did
    read_fails _ did = absurd did

    -- ---- its redo is archived

    archive_next : (limit : ℕ) (given : DonorAnswer) (next : After) → Answered (call.Archive limit) given u v → option_map (following.archived run place) (archive_in given) ≡ Some next → Next v next
    archive_next limit (reply.Archive (Ok reached)) next did is =
        let e : Asks run (Read place true) ≡ next = cc (is) in
        subst (Next v) e (stays u v (doing.Serving run (Read place false)) (call_own r.table.session u v (call.Archive limit) (reply.Archive (Ok reached)) tt did) talking)
    archive_next limit (reply.Archive (Err why)) next did is =
        let e : Ends doing.Over None says.NoMemory ≡ next = cc (is) in
        subst (Next v) e (λ was. shut_now says.NoMemory doing.Over (call_own r.table.session u v (call.Archive limit) (reply.Archive (Err why)) tt did) (over_shut says.NoMemory))
    archive_next limit _ next did is = absurd did

    archive_fails : (limit : ℕ) (given : DonorAnswer) → Answered (call.Archive limit) given u v → Then v None doing.Over says.NoMemory
    archive_fails limit (reply.Archive (Ok reached)) did = shut_now says.NoMemory doing.Over (call_own r.table.session u v (call.Archive limit) (reply.Archive (Ok reached)) tt did) (over_shut says.NoMemory)
    archive_fails limit (reply.Archive (Err why)) did = shut_now says.NoMemory doing.Over (call_own r.table.session u v (call.Archive limit) (reply.Archive (Err why)) tt did) (over_shut says.NoMemory)
    archive_fails limit _ did = absurd did

  next_by : (u v : Donor) (run : Execution) (what : Work) (given : DonorAnswer) (next : After) → Before u run what → Answered (call_in run what) given u v → following.work_done run what given ≡ Some next → Next v next
  next_by u v run Claim given next before did is = claim_next u v run (found u run Claim (λ list. []) (λ list. refl) before) given next did is
  next_by u v run (Weigh chunk) given next before did is = weigh_next u v run chunk before.0 before.1 before.2 given next did is
  next_by u v run (Read place again) given next before did is = read_next u v run place before again given next did is
  next_by u v run (Archive place limit) given next before did is = archive_next u v run place before limit given next did is

  fails_by : (u v : Donor) (run : Execution) (what : Work) (given : DonorAnswer) → Before u run what → Answered (call_in run what) given u v → Then v None doing.Over says.NoMemory
  fails_by u v run Claim given before did = claim_fails u v run (found u run Claim (λ list. []) (λ list. refl) before) given did
  fails_by u v run (Weigh chunk) given before did = weigh_fails u v run chunk before.0 before.1 before.2 given did
  fails_by u v run (Read place again) given before did = read_fails u v run place before given did
  fails_by u v run (Archive place limit) given before did = archive_fails u v run place before limit given did

  -- EACH CALL HANDS ON that both sides talk.
  pub hands : Hands Before Then
  hands = record { next = next_by; fails = fails_by }
