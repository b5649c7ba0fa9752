-- A donor's end that sends the END of an EXECUTE keeps a clone paired.
use Rattle.std.proofs.Common.{ℕ, suc, ◌≡◌, ◌≢◌, ◌∙◌, ◌⊎◌, ◌<◌, List, [], ◌∷◌, ◌++◌, Bool, true, false, if◌then◌else◌, Option, None, Some, option_and_then, option_map, length, refl, sym, ap, subst, inl, inr, arith}
use Rattle.std.specs.Prelude.{slice_get, slice_index, not, ◌==◌, ◌&&◌, ◌||◌, IfSome}
use Rattle.std.specs.List.{All}
use Rattle.std.proofs.lemmas.Bool.{both_ways}
use Rattle.std.proofs.lemmas.List.Elements.{All-get_or}
use Rattle.std.proofs.lemmas.Option.{slice_get_within, get_or_from_slice_get}
use Rattle.clone_chunk.specs.Chunks.{IsTaken, is_kept}
use Rattle.clone_chunk.specs.Stages.{copy_number, copy_numbered}
use Rattle.clone_chunk.specs.declared.chunk.Chunk.{Chunk}
use Rattle.clone_chunk.specs.declared.chunk.Chunk.TheVariants as chunk
use Rattle.clone_chunk.specs.declared.copy_stage.CopyStage.{CopyStage}
use Rattle.clone_chunk.specs.declared.copy_stage.CopyStage.TheVariants as copy
use Rattle.clone_marks.specs.Counts.{block_counts}
use Rattle.clone_marks.proofs.RunLemmas.{counts_at}
use Rattle.clone_session.specs.Cloning.{Cloning, Session}
use Rattle.clone_session.specs.CloneCauses.{donor_stage, session_of}
use Rattle.clone_session.specs.declared.caller.Caller.{Caller}
use Rattle.clone_wire.specs.declared.frame.Frame.{Frame}
use Rattle.clone_wire.specs.declared.frame.Side.TheVariants.{Answer as ofDonor}
use Rattle.clone_stream.specs.Streams.{IsFrameOf}
use Rattle.clone_serve.specs.Following.{call_in}
use Rattle.clone_serve.specs.Serving.{Begins, is_over}
use Rattle.clone_serve.specs.Telling.{end_frame}
use Rattle.clone_serve.specs.Stepping.{Goes}
use Rattle.clone_serve.specs.declared.turn.ServeTurn.TheVariants.{Ask}
use Rattle.clone_serve.specs.declared.doing.Doing.{Doing}
use Rattle.clone_serve.specs.declared.doing.Doing.TheVariants as doing
use Rattle.clone_serve.specs.declared.doing.Execution.{Execution}
use Rattle.clone_serve.specs.declared.doing.Work.{Work}
use Rattle.clone_serve.specs.declared.doing.Work.TheVariants.{Archive, Claim, Read, Weigh}
use Rattle.clone_serve.specs.declared.turn.ServeAnswer.{ServeAnswer}
use Rattle.clone_serve.specs.declared.turn.ServeAnswer.TheVariants as says
use Rattle.clone_tasks.specs.Tables.{Table, attempt_of, incarnation_of}
use Rattle.clone_recipient.specs.Receptions.{Reception}
use Rattle.clone_network.specs.Connections.{Connection, StepsEnd, finds_loss, is_idle, is_open, is_serving, reaches_task, said_as, sent_behind, unread_then, was_refused}
use Rattle.clone_network.specs.Networks.{Network, StepsDonor, with_connection}
use Rattle.clone_network.specs.declared.donor_step.DonorStep.{DonorStep}
use Rattle.clone_network.specs.declared.donor_step.DonorStep.TheVariants as step
use Rattle.clone_engine.specs.Donor.{Donor}
use Rattle.clone_told.specs.Told.{gives}
use Rattle.clone_ending.proofs.DonorLemmas.{goes_in, serving_is}
use Rattle.clone_ending.proofs.Stepping.{goes_so}
use Rattle.clone_rounds.specs.Fitting.{AreClaimed}
use Rattle.clone_rounds.specs.Steps.{after_call, end_sent, finishes, sends}
use Rattle.clone_rounds.specs.World.{Core, End, Free, Owner, Ready, Serving as ServingCore, World}
use Rattle.clone_rounds.proofs.Fitting.{all_fit}
use Rattle.clone_view.specs.Donors.{AreOwned, IsDonor, IsSession, MayOwn, Owns, core_of}
use Rattle.clone_view.specs.Frames.{AreAnswers, answer_of}
use Rattle.clone_view.specs.Views.{Line, line_served, list_in}
use Rattle.clone_view.proofs.DonorSteps.{answers_sent}
use Rattle.clone_view.proofs.Rows.{IsPlace, place_at}
use Rattle.clone_view.specs.Rows.{places}
use Rattle.clone_paired.specs.Lines.{Binds, IsLineOf, caller_of, connection_of}
use Rattle.clone_paired.specs.Earlier.{BindsEarlier, IsPast}
use Rattle.clone_paired.specs.Own.{own_session}
use Rattle.clone_paired.specs.Paired.{IsPaired, IsTalking}
use Rattle.clone_paired.specs.Sessions.{HasComeTo}
use Rattle.clone_paired.specs.Speaking.{IsGiven}
use Rattle.clone_paired.specs.Unread.{Holds}
use Rattle.clone_paired.proofs.DonorAwaiting.{told_on, unread_told}
use Rattle.clone_paired.proofs.DonorEnds.{NoEnd, NoneFree, NotClaiming, no_end, none_free}
use Rattle.clone_paired.proofs.DonorFree.{KeepsTalking, keeps_paired}
use Rattle.clone_paired.proofs.DonorReads.{all_told, bare, lost_live, told_some, unfound}
use Rattle.clone_paired.proofs.DonorLosses.{for_some}
use Rattle.clone_paired.proofs.DonorTurns.{Sees, Turns, first, sees, there_at, turned_talks, x}
use Rattle.clone_paired.proofs.LateReads.{binds_live}
use Rattle.clone_paired.proofs.LateSteps.{Whose, binds_if, its, late_same, nobody, whose}
use Rattle.clone_paired.proofs.Linked.{Linked}

-- ---- no block is free where each chunk is taken

chunk_taken : (chunks : List Chunk) (i : ℕ) (c : Chunk) → All IsTaken chunks → slice_get chunks i ≡ Some c → IsTaken c
chunk_taken chunks i c all at = subst IsTaken (get_or_from_slice_get chunks i c c at) (All-get_or IsTaken chunks i c (slice_get_within chunks i c at) all)

taken_owned : (c : Chunk) (o : Owner) → IsTaken c → MayOwn c o → o ≢ Free
taken_owned chunk.Free o some own = absurd (some refl)
taken_owned (chunk.Claimed task) o some (inl own) = λ e. cc (own, e)
taken_owned (chunk.Claimed task) o some (inr own) = λ e. cc (own, e)
taken_owned chunk.Finished o some own = own

module _ (s : Session) (w : World) (owned : AreOwned s w.sides.owner) (size : w.sides.size w.sides.at ≡ places (block_counts s.snap.list)) (taken : All IsTaken s.snap.chunks) where
  pub blocks_taken : (b : ℕ) → b < w.sides.size w.sides.at → w.sides.owner b ≢ Free
  blocks_taken b small = by (is_kept (slice_index s.snap.kept p.chunk) p.block) (slice_get s.snap.chunks p.chunk) refl (subst (λ (i : ℕ). Owns (is_kept (slice_index s.snap.kept p.chunk) p.block) (slice_get s.snap.chunks p.chunk) (w.sides.owner i)) p.place (owned p.chunk p.block (subst (λ (n : ℕ). p.block < n) (counts_at s.snap.list p.chunk) p.there)))
    where
      p : IsPlace (block_counts s.snap.list) b
      p = place_at (block_counts s.snap.list) b (subst (λ (n : ℕ). b < n) size small)

      by : (kept : Bool) (state : Option Chunk) → slice_get s.snap.chunks p.chunk ≡ state → Owns kept state (w.sides.owner b) → w.sides.owner b ≢ Free
      by true state e o = λ f. cc (o, f)
      by false None e o = absurd o
      by false (Some c) e o = taken_owned c (w.sides.owner b) (chunk_taken s.snap.chunks p.chunk c taken e) o

pub end_number : (stage : CopyStage) → copy_number (copy_numbered (copy_number stage)) ≡ copy_number stage
end_number copy.FileCopy = refl
end_number copy.PageCopy = refl
end_number copy.RedoCopy = refl

module _ (session : Option Session) (r : Reception) (n : Network) (tasks : length n.seats ≡ r.table.count) (talks : IsTalking session r n) (k number : ℕ) (has : connection_of n k ≡ Some number) where
  abbrev here : Linked session r n talks.lines talks.known (first session r n tasks talks k number has).rounds k
  here = x session r n tasks talks k number has

  module _ (live : is_open here.at ≡ true) (run : Execution) (serving : here.at.doing ≡ doing.Serving run Claim) where
    doing_is : here.l.doing ≡ doing.Serving run Claim
    doing_is = here.of.doing ∙ ap (λ (b : Bool). if b then here.at.doing else doing.Over) live ∙ serving

    pub caller_is : run.caller ≡ caller_of r.table k
    caller_is = subst (Binds (caller_of r.table k)) doing_is here.of.binds

    module _ (uncut : here.at.cut ≡ false) (of_end : IsFrameOf ofDonor (end_frame run.caller (copy_number run.stage))) (s0 : Session) (is0 : session ≡ Some s0) (taken : All IsTaken s0.snap.chunks) where
      abbrev told : Frame
      told = end_frame run.caller (copy_number run.stage)

      abbrev pub ended_on : Connection
      ended_on = record here.at { to_task = told_on (reaches_task here.at) (Some told) here.at.to_task; doing = doing.Ready run.caller }

      abbrev after : Line
      after = line_served here.l (doing.Ready run.caller) told

      cut_is : here.l.cut ≡ here.at.cut
      cut_is = here.of.cut ∙ lost_live here.at live

      live_new : is_open ended_on ≡ true
      live_new = ap (λ (b : Bool). not b && true) (unfound here.at.found_lost (is_over here.at.doing) live)

      given : IsGiven session r told
      given = ap (λ (c : Caller). record { session = c.session; incarnation = c.incarnation }) caller_is

      of_new : IsLineOf session r k ended_on after
      of_new = record {
        held = here.of.held;
        cut = cut_is ∙ sym (lost_live ended_on live_new);
        doing = ap (λ (b : Bool). if b then doing.Over else doing.Ready run.caller) (cut_is ∙ uncut) ∙ sym (ap (λ (b : Bool). if b then doing.Ready run.caller else doing.Over) live_new);
        binds = subst (λ (b : Bool). Binds (caller_of r.table k) (if b then doing.Over else doing.Ready run.caller)) (sym (cut_is ∙ uncut)) caller_is;
        live = λ is. here.of.live live;
        over = λ is. absurd (both_ways (is_open ended_on) is live_new);
        answers = subst (λ (c : Bool). Holds ofDonor here.at.cut (sends c here.l.answers told) ended_on.to_task) (sym cut_is) (told_some here.at.cut here.at.held here.l.answers here.at.to_task told here.of.held of_end here.of.answers);
        asked = here.of.asked;
        given = all_told (IsGiven session r) here.l.cut here.l.answers told here.of.given given;
      }

      turns : (counts : ℕ → List ℕ) (w : World) → Sees session r n tasks talks k number has counts w → Turns counts (list_in session) w k after
      turns counts w s =
          let core : core_of (list_in session) (doing.Serving run Claim) ≡ Some (w.seats k).core = ap (core_of (list_in session)) (sym doing_is) ∙ s.line.core in
          let core_is : (w.seats k).core ≡ ServingCore (copy_number run.stage) [] = sym (cc (core)) in
          let claims : AreClaimed w.sides k (copy_number run.stage) [] = (all_fit w s.rule).blocks k (copy_number run.stage) [] core_is in
          let at_is : copy_number run.stage ≡ w.sides.at = claims.stage_is in
          let donor : IsSession (incarnation_of r.table) s0 w = subst (λ (o : Option Session). IsDonor (incarnation_of r.table) o w) is0 s.view.donor in
          record {
            seat = end_sent (w.seats k) w.sides.at;
            moves = inr (inl (finishes k (record { linked = s.linked; core = core_is ∙ ap (λ (y : ℕ). ServingCore y []) at_is }) (blocks_taken s0 w donor.owner donor.size taken)));
            connected = refl;
            awaits = refl;
            ended = refl;
            line = record {
              connected = s.line.connected;
              cut = s.line.cut;
              commands = s.line.commands;
              answers = subst (λ (c : Bool). AreAnswers counts (sends here.l.cut here.l.answers told) (sends c (w.seats k).answers (End w.sides.at))) (sym s.line.cut) (answers_sent counts here.l.cut here.l.answers (w.seats k).answers told (End w.sides.at) s.line.answers (ap (λ (y : ℕ). Some (End y)) (end_number run.stage ∙ at_is)));
              core = subst (λ (c : Bool). core_of (list_in session) (if here.l.cut then doing.Over else doing.Ready run.caller) ≡ Some (after_call c Ready)) (sym s.line.cut) (after_cut here.l.cut);
            };
          }
        where
          after_cut : (cut : Bool) → core_of (list_in session) (if cut then doing.Over else doing.Ready run.caller) ≡ Some (after_call cut Ready)
          after_cut true = refl
          after_cut false = refl

      come : IfSome session (λ (s : Session). HasComeTo s k after.doing)
      come = for_some (λ (s : Session). HasComeTo s k after.doing) (λ s. come_if s here.l.cut) session
        where
          come_if : (s : Session) (cut : Bool) → HasComeTo s k (if cut then doing.Over else doing.Ready run.caller)
          come_if s true = tt
          come_if s false = tt

      -- THE END was sent.
      pub ended_talks : IsTalking session r (with_connection number ended_on n)
      ended_talks = turned_talks session r n tasks talks k number has ended_on after turns of_new come

-- ---- the step

-- the session that stands is the own one
pub owned_bare : (number : ℕ) (c : Cloning) (s : Session) → session_of c number ≡ Some s → own_session number c ≡ Some (bare s)
owned_bare number c s is = by c.session is
  where
    at : (full : Session) (b : Bool) → (if b then Some full else None) ≡ Some s → (if b then Some (bare full) else None) ≡ Some (bare s)
    at full true is = let e : full ≡ s = cc (is) in ap (λ (y : Session). Some (bare y)) e
    at full false is = absurd (cc (is))

    by : (o : Option Session) → option_and_then (λ (t : Session). if t.number == number then Some t else None) o ≡ Some s → option_and_then (λ (t : Session). if t.number == number then Some t else None) (option_map (λ (t : Session). record t { snap = record t.snap { room = 0 } }) o) ≡ Some (bare s)
    by None is = absurd (cc (is))
    by (Some full) is = at full (full.number == number) is

-- END was sent by a step
pub record Ended (d t : Donor) (at after : Connection) : Type 0 where
  pub run : Execution
  pub serving : at.doing ≡ doing.Serving run Claim
  pub uncut : at.cut ≡ false
  pub same : t ≡ d
  pub taken : (s : Session) × (session_of d.cloning run.caller.session ≡ Some s) × All IsTaken s.snap.chunks
  pub of_end : IsFrameOf ofDonor (end_frame run.caller (copy_number run.stage))
  pub is : after ≡ record at { to_task = told_on (reaches_task at) (Some (end_frame run.caller (copy_number run.stage))) at.to_task; doing = doing.Ready run.caller }

module _ (d t : Donor) (at after : Connection) (answer : DonorStep) (is_end : answer ≡ step.Served says.SentEnd) (live : is_open at ≡ true) (serving : is_serving at.doing ≡ true) (e : StepsEnd gives d t at after answer) where
  abbrev old : List ℕ
  old = sent_behind (reaches_task at) at.to_task

  said : (finds_loss at e.says ≡ false) × (e.says ≡ says.SentEnd)
  said = by (finds_loss at e.says) refl (sym is_end ∙ e.answers)
    where
      by : (lost : Bool) → finds_loss at e.says ≡ lost → step.Served says.SentEnd ≡ said_as lost e.says → (finds_loss at e.says ≡ false) × (e.says ≡ says.SentEnd)
      by true is same = absurd (cc (same))
      by false is same = (is, sym (cc (same)))

  uncut_is : at.cut ≡ false
  uncut_is = by at.cut (sym (ap (λ (y : ServeAnswer). at.cut && not (was_refused y)) said.1) ∙ sym (ap (λ (b : Bool). if b then at.cut && not (was_refused e.says) else is_idle e.says && (at.cut || not at.held)) serving) ∙ said.0)
    where
      by : (cut : Bool) → (cut && true) ≡ false → cut ≡ false
      by false is = refl
      by true is = absurd (cc (is))

  module _ (run : Execution) (what : Work) (is : at.doing ≡ doing.Serving run what) where
    goes : Goes e.serves.steps.exchanges (doing.Serving run what) (Ask (call_in run what)) old e.serves.sent e.serves.doing says.SentEnd
    goes = subst (λ (y : ServeAnswer). Goes e.serves.steps.exchanges (doing.Serving run what) (Ask (call_in run what)) old e.serves.sent e.serves.doing y) said.1 (goes_in d t at after answer e run what is)

    left_is : e.serves.left ≡ at.to_donor
    left_is = (subst (λ (y : Doing). Begins y at.to_donor e.serves.left e.serves.steps.is.begun e.serves.steps.is.turn) is e.serves.steps.is.begins).1

  never : (run : Execution) (what : Work) → at.doing ≡ doing.Serving run what → NotClaiming d run what → ⊥
  never run what is before = goes_so NotClaiming NoEnd no_end e.serves.steps.exchanges t e.serves.doing says.SentEnd e.serves.sent d run what old before (goes run what is) e.serves.steps.answers refl

  by_work : (run : Execution) (what : Work) → at.doing ≡ doing.Serving run what → Ended d t at after
  by_work run (Weigh chunk) is = absurd (never run (Weigh chunk) is tt)
  by_work run (Read place again) is = absurd (never run (Read place again) is tt)
  by_work run (Archive place limit) is = absurd (never run (Archive place limit) is tt)
  by_work run Claim is =
      let f = none_free d t run old e.serves.sent e.serves.doing e.serves.steps.exchanges (goes run Claim is) e.serves.steps.answers in
      let told = end_frame run.caller (copy_number run.stage) in
      record {
        run = run;
        serving = is;
        uncut = uncut_is;
        same = f.same;
        taken = f.taken;
        of_end = f.was;
        is = e.is ∙ ap (λ (c : Connection). record c { found_lost = finds_loss at e.says }) e.serves.is
            ∙ (λ i. record at { to_donor = left_is run Claim is i; to_task = unread_then (reaches_task at) at.to_task (f.sent i); doing = f.doing i; found_lost = said.0 i })
            ∙ (λ i. record at { to_task = unread_told (reaches_task at) (Some told) at.to_task i; doing = doing.Ready run.caller; found_lost = (sym (unfound at.found_lost (is_over at.doing) live)) i });
      }

  pub ended : Ended d t at after
  ended = let some = serving_is at.doing serving in by_work some.0 some.1 some.2

module _ (d t : Donor) (r : Reception) (n : Network) (number : ℕ) where
  abbrev session : Option Session
  session = own_session r.table.session d.cloning

  abbrev now : Option Session
  now = own_session r.table.session t.cloning

  as_now : (m : Network) → t ≡ d → IsTalking session r m → IsTalking now r m
  as_now m is talks = subst (λ (o : Donor). IsTalking (own_session r.table.session o.cloning) r m) (sym is) talks

  module _ (tasks : length n.seats ≡ r.table.count) (talks : IsTalking session r n) (k : ℕ) (has : connection_of n k ≡ Some number) where
    abbrev own_at : Linked session r n talks.lines talks.known (first session r n tasks talks k number has).rounds k
    own_at = x session r n tasks talks k number has

    ended_own : (after : Connection) → is_open own_at.at ≡ true → Ended d t own_at.at after → IsTalking now r (with_connection number after n)
    ended_own after live e =
        let caller = caller_is session r n tasks talks k number has live e.run e.serving in
        let found : session_of d.cloning r.table.session ≡ Some e.taken.0 = subst (λ (c : Caller). session_of d.cloning c.session ≡ Some e.taken.0) caller e.taken.1 in
        as_now (with_connection number after n) e.same
        (subst (λ (c : Connection). IsTalking session r (with_connection number c n)) (sym e.is)
        (ended_talks session r n tasks talks k number has live e.run e.serving e.uncut e.of_end (bare e.taken.0) (owned_bare r.table.session d.cloning e.taken.0 found) e.taken.2))

    pub ended_task : (at after : Connection) → slice_get n.connections number ≡ Some at → is_open at ≡ true → Ended d t at after → IsTalking now r (with_connection number after n)
    ended_task at after there live e =
        let same : own_at.at ≡ at = cc (there_at session r n tasks talks k number has, there) in
        ended_own after (ap is_open same ∙ live) (subst (λ (c : Connection). Ended d t c after) (sym same) e)

  past_ended : (t0 : Table) (acknowledged : Bool) (at next : Connection) → is_open at ≡ true → Ended d t at next → IsPast t0 acknowledged at → IsPast t0 acknowledged next
  past_ended t0 acknowledged at next live e p =
      let binds : BindsEarlier t0 (doing.Serving e.run Claim) = subst (BindsEarlier t0) e.serving (binds_live t0 at live p.binds) in
      subst (IsPast t0 acknowledged) (sym e.is) (record { held = p.held; binds = binds_if t0 (doing.Ready e.run.caller) (is_open (record at { doing = doing.Ready e.run.caller })) binds; commands = p.commands; live = λ is. p.live live; asked = p.asked })

  ended_keeps : (answer : DonorStep) → answer ≡ step.Served says.SentEnd → length n.seats ≡ r.table.count → KeepsTalking d t r n number answer (λ at. is_serving at.doing ≡ true)
  ended_keeps answer is_end tasks at after there live serving e talks = by (whose n number)
    where
      came : Ended d t at after
      came = ended d t at after answer is_end live serving e

      by : Whose n number → IsTalking now r (with_connection number after n)
      by (its k has) = ended_task tasks talks k has at after there live came
      by (nobody away) = as_now (with_connection number after n) came.same (late_same session r n talks number at after there away (λ acknowledged p. past_ended r.table acknowledged at after live came p))

pub donor_ends : (d t : Donor) (r : Reception) (n m : Network) (number : ℕ) → IsPaired (own_session r.table.session d.cloning) r n → StepsDonor gives d t number n m (step.Served says.SentEnd) → IfSome (slice_get n.connections number) (λ at. is_serving at.doing ≡ true) → IsPaired (own_session r.table.session t.cloning) r m
donor_ends d t r n m number paired steps serving = keeps_paired d t r n number (step.Served says.SentEnd) (λ at. is_serving at.doing ≡ true) (ended_keeps d t r n number (step.Served says.SentEnd) refl paired.tasks) paired m serving steps
