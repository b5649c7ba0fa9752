-- A donor's end of task 0's connection carries out INIT, REINIT, REINIT2 or an acknowledgement.
use Rattle.std.proofs.Common.{ℕ, suc, ◌≡◌, ◌≢◌, ◌∙◌, ◌⊎◌, ◌<◌, ◌≤◌, List, [], ◌++◌, Bool, true, false, Option, None, Some, length, refl, sym, ap, subst, inl, inr, arith}
use Rattle.std.specs.Prelude.{◌==◌, IfSome}
use Rattle.std.proofs.lemmas.Bool.{cases_eq, ne_eqb}
use Rattle.clone_chunk.specs.Bitmaps.{Bits}
use Rattle.clone_chunk.specs.Partials.{Taken}
use Rattle.clone_chunk.specs.Stages.{copy_number, stage_number}
use Rattle.clone_chunk.specs.declared.copy_stage.CopyStage.{CopyStage}
use Rattle.clone_chunk.specs.declared.copy_stage.CopyStage.TheVariants as copy
use Rattle.clone_chunk.specs.declared.partials.PartialChunk.{PartialChunk}
use Rattle.clone_marks.specs.Blocks.{partials_of}
use Rattle.clone_marks.specs.Counts.{block_counts}
use Rattle.clone_snapshot.specs.StageLists as lists
use Rattle.clone_snapshot.specs.StageLists.{StageList, stage_of}
use Rattle.clone_session.specs.Cloning.{Session}
use Rattle.clone_session.specs.CloneCauses.{donor_stage, reinit_blocks_cause, reinit_cause, session_of}
use Rattle.clone_session.specs.Effects.{Tells as TellsInfo}
use Rattle.clone_session.specs.declared.caller.Caller.{Caller}
use Rattle.clone_session.specs.declared.info.StageInfo.{StageInfo}
use Rattle.clone_wire.specs.Spelling.{spelling}
use Rattle.clone_wire.specs.declared.frame.Attempt.{Attempt}
use Rattle.clone_wire.specs.declared.frame.Frame.{Frame}
use Rattle.clone_wire.specs.declared.frame.Frame.TheVariants as frame
use Rattle.clone_wire.specs.declared.frame.Side.TheVariants.{Answer as ofDonor, Command as ofTask}
use Rattle.clone_stream.specs.Streams.{IsFrameOf}
use Rattle.clone_calls.specs.declared.call.DonorCall.{DonorCall}
use Rattle.clone_calls.specs.declared.call.DonorCall.TheVariants as call
use Rattle.clone_serve.specs.Commands as commands
use Rattle.clone_serve.specs.Commands.{command_of, hello_of}
use Rattle.clone_serve.specs.Following as following
use Rattle.clone_serve.specs.Serving.{WasSent}
use Rattle.clone_serve.specs.Telling.{stage_frame}
use Rattle.clone_serve.specs.declared.after.After.TheVariants.{Ends}
use Rattle.clone_serve.specs.declared.doing.Doing.{Doing}
use Rattle.clone_serve.specs.declared.doing.Doing.TheVariants as doing
use Rattle.clone_serve.specs.declared.turn.ServeAnswer.TheVariants as says
use Rattle.clone_tasks.specs.Losing.{kept_in}
use Rattle.clone_tasks.specs.Tables.{incarnation_of}
use Rattle.clone_recipient.specs.Receptions.{Reception}
use Rattle.clone_network.specs.Connections.{Connection, is_open, reaches_task}
use Rattle.clone_network.specs.Networks.{Network, with_connection}
use Rattle.clone_network.specs.declared.donor_step.DonorStep.{DonorStep}
use Rattle.clone_network.specs.declared.donor_step.DonorStep.TheVariants as step
use Rattle.clone_engine.specs.Answering.{Answered}
use Rattle.clone_engine.specs.Copying.{moment_of}
use Rattle.clone_engine.specs.Donor.{Donor}
use Rattle.clone_sides.proofs.KeptLemmas.{number_is}
use Rattle.clone_told.specs.Told.{gives}
use Rattle.clone_rounds.specs.World.{Acknowledge, Command, First, NoneLeft, World}
use Rattle.clone_view.specs.Frames as view
use Rattle.clone_view.specs.Tables.{phase_number}
use Rattle.clone_paired.specs.Around.{Serves}
use Rattle.clone_paired.specs.Lines.{caller_of, connection_of}
use Rattle.clone_paired.specs.Own.{own_session}
use Rattle.clone_paired.specs.Paired.{IsTalking}
use Rattle.clone_paired.specs.Seen.{IsCounted, stage_at}
use Rattle.clone_paired.specs.Sessions.{IsSessionOf}
use Rattle.clone_paired.proofs.DonorAwaiting.{Bound, Carries, told_on}
use Rattle.clone_paired.proofs.DonorExecutes.{Present}
use Rattle.clone_paired.proofs.DonorMeets.{Renewed, chunks_are, copying, earlier, levels, met_talks, quiet, unjoined}
use Rattle.clone_paired.proofs.DonorMeetsAgain.{Rejoined, Shows, ShowsBlocks, ShowsChunks, blocks_fine, reinit_fine, rejoined_as, rejoined_blocks, renewed_again, shows_blocks, shows_chunks}
use Rattle.clone_paired.proofs.DonorMovesAck.{Agreed, agree_is_fine, agreed_as, agreed_talks}
use Rattle.clone_paired.proofs.DonorMovesOn.{own_here}
use Rattle.clone_paired.proofs.DonorOpens.{IsOpening, MayBegin, Opened, hello, hello_fine, opened_as, opening_is, renewed_by, turned_as}
use Rattle.clone_paired.proofs.DonorReads.{HasRead, Stands, bare, has_read, stands}
use Rattle.clone_paired.proofs.DonorRefuses.{Refuses, refuses}
use Rattle.clone_paired.proofs.DonorRepeats.{Repeated, caller_is, here_now, repeat_is_fine, repeated, repeated_talks}
use Rattle.clone_paired.proofs.DonorTurns.{first, sees, x}
use Rattle.clone_paired.proofs.Linked.{Linked}

-- ---- what is known of a session

some_stage : (s : Session) → 1 ≤ donor_stage s
some_stage s = by s.snap.list
  where
    by : (l : StageList) → 1 ≤ stage_number (stage_of l)
    by (lists.Files spaces) = omega arith
    by (lists.Pages pages) = omega arith
    by (lists.Redo start end) = omega arith
    by lists.Nothing = omega arith

some_copied : (stage : CopyStage) → 1 ≤ copy_number stage
some_copied copy.FileCopy = omega arith
some_copied copy.PageCopy = omega arith
some_copied copy.RedoCopy = omega arith

-- a stage to which it has come is there
there_is : (session : Option Session) (stage : ℕ) → 1 ≤ stage → (stage_at session ≡ stage) ⊎ (stage_at session ≡ suc stage) → (s : Session) × (session ≡ Some s)
there_is None stage some (inl is) = absurd (let none : 0 ≡ stage = is in omega (arith, some, none))
there_is None stage some (inr is) = absurd (let none : 0 ≡ suc stage = is in omega (arith, none))
there_is (Some s) stage some which = (s, refl)

-- it is the first stage, if the recipient is in none
first_stage : (session : Option Session) (s : Session) (phase : ℕ) → session ≡ Some s → phase ≡ 0 → (stage_at session ≡ phase) ⊎ (stage_at session ≡ suc phase) → donor_stage s ≡ 1
first_stage session s phase is none (inl same) = absurd (let at : stage_at session ≡ donor_stage s = ap stage_at is in let some = some_stage s in omega (arith, at, some, same, none))
first_stage session s phase is none (inr next) = sym (ap stage_at is) ∙ next ∙ ap suc none

pub new_of : (d : Doing) (bound : Option Caller) → Bound d bound → bound ≡ None → d ≡ doing.New
new_of doing.New bound of is = refl
new_of (doing.Ready caller) bound of is = absurd (cc (of, is))
new_of other bound of is = absurd of

pub ready_of : (d : Doing) (bound : Option Caller) (caller : Caller) → Bound d bound → bound ≡ Some caller → d ≡ doing.Ready caller
ready_of doing.New bound caller of is = absurd (cc (of, is))
ready_of (doing.Ready own) bound caller of is = cc (of, is)
ready_of other bound caller of is = absurd of

module _ (d t : Donor) (r : Reception) (n : Network) (number : ℕ) (answer : DonorStep) (memory : answer ≢ step.Served says.NoMemory) (one : Serves r d t) where
  abbrev session : Option Session
  session = own_session r.table.session d.cloning

  abbrev now : Option Session
  now = own_session r.table.session t.cloning

  module _ (tasks : length n.seats ≡ r.table.count) (talks : IsTalking session r n) (has : connection_of n 0 ≡ Some number) where
    abbrev here : Linked session r n talks.lines talks.known (first session r n tasks talks 0 number has).rounds 0
    here = x session r n tasks talks 0 number has

    module _ (after : Connection) (live : is_open here.at ≡ true) (bound : Option Caller) (of : Bound here.at.doing bound) (c : Carries gives d t here.at after answer bound) where
      fit_memory : c.says ≢ says.NoMemory
      fit_memory is = memory (c.answers ∙ ap step.Served is)

      abbrev m : Network
      m = with_connection number after n

      read_of : (command : Frame) (k : Command) → view.command_of command ≡ Some k → c.command ≡ command → HasRead session r n tasks talks 0 number has command c.left
      read_of command k says is = has_read session r n tasks talks 0 number has live command c.left k says (subst (IsFrameOf ofTask) is c.of) (c.taken ∙ ap (λ (f : Frame). spelling f ++ c.left) is)

      did_of : (asked : DonorCall) → c.asked ≡ asked → Answered asked c.given d t
      did_of asked is = subst (λ (q : DonorCall). Answered q c.given d t) is c.gave.does

      follows_of : (begun : Doing) → c.begun ≡ begun → following.after begun c.given ≡ Some (Ends c.next c.sends c.says)
      follows_of begun is = subst (λ (y : Doing). following.after y c.given ≡ Some (Ends c.next c.sends c.says)) is c.follows

      -- the STAGE that is sent
      module _ (caller : Caller) (info : StageInfo) (sends_is : c.sends ≡ Some (stage_frame info)) (next_is : c.next ≡ doing.Ready caller) where
        told_is : IsFrameOf ofDonor (stage_frame info)
        told_is = subst WasSent sends_is c.was

        abbrev told_at : Connection
        told_at = record here.at { to_donor = c.left; to_task = told_on (reaches_task here.at) (Some (stage_frame info)) here.at.to_task; doing = doing.Ready caller }

        after_is : after ≡ told_at
        after_is = c.is ∙ (λ i. record here.at { to_donor = c.left; to_task = told_on (reaches_task here.at) (sends_is i) here.at.to_task; doing = next_is i })

        -- so is the connection, and the session
        talks_so : (o : Option Session) → now ≡ o → IsTalking o r (with_connection number told_at n) → IsTalking now r m
        talks_so o is talking = subst (λ (y : Option Session). IsTalking y r m) (sym is) (subst (λ (y : Connection). IsTalking o r (with_connection number y n)) (sym after_is) talking)

      -- ---- the first command of the connection

      module _ (new : here.at.doing ≡ doing.New) (command : Frame) (is_first : view.command_of command ≡ Some First) (is : c.command ≡ command) where
        abbrev read : HasRead session r n tasks talks 0 number has command c.left
        read = read_of command First is_first is

        which : (stage_at session ≡ phase_number r.table.phase) ⊎ (stage_at session ≡ suc (phase_number r.table.phase))
        which = levels session t.cloning r n tasks talks number has live new command is_first c.left read

        -- the session is renewed, and told
        told_first : (caller : Caller) → caller ≡ caller_of r.table 0 → Renewed r talks.known session t.cloning → (info : StageInfo) → TellsInfo t.cloning info → c.next ≡ doing.Ready caller → c.sends ≡ Some (stage_frame info) → IsTalking now r m
        told_first caller caller_is rn info tells next_is sends_is =
            talks_so caller info sends_is next_is (Some rn.now) rn.is
            (met_talks session t.cloning r n tasks talks number has live new command is_first c.left read caller caller_is rn.now rn.of rn.is info tells (one.fit info tells) (told_is caller info sends_is next_is))

        may_begin : phase_number r.table.phase ≡ 0 → (s : Session) → d.cloning.session ≡ Some s → s.number ≡ r.table.session → MayBegin r one.reception (Some s)
        may_begin phase s there same =
            let own : session ≡ Some (bare s) = own_here r.table.session d.cloning s there same in
            (same, earlier session t.cloning r n tasks talks number has live new command is_first c.left read (bare s) own, first_stage session (bare s) (phase_number r.table.phase) own phase which)

        opened_talks : (attempt : Attempt) (version size : ℕ) (compressed : Bool) (count : ℕ) → IsOpening r.table attempt version size compressed count → c.asked ≡ call.Init (hello_of attempt version size compressed count) → c.begun ≡ doing.Telling (commands.caller_of attempt 0) → IsTalking now r m ⊎ Refuses session r n number d t after
        opened_talks attempt version size compressed count o asked_is begun_is = by d.cloning.session refl
          where
            did : Answered (call.Init (hello r one.reception)) c.given d t
            did = did_of (call.Init (hello r one.reception)) (asked_is ∙ ap call.Init o.hello)

            begins : MayBegin r one.reception d.cloning.session → IsTalking now r m
            begins may =
                let op : Opened r one.reception d t (commands.caller_of attempt 0) c.next c.sends = opened_as r one.reception d t (commands.caller_of attempt 0) c.next c.sends c.says (hello_fine r one.reception d.cloning may) fit_memory c.given did (follows_of (doing.Telling (commands.caller_of attempt 0)) begun_is) in
                told_first (commands.caller_of attempt 0) (ap (λ (a : Attempt). commands.caller_of a 0) o.same) (renewed_by r one.reception talks.known d t o.phase talks.rounds.donor talks.own d.cloning.session refl may op.begins) op.info op.tells op.next_is op.sends_is

            by : (o : Option Session) → d.cloning.session ≡ o → IsTalking now r m ⊎ Refuses session r n number d t after
            by None there = inl (begins (subst (MayBegin r one.reception) (sym there) tt))
            by (Some s) there = which (cases_eq s.number r.table.session)
              where
                which : (s.number ≡ r.table.session) ⊎ (s.number ≢ r.table.session) → IsTalking now r m ⊎ Refuses session r n number d t after
                which (inl same) = inl (begins (subst (MayBegin r one.reception) (sym there) (may_begin o.phase s there same)))
                which (inr other) = inr (refuses session r n tasks talks number has live (quiet session t.cloning r n tasks talks number has live new command is_first c.left read) c.left d t (λ alone. other (subst (λ (z : Option Session). IfSome z (λ (y : Session). y.number ≡ r.table.session)) there alone)) one.reception c.next c.sends c.was (turned_as r one.reception d t (commands.caller_of attempt 0) c.next c.sends c.says s there other fit_memory c.given did (follows_of (doing.Telling (commands.caller_of attempt 0)) begun_is)) after c.is)

        -- the session goes on
        few : length (partials_of r.table.marks) ≤ kept_in r.table.version
        few = talks.few (unjoined session t.cloning r n tasks talks number has live new command is_first c.left read)

        module _ (stage : CopyStage) (phase : phase_number r.table.phase ≡ copy_number stage) where
          there : (s : Session) × (session ≡ Some s)
          there = there_is session (phase_number r.table.phase) (subst (λ (y : ℕ). 1 ≤ y) (sym phase) (some_copied stage)) which

          abbrev s : Session
          s = there.0

          st : Stands r.table.session d.cloning s
          st = stands r.table.session d.cloning s there.1

          own : IsSessionOf r s
          own = subst (λ (o : Option Session). IfSome o (IsSessionOf r)) there.1 talks.own

          counted : talks.known (donor_stage s) ≡ block_counts s.snap.list
          counted = subst (λ (o : Option Session). IsCounted o talks.known) there.1 talks.rounds.donor

          less : st.full.incarnation < incarnation_of r.table
          less = subst (λ (y : Session). y.incarnation < incarnation_of r.table) st.is (earlier session t.cloning r n tasks talks number has live new command is_first c.left read s there.1)

          at_is : stage_at session ≡ donor_stage s
          at_is = ap stage_at there.1

          which_s : (donor_stage s ≡ phase_number r.table.phase) ⊎ (donor_stage s ≡ suc (phase_number r.table.phase))
          which_s = by which
            where
              by : (stage_at session ≡ phase_number r.table.phase) ⊎ (stage_at session ≡ suc (phase_number r.table.phase)) → (donor_stage s ≡ phase_number r.table.phase) ⊎ (donor_stage s ≡ suc (phase_number r.table.phase))
              by (inl e) = inl (sym at_is ∙ e)
              by (inr e) = inr (sym at_is ∙ e)

          which_full : (donor_stage st.full ≡ copy_number stage) ⊎ (donor_stage st.full ≡ suc (copy_number stage))
          which_full = by which_s
            where
              full_is : donor_stage st.full ≡ donor_stage s
              full_is = sym (ap donor_stage st.is)

              by : (donor_stage s ≡ phase_number r.table.phase) ⊎ (donor_stage s ≡ suc (phase_number r.table.phase)) → (donor_stage st.full ≡ copy_number stage) ⊎ (donor_stage st.full ≡ suc (copy_number stage))
              by (inl e) = inl (full_is ∙ e ∙ phase)
              by (inr e) = inr (full_is ∙ e ∙ ap suc phase)

          chunks_fine : reinit_cause d.cloning (caller_of r.table 0) (copy_number stage) ≡ None
          chunks_fine = reinit_fine r.table.session (incarnation_of r.table) 0 d.cloning st.full st.found less stage which_full

          with_blocks_fine : (r.table.version == 1) ≡ false → reinit_blocks_cause d.cloning (caller_of r.table 0) (copy_number stage) ≡ None
          with_blocks_fine second = blocks_fine r.table.session (incarnation_of r.table) 0 d.cloning st.full st.found less stage which_full (ap (λ (v : ℕ). v == 1) (sym (ap (λ (y : Session). y.version) st.is) ∙ own.version) ∙ second)

          rejoined_talks : (bitmap : List ℕ) (partials : List PartialChunk) → Shows r.table stage bitmap partials → Rejoined d t (caller_of r.table 0) (copy_number stage) bitmap partials c.next c.sends → IsTalking now r m
          rejoined_talks bitmap partials shows rj = told_first (caller_of r.table 0) refl (renewed_again r (chunks_are session t.cloning r n tasks talks number has live new command is_first c.left read) talks.known talks.rounds.recipient d t s st own counted stage bitmap partials shows rj.info rj.does session there.1 which_s) rj.info rj.does.3 rj.next_is rj.sends_is

        again_talks : (attempt : Attempt) (stage : CopyStage) (finished : Bits) → ShowsChunks r.table few attempt stage finished → c.asked ≡ call.Reinit (commands.caller_of attempt 0) (copy_number stage) finished → c.begun ≡ doing.Telling (commands.caller_of attempt 0) → IsTalking now r m
        again_talks attempt stage finished shown asked_is begun_is =
            let so : commands.caller_of attempt 0 ≡ caller_of r.table 0 = ap (λ (a : Attempt). commands.caller_of a 0) shown.attempt_is in
            let did = did_of (call.Reinit (caller_of r.table 0) (copy_number stage) finished) (asked_is ∙ ap (λ (y : Caller). call.Reinit y (copy_number stage) finished) so) in
            let follows = follows_of (doing.Telling (caller_of r.table 0)) (begun_is ∙ ap doing.Telling so) in
            rejoined_talks stage shown.shows.phase finished.bytes [] shown.shows (rejoined_as d t (caller_of r.table 0) (copy_number stage) c.next c.sends c.says fit_memory c.given follows finished (chunks_fine stage shown.shows.phase) did)

        blocks_talks : (attempt : Attempt) (stage : CopyStage) (taken : Taken) → ShowsBlocks r.table few attempt stage taken → c.asked ≡ call.ReinitBlocks (commands.caller_of attempt 0) (copy_number stage) taken → c.begun ≡ doing.Telling (commands.caller_of attempt 0) → IsTalking now r m
        blocks_talks attempt stage taken shown asked_is begun_is =
            let so : commands.caller_of attempt 0 ≡ caller_of r.table 0 = ap (λ (a : Attempt). commands.caller_of a 0) shown.attempt_is in
            let did = did_of (call.ReinitBlocks (caller_of r.table 0) (copy_number stage) taken) (asked_is ∙ ap (λ (y : Caller). call.ReinitBlocks y (copy_number stage) taken) so) in
            let follows = follows_of (doing.Telling (caller_of r.table 0)) (begun_is ∙ ap doing.Telling so) in
            rejoined_talks stage shown.shows.phase taken.finished.bytes taken.partials shown.shows (rejoined_blocks d t (caller_of r.table 0) (copy_number stage) c.next c.sends c.says fit_memory c.given follows taken (with_blocks_fine stage shown.shows.phase shown.second) did)

      -- INIT
      pub init_talks : bound ≡ None → (attempt : Attempt) (version size : ℕ) (compressed : Bool) (count : ℕ) → c.command ≡ frame.Init attempt version size compressed count → c.asked ≡ call.Init (hello_of attempt version size compressed count) → c.begun ≡ doing.Telling (commands.caller_of attempt 0) → IsTalking now r m ⊎ Refuses session r n number d t after
      init_talks none attempt version size compressed count is asked_is begun_is =
          let new : here.at.doing ≡ doing.New = new_of here.at.doing bound of none in
          let read : HasRead session r n tasks talks 0 number has (frame.Init attempt version size compressed count) c.left = read_of (frame.Init attempt version size compressed count) First refl is in
          let o = opening_is r.table.phase r.table attempt version size compressed count refl (copying session t.cloning r n tasks talks number has live new (frame.Init attempt version size compressed count) refl c.left read) read.asked in
          opened_talks new (frame.Init attempt version size compressed count) refl is attempt version size compressed count o asked_is begun_is

      -- REINIT
      pub reinit_talks : bound ≡ None → (attempt : Attempt) (stage : CopyStage) (finished : Bits) → c.command ≡ frame.Reinit attempt stage finished → c.asked ≡ call.Reinit (commands.caller_of attempt 0) (copy_number stage) finished → c.begun ≡ doing.Telling (commands.caller_of attempt 0) → IsTalking now r m
      reinit_talks none attempt stage finished is asked_is begun_is =
          let new : here.at.doing ≡ doing.New = new_of here.at.doing bound of none in
          let read : HasRead session r n tasks talks 0 number has (frame.Reinit attempt stage finished) c.left = read_of (frame.Reinit attempt stage finished) First refl is in
          let rare = few new (frame.Reinit attempt stage finished) refl is in
          again_talks new (frame.Reinit attempt stage finished) refl is attempt stage finished (shows_chunks r.table rare r.table.phase refl attempt stage finished read.asked) asked_is begun_is

      -- REINIT2
      pub reinit2_talks : bound ≡ None → (attempt : Attempt) (stage : CopyStage) (taken : Taken) → c.command ≡ frame.Reinit2 attempt stage taken → c.asked ≡ call.ReinitBlocks (commands.caller_of attempt 0) (copy_number stage) taken → c.begun ≡ doing.Telling (commands.caller_of attempt 0) → IsTalking now r m
      reinit2_talks none attempt stage taken is asked_is begun_is =
          let new : here.at.doing ≡ doing.New = new_of here.at.doing bound of none in
          let read : HasRead session r n tasks talks 0 number has (frame.Reinit2 attempt stage taken) c.left = read_of (frame.Reinit2 attempt stage taken) First refl is in
          let rare = few new (frame.Reinit2 attempt stage taken) refl is in
          blocks_talks new (frame.Reinit2 attempt stage taken) refl is attempt stage taken (shows_blocks r.table rare r.table.phase refl attempt stage taken read.asked) asked_is begun_is

      -- ---- an acknowledgement

      module _ (caller : Caller) (bound_is : bound ≡ Some caller) (stage : CopyStage) (floor : ℕ) (is : c.command ≡ frame.Ack stage floor) (asked_is : c.asked ≡ call.Ack caller (copy_number stage) floor) (begun_is : c.begun ≡ doing.Telling caller) where
        abbrev ready : here.at.doing ≡ doing.Ready caller
        ready = ready_of here.at.doing bound caller of bound_is

        abbrev read_ack : HasRead session r n tasks talks 0 number has (frame.Ack stage floor) c.left
        read_ack = read_of (frame.Ack stage floor) (Acknowledge (copy_number stage)) refl is

        abbrev p : Present session r.table (first session r n tasks talks 0 number has).rounds
        p = here_now d t r n tasks talks 0 number has live caller ready stage floor c.left read_ack

        caller_so : caller ≡ caller_of r.table 0
        caller_so = caller_is d t r n tasks talks 0 number has live caller ready stage floor c.left read_ack

        pst : Stands r.table.session d.cloning p.s
        pst = stands r.table.session d.cloning p.s p.is

        did : Answered (call.Ack caller (copy_number stage) floor) c.given d t
        did = did_of (call.Ack caller (copy_number stage) floor) asked_is

        follows_ack : following.after (doing.Telling caller) c.given ≡ Some (Ends c.next c.sends c.says)
        follows_ack = follows_of (doing.Telling caller) begun_is

        low : (kept : ℕ) → r.table.floor ≡ Some kept → kept ≤ (moment_of d.engine).position
        low kept is_kept = subst (λ (o : Option ℕ). IfSome o (λ y. y ≤ (moment_of d.engine).position)) is_kept one.floor

        agrees_so : copy_number stage ≡ donor_stage p.s → IsTalking now r m
        agrees_so same =
            talks_so caller a.info a.sends_is a.next_is (Some a.moves.now) a.moves.is
            (agreed_talks d t r n tasks talks number has live caller ready stage floor c.left read_ack same a.moves.now a.moves.of a.moves.is a.info a.tells (one.fit a.info a.tells) (told_is caller a.info a.sends_is a.next_is))
          where
            own_number : pst.full.number ≡ r.table.session
            own_number = number_is d.cloning r.table.session pst.full pst.found

            a : Agreed d t r.table.session caller p.s c.next c.sends
            a =
                subst (λ (y : Session). Agreed d t r.table.session caller y c.next c.sends) (sym pst.is)
                (agreed_as d t r.table.session caller stage floor pst.full pst.found pst.there own_number (ap (λ (y : Caller). y.session) caller_so) (same ∙ ap donor_stage pst.is) one.cloning (agree_is_fine d t r n tasks talks number has live caller ready stage floor c.left read_ack same low) c.next c.sends c.says fit_memory c.given did follows_ack)

        repeats_so : suc (copy_number stage) ≡ donor_stage p.s → IsTalking now r m
        repeats_so before =
            talks_so caller b.info b.sends_is b.next_is session b.same
            (repeated_talks d t r n tasks talks 0 number has live caller ready stage floor c.left read_ack before t.cloning b.same b.info b.tells (one.fit b.info b.tells) (told_is caller b.info b.sends_is b.next_is))
          where
            found : session_of d.cloning caller.session ≡ Some pst.full
            found = ap (λ (y : Caller). session_of d.cloning y.session) caller_so ∙ pst.found

            b : Repeated d t r.table.session caller c.next c.sends
            b = repeated d t r.table.session caller (copy_number stage) floor c.next c.sends c.says pst.full found (ne_eqb (copy_number stage) (donor_stage pst.full) (λ e. let full : donor_stage p.s ≡ donor_stage pst.full = ap donor_stage pst.is in omega (arith, e, before, full))) (repeat_is_fine d t r n tasks talks 0 number has live caller ready stage floor c.left read_ack before (moment_of d.engine).position) fit_memory c.given did follows_ack

        -- ACK
        pub ack_talks : IsTalking now r m
        ack_talks = by (read_ack.sees talks.known (first session r n tasks talks 0 number has).rounds (Acknowledge (copy_number stage)) (sees session r n tasks talks 0 number has talks.known (first session r n tasks talks 0 number has)) refl).accepts.2
          where
            w : World
            w = (first session r n tasks talks 0 number has).rounds

            by : ((copy_number stage ≡ w.sides.at) × NoneLeft w.sides) ⊎ (suc (copy_number stage) ≡ w.sides.at) → IsTalking now r m
            by (inl e) = agrees_so (e.0 ∙ p.at)
            by (inr e) = repeats_so (e ∙ p.at)
