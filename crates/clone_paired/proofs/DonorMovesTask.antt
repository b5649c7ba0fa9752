-- A step of a donor's end of a task's connection, outside an EXECUTE.
use Rattle.std.proofs.Common.{ℕ, ◌≡◌, ◌≢◌, ◌∙◌, ◌⊎◌, List, [], ◌∷◌, ◌++◌, Bool, true, false, if◌then◌else◌, Option, None, Some, Ok, Err, length, refl, sym, ap, subst, inl, inr}
use Rattle.std.specs.Prelude.{IfSome, MatchOption, slice_get, ◌==◌, ⊤}
use Rattle.std.specs.Option.{option_map_or}
use Rattle.std.proofs.lemmas.Bool.{cases_eq, ne_eqb}
use Rattle.clone_chunk.specs.Stages.{copy_number}
use Rattle.clone_chunk.specs.declared.copy_stage.CopyStage.{CopyStage}
use Rattle.clone_session.specs.Cloning.{Session}
use Rattle.clone_session.specs.CloneCauses.{claim_cause}
use Rattle.clone_session.specs.Effects.{Tells as TellsInfo}
use Rattle.clone_session.specs.declared.caller.Caller.{Caller}
use Rattle.clone_session.specs.declared.info.StageInfo.{StageInfo}
use Rattle.clone_wire.specs.Spelling.{code_of, spelling}
use Rattle.clone_wire.specs.declared.frame.Frame.{Frame}
use Rattle.clone_wire.specs.declared.frame.Frame.TheVariants as frame
use Rattle.clone_wire.specs.declared.frame.Side.TheVariants.{Command as ofTask}
use Rattle.clone_stream.specs.Streams.{IsFrameOf}
use Rattle.clone_calls.specs.declared.answer.DonorAnswer.{DonorAnswer}
use Rattle.clone_calls.specs.declared.answer.DonorAnswer.TheVariants as reply
use Rattle.clone_calls.specs.declared.call.DonorCall.{DonorCall}
use Rattle.clone_calls.specs.declared.call.DonorCall.TheVariants as call
use Rattle.clone_serve.specs.Commands as commands
use Rattle.clone_serve.specs.Commands.{command_of}
use Rattle.clone_serve.specs.Following as following
use Rattle.clone_serve.specs.Serving.{is_over}
use Rattle.clone_serve.specs.declared.after.After.TheVariants.{Ends}
use Rattle.clone_serve.specs.declared.doing.Doing.{Doing}
use Rattle.clone_serve.specs.declared.doing.Doing.TheVariants as doing
use Rattle.clone_serve.specs.declared.doing.Execution.{Execution}
use Rattle.clone_serve.specs.declared.turn.ServeAnswer.{ServeAnswer}
use Rattle.clone_serve.specs.declared.turn.ServeAnswer.TheVariants as says
use Rattle.clone_tasks.specs.Sending.{IsFirst}
use Rattle.clone_tasks.specs.Tables.{attempt_of, is_done}
use Rattle.clone_recipient.specs.Expecting.{fits}
use Rattle.clone_recipient.specs.Receptions.{Reception}
use Rattle.clone_network.specs.Connections.{Connection, StepsBy, StepsEnd, is_open, is_serving}
use Rattle.clone_network.specs.Networks.{Network, StepsDonor, with_connection}
use Rattle.clone_network.specs.declared.donor_step.DonorStep.{DonorStep}
use Rattle.clone_network.specs.declared.donor_step.DonorStep.TheVariants as step
use Rattle.clone_engine.specs.Answering.{Answered}
use Rattle.clone_engine.specs.Donor.{Donor}
use Rattle.clone_told.specs.Told.{gives}
use Rattle.clone_joined.specs.Strangers.{attach_code, attaches}
use Rattle.clone_rounds.specs.World.{Acknowledge, Command, Execute, First, World}
use Rattle.clone_view.specs.Donors.{core_of}
use Rattle.clone_view.specs.Frames as view
use Rattle.clone_view.specs.Frames.{AreCommands}
use Rattle.clone_view.specs.Views.{list_in}
use Rattle.clone_paired.specs.Around.{Serves, ServesOne}
use Rattle.clone_paired.specs.Calm.{IsCalm, IsFree}
use Rattle.clone_paired.specs.Lines.{connection_of}
use Rattle.clone_paired.specs.Own.{own_session}
use Rattle.clone_paired.specs.Paired.{HasCopied, IsCopying, IsPaired, IsTalking}
use Rattle.clone_paired.specs.Speaking.{IsAsked}
use Rattle.clone_paired.proofs.DonorAttaches.{attach_same, attach_task}
use Rattle.clone_paired.proofs.DonorAwaiting.{Awaited, Bound, Carries, asks_is, awaited, carries, garbles, loses, rests, unfit}
use Rattle.clone_paired.proofs.DonorExecutes.{execute_fine}
use Rattle.clone_paired.proofs.DonorFree.{IsFreeAt, calm_task, keeps_paired, not_over, seen_waits}
use Rattle.clone_paired.proofs.DonorGarbles.{first_code, garbled_talks}
use Rattle.clone_paired.proofs.DonorLosses.{lost_talks}
use Rattle.clone_paired.proofs.DonorMeetsCalls.{ack_talks, init_talks, ready_of, reinit2_talks, reinit_talks}
use Rattle.clone_paired.proofs.DonorReads.{HasRead, has_read}
use Rattle.clone_paired.proofs.DonorRefuses.{Refuses, StandsAlone}
use Rattle.clone_paired.proofs.DonorTurns.{first, same_network, sees, there_at, x}
use Rattle.clone_paired.proofs.Linked.{Linked}
use Rattle.clone_paired.proofs.UnreadLemmas.{Reads, holds_read}

-- a command of task 0 alone
abbrev IsOfFirst : Frame → Type 0
IsOfFirst (frame.Init attempt version size compressed tasks) = ⊤
IsOfFirst (frame.Reinit attempt stage finished) = ⊤
IsOfFirst (frame.Reinit2 attempt stage taken) = ⊤
IsOfFirst (frame.Ack stage floor) = ⊤
IsOfFirst other = ⊥

-- an EXECUTE against which nothing is is served
started_calm : (d t : Donor) (run : Execution) (stage : ℕ) → claim_cause d.cloning run.caller stage ≡ None → (next : Doing) (sends : Option Frame) (spoke : ServeAnswer) (given : DonorAnswer) → Answered (call.Execute run.caller stage) given d t → following.after (doing.Starting run) given ≡ Some (Ends next sends spoke) → IsCalm (step.Served spoke)
started_calm d t run stage fine next sends spoke (reply.Execute (Ok done)) did is = let one : says.Execute ≡ spoke = cc (is) in subst (λ (y : ServeAnswer). IsCalm (step.Served y)) one tt
started_calm d t run stage fine next sends spoke (reply.Execute (Err why)) did is = absurd (cc (fine, did.0))
started_calm d t run stage fine next sends spoke given did is = absurd did

no_exit : (more : List Frame) (cs : List Command) → AreCommands (frame.Exit ∷ more) cs → ⊥
no_exit more [] are = cc (are)
no_exit more (c ∷ cs) are = cc (are)

module _ (d t : Donor) (r : Reception) (n : Network) (number : ℕ) (answer : DonorStep) (memory : answer ≢ step.Served says.NoMemory) (one : Serves r d t) where
  abbrev session : Option Session
  session = own_session r.table.session d.cloning

  abbrev now : Option Session
  now = own_session r.table.session t.cloning

  as_now : (m : Network) → t ≡ d → IsTalking session r m → IsTalking now r m
  as_now m is talks = subst (λ (o : Donor). IsTalking (own_session r.table.session o.cloning) r m) (sym is) talks

  module _ (tasks : length n.seats ≡ r.table.count) (talks : IsTalking session r n) where
    -- a task's
    module _ (k : ℕ) (has : connection_of n k ≡ Some number) where
      abbrev here : Linked session r n talks.lines talks.known (first session r n tasks talks k number has).rounds k
      here = x session r n tasks talks k number has

      abbrev there : slice_get n.connections number ≡ Some here.at
      there = there_at session r n tasks talks k number has

      module _ (after : Connection) (live : is_open here.at ≡ true) (free : is_serving here.at.doing ≡ false) (e : StepsEnd gives d t here.at after answer) where
        abbrev m : Network
        m = with_connection number after n

        module _ (bound : Option Caller) (of : Bound here.at.doing bound) where
          -- a command that other tasks send too
          module _ (Out : Type 0) (keep : IsTalking now r m → Out) (c : Carries gives d t here.at after answer bound) (first_of : IsOfFirst c.command → Out) where
            attach_is : (command : Frame) → c.command ≡ command → (asked : DonorCall) → c.asked ≡ asked → (caller : Caller) → asked ≡ call.Attach caller → attaches here.at ≡ true → IsTalking now r m
            attach_is command is asked asked_is caller call_is begins =
                let same : t ≡ d = attach_same d t caller c.given (subst (λ (q : DonorCall). Answered q c.given d t) (asked_is ∙ call_is) c.gave.does) in
                let fit : (info : StageInfo) → TellsInfo d.cloning info → fits info.plan ≡ true = λ info tells. one.fit info (subst (λ (o : Donor). TellsInfo o.cloning info) (sym same) tells) in
                attach_task d t r n number answer memory fit tasks talks k has here.at after there live free begins e

            execute_is : (caller : Caller) (stage : CopyStage) → bound ≡ Some caller → c.command ≡ frame.Execute stage → c.asked ≡ call.Execute caller (copy_number stage) → c.begun ≡ doing.Starting (record { caller = caller; stage = stage }) → IsTalking now r m
            execute_is caller stage bound_is is asked_is begun_is =
                let ready : here.at.doing ≡ doing.Ready caller = ready_of here.at.doing bound caller of bound_is in
                let read : HasRead session r n tasks talks k number has (frame.Execute stage) c.left = has_read session r n tasks talks k number has live (frame.Execute stage) c.left (Execute (copy_number stage)) refl (subst (IsFrameOf ofTask) is c.of) (c.taken ∙ ap (λ (f : Frame). spelling f ++ c.left) is) in
                let fine = execute_fine session r n tasks talks k number has live caller ready stage c.left read d.cloning refl in
                let calm : IsCalm (step.Served c.says) = started_calm d t (record { caller = caller; stage = stage }) (copy_number stage) fine c.next c.sends c.says c.given (subst (λ (q : DonorCall). Answered q c.given d t) asked_is c.gave.does) (subst (λ (y : Doing). following.after y c.given ≡ Some (Ends c.next c.sends c.says)) begun_is c.follows) in
                calm_task d t r n number answer tasks talks k has (subst IsCalm (sym c.answers) calm) here.at after there live free e

            exit_not : c.command ≡ frame.Exit → ⊥
            exit_not is =
                let reads : Reads ofTask here.at.cut here.l.commands frame.Exit c.left = holds_read ofTask here.at.cut here.l.commands here.at.to_donor c.left frame.Exit (here.of.live live) (subst (IsFrameOf ofTask) is c.of) (c.taken ∙ ap (λ (f : Frame). spelling f ++ c.left) is) in
                let w : World = (first session r n tasks talks k number has).rounds in
                no_exit reads.more (w.seats k).commands (subst (λ (l : List Frame). AreCommands l (w.seats k).commands) reads.are here.seat.commands)

            by_command : (command : Frame) → c.command ≡ command → (o : Option Caller) → bound ≡ o → command_of o command ≡ Some (record { call = c.asked; doing = c.begun }) → Out
            by_command (frame.Attach attempt task) is None none asks = keep (attach_is (frame.Attach attempt task) is c.asked refl (commands.caller_of attempt task) (asks_is asks).0 begins)
              where
                begins : attaches here.at ≡ true
                begins = ap (λ (o : Option ℕ). option_map_or (λ code. code == attach_code) o false) (ap (λ (bytes : List ℕ). slice_get bytes 0) c.taken ∙ first_code c.command c.left) ∙ ap (λ (f : Frame). code_of f == attach_code) is
            by_command (frame.Execute stage) is (Some caller) bound_is asks = keep (execute_is caller stage bound_is is (asks_is asks).0 (asks_is asks).1)
            by_command frame.Exit is o bound_is asks = absurd (exit_not is)
            by_command (frame.Init attempt version size compressed count) is o bound_is asks = first_of (subst IsOfFirst (sym is) tt)
            by_command (frame.Reinit attempt stage finished) is o bound_is asks = first_of (subst IsOfFirst (sym is) tt)
            by_command (frame.Reinit2 attempt stage taken) is o bound_is asks = first_of (subst IsOfFirst (sym is) tt)
            by_command (frame.Ack stage floor) is o bound_is asks = first_of (subst IsOfFirst (sym is) tt)
            by_command other is None bound_is asks = absurd (cc (asks))
            by_command other is (Some caller) bound_is asks = absurd (cc (asks))

          by_awaited : (Out : Type 0) → (IsTalking now r m → Out) → ((c : Carries gives d t here.at after answer bound) → IsOfFirst c.command → Out) → Awaited gives d t here.at after answer bound → Out
          by_awaited Out keep first_of (rests same is) = keep (as_now m same (subst (λ (y : Network). IsTalking session r y) (sym (ap (λ (c : Connection). with_connection number c n) is ∙ same_network n number here.at there)) talks))
          by_awaited Out keep first_of (loses same none lost is) = keep (as_now m same (subst (λ (c : Connection). IsTalking session r (with_connection number c n)) (sym is) (lost_talks session r n tasks talks k number has live bound of none lost)))
          by_awaited Out keep first_of (garbles bytes wrong same is says_it) = keep (as_now m same (subst (λ (c : Connection). IsTalking session r (with_connection number c n)) (sym is) (garbled_talks session r n tasks talks k number has live bound of bytes wrong)))
          by_awaited Out keep first_of (unfit says_it over tried) = absurd (memory says_it)
          by_awaited Out keep first_of (carries c) = by_command Out keep c (first_of c) c.command refl bound refl c.asks

        -- a command of task 0 alone is carried out, or the clone talks on
        step_own : (Out : Type 0) → (IsTalking now r m → Out) → ((bound : Option Caller) → Bound here.at.doing bound → (c : Carries gives d t here.at after answer bound) → IsOfFirst c.command → Out) → Out
        step_own Out keep first_of =
            let doing_at : here.l.doing ≡ here.at.doing = here.of.doing ∙ ap (λ (b : Bool). if b then here.at.doing else doing.Over) live in
            let b = seen_waits (list_in session) here.at.doing _ (ap (core_of (list_in session)) (sym doing_at) ∙ here.seat.core) free (not_over here.at.found_lost (is_over here.at.doing) live) in
            by_awaited b.0 b.1 Out keep (first_of b.0 b.1) (awaited gives d t here.at after answer b.0 b.1 live e)

        -- another task sends none of these
        module _ (other : k ≢ 0) (bound : Option Caller) (of : Bound here.at.doing bound) (c : Carries gives d t here.at after answer bound) where
          none_first : (command : Frame) → c.command ≡ command → view.command_of command ≡ Some First → IsOfFirst command → ⊥
          none_first command is says special =
              let read : HasRead session r n tasks talks k number has command c.left = has_read session r n tasks talks k number has live command c.left First says (subst (IsFrameOf ofTask) is c.of) (c.taken ∙ ap (λ (f : Frame). spelling f ++ c.left) is) in
              at command says special read.asked
            where
              zero_not : (k == 0) ≡ false
              zero_not = ne_eqb k 0 other

              at : (f : Frame) → view.command_of f ≡ Some First → IsOfFirst f → IsAsked r.table k f → ⊥
              at (frame.Init attempt version size compressed count) says special asked = (let is : frame.Init attempt version size compressed count ≡ frame.Attach (attempt_of r.table) k = subst (λ (b : Bool). IsFirst b r.table k (frame.Init attempt version size compressed count)) zero_not asked in cc (is))
              at (frame.Reinit attempt stage finished) says special asked = (let is : frame.Reinit attempt stage finished ≡ frame.Attach (attempt_of r.table) k = subst (λ (b : Bool). IsFirst b r.table k (frame.Reinit attempt stage finished)) zero_not asked in cc (is))
              at (frame.Reinit2 attempt stage taken) says special asked = (let is : frame.Reinit2 attempt stage taken ≡ frame.Attach (attempt_of r.table) k = subst (λ (b : Bool). IsFirst b r.table k (frame.Reinit2 attempt stage taken)) zero_not asked in cc (is))
              at (frame.Ack stage floor) says special asked = cc (says)
              at f says special asked = special

          none_ack : (stage : CopyStage) (floor : ℕ) → c.command ≡ frame.Ack stage floor → ⊥
          none_ack stage floor is =
              let s0 = first session r n tasks talks k number has in
              let read : HasRead session r n tasks talks k number has (frame.Ack stage floor) c.left = has_read session r n tasks talks k number has live (frame.Ack stage floor) c.left (Acknowledge (copy_number stage)) refl (subst (IsFrameOf ofTask) is c.of) (c.taken ∙ ap (λ (f : Frame). spelling f ++ c.left) is) in
              other (read.sees talks.known s0.rounds (Acknowledge (copy_number stage)) (sees session r n tasks talks k number has talks.known s0) refl).accepts.0

          none_of : (command : Frame) → c.command ≡ command → IsOfFirst command → ⊥
          none_of (frame.Init attempt version size compressed count) is special = none_first (frame.Init attempt version size compressed count) is refl special
          none_of (frame.Reinit attempt stage finished) is special = none_first (frame.Reinit attempt stage finished) is refl special
          none_of (frame.Reinit2 attempt stage taken) is special = none_first (frame.Reinit2 attempt stage taken) is refl special
          none_of (frame.Ack stage floor) is special = none_ack stage floor is
          none_of command is special = special

        other_step : k ≢ 0 → IsTalking now r m
        other_step other = step_own (IsTalking now r m) (λ goes. goes) (λ bound of c special. absurd (none_of other bound of c c.command refl special))

    -- task 0's
    module _ (has : connection_of n 0 ≡ Some number) (after : Connection) (live : is_open (here 0 has).at ≡ true) (free : is_serving (here 0 has).at.doing ≡ false) (e : StepsEnd gives d t (here 0 has).at after answer) where
      abbrev Out : Type 0
      Out = IsTalking now r (with_connection number after n) ⊎ Refuses session r n number d t after

      zero_by : (bound : Option Caller) (of : Bound (here 0 has).at.doing bound) (c : Carries gives d t (here 0 has).at after answer bound) (command : Frame) → c.command ≡ command → (o : Option Caller) → bound ≡ o → command_of o command ≡ Some (record { call = c.asked; doing = c.begun }) → IsOfFirst command → Out
      zero_by bound of c (frame.Init attempt version size compressed count) is None none asks special = init_talks d t r n number answer memory one tasks talks has after live bound of c none attempt version size compressed count is (asks_is asks).0 (asks_is asks).1
      zero_by bound of c (frame.Reinit attempt stage finished) is None none asks special = inl (reinit_talks d t r n number answer memory one tasks talks has after live bound of c none attempt stage finished is (asks_is asks).0 (asks_is asks).1)
      zero_by bound of c (frame.Reinit2 attempt stage taken) is None none asks special = inl (reinit2_talks d t r n number answer memory one tasks talks has after live bound of c none attempt stage taken is (asks_is asks).0 (asks_is asks).1)
      zero_by bound of c (frame.Ack stage floor) is (Some caller) bound_is asks special = inl (ack_talks d t r n number answer memory one tasks talks has after live bound of c caller bound_is stage floor is (asks_is asks).0 (asks_is asks).1)
      zero_by bound of c (frame.Ack stage floor) is None bound_is asks special = absurd (cc (asks))
      zero_by bound of c (frame.Init attempt version size compressed count) is (Some caller) bound_is asks special = absurd (cc (asks))
      zero_by bound of c (frame.Reinit attempt stage finished) is (Some caller) bound_is asks special = absurd (cc (asks))
      zero_by bound of c (frame.Reinit2 attempt stage taken) is (Some caller) bound_is asks special = absurd (cc (asks))
      zero_by bound of c command is o bound_is asks special = absurd special

      zero_step : Out
      zero_step = step_own 0 has after live free e Out (λ goes. inl goes) (λ bound of c special. zero_by bound of c c.command refl bound refl c.asks special)

    -- whichever task's
    abbrev pub Stands : Connection → Type 0
    Stands after = IsTalking now r (with_connection number after n) ⊎ ((connection_of n 0 ≡ Some number) × Refuses session r n number d t after)

    task_stands : (k : ℕ) → connection_of n k ≡ Some number → (at after : Connection) → slice_get n.connections number ≡ Some at → is_open at ≡ true → is_serving at.doing ≡ false → StepsEnd gives d t at after answer → Stands after
    task_stands k has at after is live free e = by (cases_eq k 0)
      where
        own : (j : ℕ) (has : connection_of n j ≡ Some number) → at ≡ (here j has).at
        own j has = cc (is, there j has)

        so : connection_of n 0 ≡ Some number → IsTalking now r (with_connection number after n) ⊎ Refuses session r n number d t after → Stands after
        so has0 (inl goes) = inl goes
        so has0 (inr refused) = inr (has0, refused)

        by : (k ≡ 0) ⊎ (k ≢ 0) → Stands after
        by (inl zero_is) =
            let has0 : connection_of n 0 ≡ Some number = subst (λ (i : ℕ). connection_of n i ≡ Some number) zero_is has in
            so has0 (zero_step has0 after (subst (λ (y : Connection). is_open y ≡ true) (own 0 has0) live) (subst (λ (y : Connection). is_serving y.doing ≡ false) (own 0 has0) free) (subst (λ (y : Connection). StepsEnd gives d t y after answer) (own 0 has0) e))
        by (inr other) =
            inl (other_step k has after (subst (λ (y : Connection). is_open y ≡ true) (own k has) live) (subst (λ (y : Connection). is_serving y.doing ≡ false) (own k has) free) (subst (λ (y : Connection). StepsEnd gives d t y after answer) (own k has) e) other)

    -- where no other session stands
    task_keeps : StandsAlone r.table.session d → (k : ℕ) → connection_of n k ≡ Some number → (at after : Connection) → slice_get n.connections number ≡ Some at → is_open at ≡ true → is_serving at.doing ≡ false → StepsEnd gives d t at after answer → IsTalking now r (with_connection number after n)
    task_keeps alone k has at after is live free e = by (task_stands k has at after is live free e)
      where
        by : Stands after → IsTalking now r (with_connection number after n)
        by (inl goes) = goes
        by (inr refused) = absurd (refused.1.other alone)

-- A STEP OF A TASK'S END outside an EXECUTE keeps a clone paired.
pub donor_tasks : (d t : Donor) (r : Reception) (n m : Network) (task number : ℕ) (answer : DonorStep) → IsPaired (own_session r.table.session d.cloning) r n → StepsDonor gives d t number n m answer → IsFree n number → connection_of n task ≡ Some number → ServesOne r d t → answer ≢ step.Served says.NoMemory → IsPaired (own_session r.table.session t.cloning) r m
donor_tasks d t r n m task number answer paired steps free has one memory = keeps_paired d t r n number answer IsFreeAt (λ at after there live free_at e talks. task_keeps d t r n number answer memory one.serves paired.tasks talks one.alone task has at after there live free_at e) paired m free steps

-- The donor refused the session on this connection, for another one stands.
pub record IsRefused (d t : Donor) (r : Reception) (n m : Network) (number : ℕ) : Type 0 where
  pub has : connection_of n 0 ≡ Some number
  pub going : is_done r.table.phase ≡ false
  pub at : Connection
  pub there : slice_get n.connections number ≡ Some at
  pub after : Connection
  pub is : m ≡ with_connection number after n
  pub refuses : Refuses (own_session r.table.session d.cloning) r n number d t after

module _ (d t : Donor) (r : Reception) (n m : Network) (task number : ℕ) (answer : DonorStep) (paired : IsPaired (own_session r.table.session d.cloning) r n) (steps : StepsDonor gives d t number n m answer) (free : IsFree n number) (has : connection_of n task ≡ Some number) (one : Serves r d t) (memory : answer ≢ step.Served says.NoMemory) where
  abbrev before : Option Session
  before = own_session r.table.session d.cloning

  abbrev later : Option Session
  later = own_session r.table.session t.cloning

  abbrev Stood : Network → Type 0
  Stood x = IsPaired later r x ⊎ IsRefused d t r n x number

  -- nothing was done
  idle_stands : t ≡ d → (x : Network) → x ≡ n → Stood x
  idle_stands same x is = inl (subst (λ (o : Donor). IsPaired (own_session r.table.session o.cloning) r x) (sym same) (subst (IsPaired before r) (sym is) paired))

  copies_stand : (at after : Connection) → slice_get n.connections number ≡ Some at → is_open at ≡ true → is_serving at.doing ≡ false → StepsEnd gives d t at after answer → IsCopying before r n ⊎ HasCopied r n → Stood (with_connection number after n)
  copies_stand at after there live none e (inr c) = inl (record { tasks = paired.tasks; goes = inr (record { done = c.done; rests = c.rests; made = c.made }) })
  copies_stand at after there live none e (inl c) = so (task_stands d t r n number answer memory one paired.tasks c.talking task has at after there live none e)
    where
      so : IsTalking later r (with_connection number after n) ⊎ ((connection_of n 0 ≡ Some number) × Refuses before r n number d t after) → Stood (with_connection number after n)
      so (inl talks) = inl (record { tasks = paired.tasks; goes = inl (record { going = c.going; talking = talks }) })
      so (inr refused) = inr (record { has = refused.0; going = c.going; at = at; there = there; after = after; is = refl; refuses = refused.1 })

  open_or : (at after : Connection) → slice_get n.connections number ≡ Some at → is_serving at.doing ≡ false → (b : Bool) → is_open at ≡ b → StepsBy b gives d t at after answer → Stood (with_connection number after n)
  open_or at after there none true live e = copies_stand at after there live none e paired.goes
  open_or at after there none false live e = idle_stands e.donor (with_connection number after n) (ap (λ (c : Connection). with_connection number c n) e.is ∙ same_network n number at there)

  found_stands : (o : Option Connection) → slice_get n.connections number ≡ o → IfSome o IsFreeAt → MatchOption o ((t ≡ d) × (m ≡ n) × (answer ≡ step.Served says.Idle)) (λ (at : Connection). (after : Connection) × StepsBy (is_open at) gives d t at after answer × (m ≡ with_connection number after n)) → Stood m
  found_stands None there none s = idle_stands s.0 m s.1
  found_stands (Some at) there none s = subst Stood (sym s.2) (open_or at s.0 there none (is_open at) refl s.1)

  -- SO IT DOES whatever session stands, or the donor refuses.
  pub donor_stands : IsPaired later r m ⊎ IsRefused d t r n m number
  donor_stands = found_stands (slice_get n.connections number) refl free steps
