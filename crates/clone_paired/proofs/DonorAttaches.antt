-- A donor's end reads an ATTACH, on a task's connection or on one of an earlier incarnation.
use Rattle.std.proofs.Common.{ℕ, ◌≡◌, ◌≢◌, ◌∙◌, ◌==◌, List, [], ◌++◌, Bool, true, false, if◌then◌else◌, Option, None, Some, length, refl, sym, ap, subst}
use Rattle.std.specs.Prelude.{slice_get, IfSome, not, ◌&&◌}
use Rattle.std.specs.Option.{option_map_or}
use Rattle.std.proofs.lemmas.Bool.{eqb-true}
use Rattle.clone_session.specs.Cloning.{Session}
use Rattle.clone_session.specs.Effects.{Tells as TellsInfo}
use Rattle.clone_session.specs.declared.caller.Caller.{Caller}
use Rattle.clone_session.specs.declared.info.StageInfo.{StageInfo}
use Rattle.clone_wire.specs.Spelling.{code_of, spelling}
use Rattle.clone_wire.specs.declared.frame.Attempt.{Attempt}
use Rattle.clone_wire.specs.declared.frame.Frame.{Frame}
use Rattle.clone_wire.specs.declared.frame.Frame.TheVariants as frame
use Rattle.clone_wire.specs.declared.frame.Side.TheVariants.{Answer as ofDonor, Command as ofTask}
use Rattle.clone_stream.specs.Streams.{IsFrameOf}
use Rattle.clone_calls.specs.declared.answer.DonorAnswer.{DonorAnswer}
use Rattle.clone_calls.specs.declared.answer.DonorAnswer.TheVariants as reply
use Rattle.clone_calls.specs.declared.call.DonorCall.{DonorCall}
use Rattle.clone_calls.specs.declared.call.DonorCall.TheVariants as call
use Rattle.clone_serve.specs.Commands as commands
use Rattle.clone_serve.specs.Commands.{command_of}
use Rattle.clone_serve.specs.Following as following
use Rattle.clone_serve.specs.Serving.{WasSent, is_over}
use Rattle.clone_serve.specs.Telling.{stage_frame}
use Rattle.clone_serve.specs.declared.after.After.TheVariants.{Ends}
use Rattle.clone_serve.specs.declared.doing.Doing.{Doing}
use Rattle.clone_serve.specs.declared.doing.Doing.TheVariants as doing
use Rattle.clone_serve.specs.declared.turn.ServeAnswer.TheVariants as says
use Rattle.clone_recipient.specs.Expecting.{fits}
use Rattle.clone_recipient.specs.Receptions.{Reception}
use Rattle.clone_network.specs.Connections.{Connection, StepsEnd, is_open, is_serving, reaches_task}
use Rattle.clone_network.specs.Networks.{Network, StepsDonor, with_connection}
use Rattle.clone_network.specs.declared.donor_step.DonorStep.{DonorStep}
use Rattle.clone_network.specs.declared.donor_step.DonorStep.TheVariants as step
use Rattle.clone_engine.specs.Answering.{Answered}
use Rattle.clone_engine.specs.Donor.{Donor}
use Rattle.clone_told.specs.Told.{gives}
use Rattle.clone_joined.specs.Strangers.{attach_code, attaches}
use Rattle.clone_rounds.specs.World.{First}
use Rattle.clone_view.specs.Donors.{core_of}
use Rattle.clone_view.specs.Views.{list_in}
use Rattle.clone_paired.specs.Calm.{IsFree}
use Rattle.clone_paired.specs.Lines.{connection_of}
use Rattle.clone_paired.specs.Own.{own_session}
use Rattle.clone_paired.specs.Paired.{IsPaired, IsTalking}
use Rattle.clone_paired.proofs.DonorAttach.{Welcomed, attach_is_fine, welcomed, welcomed_talks}
use Rattle.clone_paired.proofs.DonorAwaiting.{Awaited, Bound, Carries, asks_is, awaited, carries, garbles, loses, rests, told_on, unfit}
use Rattle.clone_paired.proofs.DonorFree.{IsFreeAt, KeepsTalking, keeps_paired, late_stays, not_over, past_waits, seen_waits}
use Rattle.clone_paired.proofs.DonorGarbles.{first_code, garbled_talks}
use Rattle.clone_paired.proofs.DonorReads.{HasRead, has_read}
use Rattle.clone_paired.proofs.DonorLosses.{lost_talks}
use Rattle.clone_paired.proofs.DonorTurns.{first, same_network, there_at, x}
use Rattle.clone_paired.proofs.LateReads.{binds_live}
use Rattle.clone_paired.proofs.LateSteps.{Whose, its, nobody, whose}
use Rattle.clone_paired.proofs.Linked.{Linked}

-- ---- the command is ATTACH

pub record IsAttach (bound : Option Caller) (command : Frame) (asked : DonorCall) (begun : Doing) : Type 0 where
  pub attempt : Attempt
  pub task : ℕ
  pub none : bound ≡ None
  pub command_is : command ≡ frame.Attach attempt task
  pub asked_is : asked ≡ call.Attach (commands.caller_of attempt task)
  pub begun_is : begun ≡ doing.Telling (commands.caller_of attempt task)

pub attach_by : (bound : Option Caller) (command : Frame) (asked : DonorCall) (begun : Doing) → code_of command ≡ attach_code → command_of bound command ≡ Some (record { call = asked; doing = begun }) → IsAttach bound command asked begun
attach_by None (frame.Attach attempt task) asked begun code is = record { attempt = attempt; task = task; none = refl; command_is = refl; asked_is = (asks_is is).0; begun_is = (asks_is is).1 }
attach_by (Some caller) (frame.Attach attempt task) asked begun code is = absurd (cc (is))
attach_by bound other asked begun code is = absurd (cc (code))

pub code_is : (at : Connection) (command : Frame) (left : List ℕ) → at.to_donor ≡ spelling command ++ left → attaches at ≡ true → code_of command ≡ attach_code
code_is at command left taken is =
    eqb-true (code_of command) attach_code
    (sym (ap (λ (o : Option ℕ). option_map_or (λ code. code == attach_code) o false) (ap (λ (bytes : List ℕ). slice_get bytes 0) taken ∙ first_code command left)) ∙ is)

pub attach_same : (d t : Donor) (caller : Caller) (given : DonorAnswer) → Answered (call.Attach caller) given d t → t ≡ d
attach_same d t caller (reply.Attach result) did = did.1
attach_same d t caller given did = absurd did

module _ (d t : Donor) (r : Reception) (n : Network) (number : ℕ) (answer : DonorStep) (memory : answer ≢ step.Served says.NoMemory) (fit : (info : StageInfo) → TellsInfo d.cloning info → fits info.plan ≡ true) where
  abbrev session : Option Session
  session = own_session r.table.session d.cloning

  abbrev now : Option Session
  now = own_session r.table.session t.cloning

  own_of : t ≡ d → now ≡ session
  own_of is = ap (λ (o : Donor). own_session r.table.session o.cloning) is

  as_now : (m : Network) → t ≡ d → IsTalking session r m → IsTalking now r m
  as_now m is talks = subst (λ (o : Option Session). IsTalking o r m) (sym (own_of is)) talks

  -- on a task's connection
  module _ (tasks : length n.seats ≡ r.table.count) (talks : IsTalking session r n) (k : ℕ) (has : connection_of n k ≡ Some number) where
    abbrev here : Linked session r n talks.lines talks.known (first session r n tasks talks k number has).rounds k
    here = x session r n tasks talks k number has

    module _ (after : Connection) (live : is_open here.at ≡ true) (attach : attaches here.at ≡ true) (bound : Option Caller) (of : Bound here.at.doing bound) where
      carried : Carries gives d t here.at after answer bound → IsTalking now r (with_connection number after n)
      carried c = as_now (with_connection number after n) w.same (subst (λ (o : Connection). IsTalking session r (with_connection number o n)) (sym after_is) (welcomed_talks d t r n tasks fit talks k number has live new e.attempt e.task c.left read w.info w.tells of_told))
        where
          e : IsAttach bound c.command c.asked c.begun
          e = attach_by bound c.command c.asked c.begun (code_is here.at c.command c.left c.taken attach) c.asks

          new_of : (d : Doing) (b : Option Caller) → Bound d b → b ≡ None → d ≡ doing.New
          new_of doing.New b o is = refl
          new_of (doing.Ready caller) b o is = absurd (cc (o, is))
          new_of other b o is = absurd o

          new : here.at.doing ≡ doing.New
          new = new_of here.at.doing bound of e.none

          read : HasRead session r n tasks talks k number has (frame.Attach e.attempt e.task) c.left
          read = has_read session r n tasks talks k number has live (frame.Attach e.attempt e.task) c.left First refl (subst (IsFrameOf ofTask) e.command_is c.of) (c.taken ∙ ap (λ (f : Frame). spelling f ++ c.left) e.command_is)

          w : Welcomed d t (commands.caller_of e.attempt e.task) c.next c.sends
          w = welcomed d t (commands.caller_of e.attempt e.task) c.next c.sends c.says (attach_is_fine d t r n tasks fit talks k number has live new e.attempt e.task c.left read) (λ is. memory (c.answers ∙ ap step.Served is)) c.given (subst (λ (q : DonorCall). Answered q c.given d t) e.asked_is c.gave.does) (subst (λ (y : Doing). following.after y c.given ≡ Some (Ends c.next c.sends c.says)) e.begun_is c.follows)

          of_told : IsFrameOf ofDonor (stage_frame w.info)
          of_told = subst WasSent w.sends_is c.was

          after_is : after ≡ record here.at { to_donor = c.left; to_task = told_on (reaches_task here.at) (Some (stage_frame w.info)) here.at.to_task; doing = doing.Ready (commands.caller_of e.attempt e.task) }
          after_is = c.is ∙ (λ i. record here.at { to_donor = c.left; to_task = told_on (reaches_task here.at) (w.sends_is i) here.at.to_task; doing = w.next_is i })

      attach_awaited : Awaited gives d t here.at after answer bound → IsTalking now r (with_connection number after n)
      attach_awaited (rests same is) = as_now (with_connection number after n) same (subst (λ (m : Network). IsTalking session r m) (sym (ap (λ (c : Connection). with_connection number c n) is ∙ same_network n number here.at (there_at session r n tasks talks k number has))) talks)
      attach_awaited (loses same none lost is) = as_now (with_connection number after n) same (subst (λ (c : Connection). IsTalking session r (with_connection number c n)) (sym is) (lost_talks session r n tasks talks k number has live bound of none lost))
      attach_awaited (garbles bytes wrong same is says_it) = as_now (with_connection number after n) same (subst (λ (c : Connection). IsTalking session r (with_connection number c n)) (sym is) (garbled_talks session r n tasks talks k number has live bound of bytes wrong))
      attach_awaited (unfit says_it over tried) = absurd (memory says_it)
      attach_awaited (carries c) = carried c

    attach_own : (after : Connection) → is_open here.at ≡ true → is_serving here.at.doing ≡ false → attaches here.at ≡ true → StepsEnd gives d t here.at after answer → IsTalking now r (with_connection number after n)
    attach_own after live free attach e =
        let doing_at : here.l.doing ≡ here.at.doing = here.of.doing ∙ ap (λ (b : Bool). if b then here.at.doing else doing.Over) live in
        let b = seen_waits (list_in session) here.at.doing _ (ap (core_of (list_in session)) (sym doing_at) ∙ here.seat.core) free (not_over here.at.found_lost (is_over here.at.doing) live) in
        attach_awaited after live attach b.0 b.1 (awaited gives d t here.at after answer b.0 b.1 live e)

    pub attach_task : (at after : Connection) → slice_get n.connections number ≡ Some at → is_open at ≡ true → is_serving at.doing ≡ false → attaches at ≡ true → StepsEnd gives d t at after answer → IsTalking now r (with_connection number after n)
    attach_task at after there live free attach e =
        let same : here.at ≡ at = cc (there_at session r n tasks talks k number has, there) in
        attach_own after (ap is_open same ∙ live) (ap (λ (c : Connection). is_serving c.doing) same ∙ free) (ap attaches same ∙ attach) (subst (λ (c : Connection). StepsEnd gives d t c after answer) (sym same) e)

  -- on one that no task has, the session stays
  module _ (talks : IsTalking session r n) (away : (k : ℕ) → connection_of n k ≢ Some number) (at after : Connection) (there : slice_get n.connections number ≡ Some at) (live : is_open at ≡ true) (free : is_serving at.doing ≡ false) (attach : attaches at ≡ true) (e : StepsEnd gives d t at after answer) where
    bound : (bound : Option Caller) × Bound at.doing bound
    bound = (let seen = talks.rounds.seen talks.known (λ stage small. refl) in past_waits r.table at.doing (binds_live r.table at live (seen.past number at there away).binds) free (not_over at.found_lost (is_over at.doing) live))

    same_late : Awaited gives d t at after answer bound.0 → now ≡ session
    same_late (rests same is) = own_of same
    same_late (loses same none lost is) = own_of same
    same_late (garbles bytes wrong same is says_it) = own_of same
    same_late (unfit says_it over tried) = absurd (memory says_it)
    same_late (carries c) =
        let a = attach_by bound.0 c.command c.asked c.begun (code_is at c.command c.left c.taken attach) c.asks in
        own_of (attach_same d t (commands.caller_of a.attempt a.task) c.given (subst (λ (q : DonorCall). Answered q c.given d t) a.asked_is c.gave.does))

    attach_late : IsTalking now r (with_connection number after n)
    attach_late = late_stays d t r n number answer talks away at after there live free e (same_late (awaited gives d t at after answer bound.0 bound.1 live e)) memory

  attach_keeps : length n.seats ≡ r.table.count → IfSome (slice_get n.connections number) (λ at. attaches at ≡ true) → KeepsTalking d t r n number answer IsFreeAt
  attach_keeps tasks attach at after there live free e talks = by (whose n number)
    where
      here_is : attaches at ≡ true
      here_is = subst (λ (o : Option Connection). IfSome o (λ c. attaches c ≡ true)) there attach

      by : Whose n number → IsTalking now r (with_connection number after n)
      by (its k has) = attach_task tasks talks k has at after there live free here_is e
      by (nobody away) = attach_late talks away at after there live free here_is e

pub donor_attaches : (d t : Donor) (r : Reception) (n m : Network) (number : ℕ) (answer : DonorStep) → IsPaired (own_session r.table.session d.cloning) r n → StepsDonor gives d t number n m answer → IsFree n number → IfSome (slice_get n.connections number) (λ at. attaches at ≡ true) → ((info : StageInfo) → TellsInfo d.cloning info → fits info.plan ≡ true) → answer ≢ step.Served says.NoMemory → IsPaired (own_session r.table.session t.cloning) r m
donor_attaches d t r n m number answer paired steps free attach fit memory = keeps_paired d t r n number answer IsFreeAt (attach_keeps d t r n number answer memory fit paired.tasks attach) paired m free steps
