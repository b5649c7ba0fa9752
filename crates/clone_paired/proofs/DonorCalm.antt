-- A step of a donor's end outside an EXECUTE that leaves the donor keeps a clone paired.
use Rattle.std.proofs.Common.{ℕ, ◌≡◌, ◌≢◌, ◌∙◌, ◌⊎◌, ◌<◌, List, [], ◌∷◌, ◌++◌, Bool, true, false, if◌then◌else◌, Option, None, Some, Ok, Err, Result, option_map, length, refl, sym, ap, subst, inl, inr}
use Rattle.std.specs.Bool.{⊤}
use Rattle.std.specs.Prelude.{slice_get, MatchOption, IfSome, not, ◌||◌, ◌&&◌}
use Rattle.std.specs.List.{AllByRecursion}
use Rattle.std.proofs.lemmas.Bool.{both_ways}
use Rattle.clone_chunk.specs.declared.cause.CloneCause.{CloneCause}
use Rattle.clone_chunk.specs.declared.copy_stage.CopyStage.{CopyStage}
use Rattle.clone_chunk.specs.Stages.{copy_number}
use Rattle.clone_session.specs.Cloning.{Session}
use Rattle.clone_session.specs.declared.caller.Caller.{Caller}
use Rattle.clone_session.specs.declared.info.StageInfo.{StageInfo}
use Rattle.clone_session.specs.declared.refusal.CloneRefusal.{CloneRefusal}
use Rattle.clone_session.specs.declared.refusal.CloneRefusal.TheVariants.{Because, NoMemory}
use Rattle.clone_wire.specs.Spelling.{spelling}
use Rattle.clone_wire.specs.declared.frame.Frame.{Frame}
use Rattle.clone_wire.specs.declared.frame.Frame.TheVariants as frame
use Rattle.clone_wire.specs.declared.frame.Side.TheVariants.{Command as ofTask}
use Rattle.clone_stream.specs.Streams.{IsFrameOf}
use Rattle.clone_calls.specs.Answering.{execute_in, exit_in, stage_in}
use Rattle.clone_calls.specs.declared.answer.DonorAnswer.{DonorAnswer}
use Rattle.clone_calls.specs.declared.answer.DonorAnswer.TheVariants as answer
use Rattle.clone_calls.specs.declared.call.DonorCall.{DonorCall}
use Rattle.clone_calls.specs.declared.call.DonorCall.TheVariants as call
use Rattle.clone_serve.specs.Commands.{caller_of, command_of}
use Rattle.clone_wire.specs.Answers.{BeginsNone}
use Rattle.clone_serve.specs.Following as following
use Rattle.clone_serve.specs.Following.{left, started, told}
use Rattle.clone_serve.specs.Serving.{is_over}
use Rattle.clone_serve.specs.declared.after.After.{After}
use Rattle.clone_serve.specs.declared.after.After.TheVariants.{Asks, Ends}
use Rattle.clone_serve.specs.declared.commands.Command.{Command as Asked}
use Rattle.clone_serve.specs.declared.doing.Doing.{Doing}
use Rattle.clone_serve.specs.declared.doing.Doing.TheVariants as doing
use Rattle.clone_serve.specs.declared.doing.Execution.{Execution}
use Rattle.clone_serve.specs.declared.doing.Work.TheVariants.{Claim}
use Rattle.clone_serve.specs.declared.turn.ServeAnswer.{ServeAnswer}
use Rattle.clone_serve.specs.declared.turn.ServeAnswer.TheVariants as says
use Rattle.clone_tasks.specs.Tables.{Table, incarnation_of}
use Rattle.clone_recipient.specs.Receptions.{Reception}
use Rattle.clone_network.specs.Connections.{Connection, RestsEnd, StepsBy, StepsEnd, is_open, is_serving, reaches_task}
use Rattle.clone_network.specs.Networks.{Network, StepsDonor, with_connection}
use Rattle.clone_network.specs.declared.donor_step.DonorStep.{DonorStep}
use Rattle.clone_network.specs.declared.donor_step.DonorStep.TheVariants as step
use Rattle.clone_engine.specs.Answering.{Answered}
use Rattle.clone_engine.specs.Donor.{Donor}
use Rattle.clone_told.specs.Told.{gives}
use Rattle.clone_rounds.specs.World.{Execute}
use Rattle.clone_view.specs.Views.{list_in}
use Rattle.clone_paired.specs.Calm.{IsCalm, IsFree}
use Rattle.clone_paired.specs.Earlier.{BindsEarlier, IsPast, WasAsked}
use Rattle.clone_paired.specs.Lines.{connection_of, doing_at}
use Rattle.clone_paired.specs.Own.{own_session}
use Rattle.clone_paired.specs.Paired.{HasCopied, IsCopying, IsPaired, IsTalking}
use Rattle.clone_paired.specs.Unread.{Holds}
use Rattle.clone_paired.proofs.DonorAwaiting.{Awaited, Bound, Carries, asks_is, awaited, carries, garbles, loses, rests, told_on, unfit}
use Rattle.clone_paired.proofs.DonorExecutes.{execute_fine, executed_talks, started_as}
use Rattle.clone_paired.proofs.DonorReads.{HasRead, has_read, told_none}
use Rattle.clone_paired.proofs.DonorLosses.{lost_talks}
use Rattle.clone_paired.proofs.DonorTurns.{first, same_network, there_at, x}
use Rattle.clone_paired.proofs.LateSteps.{Whose, its, late_same, nobody, past_lost, past_over, whose}
use Rattle.clone_paired.proofs.Linked.{Linked}
use Rattle.clone_paired.proofs.UnreadLemmas.{Reads, holds_read}

-- what says that an EXECUTE is served is the answer to that, and a command's step isn't idle
abbrev Only : Doing → Option After → Type 0
Only d None = ⊤
Only d (Some (Asks run what)) = ⊤
Only d (Some (Ends next sends says.Execute)) = (run : Execution) × (d ≡ doing.Starting run)
Only d (Some (Ends next sends says.Idle)) = ⊥
Only d (Some (Ends next sends other)) = ⊤

refused_only : (d : Doing) (caller : Caller) (why : CloneRefusal) → Only d (Some (told caller (Err why)))
refused_only d caller (Because why) = tt
refused_only d caller NoMemory = tt

told_only : (d : Doing) (caller : Caller) (stage : Option (Result StageInfo CloneRefusal)) → Only d (option_map (told caller) stage)
told_only d caller None = tt
told_only d caller (Some (Ok info)) = tt
told_only d caller (Some (Err why)) = refused_only d caller why

started_only : (run : Execution) (done : Option (Result ⊤ CloneCause)) → Only (doing.Starting run) (option_map (started run) done)
started_only run None = tt
started_only run (Some (Ok z)) = (run, refl)
started_only run (Some (Err why)) = tt

left_only : (d : Doing) (done : Option (Result ⊤ CloneCause)) → Only d (option_map left done)
left_only d None = tt
left_only d (Some (Ok z)) = tt
left_only d (Some (Err why)) = tt

only_of : (spoke : ServeAnswer) (d : Doing) (next : Doing) (sends : Option Frame) → IsCalm (step.Served spoke) → Only d (Some (Ends next sends spoke)) → (run : Execution) × (d ≡ doing.Starting run)
only_of says.Execute d next sends calm only = only
only_of says.Idle d next sends calm only = absurd only
only_of other d next sends calm only = absurd calm

-- ---- the command was an EXECUTE

pub record IsExecute (bound : Option Caller) (command : Frame) (asked : DonorCall) (begun : Doing) : Type 0 where
  pub caller : Caller
  pub stage : CopyStage
  pub bound_is : bound ≡ Some caller
  pub command_is : command ≡ frame.Execute stage
  pub asked_is : asked ≡ call.Execute caller (copy_number stage)
  pub begun_is : begun ≡ doing.Starting (record { caller = caller; stage = stage })

pub execute_is : (bound : Option Caller) (command : Frame) (asked : DonorCall) (begun next : Doing) (given : DonorAnswer) (sends : Option Frame) (spoke : ServeAnswer) → command_of bound command ≡ Some (record { call = asked; doing = begun }) → following.after begun given ≡ Some (Ends next sends spoke) → IsCalm (step.Served spoke) → IsExecute bound command asked begun
execute_is (Some caller) (frame.Execute stage) asked begun next given sends spoke asks follows calm = record { caller = caller; stage = stage; bound_is = refl; command_is = refl; asked_is = (asks_is asks).0; begun_is = (asks_is asks).1 }
execute_is (Some caller) (frame.Ack stage floor) asked begun next given sends spoke asks follows calm =
    let is : begun ≡ doing.Telling caller = (asks_is asks).1 in
    let f : following.after (doing.Telling caller) given ≡ Some (Ends next sends spoke) = subst (λ (y : Doing). following.after y given ≡ Some (Ends next sends spoke)) is follows in
    let only = only_of spoke (doing.Telling caller) next sends calm (subst (Only (doing.Telling caller)) f (told_only (doing.Telling caller) caller (stage_in given))) in
    absurd (cc (only.1))
execute_is (Some caller) frame.Exit asked begun next given sends spoke asks follows calm =
    let is : begun ≡ doing.Leaving = (asks_is asks).1 in
    let f : following.after doing.Leaving given ≡ Some (Ends next sends spoke) = subst (λ (y : Doing). following.after y given ≡ Some (Ends next sends spoke)) is follows in
    let only = only_of spoke doing.Leaving next sends calm (subst (Only doing.Leaving) f (left_only doing.Leaving (exit_in given))) in
    absurd (cc (only.1))
execute_is (Some caller) other asked begun next given sends spoke asks follows calm = absurd (cc (asks))
execute_is None command asked begun next given sends spoke asks follows calm = absurd (first command asks)
  where
    telling : (caller : Caller) → begun ≡ doing.Telling caller → ⊥
    telling caller is =
        let f : following.after (doing.Telling caller) given ≡ Some (Ends next sends spoke) = subst (λ (y : Doing). following.after y given ≡ Some (Ends next sends spoke)) is follows in
        let only = only_of spoke (doing.Telling caller) next sends calm (subst (Only (doing.Telling caller)) f (told_only (doing.Telling caller) caller (stage_in given))) in
        absurd (cc (only.1))

    first : (command : Frame) → command_of None command ≡ Some (record { call = asked; doing = begun }) → ⊥
    first (frame.Init attempt version size compressed count) asks = telling (caller_of attempt 0) (asks_is asks).1
    first (frame.Attach attempt task) asks = telling (caller_of attempt task) (asks_is asks).1
    first (frame.Reinit attempt stage finished) asks = telling (caller_of attempt 0) (asks_is asks).1
    first (frame.Reinit2 attempt stage taken) asks = telling (caller_of attempt 0) (asks_is asks).1
    first other asks = absurd (cc (asks))

-- ---- on a task's connection

module _ (d t : Donor) (r : Reception) (n : Network) (tasks : length n.seats ≡ r.table.count) (number : ℕ) (says_so : DonorStep) (calm : IsCalm says_so) where
  abbrev session : Option Session
  session = own_session r.table.session d.cloning

  abbrev now : Option Session
  now = own_session r.table.session t.cloning

  same_own_at : {m : Network} → t ≡ d → IsTalking session r m → IsTalking now r m
  same_own_at {m} is talks = subst (λ (o : Donor). IsTalking (own_session r.table.session o.cloning) r m) (sym is) talks

  module _ (talks : IsTalking session r n) (k : ℕ) (has : connection_of n k ≡ Some number) where
    abbrev here : Linked session r n talks.lines talks.known (first session r n tasks talks k number has).rounds k
    here = x session r n tasks talks k number has

    module _ (live : is_open here.at ≡ true) (bound : Option Caller) (of : Bound here.at.doing bound) (after : Connection) where
      carried : Carries gives d t here.at after says_so bound → IsTalking now r (with_connection number after n)
      carried c =
          subst (λ (o : Donor). IsTalking (own_session r.table.session o.cloning) r (with_connection number after n)) (sym did.0)
          (subst (λ (o : Connection). IsTalking session r (with_connection number o n)) (sym after_is) (executed_talks session r n tasks talks k number has live e.caller bound_at e.stage c.left read))
        where
          e : IsExecute bound c.command c.asked c.begun
          e = execute_is bound c.command c.asked c.begun c.next c.given c.sends c.says c.asks c.follows (subst IsCalm c.answers calm)

          read : HasRead session r n tasks talks k number has (frame.Execute e.stage) c.left
          read = has_read session r n tasks talks k number has live (frame.Execute e.stage) c.left (Execute (copy_number e.stage)) refl (subst (IsFrameOf ofTask) e.command_is c.of) (c.taken ∙ ap (λ (f : Frame). spelling f ++ c.left) e.command_is)

          ready : (d : Doing) (b : Option Caller) → Bound d b → b ≡ Some e.caller → d ≡ doing.Ready e.caller
          ready doing.New b o is = absurd (cc (o, is))
          ready (doing.Ready caller) b o is = cc (o, is)
          ready other b o is = absurd o

          bound_at : here.at.doing ≡ doing.Ready e.caller
          bound_at = ready here.at.doing bound of e.bound_is

          run : Execution
          run = record { caller = e.caller; stage = e.stage }

          did : (t ≡ d) × (c.next ≡ doing.Serving run Claim) × (c.sends ≡ None)
          did = started_as d t run (copy_number e.stage) (execute_fine session r n tasks talks k number has live e.caller bound_at e.stage c.left read d.cloning refl) c.next c.sends c.says c.given (subst (λ (q : DonorCall). Answered q c.given d t) e.asked_is c.gave.does) (subst (λ (y : Doing). following.after y c.given ≡ Some (Ends c.next c.sends c.says)) e.begun_is c.follows)

          after_is : after ≡ record here.at { to_donor = c.left; doing = doing.Serving run Claim }
          after_is = c.is ∙ (λ i. record here.at { to_donor = c.left; to_task = told_on (reaches_task here.at) (did.2 i) here.at.to_task; doing = did.1 i }) ∙ (λ i. record here.at { to_donor = c.left; to_task = told_none (reaches_task here.at) here.at.to_task i; doing = doing.Serving run Claim })

      -- it awaits a command
      pub calm_awaited : Awaited gives d t here.at after says_so bound → IsTalking now r (with_connection number after n)
      calm_awaited (rests same is) = same_own_at same (subst (λ (m : Network). IsTalking session r m) (sym (ap (λ (c : Connection). with_connection number c n) is ∙ same_network n number here.at (there_at session r n tasks talks k number has))) talks)
      calm_awaited (loses same none lost is) = same_own_at same (subst (λ (c : Connection). IsTalking session r (with_connection number c n)) (sym is) (lost_talks session r n tasks talks k number has live bound of none lost))
      calm_awaited (garbles bytes wrong same is says_it) = absurd (subst IsCalm says_it calm)
      calm_awaited (unfit says_it over tried) = absurd (subst IsCalm says_it calm)
      calm_awaited (carries c) = carried c
