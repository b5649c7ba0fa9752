-- No session of another number comes to stand at a donor but by an INIT of it.
use Rattle.std.proofs.Common.{ℕ, ◌≡◌, ◌++◌, List, [], ◌∷◌, Option, None, Some, option_map, sym, ap, subst}
use Rattle.std.specs.Prelude.{IfSome, ⊤}
use Rattle.clone_session.specs.Cloning.{Session}
use Rattle.clone_session.specs.Effects.{left, opened}
use Rattle.clone_session.specs.declared.caller.Caller.{Caller}
use Rattle.clone_wire.specs.Spelling.{spelling}
use Rattle.clone_wire.specs.declared.frame.Frame.{Frame}
use Rattle.clone_wire.specs.declared.frame.Frame.TheVariants as frame
use Rattle.clone_wire.specs.declared.frame.Side.TheVariants.{Command as ofTask}
use Rattle.clone_stream.specs.Streams.{IsFrameOf}
use Rattle.clone_calls.specs.declared.call.DonorCall.{DonorCall}
use Rattle.clone_calls.specs.declared.call.DonorCall.TheVariants as call
use Rattle.clone_serve.specs.Commands.{command_of}
use Rattle.clone_serve.specs.Stepping.{GivesAll}
use Rattle.clone_serve.specs.Telling.{Exchange}
use Rattle.clone_serve.specs.declared.commands.Command.{Command}
use Rattle.clone_serve.specs.declared.doing.Doing.{Doing}
use Rattle.clone_network.specs.Connections.{Connection, StepsEnd, reaches_task, sent_behind}
use Rattle.clone_network.specs.declared.donor_step.DonorStep.{DonorStep}
use Rattle.clone_engine.specs.Acts.{Act, Acts, Calls, Orders}
use Rattle.clone_engine.specs.Donor.{Donor, known_files}
use Rattle.clone_told.specs.Told.{gives}
use Rattle.clone_sides.specs.Facts.{Kept, kept}
use Rattle.clone_sides.proofs.KeptLemmas.{becomes_kept, block_leaves, number_in}
use Rattle.clone_sides.proofs.StopLemmas.{ack_leaves}
use Rattle.clone_sides.proofs.WayLemmas.{Acking, Giving, Leaving, Opening, Quiet, Telling, Way, went}
use Rattle.clone_joined.proofs.AskedLemmas.{AreWithin, AsksAll, BeginsBy, IsWithin, commanded, inside, step_asks}
use Rattle.clone_talk.specs.Talking.{IsAlone, OpensNone}

module _ (number : ℕ) where
  -- ---- an act

  -- where it is an INIT, it is one of the session
  abbrev pub OpensOwn : DonorCall → Type 0
  OpensOwn (call.Init hello) = hello.session ≡ number
  OpensOwn other = ⊤

  abbrev pub ActsOwn : Act → Type 0
  ActsOwn (Calls asked given) = OpensOwn asked
  ActsOwn Orders = ⊤

  pub none_own : (act : Act) → OpensNone act → ActsOwn act
  none_own (Calls (call.Init hello) given) none = absurd none
  none_own (Calls asked given) none = tt
  none_own Orders none = tt

  abbrev IsNumbered : Option ℕ → Type 0
  IsNumbered found = IfSome found (λ n. n ≡ number)

  in_alone : (d : Donor) → IsNumbered (number_in d.cloning) → IsAlone number d
  in_alone d = by d.cloning.session
    where
      by : (o : Option Session) → IsNumbered (option_map (λ (k : Kept). k.0) (option_map kept o)) → IfSome o (λ s. s.number ≡ number)
      by None is = tt
      by (Some s) is = is

  alone_in : (d : Donor) → IsAlone number d → IsNumbered (number_in d.cloning)
  alone_in d = by d.cloning.session
    where
      by : (o : Option Session) → IfSome o (λ s. s.number ≡ number) → IsNumbered (option_map (λ (k : Kept). k.0) (option_map kept o))
      by None is = tt
      by (Some s) is = is

  -- AN ACT that opens no session of another number
  pub act_alone : (d t : Donor) (act : Act) → ActsOwn act → Acts act d t → IsAlone number d → IsAlone number t
  act_alone d t act own acts alone = in_alone t (by (went d t act acts.does).way)
    where
      stays : number_in t.cloning ≡ number_in d.cloning → IsNumbered (number_in t.cloning)
      stays same = subst IsNumbered (sym same) (alone_in d alone)

      by : Way act d t → IsNumbered (number_in t.cloning)
      by (Quiet q) = stays (ap (option_map (λ (k : Kept). k.0)) q.leaves.session)
      by (Telling info q) = stays (ap (option_map (λ (k : Kept). k.0)) q.leaves.session)
      by (Opening hello info q) =
          let asked : hello.session ≡ number = subst ActsOwn q.is own in
          subst IsNumbered (sym (ap (option_map (λ (k : Kept). k.0)) (becomes_kept t.cloning (opened hello (known_files d.engine) q.in_flight d.cloning) q.becomes))) asked
      by (Giving caller stage chunk n read last q) = stays (ap (option_map (λ (k : Kept). k.0)) (block_leaves d.cloning t.cloning caller chunk n last q.gives.answers).0.session)
      by (Acking caller stage floor info q) = stays (ack_leaves d t caller stage info q.acks.acknowledges).number
      by (Leaving q) = subst IsNumbered (sym (ap (option_map (λ (k : Kept). k.0)) (becomes_kept t.cloning (left d.cloning) q.becomes))) tt

  -- ---- a step of an end

  within_own : (asked : DonorCall) → IsWithin asked → OpensOwn asked
  within_own (call.Init hello) within = absurd within
  within_own other within = tt

  all_within_alone : (exchanges : List Exchange) (d t : Donor) → AreWithin exchanges → GivesAll gives d exchanges t → IsAlone number d → IsAlone number t
  all_within_alone [] d t within same alone = subst (IsAlone number) (sym same) alone
  all_within_alone (x ∷ xs) d t within (mid, acts, rest) alone = all_within_alone xs mid t within.1 rest (act_alone d mid (Calls x.0 x.1) (within_own x.0 within.0) acts alone)

  -- a command that is an INIT is one of the session
  abbrev pub InitsOwn : Frame → Type 0
  InitsOwn (frame.Init attempt version size compressed tasks) = attempt.session ≡ number
  InitsOwn other = ⊤

  abbrev FindsOwn : Option Command → Type 0
  FindsOwn None = ⊤
  FindsOwn (Some found) = OpensOwn found.call

  command_own : (bound : Option Caller) (command : Frame) → InitsOwn command → FindsOwn (command_of bound command)
  command_own None (frame.Init attempt version size compressed tasks) own = own
  command_own None (frame.Attach attempt task) own = tt
  command_own None (frame.Reinit attempt stage finished) own = tt
  command_own None (frame.Reinit2 attempt stage taken) own = tt
  command_own None other own = tt
  command_own (Some caller) (frame.Execute stage) own = tt
  command_own (Some caller) (frame.Ack stage given) own = tt
  command_own (Some caller) frame.Exit own = tt
  command_own (Some caller) other own = tt

  -- so is each that lies unread on a connection
  abbrev pub AsksOwn : Connection → Type 0
  AsksOwn at = (command : Frame) (left : List ℕ) → IsFrameOf ofTask command → at.to_donor ≡ spelling command ++ left → InitsOwn command

  module _ (at : Connection) (own : AsksOwn at) where
    begins_own : (left : List ℕ) (begun : Doing) (asked : DonorCall) → BeginsBy at.doing at.to_donor left begun asked → OpensOwn asked
    begins_own left begun asked (commanded bound idle takes) = subst FindsOwn takes.asks (command_own bound takes.command (own takes.command left takes.is takes.taken))
    begins_own left begun asked (inside is same) = within_own asked is

    asks_alone : (exchanges : List Exchange) (d t : Donor) (left : List ℕ) (begun : Doing) → AsksAll at.doing at.to_donor left begun exchanges → GivesAll gives d exchanges t → IsAlone number d → IsAlone number t
    asks_alone [] d t left begun asks same alone = subst (IsAlone number) (sym same) alone
    asks_alone (x ∷ xs) d t left begun asks (mid, acts, rest) alone = all_within_alone xs mid t asks.1 rest (act_alone d mid (Calls x.0 x.1) (begins_own left begun x.0 asks.0) acts alone)

    -- A STEP on such a connection
    pub end_alone : (d t : Donor) (after : Connection) (says : DonorStep) → StepsEnd gives d t at after says → IsAlone number d → IsAlone number t
    end_alone d t after says e =
        let s = e.serves.steps in
        asks_alone s.exchanges d t e.serves.left s.is.begun (step_asks s.exchanges at.doing e.serves.doing at.to_donor e.serves.left (sent_behind (reaches_task at) at.to_task) e.serves.sent e.says s.is) s.answers
