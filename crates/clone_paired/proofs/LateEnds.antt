-- EACH STEP of an end whose connection no task has any more keeps a clone paired.
use Rattle.std.proofs.Common.{ℕ, ◌≡◌, ◌≢◌, ◌∙◌, ◌⊎◌, List, ◌∷◌, ◌++◌, Bool, true, false, if◌then◌else◌, Option, None, Some, refl, sym, ap, subst, inl, inr}
use Rattle.std.specs.Bool.{⊤}
use Rattle.std.specs.Prelude.{MatchOption, slice_get}
use Rattle.std.specs.List.{AllByRecursion}
use Rattle.std.proofs.lemmas.Bool.{both_ways}
use Rattle.clone_session.specs.Cloning.{Session}
use Rattle.clone_session.specs.declared.caller.Caller.{Caller}
use Rattle.clone_wire.specs.Spelling.{spelling}
use Rattle.clone_wire.specs.declared.frame.Frame.{Frame}
use Rattle.clone_wire.specs.declared.frame.Frame.TheVariants as frame
use Rattle.clone_wire.specs.declared.frame.Side.TheVariants.{Command as ofTask}
use Rattle.clone_stream.specs.Streams.{IsFrameOf}
use Rattle.clone_calls.specs.declared.answer.DonorAnswer.{DonorAnswer}
use Rattle.clone_calls.specs.declared.call.DonorCall.{DonorCall}
use Rattle.clone_serve.specs.Commands.{command_of}
use Rattle.clone_serve.specs.Following.{call_in}
use Rattle.clone_serve.specs.Serving.{Begins, is_over}
use Rattle.clone_serve.specs.declared.after.After.{After}
use Rattle.clone_serve.specs.declared.after.After.TheVariants.{Asks, Ends}
use Rattle.clone_serve.specs.declared.doing.Doing.{Doing}
use Rattle.clone_serve.specs.declared.doing.Doing.TheVariants as doing
use Rattle.clone_serve.specs.declared.doing.Execution.{Execution}
use Rattle.clone_serve.specs.declared.doing.Work.{Work}
use Rattle.clone_serve.specs.declared.doing.Work.TheVariants.{Archive, Claim, Read, Weigh}
use Rattle.clone_serve.specs.declared.turn.ServeAnswer.{ServeAnswer}
use Rattle.clone_serve.specs.declared.turn.ServeAnswer.TheVariants as says
use Rattle.clone_tasks.specs.Tables.{Table, incarnation_of, is_done}
use Rattle.clone_recipient.specs.Receptions.{Reception}
use Rattle.clone_network.specs.Connections.{Connection, StepsBy, StepsEnd, finds_loss, is_open, reaches_task, sent_behind, unread_then}
use Rattle.clone_network.specs.Networks.{Network, StepsDonor, with_connection}
use Rattle.clone_network.specs.declared.donor_step.DonorStep.{DonorStep}
use Rattle.clone_network.specs.declared.donor_step.DonorStep.TheVariants as step
use Rattle.clone_engine.specs.Acts.{CloneActs}
use Rattle.clone_engine.specs.Donor.{Donor}
use Rattle.clone_told.specs.Told.{gives}
use Rattle.clone_ending.proofs.DonorLemmas.{goes_in}
use Rattle.clone_ending.proofs.Stepping.{Comes, Hands, goes_so}
use Rattle.clone_paired.specs.Earlier.{BindsEarlier, IsPast, WasAsked}
use Rattle.clone_paired.specs.Lines.{connection_of}
use Rattle.clone_paired.specs.Own.{own_session}
use Rattle.clone_paired.specs.Paired.{HasCopied, IsCopying, IsPaired, IsTalking}
use Rattle.clone_paired.specs.Seen.{IsSeen}
use Rattle.clone_paired.specs.Unread.{Holds}
use Rattle.clone_paired.proofs.DonorAwaiting.{Awaited, Bound, asks_is, awaited, carries, garbles, loses, rests, unfit}
use Rattle.clone_paired.proofs.DonorFree.{KeepsTalking, keeps_paired, not_over}
use Rattle.clone_paired.proofs.DonorLosses.{for_some}
use Rattle.clone_paired.proofs.DonorMemory.{after_is, shut}
use Rattle.clone_paired.proofs.LateCalls.{GoesOn, IsLateCall, late_call, same_goes}
use Rattle.clone_paired.proofs.LateMoves.{seen_now}
use Rattle.clone_paired.proofs.LateReads.{IsOf, binds_live, past_carried}
use Rattle.clone_paired.proofs.LateSteps.{binds_if, late_same, past_lost, past_over}
use Rattle.clone_paired.proofs.LateWork.{IsBound, Next, NextOf, work_by}
use Rattle.clone_paired.proofs.UnreadLemmas.{Reads, holds_read}

-- ---- the calls of such an end

-- of a command that was sent
command_late : (t : Table) (acknowledged : Bool) (d : Doing) (bound : Option Caller) (command : Frame) (asked : DonorCall) (begun : Doing) → Bound d bound → BindsEarlier t d → WasAsked t acknowledged command → command_of bound command ≡ Some (record { call = asked; doing = begun }) → IsLateCall t acknowledged asked
command_late t acknowledged doing.New bound command asked begun of binds was is = first command was (sym (ap (λ (b : Option Caller). command_of b command) of) ∙ is)
  where
    first : (command : Frame) → WasAsked t acknowledged command → command_of None command ≡ Some (record { call = asked; doing = begun }) → IsLateCall t acknowledged asked
    first (frame.Init attempt version size compressed count) was is = subst (IsLateCall t acknowledged) (sym (asks_is is).0) (was.0.0, was.0.1, was.1, was.2)
    first (frame.Attach attempt task) was is = subst (IsLateCall t acknowledged) (sym (asks_is is).0) tt
    first (frame.Reinit attempt stage finished) was is = subst (IsLateCall t acknowledged) (sym (asks_is is).0) was
    first (frame.Reinit2 attempt stage taken) was is = subst (IsLateCall t acknowledged) (sym (asks_is is).0) was
    first other was is = absurd (cc (is))
command_late t acknowledged (doing.Ready caller) bound command asked begun of binds was is = later command was (sym (ap (λ (b : Option Caller). command_of b command) of) ∙ is)
  where
    later : (command : Frame) → WasAsked t acknowledged command → command_of (Some caller) command ≡ Some (record { call = asked; doing = begun }) → IsLateCall t acknowledged asked
    later (frame.Execute stage) was is = subst (IsLateCall t acknowledged) (sym (asks_is is).0) tt
    later (frame.Ack stage floor) was is = subst (IsLateCall t acknowledged) (sym (asks_is is).0) (binds, was)
    later frame.Exit was is = absurd was
    later other was is = absurd (cc (is))
command_late t acknowledged other bound command asked begun of binds was is = absurd of

-- and within an EXECUTE
work_late : (t : Table) (acknowledged : Bool) (run : Execution) (what : Work) → IsOf t run.caller → IsLateCall t acknowledged (call_in run what)
work_late t acknowledged run Claim of = of
work_late t acknowledged run (Weigh chunk) of = tt
work_late t acknowledged run (Read place again) of = of
work_late t acknowledged run (Archive place limit) of = tt

bound_earlier : (t : Table) → IsBound (IsOf t) (BindsEarlier t)
bound_earlier t = record { ready = λ caller of. of; serving = λ run what of. of; over = tt }

-- ---- within an EXECUTE a step goes from call to call

module _ (d : Donor) (r : Reception) (n : Network) where
  -- the clone talks with the donor as it is then
  abbrev Reaches : Donor → Type 0
  Reaches u = IsTalking (own_session r.table.session u.cloning) r n × ((s : Session) → own_session r.table.session d.cloning ≡ Some s → s.incarnation ≡ incarnation_of r.table → own_session r.table.session u.cloning ≡ own_session r.table.session d.cloning)

  abbrev Before : Donor → Execution → Work → Type 0
  Before u run what = IsOf r.table run.caller × Reaches u

  abbrev Then : Donor → Doing → ServeAnswer → Type 0
  Then u next spoke = BindsEarlier r.table next × Reaches u

  called : (u v : Donor) (run : Execution) (what : Work) (given : DonorAnswer) → IsOf r.table run.caller → Reaches u → CloneActs (call_in run what) given u v → Reaches v
  called u v run what given of reaches acts =
      let g = late_call u v r n reaches.0 (call_in run what) given acts.does (λ counts seen. work_late r.table seen.rounds.sides.acknowledged run what of) in
      (g.0, λ s there present. (let same = reaches.1 s there present in g.1 s (same ∙ there) present ∙ same))

  comes : (u : Donor) (next : After) → Reaches u → Next (IsOf r.table) (BindsEarlier r.table) (bound_earlier r.table) next → Comes Before Then u next
  comes u (Asks run what) reaches of = (of, reaches)
  comes u (Ends next sends spoke) reaches binds = (binds, reaches)

  hands : Hands Before Then
  hands = record {
    next = λ u v run what given next before acts is. comes v next (called u v run what given before.0 before.1 acts) (subst (NextOf (IsOf r.table) (BindsEarlier r.table) (bound_earlier r.table)) is (work_by (IsOf r.table) (BindsEarlier r.table) (bound_earlier r.table) run what given before.0));
    fails = λ u v run what given before acts. (tt, called u v run what given before.0 before.1 acts);
  }

-- ---- its loop is over

pub past_shut : (t : Table) (acknowledged : Bool) (at after : Connection) → after.held ≡ at.held → is_open after ≡ false → IsPast t acknowledged at → IsPast t acknowledged after
past_shut t acknowledged at after held closed p = record {
  held = held ∙ p.held;
  binds = subst (λ (b : Bool). BindsEarlier t (if b then after.doing else doing.Over)) (sym closed) tt;
  commands = p.commands;
  live = λ is. absurd (both_ways (is_open after) closed is);
  asked = p.asked;
}

module _ (d t : Donor) (r : Reception) (n : Network) (number : ℕ) (answer : DonorStep) (away : (k : ℕ) → connection_of n k ≢ Some number) where
  abbrev session : Option Session
  session = own_session r.table.session d.cloning

  abbrev now : Option Session
  now = own_session r.table.session t.cloning

  own_same : t ≡ d → now ≡ session
  own_same is = ap (λ (o : Donor). own_session r.table.session o.cloning) is

  module _ (talks : IsTalking session r n) (at after : Connection) (there : slice_get n.connections number ≡ Some at) (live : is_open at ≡ true) (e : StepsEnd gives d t at after answer) where
    -- WHAT COMES OF IT: the clone talks on, and the connection is one of an earlier incarnation still.
    abbrev Goes : Type 0
    Goes = GoesOn d t r n talks × ((acknowledged : Bool) → IsPast r.table acknowledged at → IsPast r.table acknowledged after)

    abbrev moved : after ≡ record at { to_donor = e.serves.left; to_task = unread_then (reaches_task at) at.to_task e.serves.sent; doing = e.serves.doing; found_lost = finds_loss at e.says }
    moved = after_is gives d t at after answer e

    past_of : (counts : ℕ → List ℕ) (seen : IsSeen r.table session n talks.lines counts) → IsPast r.table seen.rounds.sides.acknowledged at
    past_of counts seen = seen.past number at there away

    -- ---- where a command is awaited

    module _ (bound : Option Caller) (of : Bound at.doing bound) where
      carried : (command : Frame) (left : List ℕ) (asked : DonorCall) (begun : Doing) (given : DonorAnswer) → IsFrameOf ofTask command → at.to_donor ≡ spelling command ++ left → command_of bound command ≡ Some (record { call = asked; doing = begun }) → gives d asked given t → GoesOn d t r n talks
      carried command left asked begun given of_task taken asks gave = late_call d t r n talks asked given gave.does late
        where
          late : (counts : ℕ → List ℕ) (seen : IsSeen r.table session n talks.lines counts) → IsLateCall r.table seen.rounds.sides.acknowledged asked
          late counts seen = by (past_of counts seen)
            where
              by : IsPast r.table seen.rounds.sides.acknowledged at → IsLateCall r.table seen.rounds.sides.acknowledged asked
              by p =
                  let reads : Reads ofTask at.cut p.commands command left = holds_read ofTask at.cut p.commands at.to_donor left command (p.live live) of_task taken in
                  let was : AllByRecursion (WasAsked r.table seen.rounds.sides.acknowledged) (command ∷ reads.more) = subst (AllByRecursion (WasAsked r.table seen.rounds.sides.acknowledged)) reads.are p.asked in
                  command_late r.table seen.rounds.sides.acknowledged at.doing bound command asked begun of (binds_live r.table at live p.binds) was.0 asks

      free_goes : Awaited gives d t at after answer bound → Goes
      free_goes (rests same is) = (same_goes d t r n talks (own_same same), λ acknowledged p. subst (IsPast r.table acknowledged) (sym is) p)
      free_goes (loses same nothing lost is) = (same_goes d t r n talks (own_same same), λ acknowledged p. subst (IsPast r.table acknowledged) (sym is) (past_lost r.table acknowledged at p))
      free_goes (garbles bytes wrong same is says_it) = (same_goes d t r n talks (own_same same), λ acknowledged p. subst (IsPast r.table acknowledged) (sym is) (past_over r.table acknowledged at p))
      free_goes (unfit says_it over (inl same)) = (same_goes d t r n talks (own_same same), λ acknowledged p. past_shut r.table acknowledged at after (ap (λ (c : Connection). c.held) moved) (shut after.found_lost after.doing over) p)
      free_goes (unfit says_it over (inr tried)) = (carried tried.command tried.left tried.asked tried.begun tried.given tried.of tried.taken tried.asks tried.gave, λ acknowledged p. past_shut r.table acknowledged at after (ap (λ (c : Connection). c.held) moved) (shut after.found_lost after.doing over) p)
      free_goes (carries c) = (carried c.command c.left c.asked c.begun c.given c.of c.taken c.asks c.gave, λ acknowledged p. past_carried gives d t at after answer bound of live r.table acknowledged c p)

      pub awaiting_goes : Goes
      awaiting_goes = free_goes (awaited gives d t at after answer bound of live e)

    -- ---- within an EXECUTE

    module _ (run : Execution) (what : Work) (serving : at.doing ≡ doing.Serving run what) (of : IsOf r.table run.caller) where
      served : BindsEarlier r.table e.serves.doing × Reaches d r n t
      served = goes_so (Before d r n) (Then d r n) (hands d r n) e.serves.steps.exchanges t e.serves.doing e.says e.serves.sent d run what (sent_behind (reaches_task at) at.to_task) (of, (talks, λ s there present. refl)) (goes_in d t at after answer e run what serving) e.serves.steps.answers

      left_is : e.serves.left ≡ at.to_donor
      left_is = (subst (λ (y : Doing). Begins y at.to_donor e.serves.left e.serves.steps.is.begun e.serves.steps.is.turn) serving e.serves.steps.is.begins).1

      past_served : (acknowledged : Bool) → IsPast r.table acknowledged at → IsPast r.table acknowledged after
      past_served acknowledged p = subst (IsPast r.table acknowledged) (sym moved) (record {
        held = p.held;
        binds = binds_if r.table e.serves.doing (is_open (record at { doing = e.serves.doing; found_lost = finds_loss at e.says })) served.0;
        commands = p.commands;
        live = λ is. subst (Holds ofTask at.cut p.commands) (sym left_is) (p.live live);
        asked = p.asked;
      })

      pub serving_goes : Goes
      serving_goes = ((served.1.0, λ s there present. served.1.1 s there present), past_served)

    by_doing : (y : Doing) → at.doing ≡ y → BindsEarlier r.table y → is_over y ≡ false → Goes
    by_doing doing.New is binds on = awaiting_goes None (subst (λ (y : Doing). Bound y None) (sym is) refl)
    by_doing (doing.Ready caller) is binds on = awaiting_goes (Some caller) (subst (λ (y : Doing). Bound y (Some caller)) (sym is) refl)
    by_doing (doing.Serving run what) is binds on = serving_goes run what is binds
    by_doing doing.Over is binds on = absurd (cc (on))
    by_doing other is binds on = absurd binds

    pub goes : Goes
    goes = by_doing at.doing refl (binds_live r.table at live (past_of talks.known (seen_now session r n talks)).binds) (not_over at.found_lost (is_over at.doing) live)

  late_keeps : KeepsTalking d t r n number answer (λ at. ⊤)
  late_keeps at after there live any e talks =
      let g = goes talks at after there live e in
      late_same now r n g.0.0 number at after there away g.1

  late_ends_paired : (m : Network) → IsPaired session r n → StepsDonor gives d t number n m answer → IsPaired now r m
  late_ends_paired m paired steps = keeps_paired d t r n number answer (λ at. ⊤) late_keeps paired m (for_some (λ (at : Connection). ⊤) (λ at. tt) (slice_get n.connections number)) steps

  -- once the donor has the present incarnation the session stays
  late_ends_stay : (m : Network) → IsTalking session r n → StepsDonor gives d t number n m answer → (s : Session) → session ≡ Some s → s.incarnation ≡ incarnation_of r.table → now ≡ session
  late_ends_stay m talks steps s own present = by (slice_get n.connections number) refl steps
    where
      at_end : (at after : Connection) → slice_get n.connections number ≡ Some at → (b : Bool) → is_open at ≡ b → StepsBy b gives d t at after answer → now ≡ session
      at_end at after there true live e = (goes talks at after there live e).0.1 s own present
      at_end at after there false live e = own_same e.donor

      by : (o : Option Connection) → slice_get n.connections number ≡ o → MatchOption o ((t ≡ d) × (m ≡ n) × (answer ≡ step.Served says.Idle)) (λ (at : Connection). (after : Connection) × StepsBy (is_open at) gives d t at after answer × (m ≡ with_connection number after n)) → now ≡ session
      by None there e = own_same e.0
      by (Some at) there e = at_end at e.0 there (is_open at) refl e.1

pub late_pairs : (d t : Donor) (r : Reception) (n m : Network) (number : ℕ) (answer : DonorStep) → IsPaired (own_session r.table.session d.cloning) r n → StepsDonor gives d t number n m answer → ((k : ℕ) → connection_of n k ≢ Some number) → IsPaired (own_session r.table.session t.cloning) r m
late_pairs d t r n m number answer paired steps away = late_ends_paired d t r n number answer away m paired steps

pub late_session_stays : (d t : Donor) (r : Reception) (n m : Network) (number : ℕ) (answer : DonorStep) (s : Session) → is_done r.table.phase ≡ false → IsPaired (own_session r.table.session d.cloning) r n → StepsDonor gives d t number n m answer → ((k : ℕ) → connection_of n k ≢ Some number) → own_session r.table.session d.cloning ≡ Some s → s.incarnation ≡ incarnation_of r.table → own_session r.table.session t.cloning ≡ own_session r.table.session d.cloning
late_session_stays d t r n m number answer s going paired steps away own present = by paired.goes
  where
    by : IsCopying (own_session r.table.session d.cloning) r n ⊎ HasCopied r n → own_session r.table.session t.cloning ≡ own_session r.table.session d.cloning
    by (inl c) = late_ends_stay d t r n number answer away m c.talking steps s own present
    by (inr c) = absurd (both_ways (is_done r.table.phase) going c.done)
