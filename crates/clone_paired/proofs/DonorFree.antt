-- A step of a donor's end outside an EXECUTE, on a task's connection or on one of an earlier incarnation.
use Rattle.std.proofs.Common.{ℕ, ◌≡◌, ◌≢◌, ◌∙◌, ◌⊎◌, ◌<◌, List, Bool, true, false, if◌then◌else◌, Option, None, Some, Ok, Err, length, refl, sym, ap, subst, inl, inr}
use Rattle.std.specs.Prelude.{slice_get, MatchOption, IfSome, not, ◌&&◌}
use Rattle.std.proofs.lemmas.Bool.{both_ways}
use Rattle.clone_snapshot.specs.StageLists.{StageList}
use Rattle.clone_session.specs.Cloning.{Session}
use Rattle.clone_session.specs.declared.caller.Caller.{Caller}
use Rattle.clone_calls.specs.declared.answer.DonorAnswer.{DonorAnswer}
use Rattle.clone_calls.specs.declared.answer.DonorAnswer.TheVariants as reply
use Rattle.clone_calls.specs.declared.call.DonorCall.TheVariants as call
use Rattle.clone_serve.specs.Serving.{is_over}
use Rattle.clone_serve.specs.declared.doing.Doing.{Doing}
use Rattle.clone_serve.specs.declared.doing.Doing.TheVariants as doing
use Rattle.clone_serve.specs.declared.turn.ServeAnswer.TheVariants as says
use Rattle.clone_tasks.specs.Tables.{Table}
use Rattle.clone_recipient.specs.Receptions.{Reception}
use Rattle.clone_network.specs.Connections.{Connection, RestsEnd, StepsBy, StepsEnd, is_open, is_serving}
use Rattle.clone_network.specs.Networks.{Network, StepsDonor, with_connection}
use Rattle.clone_network.specs.declared.donor_step.DonorStep.{DonorStep}
use Rattle.clone_network.specs.declared.donor_step.DonorStep.TheVariants as step
use Rattle.clone_engine.specs.Answering.{Answered}
use Rattle.clone_engine.specs.Donor.{Donor}
use Rattle.clone_told.specs.Told.{gives}
use Rattle.clone_rounds.specs.World.{Core}
use Rattle.clone_view.specs.Donors.{core_of}
use Rattle.clone_view.specs.Views.{list_in}
use Rattle.clone_paired.specs.Calm.{IsCalm, IsFree}
use Rattle.clone_paired.specs.Earlier.{BindsEarlier, IsPast}
use Rattle.clone_paired.specs.Lines.{connection_of}
use Rattle.clone_paired.specs.Own.{own_session}
use Rattle.clone_paired.specs.Paired.{HasCopied, IsCopying, IsPaired, IsTalking}
use Rattle.clone_paired.proofs.DonorAwaiting.{Awaited, Bound, awaited, carries, garbles, loses, rests, unfit}
use Rattle.clone_paired.proofs.DonorCalm.{calm_awaited, execute_is}
use Rattle.clone_paired.proofs.DonorLosses.{doing_is}
use Rattle.clone_paired.proofs.DonorTurns.{first, same_network, there_at, x}
use Rattle.clone_paired.proofs.LateReads.{binds_live, past_awaited}
use Rattle.clone_paired.proofs.LateSteps.{Whose, its, late_same, nobody, whose}
use Rattle.clone_paired.proofs.Linked.{Linked}

-- ---- what an end awaits that is open and serves no EXECUTE

pub not_over : (lost over : Bool) → (not lost && not over) ≡ true → over ≡ false
not_over false false is = refl
not_over false true is = absurd (cc (is))
not_over true over is = absurd (cc (is))

pub seen_waits : (list : StageList) (d : Doing) (core : Core) → core_of list d ≡ Some core → is_serving d ≡ false → is_over d ≡ false → (bound : Option Caller) × Bound d bound
seen_waits list doing.New core is free on = (None, refl)
seen_waits list (doing.Ready caller) core is free on = (Some caller, refl)
seen_waits list (doing.Serving run what) core is free on = absurd (cc (free))
seen_waits list doing.Over core is free on = absurd (cc (on))
seen_waits list other core is free on = absurd (cc (is))

pub past_waits : (t : Table) (d : Doing) → BindsEarlier t d → is_serving d ≡ false → is_over d ≡ false → (bound : Option Caller) × Bound d bound
past_waits t doing.New is free on = (None, refl)
past_waits t (doing.Ready caller) is free on = (Some caller, refl)
past_waits t (doing.Serving run what) is free on = absurd (cc (free))
past_waits t doing.Over is free on = absurd (cc (on))
past_waits t other is free on = absurd is

abbrev pub IsFreeAt : Connection → Type 0
IsFreeAt at = is_serving at.doing ≡ false

-- a call of EXECUTE leaves the donor
execute_same : (d t : Donor) (caller : Caller) (stage : ℕ) (given : DonorAnswer) → Answered (call.Execute caller stage) given d t → t ≡ d
execute_same d t caller stage (reply.Execute (Ok done)) did = did.1
execute_same d t caller stage (reply.Execute (Err why)) did = did.1
execute_same d t caller stage given did = absurd did

module _ (d t : Donor) (r : Reception) (n : Network) (number : ℕ) (answer : DonorStep) where
  abbrev session : Option Session
  session = own_session r.table.session d.cloning

  abbrev now : Option Session
  now = own_session r.table.session t.cloning

  as_now : {m : Network} → now ≡ session → IsTalking session r m → IsTalking now r m
  as_now {m} same talks = subst (λ (o : Option Session). IsTalking o r m) (sym same) talks

  own_of : t ≡ d → now ≡ session
  own_of is = ap (λ (o : Donor). own_session r.table.session o.cloning) is

  -- a connection that no task has
  module _ (talks : IsTalking session r n) (away : (k : ℕ) → connection_of n k ≢ Some number) (at after : Connection) (there : slice_get n.connections number ≡ Some at) (live : is_open at ≡ true) (free : is_serving at.doing ≡ false) (e : StepsEnd gives d t at after answer) where
    past : (acknowledged : Bool) → IsPast r.table acknowledged at → (bound : Option Caller) × Bound at.doing bound
    past acknowledged p = past_waits r.table at.doing (binds_live r.table at live p.binds) free (not_over at.found_lost (is_over at.doing) live)

    bound : (bound : Option Caller) × Bound at.doing bound
    bound = (let seen = talks.rounds.seen talks.known (λ stage small. refl) in past seen.rounds.sides.acknowledged (seen.past number at there away))

    came : Awaited gives d t at after answer bound.0
    came = awaited gives d t at after answer bound.0 bound.1 live e

    pub late_stays : now ≡ session → answer ≢ step.Served says.NoMemory → IsTalking now r (with_connection number after n)
    late_stays same fit = as_now same (late_same session r n talks number at after there away (λ acknowledged p. past_awaited gives d t at after answer bound.0 bound.1 live r.table acknowledged fit came p))

    -- a calm one leaves the session
    calm_same : IsCalm answer → now ≡ session
    calm_same calm = by came
      where
        by : Awaited gives d t at after answer bound.0 → now ≡ session
        by (rests same is) = own_of same
        by (loses same none lost is) = own_of same
        by (garbles bytes wrong same is says_it) = own_of same
        by (unfit says_it over tried) = absurd (subst IsCalm says_it calm)
        by (carries c) =
            let e = execute_is bound.0 c.command c.asked c.begun c.next c.given c.sends c.says c.asks c.follows (subst IsCalm c.answers calm) in
            own_of (execute_same d t e.caller _ c.given (subst (λ q. Answered q c.given d t) e.asked_is c.gave.does))

  -- a task's
  module _ (tasks : length n.seats ≡ r.table.count) (talks : IsTalking session r n) (k : ℕ) (has : connection_of n k ≡ Some number) (calm : IsCalm answer) where
    abbrev here : Linked session r n talks.lines talks.known (first session r n tasks talks k number has).rounds k
    here = x session r n tasks talks k number has

    calm_own : (after : Connection) → is_open here.at ≡ true → is_serving here.at.doing ≡ false → StepsEnd gives d t here.at after answer → IsTalking now r (with_connection number after n)
    calm_own after live free e =
        let line = here.seat.core in
        let doing_at : here.l.doing ≡ here.at.doing = here.of.doing ∙ ap (λ (b : Bool). if b then here.at.doing else doing.Over) live in
        let b = seen_waits (list_in session) here.at.doing _ (ap (core_of (list_in session)) (sym doing_at) ∙ line) free (not_over here.at.found_lost (is_over here.at.doing) live) in
        calm_awaited d t r n tasks number answer calm talks k has live b.0 b.1 after (awaited gives d t here.at after answer b.0 b.1 live e)

    pub calm_task : (at after : Connection) → slice_get n.connections number ≡ Some at → is_open at ≡ true → is_serving at.doing ≡ false → StepsEnd gives d t at after answer → IsTalking now r (with_connection number after n)
    calm_task at after there live free e =
        let same : here.at ≡ at = cc (there_at session r n tasks talks k number has, there) in
        calm_own after (ap is_open same ∙ live) (ap (λ (c : Connection). is_serving c.doing) same ∙ free) (subst (λ (c : Connection). StepsEnd gives d t c after answer) (sym same) e)

  -- ---- on whichever connection

  -- what keeps a clone talking keeps it paired
  abbrev pub KeepsTalking : (Connection → Type 0) → Type 0
  KeepsTalking Is = (at after : Connection) → slice_get n.connections number ≡ Some at → is_open at ≡ true → Is at → StepsEnd gives d t at after answer → IsTalking session r n → IsTalking now r (with_connection number after n)

  module _ (Is : Connection → Type 0) (keeps : KeepsTalking Is) (p : IsPaired session r n) where
    goes : (at after : Connection) → slice_get n.connections number ≡ Some at → is_open at ≡ true → Is at → StepsEnd gives d t at after answer → IsCopying session r n ⊎ HasCopied r n → IsCopying now r (with_connection number after n) ⊎ HasCopied r (with_connection number after n)
    goes at after there live free e (inl c) = inl (record { going = c.going; talking = keeps at after there live free e c.talking })
    goes at after there live free e (inr c) = inr (record { done = c.done; rests = c.rests; made = c.made })

    kept_by : (at after : Connection) → slice_get n.connections number ≡ Some at → Is at → (b : Bool) → is_open at ≡ b → StepsBy b gives d t at after answer → IsPaired now r (with_connection number after n)
    kept_by at after there free true live e = record { tasks = p.tasks; goes = goes at after there live free e p.goes }
    kept_by at after there free false live e =
        subst (λ (o : Option Session). IsPaired o r (with_connection number after n)) (sym (own_of e.donor))
        (subst (λ (m : Network). IsPaired session r m) (sym (ap (λ (c : Connection). with_connection number c n) e.is ∙ same_network n number at there)) p)

    pub keeps_paired : (m : Network) → IfSome (slice_get n.connections number) Is → StepsDonor gives d t number n m answer → IsPaired now r m
    keeps_paired m free steps = by (slice_get n.connections number) refl free steps
      where
        by : (o : Option Connection) → slice_get n.connections number ≡ o → IfSome o Is → MatchOption o ((t ≡ d) × (m ≡ n) × (answer ≡ step.Served says.Idle)) (λ (at : Connection). (after : Connection) × StepsBy (is_open at) gives d t at after answer × (m ≡ with_connection number after n)) → IsPaired now r m
        by None there free s =
            subst (λ (o : Option Session). IsPaired o r m) (sym (own_of s.0)) (subst (λ (o : Network). IsPaired session r o) (sym s.1) p)
        by (Some at) there free s =
            subst (λ (o : Network). IsPaired now r o) (sym s.2) (kept_by at s.0 there free (is_open at) refl s.1)

  calm_talks : IsPaired session r n → IsCalm answer → KeepsTalking IsFreeAt
  calm_talks p calm at after there live free e talks = by (whose n number)
    where
      by : Whose n number → IsTalking now r (with_connection number after n)
      by (its k has) = calm_task p.tasks talks k has calm at after there live free e
      by (nobody away) = late_stays talks away at after there live free e (calm_same talks away at after there live free e calm) (λ is. subst IsCalm is calm)

pub donor_calm : (d t : Donor) (r : Reception) (n m : Network) (number : ℕ) (answer : DonorStep) → IsPaired (own_session r.table.session d.cloning) r n → StepsDonor gives d t number n m answer → IsFree n number → IsCalm answer → IsPaired (own_session r.table.session t.cloning) r m
donor_calm d t r n m number answer paired steps free calm = keeps_paired d t r n number answer IsFreeAt (calm_talks d t r n number answer paired calm) paired m free steps
