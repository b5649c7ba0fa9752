-- A step of a donor's end that closes its connection keeps a clone paired where the session is as it was, and so after an ATTACH.
use Rattle.std.proofs.Common.{ℕ, ◌≡◌, ◌∙◌, ◌++◌, List, [], Bool, true, false, if◌then◌else◌, Option, Some, append-nil, length, sym, ap, subst, inl, inr}
use Rattle.std.specs.Bool.{⊤}
use Rattle.std.specs.Prelude.{IfSome, slice_get}
use Rattle.clone_session.specs.Cloning.{Session}
use Rattle.clone_session.specs.declared.caller.Caller.{Caller}
use Rattle.clone_session.specs.declared.info.StageInfo.{StageInfo}
use Rattle.clone_session.specs.Effects.{Tells}
use Rattle.clone_wire.specs.Spelling.{spelling}
use Rattle.clone_wire.specs.declared.frame.Frame.{Frame}
use Rattle.clone_wire.specs.declared.frame.Side.TheVariants.{Answer as ofDonor}
use Rattle.clone_calls.specs.declared.answer.DonorAnswer.{DonorAnswer}
use Rattle.clone_calls.specs.declared.call.DonorCall.{DonorCall}
use Rattle.clone_serve.specs.Commands as commands
use Rattle.clone_serve.specs.Commands.{command_of}
use Rattle.clone_serve.specs.Serving.{is_over}
use Rattle.clone_serve.specs.declared.doing.Doing.{Doing}
use Rattle.clone_serve.specs.declared.doing.Doing.TheVariants as doing
use Rattle.clone_serve.specs.declared.turn.ServeAnswer.TheVariants as says
use Rattle.clone_recipient.specs.Expecting.{fits}
use Rattle.clone_recipient.specs.Receptions.{Reception}
use Rattle.clone_network.specs.Connections.{Connection, is_open, is_serving}
use Rattle.clone_network.specs.Networks.{Network, StepsDonor, with_connection}
use Rattle.clone_network.specs.declared.donor_step.DonorStep.{DonorStep}
use Rattle.clone_network.specs.declared.donor_step.DonorStep.TheVariants as step
use Rattle.clone_engine.specs.Answering.{Answered}
use Rattle.clone_engine.specs.Donor.{Donor}
use Rattle.clone_told.specs.Told.{gives}
use Rattle.clone_joined.specs.Strangers.{attaches}
use Rattle.clone_view.specs.Donors.{core_of}
use Rattle.clone_view.specs.Views.{list_in}
use Rattle.clone_paired.specs.Calm.{IsFree}
use Rattle.clone_paired.specs.Closing.{Closes}
use Rattle.clone_paired.specs.Lines.{connection_of, doing_at}
use Rattle.clone_paired.specs.Own.{own_session}
use Rattle.clone_paired.specs.Paired.{IsPaired, IsTalking}
use Rattle.clone_paired.specs.Unread.{Holds}
use Rattle.clone_paired.proofs.DonorAttaches.{attach_by, attach_same, code_is, donor_attaches}
use Rattle.clone_paired.proofs.DonorAwaiting.{Awaited, Bound, awaited, carries, garbles, loses, rests, unfit}
use Rattle.clone_paired.proofs.DonorFree.{IsFreeAt, KeepsTalking, keeps_paired, not_over, past_waits, seen_waits}
use Rattle.clone_paired.proofs.DonorLosses.{for_some}
use Rattle.clone_paired.proofs.DonorMemory.{Shuts, shuts}
use Rattle.clone_paired.proofs.DonorMemoryTalks.{closed_talks}
use Rattle.clone_paired.proofs.DonorTurns.{there_at, x}
use Rattle.clone_paired.proofs.LateEnds.{past_shut}
use Rattle.clone_paired.proofs.LateMoves.{seen_now}
use Rattle.clone_paired.proofs.LateReads.{binds_live}
use Rattle.clone_paired.proofs.LateSteps.{Whose, its, late_same, nobody, whose}

module _ (d t : Donor) (r : Reception) (n : Network) (number : ℕ) (answer : DonorStep) (closes : Closes answer) (tasks : length n.seats ≡ r.table.count) where
  abbrev session : Option Session
  session = own_session r.table.session d.cloning

  abbrev now : Option Session
  now = own_session r.table.session t.cloning

  module _ (same : now ≡ session) where
    as_now : (m : Network) → IsTalking session r m → IsTalking now r m
    as_now m talks = subst (λ (o : Option Session). IsTalking o r m) (sym same) talks

    task_closes : (talks : IsTalking session r n) (k : ℕ) (has : connection_of n k ≡ Some number) (at after : Connection) → slice_get n.connections number ≡ Some at → is_open at ≡ true → Shuts at after → IsTalking session r (with_connection number after n)
    task_closes talks k has at after there live s =
        let here = x session r n tasks talks k number has in
        let one : here.at ≡ at = cc (there_at session r n tasks talks k number has, there) in
        closed_talks session r n tasks talks k number has (ap is_open one ∙ live) after (s.held ∙ sym (ap (λ (c : Connection). c.held) one)) s.over here.l.answers [] (sym (append-nil here.l.answers))
        (subst (λ (c : Bool). Holds ofDonor c here.l.answers after.to_task) (ap (λ (c : Connection). c.cut) one ∙ sym s.cut) (subst (Holds ofDonor here.at.cut here.l.answers) (ap (λ (c : Connection). c.to_task) one ∙ sym s.to_task) here.of.answers))

    pub closes_keep : KeepsTalking d t r n number answer (λ at. ⊤)
    closes_keep at after there live any e talks = by (whose n number)
      where
        s : Shuts at after
        s = shuts gives d t at after answer e closes

        by : Whose n number → IsTalking now r (with_connection number after n)
        by (its k has) = as_now (with_connection number after n) (task_closes talks k has at after there live s)
        by (nobody away) = as_now (with_connection number after n) (late_same session r n talks number at after there away (λ acknowledged p. past_shut r.table acknowledged at after s.held s.over p))

    pub closes_pair : (m : Network) → IsPaired session r n → StepsDonor gives d t number n m answer → IsPaired now r m
    closes_pair m paired steps = keeps_paired d t r n number answer (λ at. ⊤) closes_keep paired m (for_some (λ (at : Connection). ⊤) (λ at. tt) (slice_get n.connections number)) steps

-- ---- after an ATTACH

-- what its end awaits, where it goes on and serves no EXECUTE
pub waits : (session : Option Session) (r : Reception) (n : Network) (tasks : length n.seats ≡ r.table.count) (talks : IsTalking session r n) (number : ℕ) (at : Connection) → slice_get n.connections number ≡ Some at → is_open at ≡ true → is_serving at.doing ≡ false → (bound : Option Caller) × Bound at.doing bound
waits session r n tasks talks number at there live free = by (whose n number)
  where
    by : Whose n number → (bound : Option Caller) × Bound at.doing bound
    by (its k has) =
        let here = x session r n tasks talks k number has in
        let one : here.at ≡ at = cc (there_at session r n tasks talks k number has, there) in
        let doing_is : here.l.doing ≡ at.doing = here.of.doing ∙ ap (λ (c : Connection). doing_at c) one ∙ ap (λ (b : Bool). if b then at.doing else doing.Over) live in
        seen_waits (list_in session) at.doing _ (ap (core_of (list_in session)) (sym doing_is) ∙ here.seat.core) free (not_over at.found_lost (is_over at.doing) live)
    by (nobody away) =
        let seen = seen_now session r n talks in
        past_waits r.table at.doing (binds_live r.table at live (seen.past number at there away).binds) free (not_over at.found_lost (is_over at.doing) live)

module _ (d t : Donor) (at after : Connection) (answer : DonorStep) (attach : attaches at ≡ true) where
  attached : (command : Frame) (left : List ℕ) (bound : Option Caller) (asked : DonorCall) (begun : Doing) (given : DonorAnswer) → at.to_donor ≡ spelling command ++ left → command_of bound command ≡ Some (record { call = asked; doing = begun }) → gives d asked given t → t ≡ d
  attached command left bound asked begun given taken asks gave =
      let a = attach_by bound command asked begun (code_is at command left taken attach) asks in
      attach_same d t (commands.caller_of a.attempt a.task) given (subst (λ (q : DonorCall). Answered q given d t) a.asked_is gave.does)

  -- an ATTACH leaves the donor
  attach_leaves : (bound : Option Caller) → Awaited gives d t at after answer bound → t ≡ d
  attach_leaves bound (rests same is) = same
  attach_leaves bound (loses same nothing lost is) = same
  attach_leaves bound (garbles bytes wrong same is says_it) = same
  attach_leaves bound (unfit says_it over (inl same)) = same
  attach_leaves bound (unfit says_it over (inr tried)) = attached tried.command tried.left bound tried.asked tried.begun tried.given tried.taken tried.asks tried.gave
  attach_leaves bound (carries c) = attached c.command c.left bound c.asked c.begun c.given c.taken c.asks c.gave

attach_closes : (d t : Donor) (r : Reception) (n m : Network) (number : ℕ) (answer : DonorStep) → IsPaired (own_session r.table.session d.cloning) r n → StepsDonor gives d t number n m answer → Closes answer → IsFree n number → IfSome (slice_get n.connections number) (λ at. attaches at ≡ true) → IsPaired (own_session r.table.session t.cloning) r m
attach_closes d t r n m number answer paired steps closes free attach = keeps_paired d t r n number answer IsFreeAt keeps paired m free steps
  where
    keeps : KeepsTalking d t r n number answer IsFreeAt
    keeps at after there live none e talks =
        let b = waits (own_session r.table.session d.cloning) r n paired.tasks talks number at there live none in
        let here : attaches at ≡ true = subst (λ (o : Option Connection). IfSome o (λ c. attaches c ≡ true)) there attach in
        let same : t ≡ d = attach_leaves d t at after answer here b.0 (awaited gives d t at after answer b.0 b.1 live e) in
        closes_keep d t r n number answer closes paired.tasks (ap (λ (o : Donor). own_session r.table.session o.cloning) same) at after there live tt e talks

-- SO EACH STEP after an ATTACH keeps a clone paired, where what the donor tells fits.
pub attach_pairs : (d t : Donor) (r : Reception) (n m : Network) (number : ℕ) (answer : DonorStep) → IsPaired (own_session r.table.session d.cloning) r n → StepsDonor gives d t number n m answer → IsFree n number → IfSome (slice_get n.connections number) (λ at. attaches at ≡ true) → ((info : StageInfo) → Tells d.cloning info → fits info.plan ≡ true) → IsPaired (own_session r.table.session t.cloning) r m
attach_pairs d t r n m number (step.Served says.NoMemory) paired steps free attach fit = attach_closes d t r n m number (step.Served says.NoMemory) paired steps tt free attach
attach_pairs d t r n m number other paired steps free attach fit = donor_attaches d t r n m number other paired steps free attach fit (λ is. cc (is))

-- where the session stays
pub donor_closes : (d t : Donor) (r : Reception) (n m : Network) (number : ℕ) (answer : DonorStep) → IsPaired (own_session r.table.session d.cloning) r n → StepsDonor gives d t number n m answer → Closes answer → own_session r.table.session t.cloning ≡ own_session r.table.session d.cloning → IsPaired (own_session r.table.session t.cloning) r m
donor_closes d t r n m number answer paired steps closes same = closes_pair d t r n number answer closes paired.tasks same m paired steps
