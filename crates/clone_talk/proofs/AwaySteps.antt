-- A clone that is turned away, over each step of a task: it ends fairly, or it is turned away
-- still, or the loss was found; and it never rests.
use Rattle.std.proofs.Common.{ℕ, ◌≡◌, ◌≢◌, ◌∙◌, ◌⊎◌, ◌<◌, Bool, true, false, Option, refl, sym, ap, subst, inl, inr}
use Rattle.std.specs.Prelude.{MatchOption, is_some, not}
use Rattle.std.proofs.lemmas.Bool.{cases_eq}
use Rattle.clone_outside.specs.DiskCalls.{DiskState}
use Rattle.clone_session.specs.Cloning.{Session}
use Rattle.clone_tasks.specs.Tables.{is_running}
use Rattle.clone_tasks.specs.declared.end.CloneEnd.{CloneEnd}
use Rattle.clone_tasks.specs.declared.end.CloneEnd.TheVariants as end
use Rattle.clone_recipient.specs.Receptions.{Reception}
use Rattle.clone_fetch.specs.declared.answer.TaskAnswer.{TaskAnswer}
use Rattle.clone_fetch.specs.declared.answer.TaskAnswer.TheVariants as told
use Rattle.clone_network.specs.Connections.{Connection, StepsBy, is_open}
use Rattle.clone_network.specs.Networks.{Network, StepsDonor, StepsTask, with_connection}
use Rattle.clone_network.specs.declared.donor_step.DonorStep.TheVariants.{Served}
use Rattle.clone_serve.specs.declared.turn.ServeAnswer.TheVariants.{Idle}
use Rattle.clone_network.proofs.CourseLemmas.{course}
use Rattle.clone_engine.specs.Donor.{Donor}
use Rattle.clone_told.specs.Told.{gives}
use Rattle.clone_paired.specs.Fair as paired
use Rattle.clone_paired.specs.Paired.{HasCopied, IsCopying, IsPaired, IsReception}
use Rattle.clone_paired.specs.Quiet.{EndRests, GoesOn, IsQuiet, TaskRests}
use Rattle.clone_paired.proofs.DonorService.{service_goes_on}
use Rattle.clone_paired.proofs.FairEnds.{ends_fairly}
use Rattle.clone_paired.proofs.Stuck.{some_moves}
use Rattle.clone_paired.proofs.TaskLoses.{task_paired}
use Rattle.clone_talk.specs.Talking.{EndsFairly, IsServer, IsTurnedAway}
use Rattle.clone_talk.proofs.Away.{emptied, there_same, with_last}
use Rattle.clone_talk.proofs.AwayDonor.{donor_less}
use Rattle.clone_talk.proofs.AwayTasks.{Goes, IsLoss, Stays, Turned, stays_away, task_goes}

-- once all was copied nobody looks at what lies unread
copied_still : (session : Option Session) (r : Reception) (n : Network) (w : IsTurnedAway session r n) → HasCopied r (with_connection w.number (emptied w.at) n) → IsPaired session r n
copied_still session r n w c = record { tasks = w.but.tasks; goes = inr (record { done = c.done; rests = c.rests; made = c.made }) }

goes_on : (answer : TaskAnswer) → answer ≢ told.NoMemory → ((how : CloneEnd) → answer ≢ told.Ended how) → Turned answer → ⊥
goes_on (told.Ended how) memory on turned = on how refl
goes_on told.NoMemory memory on turned = memory refl
goes_on other memory on turned = turned

-- A STEP OF A TASK by which the clone goes on
pub away_task : (session : Option Session) (r s : Reception) (d e : DiskState) (n m : Network) (task floor : ℕ) (answer : TaskAnswer) → IsReception r → IsReception s → IsTurnedAway session r n → is_running r.table ≡ true → StepsTask task floor r s d e n m answer → answer ≢ told.NoMemory → is_running s.table ≡ true → IsPaired session s m ⊎ IsTurnedAway session s m
away_task session r s d e n m task floor answer own own_s w running step memory on = by w.but.goes
  where
    not_ended : (how : CloneEnd) → answer ≢ told.Ended how
    not_ended how is = cc (on, ap (λ (o : Option CloneEnd). not (is_some o)) (course r s d e n m task floor (told.Ended how) (subst (StepsTask task floor r s d e n m) is step)).ended)

    so : Goes session r n w s d e m task floor answer ⊎ Turned answer → IsPaired session s m ⊎ IsTurnedAway session s m
    so (inr turned) = absurd (goes_on answer memory not_ended turned)
    so (inl g) = left g.left
      where
        now : IsPaired session s g.to
        now = task_paired session r s d e (with_connection w.number (emptied w.at) n) g.to task floor answer own own_s w.but running g.steps memory on

        left : (IsLoss answer × (g.to ≡ m)) ⊎ Stays session r n w m g.to → IsPaired session s m ⊎ IsTurnedAway session s m
        left (inl lost) = inl (subst (IsPaired session s) lost.1 now)
        left (inr stays) = inr (stays_away session r n w session s m g.to stays now)

    by : IsCopying session r (with_connection w.number (emptied w.at) n) ⊎ HasCopied r (with_connection w.number (emptied w.at) n) → IsPaired session s m ⊎ IsTurnedAway session s m
    by (inl c) = so (task_goes session r n w s d e m task floor answer c.talking.apart step)
    by (inr c) = inl (task_paired session r s d e n m task floor answer own own_s (copied_still session r n w c) running step memory on)

fairly : (how : CloneEnd) → paired.EndsFairly how → EndsFairly false how
fairly (end.Garbled kept) fair = fair
fairly (end.Refused cause) fair = absurd fair
fairly other fair = tt

-- A STEP OF A TASK that ends the clone
pub away_ends : (session : Option Session) (r s : Reception) (d e : DiskState) (n m : Network) (task floor : ℕ) (how : CloneEnd) → IsReception r → IsTurnedAway session r n → is_running r.table ≡ true → StepsTask task floor r s d e n m (told.Ended how) → EndsFairly false how
away_ends session r s d e n m task floor how own w running step = by w.but.goes
  where
    so : Goes session r n w s d e m task floor (told.Ended how) ⊎ Turned (told.Ended how) → EndsFairly false how
    so (inl g) = fairly how (ends_fairly session r s d e (with_connection w.number (emptied w.at) n) g.to task floor running how own w.but g.steps)
    so (inr turned) = turned

    by : IsCopying session r (with_connection w.number (emptied w.at) n) ⊎ HasCopied r (with_connection w.number (emptied w.at) n) → EndsFairly false how
    by (inl c) = so (task_goes session r n w s d e m task floor (told.Ended how) c.talking.apart step)
    by (inr c) = fairly how (ends_fairly session r s d e n m task floor running how own (copied_still session r n w c) step)

-- IT NEVER RESTS
module _ (session : Option Session) (d : Donor) (r : Reception) (disk : DiskState) (n : Network) (server : IsServer d) (own : IsReception r) (w : IsTurnedAway session r n) (running : is_running r.table ≡ true) (quiet : IsQuiet gives d r disk n) where
  abbrev less : Network
  less = with_connection w.number (emptied w.at) n

  goes : (x : Network) → GoesOn gives d x
  goes x = service_goes_on d x server.donor server.cloning server.snap

  same_less : (to : Network) → Stays session r n w n to → to ≡ less
  same_less to stays =
      let at_is : stays.at ≡ w.at = cc (sym stays.there ∙ w.there) in
      stays.is ∙ ap (λ (c : Connection). with_connection w.number (emptied c) n) at_is

  rests_less : (task floor : ℕ) (answer : TaskAnswer) → (IsLoss answer → ⊥) → (Turned answer → ⊥) → Goes session r n w r disk disk n task floor answer ⊎ Turned answer → StepsTask task floor r r disk disk less less answer
  rests_less task floor answer no_loss no_turn (inr turned) = absurd (no_turn turned)
  rests_less task floor answer no_loss no_turn (inl g) = left g.left
    where
      left : (IsLoss answer × (g.to ≡ n)) ⊎ Stays session r n w n g.to → StepsTask task floor r r disk disk less less answer
      left (inl lost) = absurd (no_loss lost.0)
      left (inr stays) = subst (λ (x : Network). StepsTask task floor r r disk disk less x answer) (same_less g.to stays) g.steps

  tasks : IsCopying session r less → (task : ℕ) → task < r.table.count → TaskRests task r disk less
  tasks c task small = at (quiet.tasks task small)
    where
      at : TaskRests task r disk n → TaskRests task r disk less
      at (floor, inl s) = (floor, inl (rests_less task floor told.Idle (λ q. q) (λ q. q) (task_goes session r n w r disk disk n task floor told.Idle c.talking.apart s)))
      at (floor, inr s) = (floor, inr (rests_less task floor told.Stale (λ q. q) (λ q. q) (task_goes session r n w r disk disk n task floor told.Stale c.talking.apart s)))

  ends : (number : ℕ) → EndRests gives d number less
  ends number = at (cases_eq number w.number)
    where
      over : StepsDonor gives d d w.number less less (Served Idle)
      over = subst (λ (o : Option Connection). MatchOption o ((d ≡ d) × (less ≡ less) × (Served Idle ≡ Served Idle)) (λ (x : Connection). (after : Connection) × StepsBy (is_open x) gives d d x after (Served Idle) × (less ≡ with_connection w.number after less))) (sym (there_same n w.number (emptied w.at) w.at w.there)) (emptied w.at, subst (λ (b : Bool). StepsBy b gives d d (emptied w.at) (emptied w.at) (Served Idle)) (sym w.over) (record { donor = refl; is = refl; answers = refl }), sym (with_last n w.number (emptied w.at) (emptied w.at)))

      at : (number ≡ w.number) ⊎ (number ≢ w.number) → EndRests gives d number less
      at (inl same) = subst (λ (i : ℕ). EndRests gives d i less) (sym same) over
      at (inr apart) = donor_less session r n w d d n number (Served Idle) apart (quiet.ends number)

  by : IsCopying session r less ⊎ HasCopied r less → ⊥
  by (inl c) = some_moves gives d session r disk less own w.but running (record { tasks = tasks c; ends = ends }) (goes less)
  by (inr c) = some_moves gives d session r disk n own (copied_still session r n w c) running quiet (goes n)

  pub away_quiet : ⊥
  away_quiet = by w.but.goes
