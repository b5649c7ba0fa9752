-- A STEP OF A TASK lets a clone talk on, and ends it fairly.
use Rattle.std.proofs.Common.{ℕ, ◌≡◌, ◌≢◌, ◌≤◌, ◌∙◌, ◌⊎◌, List, [], Bool, true, Option, None, sym, ap, subst, inl, inr}
use Rattle.std.specs.Prelude.{IfSome, not}
use Rattle.std.proofs.lemmas.Bool.{both_ways}
use Rattle.clone_base.specs.declared.limits.TheConstants.{MOST_LOSSES, MOST_TASKS}
use Rattle.clone_outside.specs.Disk.{DiskImage}
use Rattle.clone_outside.specs.DiskCalls.{DiskState}
use Rattle.clone_session.specs.Cloning.{Session}
use Rattle.clone_tasks.specs.Rules.{rule_at}
use Rattle.clone_tasks.specs.Tables.{IsBounded, is_done, is_running}
use Rattle.clone_tasks.specs.declared.end.CloneEnd.{CloneEnd}
use Rattle.clone_tasks.specs.declared.end.CloneEnd.TheVariants as end
use Rattle.clone_tasks.specs.declared.rule.Link.{Link}
use Rattle.clone_tasks.specs.declared.rule.Link.TheVariants as link
use Rattle.clone_tasks.specs.declared.rule.Rule.{Rule}
use Rattle.clone_tasks.specs.declared.rule.Rule.TheVariants as rule
use Rattle.clone_recipient.specs.Receptions.{AreCounted, Reception, begun}
use Rattle.clone_fetch.specs.Fetching as fetch
use Rattle.clone_fetch.specs.Fetching.{Completes, Requester, StepsBy, requester}
use Rattle.clone_fetch.specs.declared.answer.TaskAnswer.{TaskAnswer}
use Rattle.clone_fetch.specs.declared.answer.TaskAnswer.TheVariants.{Ended, NoMemory}
use Rattle.clone_network.specs.Connections.{cut_at, link_over, sent_behind}
use Rattle.clone_network.specs.Courses.{IsFloor, first, kept}
use Rattle.clone_network.specs.Networks as network
use Rattle.clone_network.specs.Networks.{Network, StepsTask, on_connected, unconnected}
use Rattle.clone_network.proofs.CourseLemmas.{course, keeps_terms}
use Rattle.clone_engine.specs.Copying.{moment_of}
use Rattle.clone_engine.specs.Donor.{Donor}
use Rattle.clone_told.specs.Told.{gives}
use Rattle.clone_paired.specs.Fair as fair
use Rattle.clone_paired.specs.Order.{CopiesInOrder}
use Rattle.clone_paired.specs.Own.{own_session}
use Rattle.clone_paired.specs.Paired.{HasCopied, IsCopying, IsPaired, IsReception}
use Rattle.clone_paired.specs.Quiet.{IsQuiet}
use Rattle.clone_paired.proofs.Begins.{begins_paired}
use Rattle.clone_paired.proofs.Cuts.{cut_paired}
use Rattle.clone_paired.proofs.DonorService.{service_goes_on}
use Rattle.clone_paired.proofs.FairEnds.{ends_fairly}
use Rattle.clone_paired.proofs.ReceptionKept.{reception_begins, reception_kept}
use Rattle.clone_paired.proofs.Stuck.{some_moves}
use Rattle.clone_paired.proofs.TaskLoses.{task_paired}
use Rattle.clone_paired.proofs.TaskSends.{IsLast, last_apart, last_over}
use Rattle.clone_talk.specs.Talking.{EndsFairly, IsAlone, IsServer, IsTurnedAway, Stand, StaysAlone, Talks, paired, turned_away}
use Rattle.clone_talk.proofs.Away.{away_cuts}
use Rattle.clone_talk.proofs.AwaySteps.{away_ends, away_quiet, away_task}
use Rattle.clone_talk.proofs.Over.{IsWithin}

-- ---- it has just begun

pub begins_talk : (alone : Bool) (number count limit version : ℕ) (d : Donor) → 1 ≤ count → count ≤ MOST_TASKS → 1 ≤ version → version ≤ 2 → limit ≤ MOST_LOSSES → CopiesInOrder d.cloning.session → own_session number d.cloning ≡ None → (alone ≡ true → d.cloning.session ≡ None) → Talks alone d (begun number count limit version) (unconnected count)
begins_talk alone number count limit version d some few oldest newest bounded order none free = record {
  reception = reception_begins number count limit version some few oldest newest bounded;
  order = order;
  stays = λ on going. subst (λ (o : Option Session). IfSome o (λ s. s.number ≡ number)) (sym (free on)) tt;
  floor = tt;
  stand = paired (subst (λ (o : Option Session). IsPaired o (begun number count limit version) (unconnected count)) (sym none) (begins_paired number count limit version some));
}

-- ---- a connection is cut

pub cuts_talk : (alone : Bool) (d : Donor) (r : Reception) (n : Network) (connection to_donor to_task : ℕ) → Talks alone d r n → Talks alone d r (on_connected connection (cut_at to_donor to_task) n)
cuts_talk alone d r n connection to_donor to_task talks = record { reception = talks.reception; order = talks.order; stays = talks.stays; floor = talks.floor; stand = by talks.stand }
  where
    by : Stand alone (own_session r.table.session d.cloning) r n → Stand alone (own_session r.table.session d.cloning) r (on_connected connection (cut_at to_donor to_task) n)
    by (paired p) = paired (cut_paired (own_session r.table.session d.cloning) r n connection to_donor to_task p)
    by (turned_away off w) = turned_away off (away_cuts (own_session r.table.session d.cloning) r n connection to_donor to_task w)

-- ---- once all was copied the stage stays

completes_phase : (old new : Reception) (told now : Option DiskImage) (sent put : List ℕ) (answer : TaskAnswer) → Completes old new told now sent put answer → new.table.phase ≡ old.table.phase
completes_phase old new told now sent put answer (fetch.completes last is steps sets bytes heard) = ap (λ (z : Reception). z.table.phase) sets
completes_phase old new told now sent put answer (fetch.not_completed last is steps sets bytes heard) = ap (λ (z : Reception). z.table.phase) sets
completes_phase old new told now sent put answer (fetch.not_marked last is steps sets bytes heard) = ap (λ (z : Reception). z.table.phase) sets
completes_phase old new told now sent put answer (fetch.not_left last is steps sets bytes heard) = ap (λ (z : Reception). z.table.phase) sets

last_phase : (which : Rule) (at : Link) (task floor : ℕ) (old new : Requester) (answer : TaskAnswer) → IsLast which → StepsBy which at task floor old new answer → new.reception.table.phase ≡ old.reception.table.phase
last_phase rule.Nothing at task floor old new answer last s = ap (λ (z : Requester). z.reception.table.phase) s.0
last_phase rule.Stale at task floor old new answer last s = ap (λ (z : Requester). z.reception.table.phase) s.0
last_phase rule.Complete at task floor old new answer last s = completes_phase old.reception new.reception old.disk.told new.disk.told old.sent new.sent answer s.0
last_phase other at task floor old new answer last s = absurd last

copied_phase : (r s : Reception) (disk after : DiskState) (n m : Network) (task floor : ℕ) (answer : TaskAnswer) → IsReception r → is_running r.table ≡ true → HasCopied r n → StepsTask task floor r s disk after n m answer → s.table.phase ≡ r.table.phase
copied_phase r s disk after n m task floor answer own running c (network.over seat number at later made has is there f net) = last_phase (rule_at seat.made r.table task (link_over at)) (link_over at) task floor (requester r disk at.to_task (sent_behind (not at.cut) at.to_donor)) (requester s after f.received f.sent) answer (last_over r n own.table.some running c task seat has number (link_over at) is) f.steps
copied_phase r s disk after n m task floor answer own running c (network.apart seat later connections has is f net) = last_phase (rule_at seat.made r.table task link.Absent) link.Absent task floor (requester r disk [] []) (requester s after f.received f.sent) answer (last_apart r n own.table.some running c task seat has) f.steps
copied_phase r s disk after n m task floor answer own running c (network.absent none rests heard) = ap (λ (z : Reception). z.table.phase) rests.reception
copied_phase r s disk after n m task floor answer own running c (network.no_room rests heard) = ap (λ (z : Reception). z.table.phase) rests.reception

-- ---- a step

module _ (alone : Bool) (d : Donor) (r s : Reception) (disk after : DiskState) (n m : Network) (task floor : ℕ) (answer : TaskAnswer) (talks : Talks alone d r n) (running : is_running r.table ≡ true) (step : StepsTask task floor r s disk after n m answer) where
  abbrev session : Option Session
  session = own_session r.table.session d.cloning

  session_is : s.table.session ≡ r.table.session
  session_is = (keeps_terms r s (course r s disk after n m task floor answer step).terms).session

  floor_then : floor ≤ (moment_of d.engine).position → IsWithin s.table.floor d
  floor_then low = by (course r s disk after n m task floor answer step).floor
    where
      by : IsFloor floor answer r.table.floor s.table.floor → IsWithin s.table.floor d
      by (kept same) = subst (λ (o : Option ℕ). IsWithin o d) (sym same) talks.floor
      by (first none some on) = subst (λ (o : Option ℕ). IsWithin o d) (sym some) low

  alone_then : alone ≡ true → StaysAlone s d
  alone_then on going = at talks.stand
    where
      copying : IsCopying session r n ⊎ HasCopied r n → IsAlone s.table.session d
      copying (inl c) = subst (λ (number : ℕ). IsAlone number d) (sym session_is) (talks.stays on c.going)
      copying (inr c) = absurd (both_ways (is_done s.table.phase) going (ap is_done (copied_phase r s disk after n m task floor answer talks.reception running c step) ∙ c.done))

      at : Stand alone session r n → IsAlone s.table.session d
      at (paired p) = copying p.goes
      at (turned_away off w) = absurd (both_ways alone off on)

  -- it goes on
  module _ (own : IsReception s) (memory : answer ≢ NoMemory) (on : is_running s.table ≡ true) where
    stand_by : Stand alone session r n → Stand alone session s m
    stand_by (paired p) = paired (task_paired session r s disk after n m task floor answer talks.reception own p running step memory on)
    stand_by (turned_away off w) = by (away_task session r s disk after n m task floor answer talks.reception own w running step memory on)
      where
        by : IsPaired session s m ⊎ IsTurnedAway session s m → Stand alone session s m
        by (inl p) = paired p
        by (inr x) = turned_away off x

    task_goes : floor ≤ (moment_of d.engine).position → Talks alone d s m
    task_goes low = record {
      reception = own;
      order = talks.order;
      stays = alone_then;
      floor = floor_then low;
      stand = subst (λ (number : ℕ). Stand alone (own_session number d.cloning) s m) (sym session_is) (stand_by talks.stand);
    }

pub task_talks : (alone : Bool) (d : Donor) (r s : Reception) (disk after : DiskState) (n m : Network) (task floor : ℕ) (answer : TaskAnswer) → Talks alone d r n → is_running r.table ≡ true → IsBounded s.table → AreCounted s.table.phase s → floor ≤ (moment_of d.engine).position → StepsTask task floor r s disk after n m answer → answer ≢ NoMemory → is_running s.table ≡ true → Talks alone d s m
task_talks alone d r s disk after n m task floor answer talks running bounded counted low step memory on = task_goes alone d r s disk after n m task floor answer talks running step (reception_kept r s disk after n m task floor answer talks.reception step bounded counted) memory on low

-- ---- the clone's end

fair_ends : (alone : Bool) (how : CloneEnd) → fair.EndsFairly how → EndsFairly alone how
fair_ends alone (end.Garbled bytes) is = absurd is
fair_ends alone (end.Refused cause) is = absurd is
fair_ends alone other is = tt

pub ends_talk : (alone : Bool) (d : Donor) (r s : Reception) (disk after : DiskState) (n m : Network) (task floor : ℕ) (how : CloneEnd) → Talks alone d r n → is_running r.table ≡ true → StepsTask task floor r s disk after n m (Ended how) → EndsFairly alone how
ends_talk alone d r s disk after n m task floor how talks running step = by talks.stand
  where
    by : Stand alone (own_session r.table.session d.cloning) r n → EndsFairly alone how
    by (paired p) = fair_ends alone how (ends_fairly (own_session r.table.session d.cloning) r s disk after n m task floor running how talks.reception p step)
    by (turned_away off w) = subst (λ (b : Bool). EndsFairly b how) (sym off) (away_ends (own_session r.table.session d.cloning) r s disk after n m task floor how talks.reception w running step)

-- ---- never stuck

pub moves_talk : (alone : Bool) (d : Donor) (r : Reception) (disk : DiskState) (n : Network) → IsServer d → Talks alone d r n → is_running r.table ≡ true → IsQuiet gives d r disk n → ⊥
moves_talk alone d r disk n is talks running quiet = by talks.stand
  where
    by : Stand alone (own_session r.table.session d.cloning) r n → ⊥
    by (paired p) = some_moves gives d (own_session r.table.session d.cloning) r disk n talks.reception p running quiet (service_goes_on d n is.donor is.cloning is.snap)
    by (turned_away off w) = away_quiet (own_session r.table.session d.cloning) d r disk n is talks.reception w running quiet
