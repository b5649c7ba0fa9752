-- What stands behind a failure: a count of faults rose over the run, or the clone ended so.
use Rattle.std.proofs.Common.{ℕ, ◌≡◌, ◌<◌, ◌≤◌, ◌∙◌, List, None, Some, Ok, refl, sym, ap, subst, inl, inr}
use Rattle.std.proofs.lemmas.Option.{none-some, same_Some}
use Rattle.clone_outside.specs.Causes.{Rose}
use Rattle.clone_outside.specs.DiskCalls.{DiskState}
use Rattle.clone_outside.specs.declared.link.Link.{Ghosts as Link}
use Rattle.clone_outside.specs.declared.link.Net.{Ghosts as Net}
use Rattle.clone_turn.specs.Parts.{IsMadeOf}
use Rattle.clone_turn.specs.Runs.{IsLegalRun, end_of}
use Rattle.clone_turn.proofs.EachLemmas.{each_part}
use Rattle.clone_tasks.specs.declared.end.CloneEnd.{CloneEnd}
use Rattle.clone_tasks.specs.declared.end.CloneEnd.TheVariants as end
use Rattle.clone_machine.specs.Running.{JobEntry}
use Rattle.clone_machine.specs.Sharing.{SharedDonor, Steps}
use Rattle.clone_fetching.specs.Recipients.{IsToldOf, RecipientModel, RecipientSteps, end_told}
use Rattle.clone_fetching.specs.declared.clone_ended.CloneEnded.{CloneEnded}
use Rattle.clone_fetching.specs.declared.clone_ended.CloneEnded.TheVariants as told
use Rattle.clone_fetching.specs.declared.machine.RecipientAnswer.TheVariants as answer
use Rattle.clone_fetching.specs.declared.machine.RecipientCall.TheVariants as call
use Rattle.clone_desk.specs.Desks.{DeskModel}
use Rattle.clone_desk.specs.Steps.{DeskEntry, DeskSteps}
use Rattle.clone_copying.specs.Calls.{RecipientEntry}
use Rattle.clone_run.specs.declared.failure.Failure.TheVariants as failure
use Rattle.clone_run.specs.declared.failure.Failure.{Failure}
use Rattle.clone_run.specs.declared.load.Load.{Load}
use Rattle.clone_run.specs.declared.outcome.Cloned.{Cloned}
use Rattle.clone_run.specs.declared.outcome.Outcome.{Outcome}
use Rattle.clone_run.specs.Outcomes.{of_clone}
use Rattle.clone_run.specs.Done.{AreDone, Job}
use Rattle.clone_run.specs.Teams.{Parts}
use Rattle.clone_causes.specs.Causes.{IsOfClone}
use Rattle.clone_causes.proofs.CountLemmas.{each_rises, never_falls}
use Rattle.clone_causes.proofs.DonorLemmas.{DiskFails, disk_counts}
use Rattle.clone_causes.proofs.NetLemmas.{NetFails, net_counts}
use Rattle.clone_causes.proofs.TableLemmas.{each_told, passed}
use Rattle.clone_causes.proofs.DoneLemmas.{clone_from, cloned_from, donor_from, net_from}

-- ---- THE DONOR'S DISK

abbrev donor_faults : SharedDonor → ℕ
donor_faults s = s.donor.engine.disk.failures

abbrev DonorRose : SharedDonor → List JobEntry → Type 0
DonorRose first run = Rose first.donor.engine.disk.failures (end_of first run).donor.engine.disk.failures

pub donor_later : (first : SharedDonor) (run : List JobEntry) → IsLegalRun Steps first run → first.donor.engine.disk.failures ≤ (end_of first run).donor.engine.disk.failures
donor_later first run legal = never_falls Steps donor_faults DiskFails disk_counts first run legal

pub donor_rose : {N L X R : Type 0} (link : Link L X) (load : Load) (jobs : List Job) (parts : Parts N L R) (o : Outcome) (first : SharedDonor) (run : List JobEntry)
    → AreDone link load jobs parts o → IsLegalRun Steps first run → IsMadeOf parts.donor run → o.failure ≡ Some failure.DonorDisk
    → Rose first.donor.engine.disk.failures (end_of first run).donor.engine.disk.failures
donor_rose link load jobs parts o first run done legal made is =
    donor_from link load (DonorRose first run) jobs parts o done (each_part (λ (e : JobEntry). DiskFails e.answer → DonorRose first run) parts.donor run made (each_rises Steps donor_faults DiskFails disk_counts first run legal)) is

-- ---- THE NET

module _ {N L X : Type 0} (net : Net N L X) (link : Link L X) where
  abbrev net_faults : DeskModel N L → ℕ
  net_faults s = net.failures s.net

  abbrev NetRose : DeskModel N L → List (DeskEntry N L) → Type 0
  NetRose first run = Rose (net.failures first.net) (net.failures (end_of first run).net)

  pub net_later : (first : DeskModel N L) (run : List (DeskEntry N L)) → IsLegalRun (DeskSteps net link) first run → net.failures first.net ≤ net.failures (end_of first run).net
  net_later first run legal = never_falls (DeskSteps net link) net_faults NetFails (net_counts net link) first run legal

  pub net_rose : {R : Type 0} (load : Load) (jobs : List Job) (parts : Parts N L R) (o : Outcome) (first : DeskModel N L) (run : List (DeskEntry N L)) → AreDone link load jobs parts o
      → IsLegalRun (DeskSteps net link) first run → IsMadeOf parts.desk run → o.failure ≡ Some failure.Connection → Rose (net.failures first.net) (net.failures (end_of first run).net)
  net_rose load jobs parts o first run done legal made is =
      net_from link load (NetRose first run) jobs parts o done (each_part (λ (e : DeskEntry N L). NetFails e.answer → NetRose first run) parts.desk run made (each_rises (DeskSteps net link) net_faults NetFails (net_counts net link) first run legal)) is

-- ---- THE RECIPIENT

-- how the clone ended, by the failure that counts
told_spent : (how : CloneEnded) (losses : ℕ) → of_clone how ≡ Some (failure.Spent losses) → how ≡ told.Spent losses
told_spent (told.Complete lsn position floor) losses is = absurd (none-some (failure.Spent losses) is)
told_spent (told.Spent n) losses is = ap (λ k. told.Spent k) (same_losses n losses (same_Some (failure.Spent n) (failure.Spent losses) is))
  where
    same_losses : (m k : ℕ) → ◌≡◌ {A = Failure} (failure.Spent m) (failure.Spent k) → m ≡ k
    same_losses m k same = cc
told_spent (told.Garbled kept) losses is = absurd cc
told_spent (told.Refused cause) losses is = absurd cc
told_spent told.DiskFault losses is = absurd cc

told_fault : (how : CloneEnded) → of_clone how ≡ Some failure.RecipientDisk → how ≡ told.DiskFault
told_fault (told.Complete lsn position floor) is = absurd (none-some failure.RecipientDisk is)
told_fault (told.Spent n) is = absurd cc
told_fault (told.Garbled kept) is = absurd cc
told_fault (told.Refused cause) is = absurd cc
told_fault told.DiskFault is = refl

module _ {R : Type 0} (state : R → DiskState) where
  pub recipient_later : (first : RecipientModel R) (run : List (RecipientEntry R)) → IsLegalRun (RecipientSteps state) first run → (state first.disk).failures ≤ (state (end_of first run).disk).failures
  recipient_later first run legal = (passed state first run legal).later

  -- once the clone has ended, the table stays as it is
  pub table_stays : (first : RecipientModel R) (run : List (RecipientEntry R)) (how : CloneEnd) → IsLegalRun (RecipientSteps state) first run → first.reception.table.ended ≡ Some how → (end_of first run).reception.table ≡ first.reception.table
  table_stays first run how legal ended = (passed state first run legal).stays how ended

  -- what is told at the end of a run
  abbrev Told : RecipientModel R → List (RecipientEntry R) → CloneEnded → Type 0
  Told first run how = IsToldOf (end_of first run).reception.table (Some how)

  module _ {N L X : Type 0} (link : Link L X) (load : Load) (jobs : List Job) (parts : Parts N L R) (o : Outcome) (first : RecipientModel R) (run : List (RecipientEntry R)) where
    pub cloned_told : (c : Cloned) → AreDone link load jobs parts o → IsLegalRun (RecipientSteps state) first run → IsMadeOf parts.recipient run → o.cloned ≡ Some c
        → IsToldOf (end_of first run).reception.table (Some (told.Complete c.lsn c.position c.floor))
    cloned_told c done legal made is =
        cloned_from link load (Told first run) c jobs parts o done
        (each_part (λ (e : RecipientEntry R). (how : CloneEnded) → e.call ≡ call.Ended → e.answer ≡ answer.Ended (Ok (Some how)) → Told first run how) parts.recipient run made (each_told state first run legal)) is

    pub failed_told : (why : Failure) → IsOfClone why → AreDone link load jobs parts o → IsLegalRun (RecipientSteps state) first run → IsMadeOf parts.recipient run → o.failure ≡ Some why
        → (how : CloneEnded) × (of_clone how ≡ Some why) × IsToldOf (end_of first run).reception.table (Some how)
    failed_told why of done legal made is =
        clone_from link load (Told first run) why of jobs parts o done
        (each_part (λ (e : RecipientEntry R). (how : CloneEnded) → e.call ≡ call.Ended → e.answer ≡ answer.Ended (Ok (Some how)) → Told first run how) parts.recipient run made (each_told state first run legal)) is

    -- where the recipient's disk failed
    pub recipient_rose : AreDone link load jobs parts o → IsLegalRun (RecipientSteps state) first run → IsMadeOf parts.recipient run → first.reception.table.ended ≡ None → o.failure ≡ Some failure.RecipientDisk
        → Rose (state first.disk).failures (state (end_of first run).disk).failures
    recipient_rose done legal made begun is =
        let at = failed_told failure.RecipientDisk tt done legal made is in
        let ended : (end_of first run).reception.table.ended ≡ Some end.DiskFault = sym at.2.end ∙ ap (λ how. Some (end_told how)) (told_fault at.0 at.1) in
        elim ((passed state first run legal).fault ended) [
          | inl before ↦ absurd (none-some end.DiskFault (sym begun ∙ before))
          | inr rose ↦ rose
        ]

    -- where there were more losses than the limit
    pub spent_over : (losses : ℕ) → AreDone link load jobs parts o → IsLegalRun (RecipientSteps state) first run → IsMadeOf parts.recipient run → first.reception.table.ended ≡ None → o.failure ≡ Some (failure.Spent losses)
        → ((end_of first run).reception.table.ended ≡ Some (end.Spent losses)) × (first.reception.table.limit < losses)
    spent_over losses done legal made begun is =
        let at = failed_told (failure.Spent losses) tt done legal made is in
        let passes = passed state first run legal in
        let ended : (end_of first run).reception.table.ended ≡ Some (end.Spent losses) = sym at.2.end ∙ ap (λ how. Some (end_told how)) (told_spent at.0 losses at.1) in
        (ended, subst (λ n. n < losses) passes.limit (passes.counted (λ how was. absurd (none-some how (sym begun ∙ was))) (end.Spent losses) ended))
