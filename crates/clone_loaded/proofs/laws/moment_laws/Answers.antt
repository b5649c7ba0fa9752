use Rattle.std.proofs.Common.{◌∙◌, None, Some, ap, subst, sym}
use Rattle.clone_outside.specs.Disk.{DiskImage, ForTold}
use Rattle.std.specs.declared.option.Option.{Option}
use Rattle.clone_hub.proofs.ShuffleLemmas.{made_of}
use Rattle.clone_fetching.specs.Recipients.{IsToldOf, RecipientModel}
use Rattle.clone_fetching.specs.declared.clone_ended.CloneEnded.TheVariants.{Complete}
use Rattle.clone_engine.specs.Donor as engine
use Rattle.clone_model.specs.History.{fold}
use Rattle.clone_plain.specs.Donor as plain
use Rattle.clone_plain.specs.Donor.{history}
use Rattle.clone_staged.specs.Holds.{HoldsCopy}
use Rattle.clone_sides.specs.Moment.{HasGoneOn}
use Rattle.clone_machine.specs.Sharing.{SharedDonor}
use Rattle.clone_run.specs.Done.{served_from}
use Rattle.clone_written.specs.Commits.{HasAllCommits, HasCommits}
use Rattle.clone_loaded.specs.Loaded.{IsMoment}
use Rattle.clone_loaded.proofs.LeftLemmas.{donor_left, told_then}
use Rattle.clone_loaded.proofs.laws.moment_laws.Goals as goal

-- what holds of an image where one is told
for_each : (told : Option DiskImage) (P Q : DiskImage → Type 0) → ((m : DiskImage) → P m → Q m) → ForTold told P → ForTold told Q
for_each None P Q f is = tt
for_each (Some m) P Q f is = f m is

pub returns-clause-moment : goal.returns-clause-moment
returns-clause-moment g c = λ session version load o d left disk disk_left given net_left s t cl small is_load fresh telling begin ran leaves tells cloned.
    let state = g.R.PageDisk.state in
    let known = c.told_laws.ensures.cloned load (served_from load 0) ran.parts o s.recipient ran.recipient.run cl ran.jobs ran.recipient.legal (made_of ran.parts.recipient ran.recipient.run ran.recipient.made) cloned in
    let told = subst (λ (m : RecipientModel _). IsToldOf m.reception.table (Some (Complete cl.lsn cl.position cl.floor))) (sym ran.recipient.end) known in
    let held = c.loaded_laws.ensures session version load o d disk given s t cl small is_load fresh begin ran leaves.settled tells told in
    let reaches = c.run_laws.ensures.reaches s.donor ran.donor.run ran.donor.legal ∙ sym (ap (λ (x : SharedDonor). x.donor) ran.donor.end) in
    let now = ap (λ (x : engine.Donor). x.engine.donor) reaches ∙ sym (donor_left t.donor.donor.cloning.session t.donor.donor left leaves.donor_left c.end_laws.ensures.acted) in
    let gone_on = subst (λ (x : plain.Donor). HasGoneOn held.stop held.at.donor x) now held.gone_on in
    let copy = held.holds (told_then d s.donor.donor begin.tables c.end_laws.ensures.told telling) in
    subst (λ r. IsMoment session cl left (state r).told) (sym leaves.disk_left) (record {
      stop = held.stop;
      position_is = held.position_is;
      reached = held.reached;
      complete = held.complete;
      holds = for_each (state t.recipient.disk).told _ _ (λ m holds. record { at = held.at; gone_on = gone_on; holds = subst (λ n. HoldsCopy m (fold (history held.at.donor)) n) held.position_is holds }) copy;
    })

pub returns-clause-commits : goal.returns-clause-commits
returns-clause-commits g c = λ session version load o d left disk disk_left given net_left s t none begin ran leaves.
    let first = c.set_up_laws.ensures.binlog d s.donor.donor begin.tables ∙ none in
    let last = ap (λ (x : SharedDonor). x.donor.engine.donor) (sym ran.donor.end) ∙ sym (donor_left t.donor.donor.cloning.session t.donor.donor left leaves.donor_left c.end_laws.ensures.acted) in (
      subst (HasCommits load) last (c.written_laws.ensures.commits load ran.parts o s.donor ran.donor.run ran.jobs ran.donor.legal ran.donor.made first),
      λ well. subst (HasAllCommits load) last (c.written_laws.ensures.all load ran.parts o s.donor ran.donor.run ran.jobs ran.donor.legal ran.donor.made first well),
    )
