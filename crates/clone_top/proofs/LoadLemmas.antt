-- What comes of a clone under load, by what its jobs and recovery answered.
use Rattle.std.proofs.Common.{◌≡◌, ◌<◌, ◌^◌, ◌⊎◌, ℕ, List, [], take, Bool, true, false, refl, sym, ap, ◌∙◌, subst, Option, Some, None, IsSome, String, string_bytes, Result, Ok, Err, codes}
use Rattle.std.specs.declared.alloc.Global.{Global}
use Rattle.clone_outside.specs.Causes.{Rose}
use Rattle.clone_outside.specs.Disk.{DiskImage, ForTold}
use Rattle.clone_outside.specs.DiskCalls.{DiskState}
use Rattle.clone_outside.specs.declared.link.Link.{Ghosts as Link}
use Rattle.clone_outside.specs.declared.link.Net.{Ghosts as Net}
use Rattle.clone_model.specs.History.{Drops, Row, Rows, fold, history_of, rows_in}
use Rattle.clone_model.specs.Texts.{ended}
use Rattle.clone_model.specs.declared.change.Commit.{Commit}
use Rattle.clone_model.specs.declared.config.Config.{Config}
use Rattle.clone_plain.specs.Answers.{Text}
use Rattle.clone_plain.specs.Donor.{history}
use Rattle.clone_recover.specs.Listing.{ListsRows}
use Rattle.clone_recover.specs.Restores.{Answers, ForStep}
use Rattle.clone_recover.specs.declared.recovery.Recovered.{Recovered}
use Rattle.clone_recover.specs.declared.refusal.RecoverRefusal.{RecoverRefusal}
use Rattle.clone_recover.specs.declared.refusal.RecoverRefusal.TheVariants as refused
use Rattle.clone_dump.specs.Shown.{ShowsRecovered}
use Rattle.clone_summary.specs.Summary.{report_text}
use Rattle.clone_events.specs.Events.{recipient_fault}
use Rattle.clone_staged.specs.Holds.{HoldsCopy}
use Rattle.clone_joined.specs.Joined.{HoldsAt}
use Rattle.clone_engine.specs.Disks.{Visits}
use Rattle.clone_engine.specs.Donor.{Donor}
use Rattle.clone_run.specs.Beginning.{Unbegun}
use Rattle.clone_run.specs.Outcomes.{IsUnstarted}
use Rattle.clone_run.specs.Ran.{Begin, HaveRun, Leave, Shared}
use Rattle.clone_run.specs.declared.failure.Failure.TheVariants as failure
use Rattle.clone_run.specs.declared.load.Load.{Load}
use Rattle.clone_run.specs.declared.run.TheConstants.{SESSION, VERSION}
use Rattle.clone_run.specs.declared.outcome.Cloned.{Cloned}
use Rattle.clone_run.specs.declared.outcome.Outcome.{Outcome}
use Rattle.clone_written.specs.Commits.{HasAllCommits, HasCommits}
use Rattle.clone_loaded.specs.Loaded.{AreCounted, IsMoment, TellsAll}
use Rattle.clone_words.specs.declared.command.Run.{Run}
use Rattle.clone_top.specs.Causes.{IsAlone, Looks}
use Rattle.clone_top.specs.Ends.{AreEmpty, Disks, Ends, Means, Streams}
use Rattle.clone_top.specs.Looking.{IsNewDonor, IsUnready}
use Rattle.clone_top.specs.Main.{Refuses, RunOutcome}
use Rattle.clone_top.specs.Saying.{SaysNoClone, SaysUnready}
use Rattle.clone_top.specs.UnderLoad.{Concludes, LoadOutcome, RanJobs, Reports, ShowsFirst, completed, config_of, load_of, prevented, silent}
use Rattle.clone_top.specs.UnderLoad as run_under
use Rattle.clone_top.specs.declared.run.Unready.{Unready}
use Rattle.clone_top.specs.declared.run.Unready.TheVariants as unready
use Rattle.clone_top.specs.declared.status.Status.{Status}
use Rattle.clone_top.specs.declared.status.Status.TheVariants.{Done, Memory, DonorFault, RecipientFault, NotEmpty, Incomplete, Damaged, CompressionRefused}
use Rattle.clone_top.proofs.RecoveringLemmas.{IsAnswered, visits}

-- the report on a recovered disk
pub reports_rows : (with_report : Bool) (cloned : Cloned) (old new : Option DiskImage) (list passed : List Row) (text : Text) → with_report ≡ true → ForStep old new (λ m n. ShowsRecovered m n list) → (rows : Rows) × (list ≡ rows_in rows) → passed ≡ list → text ≡ report_text cloned.lsn cloned.position cloned.floor passed
    → Reports with_report cloned old new text
reports_rows with_report cloned old new list passed text is shows rows same text_is =
    let P : List Row → Type 0 = λ l. ForStep old new (λ m n. ShowsRecovered m n l) in
    let Q : Bool → Type 0 = λ b. Reports b cloned old new text in
    subst Q (sym is) (rows.0, subst P rows.1 shows, text_is ∙ ap (report_text cloned.lsn cloned.position cloned.floor) (same ∙ rows.1))

-- what is listed of a disk that holds a clone are the clone's rows
abbrev pub IsListed : Type 0
IsListed = (m n : DiskImage) (numbers : Recovered) (rows : Rows) (position : ℕ) (list : List Row) → HoldsCopy m rows position → numbers.position < 2 ^ 64 → Answers m n numbers → ListsRows n list → list ≡ rows_in rows

pub shows_first : (cl : Cloned) (left : Donor) (told : Option DiskImage) → IsListed → IsMoment SESSION cl left told → ShowsFirst cl left told
shows_first cl left told listed moment = λ m n list is shows.
    let held : HoldsAt moment.stop left m = subst (λ (o : Option DiskImage). ForTold o (HoldsAt moment.stop left)) is moment.holds in
    let d = held.at.donor in
    let commits : take cl.position left.engine.donor.binlog ≡ d.binlog = ap (λ p. take p left.engine.donor.binlog) moment.position_is ∙ held.gone_on.commits in
    let rows : list ≡ rows_in (fold (history d)) = listed m n shows.numbers (fold (history d)) moment.stop.position list held.holds shows.range shows.recovers shows.lists in
    record {
      drops = moment.stop.drops;
      is = rows ∙ (ap (λ (b : List Commit). rows_in (fold (history_of b d.drops))) (sym commits)
          ∙ ap (λ (x : Drops). rows_in (fold (history_of (take cl.position left.engine.donor.binlog) x))) (sym held.gone_on.drops));
    }

module _ (run : Run) (o : Outcome) (commits : List Commit) (cloned : Cloned) (status : Status) (old new : Streams) (before after : DiskState) (whole : o.failure ≡ None) (is : o.cloned ≡ Some cloned) (same : new.binlog.told ≡ old.binlog.told) where
  refusal_concludes : (refusal : RecoverRefusal) → IsAnswered (Err refusal) before after → SaysNoClone refusal status old.out new.out → Concludes run o commits status old new before after
  refusal_concludes refused.Incomplete all said = completed cloned whole is Incomplete _ (all.cause, all.incomplete refl, refl) (said, same) (visits _ _ _ all.works)
  refusal_concludes (refused.Damaged space page why) all said = completed cloned whole is Damaged _ (space, page, why, all.cause, all.damaged space page why refl, refl) (said, same) (visits _ _ _ all.works)
  refusal_concludes refused.DiskFault all said = completed cloned whole is RecipientFault _ (all.works.fault refl, refl) (said, same) (visits _ _ _ all.works)
  refusal_concludes refused.NoMemory all said = silent whole said.0 said.1 same (visits _ _ _ all.works)

  -- the clone isn't recovered
  pub unrecovered : (answer : Result (String Global) RecoverRefusal) (refusal : RecoverRefusal) → answer ≡ Err refusal → IsAnswered answer before after → SaysNoClone refusal status old.out new.out → Concludes run o commits status old new before after
  unrecovered answer refusal err all said =
      let P : Result (String Global) RecoverRefusal → Type 0 = λ r. IsAnswered r before after in
      refusal_concludes refusal (subst P err all) said

module _ {N L X R : Type 0} (net : Net N L X) (link : Link L X) (state : R → DiskState) (run : Run) (status : Status) (old new : Streams) (given : Disks) (back : Ends) (means left : Means N) where
  unopened_for : (why : Unready) → IsAlone old new back → left ≡ means → IsUnready given back.disks why → SaysUnready why status old.out new.out → LoadOutcome net link state run status old new given back means left
  unopened_for unready.DonorFault alone same is says = prevented DonorFault (codes "donor disk fault") (is, refl) says alone same
  unopened_for unready.RecipientFault alone same is says = prevented RecipientFault recipient_fault (is.0, is.1, refl) says alone same
  unopened_for unready.NotEmpty alone same is says = prevented NotEmpty (codes "not empty") (is.0, is.1, refl) says alone same
  unopened_for unready.Memory alone same is says = run_under.silent says.0 says.1 is alone same

  -- no donor was opened
  pub unopened : (why : Unready) (due : Status) (between : Disks) → status ≡ due → back.disks ≡ between → IsAlone old new back → left ≡ means → IsUnready given between why → SaysUnready why due old.out new.out → LoadOutcome net link state run status old new given back means left
  unopened why due between is same alone same_means unready says =
      let P : Disks → Type 0 = λ d. IsUnready given d why in
      let Q : Status → Type 0 = λ s. SaysUnready why s old.out new.out in
      unopened_for why alone same_means (subst P (sym same) unready) (subst Q (sym is) says)

  -- what is known of a run by what it began with, what its jobs did and what it left
  abbrev Known : Load → Outcome → Donor → DiskState → Donor → R → Type 0
  Known load o opened looked donor_left disk_left =
      (s t : Shared N L R) → Begin net link state SESSION VERSION load opened looked means.net s → HaveRun net link state load o s t → Leave net link state t donor_left disk_left left.net
      → HasCommits load donor_left.engine.donor × (o.failure ≡ None → HasAllCommits load donor_left.engine.donor)
      × (TellsAll net link state t → IsSome opened.engine.disk.told → (cl : Cloned) → o.cloned ≡ Some cl → IsMoment SESSION cl donor_left (state disk_left).told × ShowsFirst cl donor_left (state disk_left).told)
      × AreCounted net link state o opened donor_left looked (state disk_left) means.net left.net

  -- a donor was opened, and cloned under load
  pub loaded : (opened : Donor) (looked : DiskState) (o : Outcome) (donor_left : Donor) (disk_left : R) (load : Load) (config : Config) (commits : List Commit) (due : Status) (after : DiskState)
      → AreEmpty given → IsNewDonor config opened → config ≡ config_of run → Visits given.donor opened.engine.disk → Looks given.recipient looked
      → load ≡ load_of run → (o.whole ≡ true → (s : Shared N L R) × (t : Shared N L R) × Begin net link state SESSION VERSION load opened looked means.net s × HaveRun net link state load o s t × Leave net link state t donor_left disk_left left.net)
      → Known load o opened looked donor_left disk_left
      → (o.whole ≡ false → IsUnstarted o.failure ⊎ Unbegun o.failure opened donor_left looked (state disk_left)) → (o.failure ≡ Some failure.Thread → Rose means.crew left.crew)
      → Concludes run o commits due old new (state disk_left) after → commits ≡ donor_left.engine.donor.binlog → status ≡ due → back.disks.recipient ≡ after
      → back.disks.donor ≡ donor_left.engine.disk → back.drops ≡ [] → back.stop ≡ None → LoadOutcome net link state run status old new given back means left
  loaded opened looked o donor_left disk_left load config commits due after empty fresh sizes donor looks asked ran known unstarted crew concludes log is back_recipient back_donor drops stop =
      let P : List Commit → Type 0 = λ l. Concludes run o l due old new (state disk_left) after in
      let Q : Status → Type 0 = λ s. Concludes run o donor_left.engine.donor.binlog s old new (state disk_left) after in
      let V : DiskState → Type 0 = λ d. Concludes run o donor_left.engine.donor.binlog status old new (state disk_left) d in
      run_under.cloned (record {
        empty = empty;
        opened = opened;
        new_donor = subst (λ (c : Config). IsNewDonor c opened) sizes fresh;
        donor = donor;
        looked = looked;
        looks = looks;
        outcome = o;
        donor_left = donor_left;
        disk_left = disk_left;
        ran = λ whole. subst (λ (l : Load). RanJobs net link state l o opened looked means.net donor_left disk_left left.net) asked
            (let jobs = ran whole in
            let more = known jobs.0 jobs.1 jobs.2 jobs.3 jobs.4 in
            record {
              first = jobs.0;
              last = jobs.1;
              begun = jobs.2;
              ran = jobs.3;
              leaves = jobs.4;
              commits = more.0;
              all = more.1;
              moment = more.2;
              counted = more.3;
            });
        unstarted = unstarted;
        crew = crew;
        concludes = subst V (sym back_recipient) (subst Q (sym is) (subst P log concludes));
        donor_back = back_donor;
        drops = drops;
        stop = stop;
      })

  -- a run asks for compression, or doesn't
  pub compressed : run.compress ≡ true → Refuses CompressionRefused (codes "compression refused") status old new given back → left ≡ means → RunOutcome net link state run run.compress status old new given back means left
  compressed is refuses same = subst (λ (b : Bool). RunOutcome net link state run b status old new given back means left) (sym is) (refuses, same)

  pub uncompressed : run.compress ≡ false → new.source ≡ old.source → LoadOutcome net link state run status old new given back means left → RunOutcome net link state run run.compress status old new given back means left
  uncompressed is source outcome = subst (λ (b : Bool). RunOutcome net link state run b status old new given back means left) (sym is) (source, outcome)
