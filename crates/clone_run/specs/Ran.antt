-- A run of jobs: what each of the three that they shared was at first, the one legal run that it had
-- then, and what was left of it.
use Rattle.std.specs.Prelude.{ℕ, ◌≡◌, ◌≤◌, ◌-◌, false, List, [], None, Some}
use Rattle.std.specs.List.{AllByRecursion}
use Rattle.std.specs.declared.option.Option.{Option}
use Rattle.clone_outside.specs.Disk.{ForTold, Steps as Follows, blank}
use Rattle.clone_outside.specs.DiskCalls.{DiskState}
use Rattle.clone_outside.specs.declared.link.Link.{Ghosts as Link}
use Rattle.clone_outside.specs.declared.link.Net.{Ghosts as Net}
use Rattle.clone_outside.specs.declared.mark.Mark.TheVariants.{InProgress}
use Rattle.clone_turn.specs.declared.view.Entry.{Entry}
use Rattle.clone_turn.specs.Runs.{IsLegalRun, end_of}
use Rattle.clone_runs.specs.Shuffles.{IsShuffled}
use Rattle.clone_lay.specs.Marked.{marked}
use Rattle.clone_recipient.specs.Receptions.{begun}
use Rattle.clone_calls.specs.declared.answer.DonorAnswer.{DonorAnswer}
use Rattle.clone_calls.specs.declared.call.DonorCall.TheVariants as asked
use Rattle.clone_engine.specs.Acts.{Acts, Calls}
use Rattle.clone_engine.specs.Donor.{Donor}
use Rattle.clone_session.specs.Cloning.{Session}
use Rattle.clone_machine.specs.Sharing.{SharedDonor, Steps}
use Rattle.clone_fetching.specs.Recipients.{RecipientModel, RecipientSteps}
use Rattle.clone_desk.specs.Desks.{DeskModel}
use Rattle.clone_desk.specs.Settling.{IsSettled, paired_count}
use Rattle.clone_desk.specs.Steps.{DeskSteps}
use Rattle.clone_run.specs.declared.load.Load.{Load}
use Rattle.clone_run.specs.declared.outcome.Outcome.{Outcome}
use Rattle.clone_run.specs.Done.{AreDone, served_from}
use Rattle.clone_run.specs.Tables.{SetsUp}
use Rattle.clone_run.specs.Teams.{Parts}

-- ONE LEGAL RUN, from the first state to the last, shuffled from these parts
pub record IsRun {S C A : Type 0} (steps : S → C → A → S → Type 0) (first : S)
    (parts : List (List (Entry S C A))) (last : S) : Type 0 where
  pub run : List (Entry S C A)
  pub legal : IsLegalRun steps first run
  pub end : last ≡ end_of first run
  pub made : IsShuffled parts run

-- a donor, a recipient and a desk
pub record Shared (N L R : Type 0) : Type 0 where
  pub donor : SharedDonor
  pub recipient : RecipientModel R
  pub desk : DeskModel N L

-- the session that stands, if one does, is given up
abbrev pub GivenUp : Option Session → Donor → Donor → Type 0
GivenUp None d t = t ≡ d
GivenUp (Some session) d t =
    (given : DonorAnswer) × Acts (Calls (asked.Abandon session.number) given) d t

module _ {N L X R : Type 0} (net : Net N L X) (link : Link L X) (state : R → DiskState) where
  -- THE JOBS RAN: all of them were started, and by their calls the three came from the one to the
  -- other.
  pub record HaveRun (load : Load) (o : Outcome) (s t : Shared N L R) : Type 0 where
    pub parts : Parts N L R
    pub jobs : AreDone link load (served_from load 0) parts o
    pub donor : IsRun Steps s.donor parts.donor t.donor
    pub recipient : IsRun (RecipientSteps state) s.recipient parts.recipient t.recipient
    pub desk : IsRun (DeskSteps net link) s.desk parts.desk t.desk

  -- the net is the given one, and cuts as many connections as it is asked to
  pub record Plans (cuts : ℕ) (given n : N) : Type 0 where
    pub planned : net.planned n ≡ cuts
    pub unsettled : net.unsettled n ≡ net.unsettled given
    pub failures : net.failures n ≡ net.failures given

  -- THEY BEGAN with a donor that has its tables, a recipient whose copy is in progress on a disk
  -- that was empty, and a desk without connections over the net.
  pub record Begin (session version : ℕ) (load : Load) (d : Donor) (disk : DiskState) (given : N)
      (s : Shared N L R) : Type 0 where
    pub tables : SetsUp d s.donor.donor
    pub goes_on : s.donor.halted ≡ false
    pub empty : ForTold disk.told (λ m. m ≡ blank)
    pub begun : s.recipient.reception ≡ begun session load.tasks load.limit version
    pub in_progress : Follows disk.told (state s.recipient.disk).told
        (marked (InProgress session))
    pub later : disk.failures ≤ (state s.recipient.disk).failures
    pub stands : s.recipient.given_up ≡ false
    pub none : s.desk.records ≡ []
    pub plans : Plans load.cuts given s.desk.net

  -- WHAT IS LEFT: the donor, whose session was given up if one stood, the recipient's disk, and the
  -- net, in which the connections were settled.
  pub record Leave (t : Shared N L R) (donor : Donor) (disk : R) (given : N) : Type 0 where
    pub donor_left : GivenUp t.donor.donor.cloning.session t.donor.donor donor
    pub disk_left : disk ≡ t.recipient.disk
    pub settled : AllByRecursion (IsSettled link) t.desk.records
    pub unsettled : net.unsettled given ≡ net.unsettled t.desk.net - paired_count t.desk.records
    pub planned : net.planned given ≡ net.planned t.desk.net
    pub failures : net.failures t.desk.net ≤ net.failures given
