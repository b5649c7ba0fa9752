-- Why a script isn't read, why nothing is begun over two disks, and the donor that is opened.
use Rattle.std.specs.Prelude.{ℕ, ◌≡◌, List, None}
use Rattle.clone_outside.specs.Causes.{Rose}
use Rattle.clone_model.specs.declared.config.Config.{Config}
use Rattle.clone_script.specs.Script.{IsFirstBad}
use Rattle.clone_top.specs.Causes.{FailsDonor, LooksAtBoth, OpensAtMost, WereNotEmpty}
use Rattle.clone_top.specs.Ends.{Disks, End, GaveAll, GaveTooMuch}
use Rattle.clone_engine.specs.Donor.{Donor}
use Rattle.clone_engine.specs.Opened.{IsOpened}
use Rattle.clone_engine.specs.Taken.{IsTaken, nothing}
use Rattle.clone_engine.specs.declared.opening.OpenCause.{OpenCause}
use Rattle.clone_engine.specs.declared.opening.OpenCause.TheVariants as opening
use Rattle.clone_top.specs.declared.reading.Unread.{Unread}
use Rattle.clone_top.specs.declared.reading.Unread.TheVariants as unread
use Rattle.clone_top.specs.declared.run.Unready.{Unready}
use Rattle.clone_top.specs.declared.run.Unready.TheVariants as unready

-- Why no script was read, by the source. Memory may run out at any time.
abbrev pub IsUnread : End → End → Unread → Type 0
IsUnread before after unread.SourceFault = Rose before.faults after.faults
IsUnread before after unread.TooLong =
    (script : List ℕ) × GaveTooMuch before after script
IsUnread before after (unread.BadLine number) =
    (script : List ℕ) × GaveAll before after script × IsFirstBad script number
IsUnread before after unread.Memory = Unit {0}

-- why nothing is begun over disks that were such, and are such now
abbrev pub IsUnready : Disks → Disks → Unready → Type 0
IsUnready given back unready.DonorFault = FailsDonor given back
IsUnready given back unready.RecipientFault =
    LooksAtBoth given back × Rose given.recipient.failures back.recipient.failures
IsUnready given back unready.NotEmpty = LooksAtBoth given back × WereNotEmpty given
IsUnready given back unready.Memory = OpensAtMost given back

-- a donor that was opened with these sizes, of which nothing was asked
pub record IsNewDonor (config : Config) (d : Donor) : Type 0 where
  pub engine : IsOpened config d.engine
  pub session : d.cloning.session ≡ None
  pub stop : d.cloning.stop ≡ None
  pub taken : IsTaken d nothing

-- why a donor isn't opened
abbrev pub unready_of : OpenCause → Unready
unready_of opening.NotEmpty = unready.NotEmpty
unready_of opening.DiskFault = unready.DonorFault
unready_of opening.NoMemory = unready.Memory
