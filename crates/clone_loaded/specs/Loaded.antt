-- WHAT A CLONE UNDER LOAD GIVES, by the runs of its donor, its recipient and its desk.
use Rattle.std.specs.Prelude.{ℕ, ◌≡◌, ◌≤◌, Some}
use Rattle.std.specs.List.{AllByRecursion}
use Rattle.std.specs.declared.option.Option.{Option}
use Rattle.clone_outside.specs.Causes.{Rose}
use Rattle.clone_outside.specs.Disk.{DiskImage, ForTold}
use Rattle.clone_outside.specs.DiskCalls.{DiskState}
use Rattle.clone_outside.specs.declared.link.Link.{Ghosts as Link}
use Rattle.clone_outside.specs.declared.link.Net.{Ghosts as Net}
use Rattle.clone_session.specs.declared.info.Stop.{Stop}
use Rattle.clone_engine.specs.Donor.{Donor}
use Rattle.clone_machine.specs.Running.{trace_of}
use Rattle.clone_joined.specs.Joined.{HoldsAt}
use Rattle.clone_matched.specs.Telling.{TellsEnds}
use Rattle.clone_held.specs.Held.{IsCompleteAt, IsHeldAt}
use Rattle.clone_run.specs.declared.failure.Failure.TheVariants as failure
use Rattle.clone_run.specs.declared.load.Load.{Load}
use Rattle.clone_run.specs.declared.outcome.Cloned.{Cloned}
use Rattle.clone_run.specs.declared.outcome.Outcome.{Outcome}
use Rattle.clone_run.specs.Ran.{HaveRun, Shared}

-- A CLONE HOLDS A MOMENT of the donor: the session came to a stop at this position, not before the
-- floor, and the donor has gone on since then. The disk says that the copy is complete, and recovers
-- to the donor's history at the stop: so the first commits, as many, and no more.
pub record IsMoment (session : ℕ) (c : Cloned) (d : Donor) (told : Option DiskImage) : Type 0 where
  pub stop : Stop
  pub position_is : c.position ≡ stop.position
  pub reached : c.floor ≤ c.position
  pub complete : ForTold told (IsCompleteAt session c.lsn c.position)
  pub holds : ForTold told (HoldsAt stop d)

module _ {N L X R : Type 0} (net : Net N L X) (link : Link L X) (state : R → DiskState) where
  -- the ends of the connections that are at the desk tell their bytes, as those in memory do
  abbrev pub TellsAll : Shared N L R → Type 0
  TellsAll t = AllByRecursion (TellsEnds link) t.desk.records

  -- THE RECIPIENT HOLDS THE MOMENT of which the clone told: the first stop of the session in the
  -- donor's run.
  abbrev pub HoldsMoment : (session : ℕ) (load : Load) (o : Outcome) (s t : Shared N L R)
      → HaveRun net link state load o s t → Cloned → Type 0
  HoldsMoment session load o s t ran c =
      IsHeldAt session s.donor.donor (trace_of ran.donor.run) c.lsn c.position c.floor
      (state t.recipient.disk).told

  -- A DISK OR THE NET FAILED where that is the failure that counts, which its count shows.
  pub record AreCounted (o : Outcome) (d left : Donor) (disk disk_left : DiskState)
      (given net_left : N) : Type 0 where
    pub donor : o.failure ≡ Some failure.DonorDisk
        → Rose d.engine.disk.failures left.engine.disk.failures
    pub recipient : o.failure ≡ Some failure.RecipientDisk
        → Rose disk.failures disk_left.failures
    pub connection : o.failure ≡ Some failure.Connection
        → Rose (net.failures given) (net.failures net_left)
