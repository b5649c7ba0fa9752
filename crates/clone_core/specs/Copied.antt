-- What holds of a clone while the history grows, and what its disk holds once it has ended.
use Rattle.std.specs.Prelude.{ℕ, ◌≡◌, ◌≤◌, ◌⊎◌, Bool, true, false, length, None, Some, MatchOption}
use Rattle.std.specs.List.{AllByRecursion}
use Rattle.std.specs.Option.{ForSome, option_map}
use Rattle.std.specs.declared.option.Option.{Option}
use Rattle.std.specs.FinMap as finite
use Rattle.std.specs.Ordering.{nat_cmp}
use Rattle.clone_outside.specs.Disk.{DiskImage, ForTold, blank}
use Rattle.clone_follow.specs.Binlog.{IsShort}
use Rattle.clone_model.specs.History.{fold}
use Rattle.clone_recover.specs.Restores.{IsRecoveredDisk}
use Rattle.clone_script.specs.Given.{IsTerms}
use Rattle.clone_staged.specs.Holds.{HoldsCopy}
use Rattle.clone_plain.specs.Donor.{Donor}
use Rattle.clone_tasks.specs.Tables.{is_running}
use Rattle.clone_tasks.specs.declared.end.CloneEnd as tasks
use Rattle.clone_fetch.specs.Fetching.{KnowsSizes}
use Rattle.clone_sides.specs.Moment.{own_stop}
use Rattle.clone_joined.specs.Joined.{IsInProgress, IsJoined, IsUnfinished}
use Rattle.clone_joined.specs.Runs.{HasCome}
use Rattle.clone_events.specs.World.{Stop, broken, Progress, absent, copying, over, Clone, HasEnded, IsHonest, IsSure, before_stop}
use Rattle.clone_events.specs.Events.{IsComplete}
use Rattle.clone_paired.specs.Order.{CopiesInOrder}
use Rattle.clone_paired.specs.Own.{own_session}
use Rattle.clone_talk.specs.Talking.{Talks}
use Rattle.clone_core.specs.declared.world.Course.{Course}
use Rattle.clone_core.specs.declared.world.Course.TheVariants as course
use Rattle.clone_core.specs.declared.world.TheConstants.{SESSION}
use Rattle.clone_core.specs.Parts.{OnTerms}
use Rattle.clone_core.specs.System.{System, donor_of, tell}
use Rattle.clone_core.specs.Acting.{end_of, stop_of}
use Rattle.clone_core.specs.Lines.{State}

-- ---- the clone, as a world keeps it

abbrev pub progress_by : Option tasks.CloneEnd → Progress
progress_by None = copying
progress_by (Some how) = over (end_of how)

abbrev pub progress_of : Course → Progress
progress_of course.Absent = absent
progress_of course.Unbegun = over broken
progress_of (course.Begun c) = progress_by c.reception.table.ended

abbrev pub floor_of : Course → Option ℕ
floor_of (course.Begun c) = c.reception.table.floor
floor_of other = None

-- a world of this system
abbrev pub world_of : System → finite.FinMap nat_cmp ℕ → (disturbed doubted shown : Bool) → State
world_of s begun disturbed doubted shown = record {
  donor = s;
  begun = begun;
  clone = record {
    progress = progress_of s.course;
    stop = option_map stop_of s.stop;
    looked = s.looked;
    floor = floor_of s.course;
    disturbed = disturbed;
    alone = s.alone;
    doubted = doubted;
    shown = shown;
    replica = s.replica;
  };
  tells = tell s;
  tasks = s.terms.tasks;
}

-- ---- what the recipient's disk holds

-- the disk holds a clone that recovers to the history before the stop
abbrev pub HoldsStop : Donor → Stop → DiskImage → Type 0
HoldsStop d stop m = HoldsCopy m (fold (before_stop stop d)) stop.position

-- the disk has no mark, or that of an unfinished copy
abbrev pub IsIncomplete : DiskImage → Type 0
IsIncomplete m = (m.mark ≡ None) ⊎ IsUnfinished SESSION m

-- What a recipient's disk holds of a clone that has ended, where that is known: all of it where it
-- is complete, and recovered where its rows were shown. Where it ended otherwise, it may be
-- incomplete.
pub record HoldsEnded (d : Donor) (clone : Clone) (m : DiskImage) : Type 0 where
  pub whole : IsComplete clone.progress
      → MatchOption clone.stop ⊥ (λ (stop : Stop). HoldsStop d stop m)
  pub other : IsIncomplete m ⊎ MatchOption clone.stop ⊥ (λ (stop : Stop). HoldsStop d stop m)
  pub shown : clone.shown ≡ true → IsRecoveredDisk m

-- WHAT IS KEPT OF A CLONE, however it stands: its stop is within the history; until one is begun
-- the recipient's disk is blank; and where it has ended, what that disk holds.
pub record KeepsClone (d : Donor) (tells : Bool) (clone : Clone) (told : Option DiskImage)
    : Type 0 where
  pub blank_before : clone.progress ≡ absent → ForTold told (λ m. m ≡ blank)
  pub commits : ForSome clone.stop (λ stop. stop.position ≤ length d.binlog)
  pub drops : ForSome clone.stop (λ stop. stop.drops ≤ length d.drops)
  pub holds : HasEnded clone.progress → IsSure tells clone → ForTold told (HoldsEnded d clone)

-- ---- WHAT HOLDS OF A WORLD

-- the recipient knows the sizes of its spaces
abbrev pub KnowsItsSizes : System → Course → Type 0
KnowsItsSizes s (course.Begun c) = KnowsSizes c.reception s.recipient
KnowsItsSizes s other = Unit {0}

-- while the clone goes on, the recipient's disk says so
abbrev pub SaysInProgress : Course → Option DiskImage → Type 0
SaysInProgress (course.Begun c) told =
    is_running c.reception.table ≡ true → ForTold told (IsInProgress SESSION)
SaysInProgress other told = Unit {0}

-- Where nobody but the tasks had a hand in it, the donor has come there by a run in which the
-- session isn't ended, and donor and recipient are joined while the clone goes on.
abbrev pub GoesOn : System → Course → Type 0
GoesOn s course.Absent = HasCome SESSION None s.stop s.donor
GoesOn s course.Unbegun = Unit {0}
GoesOn s (course.Begun c) = is_running c.reception.table ≡ true
    → IsJoined SESSION s.stop s.donor c.reception s.recipient.told c.network

-- and over a donor whose disk tells what it holds, the two talk; until the clone begins the donor
-- has no session of its number
abbrev pub GoOnTalking : System → Course → Type 0
GoOnTalking s course.Absent = CopiesInOrder s.donor.cloning.session
    × (own_session SESSION s.donor.cloning ≡ None)
GoOnTalking s course.Unbegun = Unit {0}
GoOnTalking s (course.Begun c) = is_running c.reception.table ≡ true
    → Talks s.alone s.donor c.reception c.network

pub record Holds (s : State) : Type 0 where
  pub terms : IsTerms s.donor.terms
  pub parts : OnTerms s.donor.terms s.donor.course
  pub looked : s.donor.looked ≤ length (donor_of s.donor).binlog
  pub short : AllByRecursion IsShort (donor_of s.donor).binlog
  pub unstopped : s.donor.stop ≡ None → own_stop SESSION s.donor.donor.cloning.stop ≡ None
  pub sizes : KnowsItsSizes s.donor s.donor.course
  pub marked : SaysInProgress s.donor.course s.donor.recipient.told
  pub goes_on : IsHonest s.clone → GoesOn s.donor s.donor.course
  pub talks : s.tells ≡ true → IsHonest s.clone → GoOnTalking s.donor s.donor.course
  pub steady : (HasEnded s.clone.progress → ⊥)
      → (s.clone.doubted ≡ false) × (s.clone.shown ≡ false)
  pub keeps : KeepsClone (donor_of s.donor) s.tells s.clone s.donor.recipient.told
