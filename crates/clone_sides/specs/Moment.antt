-- THE MOMENT OF A CLONE: the stop of the session in the donor's run, and what the recipient's disk
-- holds of the donor as it was then.
use Rattle.std.specs.Prelude.{ℕ, ◌≡◌, ◌≤◌, ◌==◌, ◌++◌, ◌∷◌, List, [], length, take, None, Some, Ok, if◌then◌else◌}
use Rattle.std.specs.declared.option.Option.{Option}
use Rattle.std.specs.Option.{option_or}
use Rattle.clone_outside.specs.Disk.{DiskImage}
use Rattle.clone_outside.specs.declared.mark.CloneEnd.{CloneEnd}
use Rattle.clone_model.specs.History.{fold}
use Rattle.clone_plain.specs.Donor as plain
use Rattle.clone_plain.specs.Donor.{history}
use Rattle.clone_staged.specs.Staged.{completed}
use Rattle.clone_staged.specs.Holds.{HoldsCopy}
use Rattle.clone_session.specs.declared.caller.Caller.{Caller}
use Rattle.clone_session.specs.declared.info.Stop.{Stop}
use Rattle.clone_session.specs.declared.info.StageInfo.{StageInfo}
use Rattle.clone_calls.specs.declared.answer.DonorAnswer.TheVariants as answer
use Rattle.clone_calls.specs.declared.call.DonorCall.TheVariants as call
use Rattle.clone_engine.specs.Acts.{Act, Calls}
use Rattle.clone_engine.specs.Engine.{Engine}
use Rattle.clone_engine.specs.Donor.{Donor}
use Rattle.clone_sides.specs.Trace.{Entry, end_of}

-- a stop, if it is one of this session
abbrev pub own_stop : ℕ → Option Stop → Option Stop
own_stop number None = None
own_stop number (Some stop) = if stop.session == number then Some stop else None

-- the first stop of the session over a run
abbrev pub first_stop : ℕ → List Entry → Option Stop
first_stop number [] = None
first_stop number (e ∷ es) =
    option_or (own_stop number e.after.cloning.stop) (first_stop number es)

-- the session's copy of pages is acknowledged, with a floor that isn't past this position
pub record AcknowledgesPages (number position : ℕ) (act : Act) : Type 0 where
  pub caller : Caller
  pub session : caller.session ≡ number
  pub floor : ℕ
  pub reached : floor ≤ position
  pub info : StageInfo
  pub is : act ≡ Calls (call.Ack caller 2 floor) (answer.Ack (Ok info))

-- a stop of the session, with as many commits and drops as this engine has
pub record IsStopOf (number : ℕ) (at : Engine) (stop : Stop) : Type 0 where
  pub session : stop.session ≡ number
  pub commits : stop.position ≡ length at.donor.binlog
  pub drops : stop.drops ≡ length at.donor.drops

-- THE STOP: the session came to it, and had come to none before, by an acknowledgement of the copy
-- of pages, when the donor's engine was this one.
pub record StopsAt (number : ℕ) (d : Donor) (trace : List Entry) (at : Engine) (stop : Stop)
    : Type 0 where
  pub before : List Entry
  pub entry : Entry
  pub after : List Entry
  pub split : trace ≡ before ++ entry ∷ after
  pub here : at ≡ (end_of d before).engine
  pub acknowledges : AcknowledgesPages number stop.position entry.act
  pub is : IsStopOf number at stop
  pub stops : entry.after.cloning.stop ≡ Some stop
  pub new : first_stop number before ≡ None
  pub first : first_stop number trace ≡ Some stop

-- With the complete mark the disk recovers to the history at the stop.
pub record HoldsStop (number : ℕ) (d : Donor) (trace : List Entry) (end : CloneEnd)
    (m : DiskImage) : Type 0 where
  pub at : Engine
  pub stop : Stop
  pub moment : StopsAt number d trace at stop
  pub position : end.position ≡ stop.position
  pub holds : HoldsCopy (completed end m) (fold (history at.donor)) end.position

-- The donor has gone on since a stop: its first commits, as many as there were, are those that it
-- had at the stop, and so are its first drops.
pub record HasGoneOn (stop : Stop) (was now : plain.Donor) : Type 0 where
  pub position : stop.position ≤ length now.binlog
  pub dropped : stop.drops ≤ length now.drops
  pub commits : take stop.position now.binlog ≡ was.binlog
  pub drops : take stop.drops now.drops ≡ was.drops
