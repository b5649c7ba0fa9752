-- CONNECTIONS OF EARLIER INCARNATIONS, which no task has any more.
use Rattle.std.specs.Prelude.{◌≡◌, ◌<◌, ◌⊎◌, Bool, true, false, List, ⊤}
use Rattle.std.specs.List.{AllByRecursion}
use Rattle.clone_chunk.specs.Stages.{copy_number}
use Rattle.clone_wire.specs.declared.frame.Attempt.{Attempt}
use Rattle.clone_wire.specs.declared.frame.Frame.{Frame}
use Rattle.clone_wire.specs.declared.frame.Frame.TheVariants as frame
use Rattle.clone_wire.specs.declared.frame.Side.TheVariants.{Command}
use Rattle.clone_serve.specs.declared.doing.Doing.{Doing}
use Rattle.clone_serve.specs.declared.doing.Doing.TheVariants as doing
use Rattle.clone_tasks.specs.Tables.{Table, incarnation_of}
use Rattle.clone_network.specs.Connections.{Connection, is_open}
use Rattle.clone_view.specs.Tables.{phase_number}
use Rattle.clone_paired.specs.Lines.{doing_at}
use Rattle.clone_paired.specs.Unread.{Holds}

abbrev pub IsEarlier : Table → Attempt → Type 0
IsEarlier t attempt =
    (attempt.session ≡ t.session) × (attempt.incarnation < incarnation_of t)

-- A COMMAND that was sent on one. No stage after the recipient's was acknowledged, and the
-- recipient's only where it says so.
abbrev pub WasAsked : Table → Bool → Frame → Type 0
WasAsked t acknowledged (frame.Init attempt version size compressed tasks) =
    IsEarlier t attempt × (version ≡ t.version) × (tasks ≡ t.count)
WasAsked t acknowledged (frame.Attach attempt task) = IsEarlier t attempt
WasAsked t acknowledged (frame.Reinit attempt stage finished) = IsEarlier t attempt
WasAsked t acknowledged (frame.Reinit2 attempt stage taken) = IsEarlier t attempt
WasAsked t acknowledged (frame.Execute stage) = ⊤
WasAsked t acknowledged (frame.Ack stage floor) = (copy_number stage < phase_number t.phase)
    ⊎ ((copy_number stage ≡ phase_number t.phase) × (acknowledged ≡ true))
WasAsked t acknowledged other = ⊥

-- the donor's end has bound an earlier caller, if one
abbrev pub BindsEarlier : Table → Doing → Type 0
BindsEarlier t (doing.Ready caller) =
    (caller.session ≡ t.session) × (caller.incarnation < incarnation_of t)
BindsEarlier t (doing.Serving run work) =
    (run.caller.session ≡ t.session) × (run.caller.incarnation < incarnation_of t)
BindsEarlier t doing.New = ⊤
BindsEarlier t doing.Over = ⊤
BindsEarlier t other = ⊥

-- A CONNECTION of an earlier incarnation. Where the loop of its end goes on, such commands lie
-- unread.
pub record IsPast (t : Table) (acknowledged : Bool) (at : Connection) : Type 0 where
  pub held : at.held ≡ false
  pub binds : BindsEarlier t (doing_at at)
  pub commands : List Frame
  pub live : is_open at ≡ true → Holds Command at.cut commands at.to_donor
  pub asked : AllByRecursion (WasAsked t acknowledged) commands
