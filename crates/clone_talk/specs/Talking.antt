-- A DONOR AND A RECIPIENT THAT TALK while the clone goes on, among strangers who don't act in their
-- session.
use Rattle.std.specs.Prelude.{ℕ, ◌≡◌, ◌≤◌, Bool, true, false, List, [], IsSome, Some, IfSome}
use Rattle.std.specs.Prelude.{slice_get, ⊤}
use Rattle.std.specs.List.{AllByRecursion}
use Rattle.std.specs.Option.{ForSome}
use Rattle.std.specs.declared.option.Option.{Option}
use Rattle.clone_snapshot.specs.Snaps.{IsSnap}
use Rattle.clone_session.specs.Cloning.{IsCloning, Session}
use Rattle.clone_wire.specs.declared.frame.Frame.{Frame}
use Rattle.clone_wire.specs.declared.frame.Frame.TheVariants as frame
use Rattle.clone_wire.specs.declared.frame.Side.TheVariants.{Answer}
use Rattle.clone_calls.specs.declared.call.DonorCall.TheVariants as call
use Rattle.clone_tasks.specs.Tables.{is_done}
use Rattle.clone_tasks.specs.declared.end.CloneEnd.{CloneEnd}
use Rattle.clone_tasks.specs.declared.end.CloneEnd.TheVariants as end
use Rattle.clone_recipient.specs.Receptions.{Reception}
use Rattle.clone_network.specs.Connections.{Connection, is_open}
use Rattle.clone_network.specs.Networks.{Network, with_connection}
use Rattle.clone_engine.specs.Acts.{Act, Calls}
use Rattle.clone_engine.specs.Copying.{moment_of}
use Rattle.clone_engine.specs.Donor.{Donor, IsDonor}
use Rattle.clone_paired.specs.Lines.{connection_of}
use Rattle.clone_paired.specs.Order.{CopiesInOrder}
use Rattle.clone_paired.specs.Own.{own_session}
use Rattle.clone_paired.specs.Paired.{IsPaired, IsReception}
use Rattle.clone_paired.specs.Unread.{Holds}

-- ---- a clone that is turned away

abbrev pub IsRefusal : Frame → Type 0
IsRefusal (frame.Refused cause) = ⊤
IsRefusal other = ⊥

-- THE DONOR HAS REFUSED THE CLONE'S SESSION, for another stood: the loop of its end of task 0's
-- connection is over, and the refusal lies unread, or was lost on its way. But for that the two are
-- paired.
pub record IsTurnedAway (session : Option Session) (r : Reception) (n : Network) : Type 0 where
  pub number : ℕ
  pub at : Connection
  pub has : connection_of n 0 ≡ Some number
  pub there : slice_get n.connections number ≡ Some at
  pub over : is_open at ≡ false
  pub frames : List Frame
  pub refusals : AllByRecursion IsRefusal frames
  pub unread : Holds Answer at.cut frames at.to_task
  pub but : IsPaired session r (with_connection number (record at { to_task = [] }) n)

-- ---- both

-- So the two stand: they are paired, or where another session has stood at the donor since the
-- clone began, it may be turned away.
pub data Stand (alone : Bool) (session : Option Session) (r : Reception) (n : Network)
    : Type 0 where
  paired : IsPaired session r n → Stand alone session r n
  turned_away : alone ≡ false → IsTurnedAway session r n → Stand alone session r n

-- no session of another number stands at the donor
abbrev pub IsAlone : ℕ → Donor → Type 0
IsAlone number d = IfSome d.cloning.session (λ s. s.number ≡ number)

-- so it is while stages are copied
abbrev pub StaysAlone : Reception → Donor → Type 0
StaysAlone r d = is_done r.table.phase ≡ false → IsAlone r.table.session d

-- WHILE THE CLONE GOES ON. What the donor copies is in order, no other session stands at it where
-- none has since the clone began, as long as stages are copied, and the floor that the recipient
-- keeps isn't past its position.
pub record Talks (alone : Bool) (d : Donor) (r : Reception) (n : Network) : Type 0 where
  pub reception : IsReception r
  pub order : CopiesInOrder d.cloning.session
  pub stays : alone ≡ true → StaysAlone r d
  pub floor : IfSome r.table.floor (λ kept. kept ≤ (moment_of d.engine).position)
  pub stand : Stand alone (own_session r.table.session d.cloning) r n

-- ---- around it

-- what holds of every donor, of which the disk tells what it holds
pub record IsServer (d : Donor) : Type 0 where
  pub donor : IsDonor d
  pub cloning : IsCloning d.cloning
  pub snap : ForSome d.cloning.session (λ s. IsSnap s.snap.list s.snap.chunks s.snap.room)
  pub told : IsSome d.engine.disk.told

-- the act opens no session
abbrev pub OpensNone : Act → Type 0
OpensNone (Calls (call.Init hello) given) = ⊥
OpensNone other = ⊤

-- The clone ends by no bytes that are garbled, and by a refusal only where another session has
-- stood at the donor.
abbrev pub EndsFairly : Bool → CloneEnd → Type 0
EndsFairly alone (end.Garbled kept) = ⊥
EndsFairly alone (end.Refused cause) = alone ≡ false
EndsFairly alone other = ⊤
