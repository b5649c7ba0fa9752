-- The record of a connection, with the ends that are at the desk.
use Rattle.std.specs.Prelude.{ℕ, ◌≡◌, Bool, true, false, Some, None, IfSome, ⊤}
use Rattle.std.specs.declared.option.Option.{Option}
use Rattle.clone_outside.specs.declared.link.Side.{Side}
use Rattle.clone_outside.specs.declared.link.Side.TheVariants.{Donor, Requester}
use Rattle.clone_outside.specs.declared.link.Link.{Ghosts}
use Rattle.clone_outside.specs.Link.{IsUnused}
use Rattle.clone_runs.specs.Desk.{Waiting, waits_for}
use Rattle.clone_desk.specs.declared.record.DonorEnd.{DonorEnd}
use Rattle.clone_desk.specs.declared.record.DonorEnd.TheVariants.{Waits, Out, Back}
use Rattle.clone_desk.specs.declared.record.Record.{Record}

module _ {L : Type 0} where
  abbrev pub does_wait : DonorEnd L → Bool
  does_wait (Waits e) = true
  does_wait Out = false
  does_wait (Back e) = false

  -- the end that waits
  abbrev pub end_waiting : DonorEnd L → Option L
  end_waiting (Waits e) = Some e
  end_waiting Out = None
  end_waiting (Back e) = None

  -- the connection as the runs of a desk have it
  abbrev pub waiting_of : Record L → Waiting
  waiting_of r = record { task = r.task; waits = does_wait r.donor }

  abbrev pub does_wait_for : ℕ → Record L → Bool
  does_wait_for task r = waits_for task (waiting_of r)

  abbrev pub handed_out : Record L → Record L
  handed_out r = record r { donor = Out }

  -- an end that comes back is kept where none of its side is here
  abbrev pub or_back : DonorEnd L → L → DonorEnd L
  or_back (Waits e) end = Waits e
  or_back Out end = Back end
  or_back (Back e) end = Back e

  abbrev pub or_some : Option L → L → Option L
  or_some None end = Some end
  or_some (Some e) end = Some e

  abbrev pub with_end : Side → L → Record L → Record L
  with_end Donor end r = record r { donor = or_back r.donor end }
  with_end Requester end r = record r { requester = or_some r.requester end }

module _ {L X : Type 0} (link : Ghosts L X) where
  -- the name of the record's connection
  abbrev pub name_of : Record L → X
  name_of r = link.name r.about.value

  -- an end of the connection, on this side
  pub record IsEnd (name : X) (side : Side) (end : L) : Type 0 where
    pub name_is : link.name end ≡ name
    pub side_is : link.side end ≡ side

  -- an end as it was made: it is open, and nothing passed over it
  pub record IsNew (name : X) (side : Side) (end : L) : Type 0 where
    pub is : IsEnd name side end
    pub opened : link.is_open end ≡ true
    pub sent : IsUnused (link.sent end)
    pub received : IsUnused (link.received end)

  abbrev pub IsDonorEnd : X → DonorEnd L → Type 0
  IsDonorEnd name (Waits e) = IsNew name Donor e
  IsDonorEnd name Out = ⊤
  IsDonorEnd name (Back e) = IsEnd name Donor e

  -- THE ENDS that are here are those of the connection, each on its side
  pub record HasEnds (r : Record L) : Type 0 where
    pub donor : IsDonorEnd (name_of r) r.donor
    pub requester : IfSome r.requester (IsEnd (name_of r) Requester)
