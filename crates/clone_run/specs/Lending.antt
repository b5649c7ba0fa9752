-- The seats that a job gets of what is shared.
use Rattle.std.specs.Prelude.{ℕ, ◌≡◌, None}
use Rattle.clone_turn.specs.Seats.{CellModel, IsOf}
use Rattle.clone_machine.specs.Sharing.{SharedDonor}
use Rattle.clone_fetching.specs.Recipients.{RecipientModel}
use Rattle.clone_links.specs.Calling.{JobSeat, Server}
use Rattle.clone_desk.specs.Desks.{DeskModel}
use Rattle.clone_copying.specs.Calls.{FetcherModel}
use Rattle.clone_copying.specs.Connecting.{DeskSeat}
use Rattle.clone_hub.specs.Gathering.{IsLent}
use Rattle.clone_run.specs.Teams.{Team}

module _ {N L R : Type 0} where
  -- the cells are the same, and so is what is to be done
  pub record IsSame (s t : Team N L R) : Type 0 where
    pub load : t.load ≡ s.load
    pub donor : t.donor.cell ≡ s.donor.cell
    pub recipient : t.recipient.cell ≡ s.recipient.cell
    pub desk : t.desk.cell ≡ s.desk.cell

  -- a seat at the donor
  pub record DonorIsLent (s : Team N L R) (cell : CellModel SharedDonor) (seat : JobSeat)
      (t : Team N L R) : Type 0 where
    pub lent : IsLent s.donor cell seat t.donor
    pub of : IsOf s.donor.cell seat
    pub rest : t ≡ record s { donor = t.donor }

  -- seats at the donor and at the desk
  pub record ServeIsLent (s : Team N L R) (server : Server) (desk_seat : DeskSeat N L)
      (t : Team N L R) : Type 0 where
    pub donor : IsLent s.donor server.cell server.seat t.donor
    pub of : IsOf s.donor.cell server.seat
    pub desk_cell : CellModel (DeskModel N L)
    pub desk : IsLent s.desk desk_cell desk_seat t.desk
    pub of_desk : IsOf s.desk.cell desk_seat
    pub rest : t ≡ record s { donor = t.donor; desk = t.desk }

  -- seats at all three
  pub record FetchIsLent (s : Team N L R) (task : ℕ) (fetcher : FetcherModel R)
      (desk_seat : DeskSeat N L) (watch : JobSeat) (t : Team N L R) : Type 0 where
    pub new : fetcher ≡ record { seat = fetcher.seat; task = task; core = None; floor = 0 }
    pub recipient_cell : CellModel (RecipientModel R)
    pub recipient : IsLent s.recipient recipient_cell fetcher.seat t.recipient
    pub of_recipient : IsOf s.recipient.cell fetcher.seat
    pub desk_cell : CellModel (DeskModel N L)
    pub desk : IsLent s.desk desk_cell desk_seat t.desk
    pub of_desk : IsOf s.desk.cell desk_seat
    pub donor_cell : CellModel SharedDonor
    pub donor : IsLent s.donor donor_cell watch t.donor
    pub of_donor : IsOf s.donor.cell watch
    pub load : t.load ≡ s.load
