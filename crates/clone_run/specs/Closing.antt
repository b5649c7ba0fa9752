-- The team of a run, as it is assembled and as its cells are closed.
use Rattle.std.specs.Prelude.{◌≡◌}
use Rattle.clone_outside.specs.DiskCalls.{DiskState}
use Rattle.clone_outside.specs.declared.link.Link.{Ghosts as Link}
use Rattle.clone_outside.specs.declared.link.Net.{Ghosts as Net}
use Rattle.clone_turn.specs.Seats.{ClosesAt, first_seat}
use Rattle.clone_machine.specs.Sharing.{Steps}
use Rattle.clone_fetching.specs.Recipients.{RecipientSteps}
use Rattle.clone_desk.specs.Steps.{DeskSteps}
use Rattle.clone_hub.specs.Gathering.{HubModel}
use Rattle.clone_run.specs.declared.load.Load.{Load}
use Rattle.clone_run.specs.Ran.{Shared}
use Rattle.clone_run.specs.Teams.{Team}

-- a hub at a new cell, with the whole share
pub record IsNewHub {S C A : Type 0} (first : S) (h : HubModel S C A) : Type 0 where
  pub first_is : h.cell.first ≡ first
  pub whole : h.seat ≡ first_seat h.cell

module _ {N L R : Type 0} where
  -- THE TEAM IS ASSEMBLED: it has the three, and each is as it was
  pub record IsAssembled (load : Load) (s : Shared N L R) (team : Team N L R) : Type 0 where
    pub load_is : team.load ≡ load
    pub donor : IsNewHub s.donor team.donor
    pub recipient : IsNewHub s.recipient team.recipient
    pub desk : IsNewHub s.desk team.desk

  module _ {X : Type 0} (net : Net N L X) (link : Link L X) (state : R → DiskState) where
    -- ITS CELLS ARE CLOSED: so the three are left
    pub record Closes (team : Team N L R) (t : Shared N L R) : Type 0 where
      pub donor : ClosesAt Steps team.donor.cell.first team.donor.seat t.donor
      pub recipient : ClosesAt (RecipientSteps state) team.recipient.cell.first
          team.recipient.seat t.recipient
      pub desk : ClosesAt (DeskSteps net link) team.desk.cell.first team.desk.seat t.desk
