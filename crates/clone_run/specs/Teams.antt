-- What the jobs of a run share, and what the run has gathered of their calls.
use Rattle.std.specs.Prelude.{◌≡◌, List, [], ◌∷◌, ◌++◌}
use Rattle.clone_machine.specs.Running.{JobEntry}
use Rattle.clone_machine.specs.Sharing.{SharedDonor}
use Rattle.clone_machine.specs.declared.calls.JobAnswer.{JobAnswer}
use Rattle.clone_machine.specs.declared.calls.JobCall.{JobCall}
use Rattle.clone_fetching.specs.Recipients.{RecipientModel}
use Rattle.clone_fetching.specs.declared.machine.RecipientAnswer.{RecipientAnswer}
use Rattle.clone_fetching.specs.declared.machine.RecipientCall.{RecipientCall}
use Rattle.clone_copying.specs.Calls.{RecipientEntry}
use Rattle.clone_desk.specs.Desks.{DeskModel}
use Rattle.clone_desk.specs.Steps.{DeskEntry}
use Rattle.clone_desk.specs.declared.machine.DeskAnswer.{DeskAnswer}
use Rattle.clone_desk.specs.declared.machine.DeskCall.{DeskCall}
use Rattle.clone_hub.specs.Gathering.{Gathers, HubModel}
use Rattle.clone_run.specs.declared.load.Load.{Load}

-- the hub of each of the three that jobs share
abbrev pub DonorHub : Type 0
DonorHub = HubModel SharedDonor JobCall JobAnswer

abbrev pub RecipientHub : (R : Type 0) → Type 0
RecipientHub R = HubModel (RecipientModel R) RecipientCall RecipientAnswer

abbrev pub DeskHub : (N L : Type 0) → Type 0
DeskHub N L = HubModel (DeskModel N L) (DeskCall L) (DeskAnswer L)

-- a donor, a recipient and a desk that jobs share, and what is to be done
pub record Team (N L R : Type 0) : Type 0 where
  pub load : Load
  pub donor : DonorHub
  pub recipient : RecipientHub R
  pub desk : DeskHub N L

-- calls, seat by seat
pub record Parts (N L R : Type 0) : Type 0 where
  pub donor : List (List JobEntry)
  pub recipient : List (List (RecipientEntry R))
  pub desk : List (List (DeskEntry N L))

module _ {N L R : Type 0} where
  abbrev pub no_parts : Parts N L R
  no_parts = record { donor = []; recipient = []; desk = [] }

  -- with the calls of one seat more, or of several
  abbrev pub with_donor : Parts N L R → List JobEntry → Parts N L R
  with_donor p made = record p { donor = p.donor ++ made ∷ [] }

  abbrev pub with_served : Parts N L R → List JobEntry → List (DeskEntry N L) → Parts N L R
  with_served p made asked =
      record p { donor = p.donor ++ made ∷ []; desk = p.desk ++ asked ∷ [] }

  abbrev pub with_fetched : Parts N L R → List (RecipientEntry R) → List (DeskEntry N L)
      → List JobEntry → Parts N L R
  with_fetched p stepped asked watched = record {
    donor = p.donor ++ watched ∷ [];
    recipient = p.recipient ++ stepped ∷ [];
    desk = p.desk ++ asked ∷ [];
  }

  -- THE TEAM GATHERS these calls
  pub record Gathered (p : Parts N L R) (s t : Team N L R) : Type 0 where
    pub load : t.load ≡ s.load
    pub donor : Gathers p.donor s.donor t.donor
    pub recipient : Gathers p.recipient s.recipient t.recipient
    pub desk : Gathers p.desk s.desk t.desk
