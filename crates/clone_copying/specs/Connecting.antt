-- The connections of a task, by its calls of the desk.
use Rattle.std.specs.Prelude.{ℕ, ◌≡◌, List, [], ◌∷◌, ◌++◌, Ok, Err}
use Rattle.clone_outside.specs.declared.Refusal.{Refusal}
use Rattle.clone_outside.specs.declared.Refusal.TheVariants.{Fault}
use Rattle.clone_outside.specs.declared.link.Side.TheVariants.{Requester}
use Rattle.clone_outside.specs.declared.link.Link.{Ghosts as Link}
use Rattle.clone_turn.specs.Runs.{calls}
use Rattle.clone_turn.specs.Seats.{SeatModel}
use Rattle.clone_desk.specs.declared.machine.DeskAnswer.{DeskAnswer}
use Rattle.clone_desk.specs.declared.machine.DeskAnswer.TheVariants as answer
use Rattle.clone_desk.specs.declared.machine.DeskCall.{DeskCall}
use Rattle.clone_desk.specs.declared.machine.DeskCall.TheVariants as call
use Rattle.clone_desk.specs.Desks.{DeskModel}
use Rattle.clone_desk.specs.Steps.{CallFits, DeskEntry}
use Rattle.clone_copying.specs.Calling.{FitsNow, IsOne}

abbrev pub DeskSeat : (N L : Type 0) → Type 0
DeskSeat N L = SeatModel (DeskModel N L) (DeskCall L) (DeskAnswer L)

module _ {N L : Type 0} where
  -- AN END IS LENT: it was made at some place, and was given back there
  abbrev pub Lends : ℕ → L × L → List (DeskEntry N L) → Type 0
  Lends task end made =
      (place : ℕ) × (pair : List (DeskEntry N L)) × (back : List (DeskEntry N L))
      × (made ≡ pair ++ back) × IsOne (call.Pair task) (answer.Paired (Ok (place, end.0))) pair
      × IsOne (call.GiveBack place Requester end.1) answer.Kept back

  -- no connection was asked for at last, or one was and was refused
  pub data AsksNoMore (task : ℕ) (made : List (DeskEntry N L)) : Type 0 where
    none : made ≡ [] → AsksNoMore task made
    refused : (cause : Refusal) → IsOne (call.Pair task) (answer.Paired (Err cause)) made
        → AsksNoMore task made

  -- these ends were lent, one after the other
  abbrev pub AreLent : ℕ → List (L × L) → List (DeskEntry N L) → Type 0
  AreLent task [] made = made ≡ []
  AreLent task (end ∷ ends) made =
      (now : List (DeskEntry N L)) × (later : List (DeskEntry N L))
      × (made ≡ now ++ later) × Lends task end now × AreLent task ends later

  -- A TASK CONNECTS: the calls of the desk lent it these ends, and perhaps the last was refused
  pub record Connects (task : ℕ) (ends : List (L × L)) (made : List (DeskEntry N L))
      : Type 0 where
    pub lent : List (DeskEntry N L)
    pub last : List (DeskEntry N L)
    pub is : made ≡ lent ++ last
    pub ends_lent : AreLent task ends lent
    pub no_more : AsksNoMore task last

  -- the last connection that the seat asked for was refused by a fault
  abbrev pub WasRefused : ℕ → DeskSeat N L → Type 0
  WasRefused task v =
      (before : List (DeskEntry N L)) × (last : List (DeskEntry N L))
      × (calls v.seen ≡ before ++ last)
      × IsOne (call.Pair task) (answer.Paired (Err Fault)) last

module _ {N L X : Type 0} (link : Link L X) where
  -- the end, with whatever passed over it, may be given back at the place
  abbrev pub IsWelcome : DeskSeat N L → ℕ → L → Type 0
  IsWelcome v place made =
      (end : L) → link.name end ≡ link.name made → link.side end ≡ Requester
      → FitsNow (CallFits link) (call.GiveBack place Requester end) v
