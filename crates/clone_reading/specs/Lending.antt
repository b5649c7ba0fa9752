-- How a seat at the desk uses it: ends of connections are lent to it, each at a place, and each is
-- given back before the seat makes its next call there.
use Rattle.std.specs.Prelude.{ℕ, ◌≡◌, List, [], ◌∷◌, Ok, Err, Some, None}
use Rattle.clone_outside.specs.declared.Refusal.{Refusal}
use Rattle.clone_outside.specs.declared.link.Side.{Side}
use Rattle.clone_outside.specs.declared.link.Side.TheVariants.{Donor, Requester}
use Rattle.clone_desk.specs.declared.machine.DeskAnswer.{DeskAnswer}
use Rattle.clone_desk.specs.declared.machine.DeskAnswer.TheVariants as answer
use Rattle.clone_desk.specs.declared.machine.DeskCall.{DeskCall}
use Rattle.clone_desk.specs.declared.machine.DeskCall.TheVariants as call
use Rattle.clone_desk.specs.Steps.{DeskEntry}

-- an end that was lent: its place, as it was then, and as it was given back
pub record Lent (L : Type 0) : Type 0 where
  pub place : ℕ
  pub taken : L
  pub back : L

-- the call by which a side gets an end for a task
abbrev pub asking : {L : Type 0} → Side → ℕ → DeskCall L
asking Donor task = call.DonorEnd task
asking Requester task = call.Pair task

-- the answer that lends it
abbrev pub lending : {L : Type 0} → Side → ℕ → L → DeskAnswer L
lending Donor place end = answer.HandedOut (Some (place, end))
lending Requester place end = answer.Paired (Ok (place, end))

-- the answer lends none
abbrev pub IsNone : {L : Type 0} → Side → DeskAnswer L → Type 0
IsNone Donor given = given ≡ answer.HandedOut None
IsNone Requester given = (why : Refusal) × (given ≡ answer.Paired (Err why))

-- THE CALLS OF A SEAT: it asks for an end of its side for the task, and gets none, or it is lent one
-- and gives it back.
pub data Uses {N L : Type 0} (side : Side) (task : ℕ)
    : List (Lent L) → List (DeskEntry N L) → Type 0 where
  nothing : Uses side task [] []
  none : (lent : List (Lent L)) (e : DeskEntry N L) (asked : List (DeskEntry N L))
      → e.call ≡ asking side task → IsNone side e.answer → Uses side task lent asked
      → Uses side task lent (e ∷ asked)
  lends : (one : Lent L) (lent : List (Lent L)) (e f : DeskEntry N L)
      (asked : List (DeskEntry N L)) → e.call ≡ asking side task
      → e.answer ≡ lending side one.place one.taken
      → f.call ≡ call.GiveBack one.place side one.back → f.answer ≡ answer.Kept
      → Uses side task lent asked → Uses side task (one ∷ lent) (e ∷ f ∷ asked)
