-- What each call of an end does to a connection.
use Rattle.std.specs.Prelude.{ℕ, ◌≡◌, ◌⊎◌, ◌<◌, min, List, ◌++◌, length, take, true}
use Rattle.clone_outside.specs.declared.link.Side.{Side}
use Rattle.clone_outside.specs.declared.link.Side.TheVariants.{Donor, Requester}
use Rattle.clone_memlink.specs.declared.connection.Connection.{Connection}
use Rattle.clone_memlink.specs.declared.connection.LinkCall.{LinkCall}
use Rattle.clone_memlink.specs.declared.connection.LinkCall.TheVariants.{Send, Receive, Close}
use Rattle.clone_memlink.specs.declared.connection.LinkAnswer.{LinkAnswer}
use Rattle.clone_memlink.specs.declared.connection.LinkAnswer.TheVariants.{Sent, Bytes, Nothing, Lost, Closed, NoMemory}
use Rattle.clone_memlink.specs.declared.piece.TheConstants.{PIECE}
use Rattle.clone_memlink.specs.Ways.{WayModel, IsCut, room_for, with_bytes}

-- what is on the way to the end of this side
abbrev pub way_to : Side → Connection → WayModel
way_to Donor s = s.to_donor
way_to Requester s = s.to_requester

abbrev pub with_way : Side → Connection → WayModel → Connection
with_way Donor s w = record s { to_donor = w }
with_way Requester s w = record s { to_requester = w }

abbrev pub other : Side → Side
other Donor = Requester
other Requester = Donor

abbrev pub IsClosed : Side → Connection → Type 0
IsClosed Donor s = s.donor_closed ≡ true
IsClosed Requester s = s.requester_closed ≡ true

abbrev pub with_closed : Side → Connection → Connection
with_closed Donor s = record s { donor_closed = true }
with_closed Requester s = record s { requester_closed = true }

-- the connection is cut, or the other end is closed
abbrev pub IsLost : Side → Connection → Type 0
IsLost side s = IsClosed (other side) s ⊎ (IsCut s.to_donor ⊎ IsCut s.to_requester)

-- the front of the bytes goes to the other end, as far as there is room and up to the cut; a loss
-- is answered exactly where there is one
abbrev pub Sends : Side → Connection → List ℕ → LinkAnswer → Connection → Type 0
Sends side s bytes (Sent n) t =
    (IsLost side s → ⊥) × (n ≡ room_for (way_to (other side) s) (length bytes))
    × (t ≡ with_way (other side) s (with_bytes (way_to (other side) s) (take n bytes)))
Sends side s bytes Lost t = IsLost side s × (t ≡ s)
Sends side s bytes NoMemory t = t ≡ s
Sends side s bytes (Bytes xs) t = ⊥
Sends side s bytes Nothing t = ⊥
Sends side s bytes Closed t = ⊥

-- the bytes at the front of those that wait are received, as many as are asked for and one call
-- carries; nothing or a loss is answered exactly where no byte waits
abbrev pub Gives : WayModel → ℕ → Type 0 → LinkAnswer → WayModel → Type 0
Gives w most lost (Bytes xs) v =
    (0 < length w.waiting) × (w.waiting ≡ xs ++ v.waiting)
    × (length xs ≡ min (min most PIECE) (length w.waiting)) × (v.left ≡ w.left)
Gives w most lost Nothing v = (length w.waiting ≡ 0) × (lost → ⊥) × (v ≡ w)
Gives w most lost Lost v = (length w.waiting ≡ 0) × lost × (v ≡ w)
Gives w most lost (Sent n) v = ⊥
Gives w most lost Closed v = ⊥
Gives w most lost NoMemory v = ⊥

abbrev pub Receives : Side → Connection → ℕ → LinkAnswer → Connection → Type 0
Receives side s most answer t =
    Gives (way_to side s) most (IsLost side s) answer (way_to side t)
    × (t ≡ with_way side s (way_to side t))

abbrev pub Steps : Connection → LinkCall → LinkAnswer → Connection → Type 0
Steps s (Send side bytes) answer t = Sends side s bytes answer t
Steps s (Receive side most) answer t = Receives side s most answer t
Steps s (Close side) answer t = (answer ≡ Closed) × (t ≡ with_closed side s)
