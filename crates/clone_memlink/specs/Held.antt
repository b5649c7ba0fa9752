-- What contracts see of an end in memory, and what its calls did in the run of its connection.
use Rattle.std.specs.Prelude.{ℕ, ◌≡◌, Bool, true, List, [], ◌∷◌, ◌++◌, take, Result, Ok, Err}
use Rattle.clone_outside.specs.declared.link.Side.{Side}
use Rattle.clone_outside.specs.declared.link.Received.{Received}
use Rattle.clone_outside.specs.declared.link.Received.TheVariants as got
use Rattle.clone_outside.specs.declared.link.LinkRefusal.{LinkRefusal}
use Rattle.clone_outside.specs.declared.link.LinkRefusal.TheVariants as refused
use Rattle.clone_outside.specs.Causes.{raised}
use Rattle.clone_turn.specs.Runs.{IsLegalRun, end_of, entries, calls}
use Rattle.clone_turn.specs.Seats.{CellModel, SeatModel, IsOf}
use Rattle.clone_memlink.specs.declared.connection.Connection.{Connection}
use Rattle.clone_memlink.specs.declared.connection.LinkCall.{LinkCall}
use Rattle.clone_memlink.specs.declared.connection.LinkAnswer.{LinkAnswer}
use Rattle.clone_memlink.specs.declared.connection.LinkAnswer.TheVariants.{Bytes, Nothing, Lost, NoMemory}
use Rattle.clone_memlink.specs.Connections.{Steps}
use Rattle.clone_memlink.specs.Ends.{LinkEntry, side_of, sent_in, received_in}

-- the connection, by its cell and its first state; what the end has seen of its run, with the calls
-- that are its own; and how often it found a loss
pub record EndModel : Type 0 where
  pub name : CellModel Connection
  pub side : Side
  pub seat : SeatModel Connection LinkCall LinkAnswer
  pub is_open : Bool
  pub faults : ℕ

-- all that the end sent, and all that it received, by its own calls
abbrev pub sent_by : EndModel → List ℕ
sent_by v = sent_in v.side (calls v.seat.seen)

abbrev pub received_by : EndModel → List ℕ
received_by v = received_in v.side (calls v.seat.seen)

-- each call is of this side
abbrev pub MadeBy : Side → List LinkEntry → Type 0
MadeBy side [] = Unit {0}
MadeBy side (e ∷ es) = (side_of e.call ≡ side) × MadeBy side es

-- one half of the right to call a connection that began with nothing on the way: each call that was
-- made by it is of this side
pub record IsHalf (cell : CellModel Connection) (side : Side)
    (seat : SeatModel Connection LinkCall LinkAnswer) : Type 0 where
  pub of : IsOf cell seat
  pub empty : (cell.first.to_donor.waiting ≡ []) × (cell.first.to_requester.waiting ≡ [])
  pub half : (seat.part ≡ 1) × (seat.halvings ≡ 1)
  pub own : MadeBy side (calls seat.seen)

-- the end has seen more of the run, from what it had seen
abbrev pub Sees : EndModel → List (LinkEntry × Bool) → EndModel → Type 0
Sees v more w =
    (w.seat ≡ record v.seat { seen = v.seat.seen ++ more })
    × IsLegalRun Steps (end_of v.name.first (entries v.seat.seen)) (entries more)

-- the last entry is the end's own, with this answer
abbrev pub EndsWith : LinkAnswer → List (LinkEntry × Bool) → Type 0
EndsWith answer more =
    (before : List (LinkEntry × Bool)) × (e : LinkEntry) × (more ≡ before ++ (e, true) ∷ [])
    × (e.answer ≡ answer)

-- a refusal is what the end's last call was answered
abbrev pub IsToldBy : {T : Type 0} → Result T LinkRefusal → List (LinkEntry × Bool) → Type 0
IsToldBy (Ok x) more = Unit {0}
IsToldBy (Err refused.Lost) more = EndsWith Lost more
IsToldBy (Err refused.NoMemory) more = EndsWith NoMemory more

-- the end saw more of the run, and by its calls there it sent these bytes and received none
abbrev pub SendsBytes : {T : Type 0} → EndModel → Result T LinkRefusal → List ℕ → EndModel → Type 0
SendsBytes v result bytes w =
    (more : List (LinkEntry × Bool)) × Sees v more w × IsToldBy result more
    × (sent_in v.side (calls more) ≡ bytes) × (received_in v.side (calls more) ≡ [])

-- so many bytes from the front, or none where it was refused
abbrev pub SendsFront : EndModel → List ℕ → Result ℕ LinkRefusal → EndModel → Type 0
SendsFront v from (Ok n) w = SendsBytes v (Ok n) (take n from) w
SendsFront v from (Err e) w = SendsBytes {T = ℕ} v (Err e) [] w

-- what the connection answered to a receive that was answered so
abbrev pub told_to : Result Received LinkRefusal → List ℕ → LinkAnswer
told_to (Ok (got.Bytes n)) into = Bytes (take n into)
told_to (Ok got.Nothing) into = Nothing
told_to (Ok got.Lost) into = Lost
told_to (Err e) into = NoMemory

-- a loss is counted
abbrev pub faults_sent : {T : Type 0} → Result T LinkRefusal → ℕ → ℕ
faults_sent (Ok x) count = count
faults_sent (Err refused.Lost) count = raised count
faults_sent (Err refused.NoMemory) count = count

abbrev pub faults_received : Result Received LinkRefusal → ℕ → ℕ
faults_received (Ok (got.Bytes n)) count = count
faults_received (Ok got.Nothing) count = count
faults_received (Ok got.Lost) count = raised count
faults_received (Err e) count = count
