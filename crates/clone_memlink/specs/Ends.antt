-- What the ends of a connection sent and received in a run.
use Rattle.std.specs.Prelude.{ℕ, ◌≡◌, List, [], ◌∷◌, ◌++◌, take}
use Rattle.clone_outside.specs.declared.link.Side.{Side}
use Rattle.clone_outside.specs.declared.link.Side.TheVariants.{Donor, Requester}
use mathlib.Core.List.{IsPrefix}
use Rattle.clone_turn.specs.declared.view.Entry.{Entry}
use Rattle.clone_turn.specs.Runs.{end_of}
use Rattle.clone_memlink.specs.declared.connection.Connection.{Connection}
use Rattle.clone_memlink.specs.declared.connection.LinkCall.{LinkCall}
use Rattle.clone_memlink.specs.declared.connection.LinkCall.TheVariants.{Send, Receive, Close}
use Rattle.clone_memlink.specs.Connections.{way_to, other}
use Rattle.clone_memlink.specs.declared.connection.LinkAnswer.{LinkAnswer}
use Rattle.clone_memlink.specs.declared.connection.LinkAnswer.TheVariants.{Sent, Bytes, Nothing, Lost, Closed, NoMemory}

abbrev pub LinkEntry : Type 0
LinkEntry = Entry Connection LinkCall LinkAnswer

abbrev pub count_of : LinkAnswer → ℕ
count_of (Sent n) = n
count_of (Bytes xs) = 0
count_of Nothing = 0
count_of Lost = 0
count_of Closed = 0
count_of NoMemory = 0

abbrev pub bytes_of : LinkAnswer → List ℕ
bytes_of (Sent n) = []
bytes_of (Bytes xs) = xs
bytes_of Nothing = []
bytes_of Lost = []
bytes_of Closed = []
bytes_of NoMemory = []

-- the end that made the call
abbrev pub side_of : LinkCall → Side
side_of (Send side bytes) = side
side_of (Receive side most) = side
side_of (Close side) = side

-- the bytes that a call sent
abbrev pub sent_of : LinkCall → LinkAnswer → List ℕ
sent_of (Send side bytes) answer = take (count_of answer) bytes
sent_of (Receive side most) answer = []
sent_of (Close side) answer = []

-- the bytes that a call received
abbrev pub received_of : LinkCall → LinkAnswer → List ℕ
received_of (Send side bytes) answer = []
received_of (Receive side most) answer = bytes_of answer
received_of (Close side) answer = []

-- these bytes where both sides are one, and else none
abbrev pub where_same : Side → Side → List ℕ → List ℕ
where_same Donor Donor bytes = bytes
where_same Donor Requester bytes = []
where_same Requester Donor bytes = []
where_same Requester Requester bytes = bytes

-- all that the end of this side sent in a run
abbrev pub sent_in : Side → List LinkEntry → List ℕ
sent_in side [] = []
sent_in side (e ∷ es) =
    where_same side (side_of e.call) (sent_of e.call e.answer) ++ sent_in side es

-- all that it received
abbrev pub received_in : Side → List LinkEntry → List ℕ
received_in side [] = []
received_in side (e ∷ es) =
    where_same side (side_of e.call) (received_of e.call e.answer) ++ received_in side es

-- what was on the way to an end, and then what the other end sent in the run, is what the end
-- received and what is then on the way
abbrev pub CarriesAll : Connection → List LinkEntry → Type 0
CarriesAll first run =
    (side : Side)
    → (way_to side first).waiting ++ sent_in (other side) run
    ≡ received_in side run ++ (way_to side (end_of first run)).waiting

-- from a connection with nothing on the way: what each end received begins what the other sent
abbrev pub IsHonest : Connection → List LinkEntry → Type 0
IsHonest first run =
    (side : Side) → (way_to side first).waiting ≡ []
    → IsPrefix (received_in side run) (sent_in (other side) run)
