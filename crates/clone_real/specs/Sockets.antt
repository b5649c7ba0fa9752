-- What contracts see of connections of the system. Of the bytes they see nothing.
use Rattle.std.specs.Prelude.{ℕ, Bool, true, Result, Ok, Err}
use Rattle.clone_outside.specs.Causes.{raised}
use Rattle.clone_outside.specs.declared.link.LinkRefusal.{LinkRefusal}
use Rattle.clone_outside.specs.declared.link.LinkRefusal.TheVariants as refused
use Rattle.clone_outside.specs.declared.link.Received.{Received}
use Rattle.clone_outside.specs.declared.link.Received.TheVariants as got
use Rattle.clone_outside.specs.declared.link.Side.{Side}

-- the number of its connection, which end it is, whether it is open, and how often it found a loss
pub record SocketEndModel : Type 0 where
  pub number : ℕ
  pub side : Side
  pub is_open : Bool
  pub faults : ℕ

-- an end of the connection with this number, open and without faults
abbrev pub new_end : ℕ → Side → SocketEndModel
new_end number side = record { number = number; side = side; is_open = true; faults = 0 }

-- the count after a send that was answered so: a loss raises it by one
abbrev pub faults_sent : {T : Type 0} → ℕ → Result T LinkRefusal → ℕ
faults_sent faults (Ok x) = faults
faults_sent faults (Err refused.Lost) = raised faults
faults_sent faults (Err refused.NoMemory) = faults

-- the end after it, of which nothing else that is seen has changed
abbrev pub after_send : {T : Type 0} → SocketEndModel → Result T LinkRefusal → SocketEndModel
after_send end answer = record end { faults = faults_sent end.faults answer }

-- the same of a receive, which answers a loss in place of bytes
abbrev pub faults_received : ℕ → Result Received LinkRefusal → ℕ
faults_received faults (Ok (got.Bytes n)) = faults
faults_received faults (Ok got.Nothing) = faults
faults_received faults (Ok got.Lost) = raised faults
faults_received faults (Err e) = faults

abbrev pub after_receive : SocketEndModel → Result Received LinkRefusal → SocketEndModel
after_receive end answer = record end { faults = faults_received end.faults answer }

-- how many connections it made, of which the first has number 0; how many of them were not settled;
-- how many are planned to be cut; and how often it failed
pub record SocketNetModel : Type 0 where
  pub made : ℕ
  pub unsettled : ℕ
  pub planned : ℕ
  pub faults : ℕ

-- it made no connection
abbrev pub fresh_net : SocketNetModel
fresh_net = record { made = 0; unsettled = 0; planned = 0; faults = 0 }
