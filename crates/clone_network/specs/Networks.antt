-- THE CONNECTIONS between a donor and the tasks of a requester, numbered in the order in which the
-- tasks connected.
use Rattle.std.specs.Prelude.{ℕ, ◌≡◌, ◌<◌, ◌≤◌, ◌++◌, Bool, true, false, List, [], ◌∷◌, length}
use Rattle.std.specs.Prelude.{None, Some, replicate, slice_set, slice_get, if◌then◌else◌}
use Rattle.std.specs.Prelude.{MatchOption, map, not}
use Rattle.std.specs.Option.{IfSome, option_and_then, option_map_or}
use Rattle.std.specs.declared.option.Option.{Option}
use Rattle.clone_calls.specs.declared.answer.DonorAnswer.{DonorAnswer}
use Rattle.clone_calls.specs.declared.call.DonorCall.{DonorCall}
use Rattle.clone_outside.specs.DiskCalls.{DiskState}
use Rattle.clone_serve.specs.declared.turn.ServeAnswer.TheVariants as says
use Rattle.clone_tasks.specs.Rules.{rule_at}
use Rattle.clone_chunk.specs.declared.copy_stage.CopyStage.{CopyStage}
use Rattle.clone_tasks.specs.Tables.{Table, incarnation_of}
use Rattle.clone_tasks.specs.declared.rule.Link.{Link}
use Rattle.clone_tasks.specs.declared.rule.Link.TheVariants.{Absent}
use Rattle.clone_recipient.specs.Receptions.{Reception}
use Rattle.clone_fetch.specs.Fetching as fetching
use Rattle.clone_fetch.specs.Fetching.{made_by, ready_of, requester}
use Rattle.clone_fetch.specs.declared.answer.TaskAnswer.{TaskAnswer}
use Rattle.clone_fetch.specs.declared.answer.TaskAnswer.TheVariants as told
use Rattle.clone_network.specs.Connections.{Connection, StepsBy, given_up, is_open}
use Rattle.clone_network.specs.Connections.{link_over, opened, sent_behind, unread_then}
use Rattle.clone_network.specs.declared.donor_step.DonorStep.{DonorStep}
use Rattle.clone_network.specs.declared.donor_step.DonorStep.TheVariants as step

-- a task's side: the incarnation in which it connected last, and the connection that it has
pub record Seat : Type 0 where
  pub made : Option ℕ
  pub connection : Option ℕ

pub record Network : Type 0 where
  pub connections : List Connection
  pub seats : List Seat

-- so many tasks, none of which has connected yet
abbrev pub unconnected : ℕ → Network
unconnected tasks = record {
  connections = [];
  seats = replicate tasks (record { made = None; connection = None });
}

abbrev pub with_connection : ℕ → Connection → Network → Network
with_connection number at n = record n { connections = slice_set n.connections number at }

abbrev pub with_seat : ℕ → Seat → Network → Network
with_seat task seat n = record n { seats = slice_set n.seats task seat }

-- ---- what a network keeps

-- what a task has is a connection that is there
abbrev pub HasIts : ℕ → Seat → Type 0
HasIts count seat = IfSome seat.connection (λ number. number < count)

-- ---- giving connections up

abbrev pub given_up_at : Option ℕ → List Connection → List Connection
given_up_at None connections = connections
given_up_at (Some number) connections = option_map_or
    (λ at. slice_set connections number (given_up at)) (slice_get connections number) connections

-- each task gives its connection up
abbrev pub all_given_up : List Seat → List Connection → List Connection
all_given_up [] connections = connections
all_given_up (seat ∷ seats) connections =
    all_given_up seats (given_up_at seat.connection connections)

abbrev pub vacated : Seat → Seat
vacated seat = record seat { connection = None }

-- one task does
abbrev pub gives_up : ℕ → Seat → Network → Network
gives_up task seat n = record {
  connections = given_up_at seat.connection n.connections;
  seats = slice_set n.seats task (vacated seat);
}

-- THE TASKS CONNECT AGAIN after a loss: none has its connection any more.
abbrev pub hung_up : Network → Network
hung_up n = record { connections = all_given_up n.seats n.connections; seats = map vacated n.seats }

-- ---- a step of a task

abbrev pub after_answer : TaskAnswer → Network → Network
after_answer (told.Lost losses) n = hung_up n
after_answer other n = n

-- a step of a task over its connection, on which what it sends may reach nobody
pub record Fetches (task floor : ℕ) (made after_made : Option ℕ) (at after : Connection)
    (r s : Reception) (d e : DiskState) (answer : TaskAnswer) : Type 0 where
  pub received : List ℕ
  pub sent : List ℕ
  pub steps : fetching.StepsBy (rule_at made r.table task (link_over at)) (link_over at) task floor
      (requester r d at.to_task (sent_behind (not at.cut) at.to_donor))
      (requester s e received sent) answer
  pub is : after ≡ record at {
    to_donor = unread_then (not at.cut) at.to_donor sent;
    to_task = received;
  }
  pub made_is : after_made
      ≡ made_by (rule_at made r.table task (link_over at)) (incarnation_of r.table) made

-- a frame was sent
abbrev pub sends : TaskAnswer → Bool
sends (told.Sent code) = true
sends other = false

-- A step without a connection: the frame that is sent is the first on a new one.
pub record Connects (task floor : ℕ) (seat after : Seat) (r s : Reception) (d e : DiskState)
    (old new : List Connection) (answer : TaskAnswer) : Type 0 where
  pub received : List ℕ
  pub sent : List ℕ
  pub steps : fetching.StepsBy (rule_at seat.made r.table task Absent) Absent task floor
      (requester r d [] []) (requester s e received sent) answer
  pub connections : new ≡ (if sends answer then old ++ opened sent ∷ [] else old)
  pub is : after ≡ record {
    made = made_by (rule_at seat.made r.table task Absent) (incarnation_of r.table) seat.made;
    connection = if sends answer then Some (length old) else None;
  }

-- nothing was done, for there is no such task, or there was no memory
pub record Rests (r s : Reception) (d e : DiskState) (n m : Network) : Type 0 where
  pub reception : s ≡ r
  pub disk : e ≡ d
  pub network : m ≡ n

-- A STEP OF A TASK, by the connection that it has
pub data StepsTask (task floor : ℕ) (r s : Reception) (d e : DiskState) (n m : Network)
    (answer : TaskAnswer) : Type 0 where
  over : (seat : Seat) → (number : ℕ) → (at after : Connection) → (made : Option ℕ)
      → slice_get n.seats task ≡ Some seat → seat.connection ≡ Some number
      → slice_get n.connections number ≡ Some at
      → Fetches task floor seat.made made at after r s d e answer
      → m ≡ after_answer answer (with_seat task
      (record { made = made; connection = Some number }) (with_connection number after n))
      → StepsTask task floor r s d e n m answer
  apart : (seat after : Seat) → (connections : List Connection)
      → slice_get n.seats task ≡ Some seat → seat.connection ≡ None
      → Connects task floor seat after r s d e n.connections connections answer
      → m ≡ after_answer answer
      (with_seat task after (record n { connections = connections }))
      → StepsTask task floor r s d e n m answer
  absent : slice_get n.seats task ≡ None → Rests r s d e n m → answer ≡ told.Idle
      → StepsTask task floor r s d e n m answer
  no_room : Rests r s d e n m → answer ≡ told.NoMemory
      → StepsTask task floor r s d e n m answer

-- the link of a task
abbrev pub link_of : List Connection → Option ℕ → Link
link_of connections None = Absent
link_of connections (Some number) =
    option_map_or link_over (slice_get connections number) Absent

-- THE STAGE that task 0 would acknowledge by its next step
abbrev pub ready_in : Network → Table → Option CopyStage
ready_in n t = option_and_then
    (λ seat. ready_of (rule_at seat.made t 0 (link_of n.connections seat.connection)))
    (slice_get n.seats 0)

-- ---- a step of the donor

-- ON A CONNECTION with this number, where there is one
abbrev pub StepsDonor : {A : Type 0} → (A → DonorCall → DonorAnswer → A → Type 0) → A → A → ℕ
    → Network → Network → DonorStep → Type 0
StepsDonor gives a b number n m answer = MatchOption (slice_get n.connections number)
    ((b ≡ a) × (m ≡ n) × (answer ≡ step.Served says.Idle))
    (λ (at : Connection). (after : Connection)
    × StepsBy (is_open at) gives a b at after answer × (m ≡ with_connection number after n))

-- ---- cuts, and bytes that nobody sent

-- the connection is there and its task has it still
abbrev pub is_connected : List Connection → ℕ → Bool
is_connected connections number =
    option_map_or (λ at. at.held) (slice_get connections number) false

-- what becomes of the connection with this number, where its task has it still
abbrev pub on_connected : ℕ → (Connection → Connection) → Network → Network
on_connected number change n = option_map_or
    (λ at. if at.held then with_connection number (change at) n else n)
    (slice_get n.connections number) n

abbrev pub fed : List ℕ → Connection → Connection
fed bytes at = record at { to_task = at.to_task ++ bytes }

-- ---- the ends that are open

abbrev pub is_open_at : List Connection → ℕ → Bool
is_open_at connections number = option_map_or is_open (slice_get connections number) false

-- none of the connections between these numbers is open at the donor's end
abbrev pub AreEnded : List Connection → (low high : ℕ) → Type 0
AreEnded connections low high =
    (number : ℕ) → low ≤ number → number < high → is_open_at connections number ≡ false
