-- ONE CONNECTION between a task of a requester and a donor: what was sent on it and isn't read, and
-- the donor's end of it.
use Rattle.std.specs.Prelude.{ℕ, ◌≡◌, ◌&&◌, ◌||◌, not, Bool, true, false, List, [], take}
use Rattle.std.specs.Prelude.{if◌then◌else◌}
use Rattle.clone_calls.specs.declared.answer.DonorAnswer.{DonorAnswer}
use Rattle.clone_calls.specs.declared.call.DonorCall.{DonorCall}
use Rattle.clone_serve.specs.Serving.{is_over}
use Rattle.clone_serve.specs.Stepping.{Steps}
use Rattle.clone_serve.specs.declared.doing.Doing.{Doing}
use Rattle.clone_serve.specs.declared.doing.Doing.TheVariants.{New, Serving}
use Rattle.clone_serve.specs.declared.turn.ServeAnswer.{ServeAnswer}
use Rattle.clone_serve.specs.declared.turn.ServeAnswer.TheVariants as says
use Rattle.clone_tasks.specs.declared.rule.Link.{Link}
use Rattle.clone_tasks.specs.declared.rule.Link.TheVariants.{Lost, Up}
use Rattle.clone_network.specs.declared.donor_step.DonorStep.{DonorStep}
use Rattle.clone_network.specs.declared.donor_step.DonorStep.TheVariants as step

pub record Connection : Type 0 where
  -- what was sent and isn't read, each way
  pub to_donor : List ℕ
  pub to_task : List ℕ
  -- what the donor's end is doing
  pub doing : Doing
  -- the task has it still
  pub held : Bool
  pub cut : Bool
  -- the donor's end has found it lost
  pub found_lost : Bool

-- a new one, on which its task has sent this
abbrev pub opened : List ℕ → Connection
opened sent = record {
  to_donor = sent;
  to_task = [];
  doing = New;
  held = true;
  cut = false;
  found_lost = false;
}

-- the loop of the donor's end goes on
abbrev pub is_open : Connection → Bool
is_open at = not at.found_lost && not (is_over at.doing)

-- how it looks to its task: lost where it was cut, and where the donor's end has ended
abbrev pub link_over : Connection → Link
link_over at = if at.cut || not (is_open at) then Lost else Up

-- what an end sends is put behind what isn't read, or reaches nobody
abbrev pub sent_behind : Bool → List ℕ → List ℕ
sent_behind reaches unread = if reaches then unread else []

abbrev pub unread_then : Bool → (unread sent : List ℕ) → List ℕ
unread_then reaches unread sent = if reaches then sent else unread

-- IT IS CUT: of what isn't read so much is kept, each way.
abbrev pub cut_at : (to_donor to_task : ℕ) → Connection → Connection
cut_at to_donor to_task at = record at {
  to_donor = take to_donor at.to_donor;
  to_task = take to_task at.to_task;
  cut = true;
}

-- THE TASK GIVES IT UP, and reads no more of it.
abbrev pub given_up : Connection → Connection
given_up at = record at { to_task = []; held = false }

-- what the donor sends reaches the task
abbrev pub reaches_task : Connection → Bool
reaches_task at = at.held && not at.cut

-- ---- a step of the donor's end

-- an EXECUTE is in service
abbrev pub is_serving : Doing → Bool
is_serving (Serving run work) = true
is_serving other = false

-- the donor refused, its disk failed, or there was no memory
abbrev pub was_refused : ServeAnswer → Bool
was_refused (says.Refused why) = true
was_refused says.DiskFault = true
was_refused says.NoMemory = true
was_refused other = false

-- there was nothing to do
abbrev pub is_idle : ServeAnswer → Bool
is_idle says.Idle = true
is_idle other = false

-- WHERE A LOSS IS FOUND: while an EXECUTE is in service, once the connection was cut, unless the
-- donor refused; and else where no whole command is there and the connection was cut or given up.
abbrev pub finds_loss : Connection → ServeAnswer → Bool
finds_loss at answer =
    if is_serving at.doing then at.cut && not (was_refused answer)
    else is_idle answer && (at.cut || not at.held)

abbrev pub said_as : Bool → ServeAnswer → DonorStep
said_as true answer = step.Lost
said_as false answer = step.Served answer

-- the donor's end takes a step, over something that answers a donor's calls
pub record Serves {A : Type 0} (gives : A → DonorCall → DonorAnswer → A → Type 0) (a b : A)
    (at after : Connection) (says : ServeAnswer) : Type 0 where
  pub left : List ℕ
  pub sent : List ℕ
  pub doing : Doing
  pub steps : Steps gives a b at.doing at.to_donor left (sent_behind (reaches_task at) at.to_task)
      sent doing says
  pub is : after ≡ record at {
    to_donor = left;
    to_task = unread_then (reaches_task at) at.to_task sent;
    doing = doing;
  }

-- A STEP of it, with the loss that it finds
pub record StepsEnd {A : Type 0} (gives : A → DonorCall → DonorAnswer → A → Type 0) (a b : A)
    (at after : Connection) (answer : DonorStep) : Type 0 where
  pub served : Connection
  pub says : ServeAnswer
  pub serves : Serves gives a b at served says
  pub is : after ≡ record served { found_lost = finds_loss at says }
  pub answers : answer ≡ said_as (finds_loss at says) says

-- where its loop has ended nothing is done
pub record RestsEnd {A : Type 0} (a b : A) (at after : Connection) (answer : DonorStep)
    : Type 0 where
  pub donor : b ≡ a
  pub is : after ≡ at
  pub answers : answer ≡ step.Served says.Idle

abbrev pub StepsBy : {A : Type 0} → Bool → (A → DonorCall → DonorAnswer → A → Type 0) → A → A
    → Connection → Connection → DonorStep → Type 0
StepsBy true gives a b at after answer = StepsEnd gives a b at after answer
StepsBy false gives a b at after answer = RestsEnd a b at after answer
