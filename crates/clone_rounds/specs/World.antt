-- The two ends of a clone without bytes: what a donor and the tasks of a recipient know, and what
-- lies unread on the connections between them.
use Rattle.std.specs.Prelude.{ℕ, ◌≡◌, ◌≢◌, ◌<◌, Bool, true, false, List, [], cond, eqb}

-- WHAT A TASK SENDS. It connects with INIT, REINIT, REINIT2 or ATTACH; later it asks for the blocks
-- of a stage, or it acknowledges a stage.
pub data Command : Type 0 where
  First : Command
  Execute : (stage : ℕ) → Command
  Acknowledge : (stage : ℕ) → Command

-- WHAT A DONOR SENDS: its stage, a block of a stage, or the END of an EXECUTE
pub data Answer : Type 0 where
  Stage : (stage : ℕ) → Answer
  Block : (stage block : ℕ) → Answer
  End : (stage : ℕ) → Answer

-- WHAT A TASK AWAITS: nothing, the STAGE that answers its first command, blocks and their END, or
-- the STAGE that answers an acknowledgement
pub data Awaited : Type 0 where
  Nothing : Awaited
  ForFirst : Awaited
  ForEnd : Awaited
  ForStage : Awaited

-- THE DONOR'S SIDE of a connection
pub data Core : Type 0 where
  -- the first command is awaited, or a later one
  New : Core
  Ready : Core
  -- an EXECUTE is served, and these blocks of the claimed chunk are still to be sent
  Serving : (stage : ℕ) (rest : List ℕ) → Core
  -- its loop has ended
  Over : Core

-- WHOSE A BLOCK of the donor's stage is
pub data Owner : Type 0 where
  -- nobody's: its chunk is free
  Free : Owner
  -- its chunk is claimed by a task, and the block is still to be sent
  Claimed : (task : ℕ) → Owner
  -- it was sent to a task
  Sent : (task : ℕ) → Owner
  -- the recipient had it when the incarnation began
  Kept : Owner

-- A SEAT: a task with its connection of the present incarnation
pub record Seat : Type 0 where
  pub connected : Bool
  pub awaits : Awaited
  -- END was taken in this stage and incarnation, and nothing was sent after it
  pub ended : Bool
  -- the connection is lost, or the donor closed it after a disk fault
  pub cut : Bool
  -- what was sent and isn't read
  pub commands : List Command
  pub answers : List Answer
  pub core : Core

-- a task without a connection
abbrev pub fresh : Seat
fresh = record {
  connected = false;
  awaits = Nothing;
  ended = false;
  cut = false;
  commands = [];
  answers = [];
  core = New;
}

-- THE TWO SIDES: what recipient and donor know
pub record Sides : Type 0 where
  -- how many tasks there are, and how many blocks each stage has
  pub tasks : ℕ
  pub size : ℕ → ℕ
  -- the recipient's stage, 0 before the first STAGE, and which blocks of the stage were taken
  pub stage : ℕ
  pub taken : ℕ → Bool
  -- task 0 took a STAGE in this incarnation
  pub joined : Bool
  -- the stage was acknowledged, in whatever incarnation; INIT counts for stage 0, which is empty
  pub acknowledged : Bool
  -- the donor has the present incarnation
  pub met : Bool
  -- the donor's stage, 0 without a session, and its blocks
  pub at : ℕ
  pub owner : ℕ → Owner

-- A STATE OF THE CLONE, while it goes on
pub record World : Type 0 where
  -- how many losses the clone outlasts, and how many there were
  pub limit : ℕ
  pub losses : ℕ
  pub sides : Sides
  pub seats : ℕ → Seat
  -- how many steps a donor can still make on connections of earlier incarnations, at most
  pub late : ℕ

-- one of many has another value
abbrev pub put : {A : Type 0} → (ℕ → A) → ℕ → A → ℕ → A
put f k x j = cond (eqb j k) x (f j)

-- one seat has changed
abbrev pub with_seat : World → ℕ → Seat → World
with_seat w k s = record w { seats = put w.seats k s }

-- THERE IS SUCH A TASK, and it has a connection.
pub record IsLinked (w : World) (k : ℕ) : Type 0 where
  pub task : k < w.sides.tasks
  pub connected : (w.seats k).connected ≡ true

-- each block of the recipient's stage was taken
abbrev pub AllTaken : Sides → Type 0
AllTaken a = (b : ℕ) → b < a.size a.stage → a.taken b ≡ true

-- each block of the donor's stage was sent
abbrev pub NoneLeft : Sides → Type 0
NoneLeft a = (b : ℕ) → b < a.size a.at
    → (a.owner b ≢ Free) × ((k : ℕ) → a.owner b ≢ Claimed k)

-- an EXECUTE is served
abbrev pub IsServing : Core → Type 0
IsServing New = ⊥
IsServing Ready = ⊥
IsServing (Serving stage rest) = Unit {0}
IsServing Over = ⊥

-- its loop goes on
abbrev pub IsLive : Core → Type 0
IsLive New = Unit {0}
IsLive Ready = Unit {0}
IsLive (Serving stage rest) = Unit {0}
IsLive Over = ⊥
