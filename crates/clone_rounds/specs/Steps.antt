-- THE STEPS of a clone that goes on: a task's, a donor's, and a cut. A step is there exactly where
-- its rule applies and nothing that it reads is refused or out of turn: else the clone ends.
use Rattle.std.specs.Prelude.{ℕ, suc, ◌≡◌, ◌≢◌, ◌<◌, ◌⊎◌, ◌++◌, Bool, true, false}
use Rattle.std.specs.Prelude.{List, [], ◌∷◌, cond}
use Rattle.clone_rounds.specs.World.{Command, First, Execute, Acknowledge}
use Rattle.clone_rounds.specs.World.{Answer, Stage, Block, End}
use Rattle.clone_rounds.specs.World.{Awaited, Nothing, ForFirst, ForEnd, ForStage}
use Rattle.clone_rounds.specs.World.{Core, New, Ready, Serving, Over}
use Rattle.clone_rounds.specs.World.{Owner, Free, Claimed, Sent, Kept}
use Rattle.clone_rounds.specs.World.{Seat, fresh, Sides, World, put, with_seat}
use Rattle.clone_rounds.specs.World.{IsLinked, AllTaken, NoneLeft}
use Rattle.clone_rounds.specs.Idle.{TakesPart, Connects, Loses, Acknowledges, Executes}
use Rattle.clone_rounds.specs.Idle.{Takes, Serves, Carries, FindsLoss}
use Rattle.clone_rounds.specs.Awaiting.{Has}

-- what is sent on a connection that is cut reaches nobody
abbrev pub sends : {A : Type 0} → Bool → List A → A → List A
sends cut queue x = cond cut queue (queue ++ x ∷ [])

-- ---- WHAT A TASK'S STEP LEAVES

-- a task that has connected
abbrev pub connecting : Seat
connecting = record {
  connected = true;
  awaits = ForFirst;
  ended = false;
  cut = false;
  commands = First ∷ [];
  answers = [];
  core = New;
}

-- a task that has sent a command
abbrev pub asking : Seat → Awaited → Command → Seat
asking s awaits c = record s {
  awaits = awaits;
  ended = false;
  commands = sends s.cut s.commands c;
}

-- task 0 has sent an acknowledgement
abbrev pub acknowledging : World → World
acknowledging w = record w {
  sides = record w.sides { acknowledged = true };
  seats = put w.seats 0 (asking (w.seats 0) ForStage (Acknowledge w.sides.stage));
}

-- a task that has taken a STAGE
abbrev pub takes_stage : Seat → List Answer → Seat
takes_stage s more = record s { awaits = Nothing; answers = more }

-- a task that has taken an END
abbrev pub takes_end : Seat → List Answer → Seat
takes_end s more = record s { awaits = Nothing; ended = true; answers = more }

-- a STAGE leaves the recipient's stage, and task 0 took it
abbrev pub joining : World → List Answer → World
joining w more = record w {
  sides = record w.sides { joined = true };
  seats = put w.seats 0 (takes_stage (w.seats 0) more);
}

-- a STAGE moves the recipient: of the next stage no block was taken, and no END
abbrev pub advanced : Sides → Sides
advanced a = record a {
  stage = suc a.stage;
  taken = λ b. false;
  joined = true;
  acknowledged = false;
}

-- a task that took no END of the stage
abbrev pub unended : Seat → Seat
unended s = record s { ended = false }

-- task 0 took such a STAGE
abbrev pub advancing : World → List Answer → World
advancing w more = record w {
  sides = advanced w.sides;
  seats = put (λ j. unended (w.seats j)) 0 (unended (takes_stage (w.seats 0) more));
}

-- a task took a block
abbrev pub taking : World → ℕ → ℕ → List Answer → World
taking w k b more = record w {
  sides = record w.sides { taken = put w.sides.taken b true };
  seats = put w.seats k (record (w.seats k) { answers = more });
}

-- a loss is counted, and the next incarnation begins: these blocks are still marked as taken, and
-- the donor can still make so many steps on the connections that there were
abbrev pub losing : World → (ℕ → Bool) → ℕ → World
losing w taken late = record w {
  losses = suc w.losses;
  sides = record w.sides { taken = taken; joined = false; met = false };
  seats = λ j. fresh;
  late = late;
}

-- ---- A TASK'S STEP

-- a task takes the frame at the front of what lies unread, which it awaits
pub record Hears (w : World) (k : ℕ) (awaits : Awaited) (answer : Answer) (more : List Answer)
    : Type 0 where
  pub linked : IsLinked w k
  pub part : TakesPart w k
  pub awaited : (w.seats k).awaits ≡ awaits
  pub front : (w.seats k).answers ≡ answer ∷ more

-- what a loss forgets: no block is new, and a stage of which all was taken forgets none
pub record Forgets (a : Sides) (taken : ℕ → Bool) : Type 0 where
  pub fewer : (b : ℕ) → b < a.size a.stage → taken b ≡ true → a.taken b ≡ true
  pub whole : AllTaken a → (b : ℕ) → b < a.size a.stage → taken b ≡ true

-- THE STEP of a task
pub data TaskStep (w : World) : World → Type 0 where
  connects : (k : ℕ) → Connects w k → TaskStep w (with_seat w k connecting)
  executes : (k : ℕ) → Executes w k
      → TaskStep w (with_seat w k (asking (w.seats k) ForEnd (Execute w.sides.stage)))
  acknowledges : Acknowledges w → TaskStep w (acknowledging w)
  -- STAGE after REINIT, after INIT, after an acknowledgement, and after ATTACH
  joins : (stage : ℕ) (more : List Answer) → Hears w 0 ForFirst (Stage stage) more
      → 0 < w.sides.stage → (stage ≡ w.sides.stage) ⊎ (stage ≡ suc w.sides.stage)
      → TaskStep w (joining w more)
  opens : (more : List Answer) → Hears w 0 ForFirst (Stage 1) more → w.sides.stage ≡ 0
      → TaskStep w (advancing w more)
  advances : (more : List Answer) → Hears w 0 ForStage (Stage (suc w.sides.stage)) more
      → w.sides.stage < 4 → TaskStep w (advancing w more)
  attaches : (k stage : ℕ) (more : List Answer) → k ≢ 0 → Hears w k ForFirst (Stage stage) more
      → TaskStep w (with_seat w k (takes_stage (w.seats k) more))
  takes_block : (k b : ℕ) (more : List Answer)
      → Hears w k ForEnd (Block w.sides.stage b) more → b < w.sides.size w.sides.stage
      → w.sides.taken b ≡ false → TaskStep w (taking w k b more)
  ends : (k : ℕ) (more : List Answer) → Hears w k ForEnd (End w.sides.stage) more
      → TaskStep w (with_seat w k (takes_end (w.seats k) more))
  -- a loss that the clone outlasts
  loses : (k : ℕ) → Loses w k → w.losses < w.limit → (taken : ℕ → Bool) (late : ℕ)
      → Forgets w.sides taken → TaskStep w (losing w taken late)

-- ---- WHAT A DONOR'S STEP LEAVES

-- a command was answered by a STAGE
abbrev pub answering : Seat → ℕ → Seat
answering s stage = record s {
  commands = [];
  core = Ready;
  answers = sends s.cut s.answers (Stage stage);
}

-- what was taken is kept
abbrev pub kept_of : Bool → Owner
kept_of taken = cond taken Kept Free

-- the donor has the present incarnation, these blocks of this stage, and answers the stage
abbrev pub meeting : World → ℕ → (ℕ → Owner) → World
meeting w stage owner = record w {
  sides = record w.sides { met = true; at = stage; owner = owner };
  seats = put w.seats 0 (answering (w.seats 0) stage);
}

-- the donor has moved to the next stage, and answers it
abbrev pub agreeing : World → World
agreeing w = record w {
  sides = record w.sides { at = suc w.sides.at; owner = λ b. Free };
  seats = put w.seats 0 (answering (w.seats 0) (suc w.sides.at));
}

-- an EXECUTE is served from now on
abbrev pub starting : Seat → ℕ → Seat
starting s stage = record s { commands = []; core = Serving stage [] }

-- on a connection that is cut the loop ends with the donor's call
abbrev pub after_call : Bool → Core → Core
after_call cut core = cond cut Over core

-- a chunk is claimed, and these blocks of it are still to be sent
abbrev pub claimed : (ℕ → Owner) → ℕ → List ℕ → ℕ → Owner
claimed owner k [] = owner
claimed owner k (b ∷ bs) = put (claimed owner k bs) b (Claimed k)

-- a task has claimed them
abbrev pub claiming : World → ℕ → ℕ → List ℕ → World
claiming w k stage blocks = record w {
  sides = record w.sides { owner = claimed w.sides.owner k blocks };
  seats = put w.seats k (record (w.seats k) { core = Serving stage blocks });
}

-- a block was sent, and these are left
abbrev pub block_sent : Seat → (stage block : ℕ) → List ℕ → Seat
block_sent s stage block rest = record s {
  answers = sends s.cut s.answers (Block stage block);
  core = after_call s.cut (Serving stage rest);
}

-- it is the task's then
abbrev pub sending : World → ℕ → (stage block : ℕ) → List ℕ → World
sending w k stage block rest = record w {
  sides = record w.sides { owner = put w.sides.owner block (Sent k) };
  seats = put w.seats k (block_sent (w.seats k) stage block rest);
}

-- the END was sent
abbrev pub end_sent : Seat → ℕ → Seat
end_sent s stage = record s {
  answers = sends s.cut s.answers (End stage);
  core = after_call s.cut Ready;
}

-- the donor has closed the connection after a disk fault
abbrev pub closing : Seat → Seat
closing s = record s { cut = true; commands = []; core = Over }

-- ---- A DONOR'S STEP

-- the donor carries out a command
pub record Reads (w : World) (k : ℕ) (command : Command) (waiting : Core) : Type 0 where
  pub linked : IsLinked w k
  pub front : (w.seats k).commands ≡ command ∷ []
  pub core : (w.seats k).core ≡ waiting

-- an EXECUTE is served, with these blocks still to be sent
pub record IsServingAt (w : World) (k stage : ℕ) (rest : List ℕ) : Type 0 where
  pub linked : IsLinked w k
  pub core : (w.seats k).core ≡ Serving stage rest

-- these blocks are free, and none is there twice
abbrev pub AreFree : Sides → List ℕ → Type 0
AreFree a [] = Unit {0}
AreFree a (b ∷ bs) =
    (b < a.size a.at) × (a.owner b ≡ Free) × (Has b bs → ⊥) × AreFree a bs

-- THE STEP of a donor
pub data DonorStep (w : World) : World → Type 0 where
  -- INIT or REINIT, where the donor is in the recipient's stage: it keeps what was taken
  meets_here : Reads w 0 First New → w.sides.met ≡ false → w.sides.at ≡ w.sides.stage
      → 0 < w.sides.at
      → DonorStep w (meeting w w.sides.at (λ b. kept_of (w.sides.taken b)))
  -- where it is in the next one, or has no session
  meets_next : Reads w 0 First New → w.sides.met ≡ false
      → (w.sides.at ≡ suc w.sides.stage) ⊎ ((w.sides.at ≡ 0) × (w.sides.stage ≡ 0))
      → DonorStep w (meeting w (suc w.sides.stage) (λ b. Free))
  -- ATTACH
  welcomes : (k : ℕ) → k ≢ 0 → Reads w k First New → w.sides.met ≡ true
      → DonorStep w (with_seat w k (answering (w.seats k) w.sides.at))
  starts : (k : ℕ) → Reads w k (Execute w.sides.at) Ready
      → DonorStep w (with_seat w k (starting (w.seats k) w.sides.at))
  -- an acknowledgement of the donor's stage, or a repeated one
  agrees : Reads w 0 (Acknowledge w.sides.at) Ready → NoneLeft w.sides → DonorStep w (agreeing w)
  repeats : (stage : ℕ) → Reads w 0 (Acknowledge stage) Ready → suc stage ≡ w.sides.at
      → DonorStep w (with_seat w 0 (answering (w.seats 0) w.sides.at))
  -- a chunk is claimed; a block of it is sent; or no chunk is free
  claims : (k b : ℕ) (bs : List ℕ) → IsServingAt w k w.sides.at [] → AreFree w.sides (b ∷ bs)
      → DonorStep w (claiming w k w.sides.at (b ∷ bs))
  reads : (k b : ℕ) (rest : List ℕ) → IsServingAt w k w.sides.at (b ∷ rest)
      → b < w.sides.size w.sides.at → w.sides.owner b ≡ Claimed k
      → DonorStep w (sending w k w.sides.at b rest)
  finishes : (k : ℕ) → IsServingAt w k w.sides.at []
      → ((b : ℕ) → b < w.sides.size w.sides.at → w.sides.owner b ≢ Free)
      → DonorStep w (with_seat w k (end_sent (w.seats k) w.sides.at))
  -- a disk fault, within an EXECUTE
  fails : (k : ℕ) → Serves w k
      → DonorStep w (with_seat w k (closing (w.seats k)))
  finds_loss : (k : ℕ) → FindsLoss w k
      → DonorStep w (with_seat w k (record (w.seats k) { core = Over }))
  -- On connections of earlier incarnations all is refused once the donor has the present one. Until
  -- then they may change its blocks, and carry out an acknowledgement that was sent, or INIT.
  refuses : (late : ℕ) → late < w.late → DonorStep w (record w { late = late })
  changes : (late : ℕ) (owner : ℕ → Owner) → late < w.late → w.sides.met ≡ false
      → DonorStep w (record w { late = late; sides = record w.sides { owner = owner } })
  moves : (late : ℕ) (owner : ℕ → Owner) → late < w.late → w.sides.met ≡ false
      → w.sides.acknowledged ≡ true → w.sides.at ≡ w.sides.stage
      → DonorStep w (record w {
        late = late;
        sides = record w.sides { at = suc w.sides.stage; owner = owner };
      })

-- ---- ALL STEPS

-- what is left after a cut
abbrev pub cut_to : Seat → List Command → List Answer → Seat
cut_to s commands answers = record s { cut = true; commands = commands; answers = answers }

-- A CUT keeps fronts of what lies unread.
pub data Cut (w : World) : World → Type 0 where
  cuts : (k : ℕ) (commands : List Command) (answers : List Answer)
      → (lost_commands : List Command) (lost_answers : List Answer)
      → IsLinked w k → (w.seats k).commands ≡ commands ++ lost_commands
      → (w.seats k).answers ≡ answers ++ lost_answers
      → Cut w (with_seat w k (cut_to (w.seats k) commands answers))

-- ANY STEP
abbrev pub Move : World → World → Type 0
Move w u = TaskStep w u ⊎ DonorStep w u ⊎ Cut w u

-- BEFORE THE FIRST STEP
pub record IsStart (w : World) : Type 0 where
  pub tasks : 0 < w.sides.tasks
  pub empty : w.sides.size 0 ≡ 0
  pub stage : w.sides.stage ≡ 0
  pub joined : w.sides.joined ≡ false
  pub acknowledged : w.sides.acknowledged ≡ true
  pub met : w.sides.met ≡ false
  pub at : w.sides.at ≡ 0
  pub seats : (k : ℕ) → w.seats k ≡ fresh

-- WHERE A RULE APPLIES, ITS STEP IS THERE: a frame is taken, a loss is outlasted, a command is
-- carried out, and an EXECUTE goes on without a disk fault. The other rules are steps as they are.
pub record HasSteps (w : World) : Type 0 where
  pub takes : (k : ℕ) → Takes w k → (u : World) × TaskStep w u
  pub loses : (k : ℕ) → Loses w k → w.losses < w.limit → (u : World) × TaskStep w u
  pub carries : (k : ℕ) → Carries w k → (u : World) × DonorStep w u
  pub serves : (k : ℕ) → Serves w k
      → (u : World) × DonorStep w u × ((u.seats k).cut ≡ (w.seats k).cut)
