-- Which steps are there: where each rule of a task and of a donor applies, and when none does.
use Rattle.std.specs.Prelude.{ℕ, ◌≡◌, ◌≢◌, ◌<◌, ◌⊎◌, true, false, []}
use Rattle.clone_rounds.specs.World.{Nothing, ForEnd, World, IsLinked, AllTaken, IsServing, IsLive}

-- ---- A TASK'S STEP

-- once all was copied task 0 alone has a part in the clone
abbrev pub TakesPart : World → ℕ → Type 0
TakesPart w k = (w.sides.stage < 4) ⊎ (k ≡ 0)

-- task 0 connects, and the others once it took a STAGE
pub record Connects (w : World) (k : ℕ) : Type 0 where
  pub task : k < w.sides.tasks
  pub stage : w.sides.stage < 4
  pub absent : (w.seats k).connected ≡ false
  pub first : (k ≡ 0) ⊎ (w.sides.joined ≡ true)

-- an answer is awaited, and a frame is there
pub record Takes (w : World) (k : ℕ) : Type 0 where
  pub linked : IsLinked w k
  pub part : TakesPart w k
  pub awaits : (w.seats k).awaits ≢ Nothing
  pub there : (w.seats k).answers ≢ []

-- an answer is awaited, and none will come
pub record Loses (w : World) (k : ℕ) : Type 0 where
  pub linked : IsLinked w k
  pub part : TakesPart w k
  pub awaits : (w.seats k).awaits ≢ Nothing
  pub none : (w.seats k).answers ≡ []
  pub cut : (w.seats k).cut ≡ true

-- all was copied: task 0 completes the clone
pub record Completes (w : World) : Type 0 where
  pub stage : w.sides.stage ≡ 4
  pub awaits : (w.seats 0).awaits ≡ Nothing

-- the stage was copied, and nobody awaits an END of it: task 0 acknowledges it
pub record Acknowledges (w : World) : Type 0 where
  pub linked : IsLinked w 0
  pub begun : 0 < w.sides.stage
  pub stage : w.sides.stage < 4
  pub awaits : (w.seats 0).awaits ≡ Nothing
  pub all : AllTaken w.sides
  pub nobody : (j : ℕ) → (w.seats j).awaits ≢ ForEnd

-- a block of the stage is missing, and the task took no END of it
pub record Executes (w : World) (k : ℕ) : Type 0 where
  pub linked : IsLinked w k
  pub begun : 0 < w.sides.stage
  pub stage : w.sides.stage < 4
  pub awaits : (w.seats k).awaits ≡ Nothing
  pub ended : (w.seats k).ended ≡ false
  pub left : AllTaken w.sides → ⊥

-- ---- A DONOR'S STEP on a task's connection

-- an EXECUTE is served
pub record Serves (w : World) (k : ℕ) : Type 0 where
  pub linked : IsLinked w k
  pub serving : IsServing (w.seats k).core

-- a command is there
pub record Carries (w : World) (k : ℕ) : Type 0 where
  pub linked : IsLinked w k
  pub live : IsLive (w.seats k).core
  pub there : (w.seats k).commands ≢ []

-- no command is there, and none will come
pub record FindsLoss (w : World) (k : ℕ) : Type 0 where
  pub linked : IsLinked w k
  pub live : IsLive (w.seats k).core
  pub idle : IsServing (w.seats k).core → ⊥
  pub none : (w.seats k).commands ≡ []
  pub cut : (w.seats k).cut ≡ true

-- ---- WHICH APPLY

-- EACH RULE THAT APPLIES gives this.
pub record Gives (G : Type 0) (w : World) : Type 0 where
  pub connects : (k : ℕ) → Connects w k → G
  pub takes : (k : ℕ) → Takes w k → G
  pub loses : (k : ℕ) → Loses w k → G
  pub completes : Completes w → G
  pub acknowledges : Acknowledges w → G
  pub executes : (k : ℕ) → Executes w k → G
  pub serves : (k : ℕ) → Serves w k → G
  pub carries : (k : ℕ) → Carries w k → G
  pub finds : (k : ℕ) → FindsLoss w k → G

-- EVERY STEP IS IDLE: no rule applies, and the clone is stuck.
abbrev pub IsStuck : World → Type 0
IsStuck w = Gives ⊥ w
