-- WHO AWAITS WHAT OF WHOM: the rule that every step of a clone keeps.
use Rattle.std.specs.Prelude.{ℕ, suc, ◌≡◌, ◌≢◌, ◌<◌, ◌≤◌, ◌⊎◌, Bool, true, false}
use Rattle.std.specs.Prelude.{List, [], ◌∷◌}
use Rattle.clone_rounds.specs.World.{Command, First, Execute, Acknowledge}
use Rattle.clone_rounds.specs.World.{Answer, Stage, Block, End}
use Rattle.clone_rounds.specs.World.{Awaited, Nothing, ForFirst, ForEnd, ForStage}
use Rattle.clone_rounds.specs.World.{Core, New, Ready, Serving, Over}
use Rattle.clone_rounds.specs.World.{Owner, Free, Claimed, Sent, Kept}
use Rattle.clone_rounds.specs.World.{Seat, fresh, Sides, World, AllTaken, IsServing}

-- ---- lists of blocks

-- a block is one of these
abbrev pub Has : ℕ → List ℕ → Type 0
Has b [] = ⊥
Has b (c ∷ cs) = (b ≡ c) ⊎ Has b cs

-- no block is there twice
abbrev pub AreDistinct : List ℕ → Type 0
AreDistinct [] = Unit {0}
AreDistinct (b ∷ bs) = (Has b bs → ⊥) × AreDistinct bs

-- a block lies unread
abbrev pub Brings : ℕ → List Answer → Type 0
Brings b [] = ⊥
Brings b (Stage s ∷ more) = Brings b more
Brings b (Block s c ∷ more) = (b ≡ c) ⊎ Brings b more
Brings b (End s ∷ more) = Brings b more

-- an END lies unread
abbrev pub HasEnd : List Answer → Type 0
HasEnd [] = ⊥
HasEnd (Stage s ∷ more) = HasEnd more
HasEnd (Block s b ∷ more) = HasEnd more
HasEnd (End s ∷ more) = Unit {0}

-- what a donor's side has still to send of its chunk
abbrev pub rest_of : Core → List ℕ
rest_of New = []
rest_of Ready = []
rest_of (Serving stage rest) = rest
rest_of Over = []

-- ---- WHERE A TASK'S QUESTION LIES

-- the donor's side awaits a command, or has found the loss
abbrev pub Waits : Core → Bool → Core → Type 0
Waits waiting cut core = (core ≡ waiting) ⊎ ((cut ≡ true) × (core ≡ Over))

-- A COMMAND IS UNREAD: the task awaits its answer, and it names the recipient's stage.
abbrev pub IsAsked : ℕ → Command → Awaited → Bool → Core → Type 0
IsAsked stage First awaits cut core = (awaits ≡ ForFirst) × Waits New cut core
IsAsked stage (Execute s) awaits cut core =
    (awaits ≡ ForEnd) × Waits Ready cut core × (s ≡ stage)
IsAsked stage (Acknowledge s) awaits cut core =
    (awaits ≡ ForStage) × Waits Ready cut core × (s ≡ stage)

-- A STAGE IS AWAITED: it lies unread and is such a stage, or it was lost, or its command was.
abbrev pub IsAnswered : (ℕ → Type 0) → List Answer → Bool → Core → Type 0
IsAnswered Fits [] cut core = (cut ≡ true) × (IsServing core → ⊥)
IsAnswered Fits (Stage s ∷ more) cut core = Fits s × (more ≡ []) × Waits Ready cut core
IsAnswered Fits (Block s b ∷ more) cut core = ⊥
IsAnswered Fits (End s ∷ more) cut core = ⊥

-- task 0 awaits the donor's stage, and other tasks any
abbrev pub MayJoin : ℕ → ℕ → ℕ → Type 0
MayJoin at k s = k ≡ 0 → s ≡ at

-- an acknowledgement is answered by the next stage, where the donor is then
abbrev pub IsNext : ℕ → ℕ → ℕ → Type 0
IsNext stage at s = (s ≡ suc stage) × (at ≡ suc stage)

-- BLOCKS LIE UNREAD, each once and each due, and after them an END or not.
abbrev pub AreBlocks : ℕ → (ℕ → Type 0) → Bool → List Answer → Type 0
AreBlocks stage Due ended [] = ended ≡ false
AreBlocks stage Due ended (Stage s ∷ more) = ⊥
AreBlocks stage Due ended (Block s b ∷ more) =
    (s ≡ stage) × Due b × (Brings b more → ⊥) × AreBlocks stage Due ended more
AreBlocks stage Due ended (End s ∷ more) = (ended ≡ true) × (s ≡ stage) × (more ≡ [])

-- BLOCKS AND THEIR END ARE AWAITED: the EXECUTE is served, or it was served to its END, or the END
-- was lost, or the EXECUTE was.
pub data IsServed (stage : ℕ) (Due : ℕ → Type 0) (answers : List Answer) (cut : Bool) (core : Core)
    : Type 0 where
  serving : (rest : List ℕ) → core ≡ Serving stage rest → AreDistinct rest
      → AreBlocks stage Due false answers → IsServed stage Due answers cut core
  served : Waits Ready cut core → AreBlocks stage Due true answers
      → IsServed stage Due answers cut core
  lost : cut ≡ true → (IsServing core → ⊥) → AreBlocks stage Due false answers
      → IsServed stage Due answers cut core

-- NO COMMAND IS UNREAD: what the task awaits lies unread, or will come, or was lost.
abbrev pub Awaits : (stage at k : ℕ) (Due : ℕ → Type 0) → Awaited → List Answer → Bool → Core
    → Type 0
Awaits stage at k Due Nothing answers cut core = (answers ≡ []) × Waits Ready cut core
Awaits stage at k Due ForFirst answers cut core = IsAnswered (MayJoin at k) answers cut core
Awaits stage at k Due ForEnd answers cut core = IsServed stage Due answers cut core
Awaits stage at k Due ForStage answers cut core = IsAnswered (IsNext stage at) answers cut core

-- A CONVERSATION: one command at most is unread, and then no answer is.
abbrev pub Talks : (stage at k : ℕ) (Due : ℕ → Type 0) → List Command → Awaited → List Answer
    → Bool → Core → Type 0
Talks stage at k Due [] awaits answers cut core = Awaits stage at k Due awaits answers cut core
Talks stage at k Due (c ∷ more) awaits answers cut core =
    (more ≡ []) × (answers ≡ []) × IsAsked stage c awaits cut core

-- A BLOCK IS DUE to a task: it is of the recipient's stage, was sent to the task, and isn't taken.
abbrev pub IsDue : Sides → ℕ → ℕ → Type 0
IsDue a k b = (b < a.size a.stage) × (a.owner b ≡ Sent k) × (a.taken b ≡ false)

-- the conversation of a task
abbrev pub TalkOf : Sides → ℕ → Seat → Type 0
TalkOf a k s =
    Talks a.stage a.at k (IsDue a k) s.commands s.awaits s.answers s.cut s.core

-- ---- EACH BLOCK THAT ISN'T TAKEN IS AWAITED

-- A TASK AWAITS A BLOCK: the block is still to be sent, or it is unread; or it was lost, and the
-- task will find the loss, since it awaits an END that doesn't come.
pub data IsAwaited (s : Seat) (b : ℕ) : Type 0 where
  unsent : s.awaits ≡ ForEnd → Has b (rest_of s.core) → IsAwaited s b
  unread : s.awaits ≡ ForEnd → Brings b s.answers → IsAwaited s b
  missed : s.awaits ≡ ForEnd → s.cut ≡ true → (HasEnd s.answers → ⊥) → IsAwaited s b

-- a block is a task's, since it was claimed by the task or sent to it
abbrev pub Belongs : ℕ → Owner → Type 0
Belongs k Free = ⊥
Belongs k (Claimed j) = j ≡ k
Belongs k (Sent j) = j ≡ k
Belongs k Kept = ⊥

-- A TASK'S BLOCKS were taken or are awaited by it, and what it will be sent is claimed by it.
pub record IsCovered (size : ℕ) (taken : ℕ → Bool) (owner : ℕ → Owner) (k : ℕ) (s : Seat)
    : Type 0 where
  pub awaited : (b : ℕ) → b < size → Belongs k (owner b) → (taken b ≡ true) ⊎ IsAwaited s b
  pub rest : (b : ℕ) → Has b (rest_of s.core) → (b < size) × (owner b ≡ Claimed k)

-- ---- THE RULE

-- the donor has the present incarnation, and is in the recipient's stage
abbrev pub IsLevel : Sides → Type 0
IsLevel a = (a.met ≡ true) × (a.at ≡ a.stage)

-- no chunk of the recipient's stage is free
abbrev pub NoneFree : Sides → Type 0
NoneFree a = (b : ℕ) → b < a.size a.stage → a.owner b ≢ Free

-- WHAT A TASK MAY AWAIT
pub record MayAwait (tasks stage : ℕ) (met joined acknowledged : Bool) (k : ℕ) (connected : Bool)
    (awaits : Awaited) : Type 0 where
  -- there is such a task
  pub task : connected ≡ true → k < tasks
  -- task 0 is connected once the donor has the incarnation, and awaits a STAGE until it took one
  pub meets : k ≡ 0 → met ≡ true → connected ≡ true
  pub joins : k ≡ 0 → joined ≡ false → connected ≡ true → awaits ≡ ForFirst
  -- the others connect after that
  pub follows : k ≢ 0 → joined ≡ false → connected ≡ false
  -- once the stage was acknowledged nobody awaits an END of it, and task 0 alone the next STAGE
  pub endless : acknowledged ≡ true → awaits ≢ ForEnd
  pub acknowledges : awaits ≡ ForStage → (k ≡ 0) × (acknowledged ≡ true) × (stage < 4)
  -- once all was copied task 0 awaits nothing
  pub done : k ≡ 0 → stage ≡ 4 → awaits ≡ Nothing

-- THE RULE OF A SEAT
pub record SeatRule (a : Sides) (k : ℕ) (s : Seat) : Type 0 where
  pub may : MayAwait a.tasks a.stage a.met a.joined a.acknowledged k s.connected s.awaits
  pub absent : s.connected ≡ false → s ≡ fresh
  pub talk : s.connected ≡ true → TalkOf a k s
  -- until the donor has the incarnation task 0 hears nothing, and its first command brings it
  pub unheard : k ≡ 0 → a.met ≡ false → s.answers ≡ []
  pub unmet : k ≡ 0 → s.commands ≡ First ∷ [] → (a.met ≡ false) × (s.ended ≡ false)
  -- in one stage each block is awaited, and where an END was sent no chunk is free
  pub covered : IsLevel a → IsCovered (a.size a.stage) a.taken a.owner k s
  pub ended : IsLevel a → (s.ended ≡ true) ⊎ HasEnd s.answers → NoneFree a

-- whether a block was taken, by whose it is
abbrev pub IsTaken : Owner → Bool → Type 0
IsTaken Free taken = taken ≡ false
IsTaken (Claimed k) taken = taken ≡ false
IsTaken (Sent k) taken = Unit {0}
IsTaken Kept taken = taken ≡ true

-- the donor is in the recipient's stage, or in the next one where this one was acknowledged
abbrev pub IsAt : ℕ → ℕ → Bool → Type 0
IsAt at stage acknowledged = (at ≡ stage) ⊎ ((at ≡ suc stage) × (acknowledged ≡ true))

-- THE RULE OF THE TWO SIDES
pub record SidesRule (a : Sides) : Type 0 where
  pub tasks : 0 < a.tasks
  pub stage : a.stage ≤ 4
  -- of a stage that was acknowledged all was taken; stage 0 is empty, and INIT counts for it
  pub acknowledged : a.acknowledged ≡ true → AllTaken a
  pub opening : a.stage ≡ 0 → a.acknowledged ≡ true
  pub at : IsAt a.at a.stage a.acknowledged
  -- until the donor has the incarnation no STAGE is taken in it, and it has a session then
  pub apart : a.met ≡ false → (a.joined ≡ false) × (a.stage < 4)
  pub session : a.met ≡ true → 0 < a.at
  pub joined : a.joined ≡ true → 0 < a.stage
  -- in one stage, what was taken is known by whose it is
  pub blocks : IsLevel a → (b : ℕ) → b < a.size a.stage → IsTaken (a.owner b) (a.taken b)
  -- nothing of the next stage is claimed yet
  pub next : a.met ≡ true → a.at ≡ suc a.stage → (b : ℕ) → a.owner b ≡ Free

-- THE RULE
pub record Rule (w : World) : Type 0 where
  pub sides : SidesRule w.sides
  pub seats : (k : ℕ) → SeatRule w.sides k (w.seats k)
