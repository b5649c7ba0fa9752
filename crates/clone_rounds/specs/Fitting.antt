-- WHAT AN END READS FITS: no frame is out of turn, and no command is refused.
use Rattle.std.specs.Prelude.{ℕ, suc, ◌≡◌, ◌≢◌, ◌<◌, ◌⊎◌, true, false, List, ◌∷◌}
use Rattle.clone_rounds.specs.World.{Command, First, Execute, Acknowledge}
use Rattle.clone_rounds.specs.World.{Answer, Stage, Block, End}
use Rattle.clone_rounds.specs.World.{Awaited, Nothing, ForFirst, ForEnd, ForStage}
use Rattle.clone_rounds.specs.World.{Core, New, Ready, Serving, Over, Claimed}
use Rattle.clone_rounds.specs.World.{Sides, World, NoneLeft}
use Rattle.clone_rounds.specs.Awaiting.{Has}

-- ---- what a task takes

-- the stage after the recipient's, or after a loss the recipient's own once there was one
abbrev pub MayComeBack : ℕ → ℕ → Type 0
MayComeBack stage s = (s ≡ suc stage) ⊎ ((s ≡ stage) × (0 < stage))

-- a STAGE that task k may take, by what it awaits and the recipient's stage
abbrev pub FitsStage : ℕ → ℕ → Awaited → ℕ → Type 0
FitsStage stage k Nothing s = ⊥
FitsStage stage k ForFirst s = k ≡ 0 → MayComeBack stage s
FitsStage stage k ForEnd s = ⊥
FitsStage stage k ForStage s = (k ≡ 0) × (s ≡ suc stage)

-- AN ANSWER that task k may take, by what it awaits
abbrev pub Fits : Sides → ℕ → Awaited → Answer → Type 0
Fits a k awaits (Stage s) = FitsStage a.stage k awaits s
Fits a k awaits (Block s b) =
    (awaits ≡ ForEnd) × (s ≡ a.stage) × (b < a.size a.stage) × (a.taken b ≡ false)
Fits a k awaits (End s) = (awaits ≡ ForEnd) × (s ≡ a.stage)

-- ---- what a donor carries out

-- the donor has a session, and the present incarnation of it
abbrev pub IsPresent : Sides → Type 0
IsPresent a = (a.met ≡ true) × (0 < a.at)

-- INIT and REINIT bring an incarnation that the donor hasn't, in its stage or in the one before
abbrev pub Renews : Sides → Type 0
Renews a = (a.met ≡ false) × ((a.at ≡ a.stage) ⊎ (a.at ≡ suc a.stage))

-- A COMMAND of task k that the donor doesn't refuse
abbrev pub Accepts : Sides → ℕ → Command → Type 0
Accepts a k First = (k ≡ 0 → Renews a) × (k ≢ 0 → IsPresent a)
Accepts a k (Execute s) = IsPresent a × (s ≡ a.at)
Accepts a k (Acknowledge s) =
    (k ≡ 0) × IsPresent a × (((s ≡ a.at) × NoneLeft a) ⊎ (suc s ≡ a.at))

-- the donor's side that a command is in turn for
abbrev pub waiting_for : Command → Core
waiting_for First = New
waiting_for (Execute s) = Ready
waiting_for (Acknowledge s) = Ready

-- a loop that has ended reads nothing
abbrev pub IsInTurn : Command → Core → Type 0
IsInTurn c core = (core ≡ waiting_for c) ⊎ (core ≡ Over)

-- the blocks that are still to be sent are of the donor's stage, and claimed by the task
pub record AreClaimed (a : Sides) (k stage : ℕ) (rest : List ℕ) : Type 0 where
  pub present : IsPresent a
  pub stage_is : stage ≡ a.at
  pub each : (b : ℕ) → Has b rest → (b < a.size a.at) × (a.owner b ≡ Claimed k)

-- ALL THAT IS READ FITS: each answer at the front, each command, and each claimed block.
pub record AllFit (w : World) : Type 0 where
  pub answers : (k : ℕ) (x : Answer) (more : List Answer) → (w.seats k).answers ≡ x ∷ more
      → Fits w.sides k (w.seats k).awaits x
  pub commands : (k : ℕ) (c : Command) (more : List Command) → (w.seats k).commands ≡ c ∷ more
      → Accepts w.sides k c × IsInTurn c (w.seats k).core
  pub blocks : (k stage : ℕ) (rest : List ℕ) → (w.seats k).core ≡ Serving stage rest
      → AreClaimed w.sides k stage rest
