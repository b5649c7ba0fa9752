-- HOW A CLONE ENDS: runs of the steps of tasks and of the donor, without a further cut.
use Rattle.std.specs.Prelude.{ℕ, ◌≤◌, ◌⊎◌}
use Rattle.clone_rounds.specs.World.{World}
use Rattle.clone_rounds.specs.Idle.{Completes, Loses}
use Rattle.clone_rounds.specs.Steps.{TaskStep, DonorStep}

-- a step of a task or of the donor
abbrev pub Step : World → World → Type 0
Step w u = TaskStep w u ⊎ DonorStep w u

-- a run from a state to this one
pub data Run (last : World) : World → Type 0 where
  here : Run last last
  after : (w u : World) → Step w u → Run last u → Run last w

-- the clone ends with a loss, since there were as many as it outlasts
pub record IsSpent (w : World) : Type 0 where
  pub task : ℕ
  pub loses : Loses w task
  pub limit : w.limit ≤ w.losses

-- the clone ends with the next step
abbrev pub Ends : World → Type 0
Ends w = Completes w ⊎ IsSpent w

-- or it goes on
abbrev pub GoesOn : World → Type 0
GoesOn w = (u : World) × Step w u
