-- How much a world has left to do for its clone, as two numbers: steps of its tasks lower the first,
-- and steps of the donor the second, while no task does anything.
use Rattle.std.specs.Prelude.{ℕ, ◌≡◌, ◌<◌, ◌≤◌, Bool, true, false}
use Rattle.clone_fetch.specs.declared.answer.TaskAnswer.{TaskAnswer}
use Rattle.clone_fetch.specs.declared.answer.TaskAnswer.TheVariants as task
use Rattle.clone_serve.specs.declared.turn.ServeAnswer.TheVariants as served
use Rattle.clone_network.specs.declared.donor_step.DonorStep.{DonorStep}
use Rattle.clone_network.specs.declared.donor_step.DonorStep.TheVariants as step
use Rattle.clone_engine.specs.Donor.{Donor}
use Rattle.clone_ending.specs.Left.{work_left}
use Rattle.clone_ending.specs.Service.{donor_work}
use Rattle.clone_core.specs.declared.rounds.Round.{Round}
use Rattle.clone_core.specs.declared.rounds.Round.TheVariants as round
use Rattle.clone_core.specs.declared.world.Course.{Course}
use Rattle.clone_core.specs.declared.world.Course.TheVariants as course
use Rattle.clone_core.specs.Lines.{State}

abbrev pub left_for_tasks : Course → ℕ
left_for_tasks (course.Begun c) = work_left c.reception.table
left_for_tasks other = 0

abbrev pub left_for_donor : Donor → Course → ℕ
left_for_donor d (course.Begun c) = donor_work d c.network
left_for_donor d other = 0

abbrev pub tasks_left : State → ℕ
tasks_left s = left_for_tasks s.donor.course

abbrev pub donor_left : State → ℕ
donor_left s = left_for_donor s.donor.donor s.donor.course

-- ---- what steps leave

-- the task had nothing to do
abbrev pub is_quiet : TaskAnswer → Bool
is_quiet task.Idle = true
is_quiet task.Stale = true
is_quiet other = false

-- the donor had
abbrev pub is_idle : DonorStep → Bool
is_idle (step.Served served.Idle) = true
is_idle other = false

-- less for the tasks, or as much for both where nobody had anything to do
abbrev pub TasksLeave : Bool → State → State → Type 0
TasksLeave true s t = (tasks_left t ≡ tasks_left s) × (donor_left t ≡ donor_left s)
TasksLeave false s t = tasks_left t < tasks_left s

-- less for the donor, or no more where it had nothing to do
abbrev pub DonorLeaves : Bool → State → State → Type 0
DonorLeaves true s t = (tasks_left t ≡ tasks_left s) × (donor_left t ≤ donor_left s)
DonorLeaves false s t = (tasks_left t ≡ tasks_left s) × (donor_left t < donor_left s)

abbrev pub RoundLeaves : Round → State → State → Type 0
RoundLeaves round.Idle s t = Unit {0}
RoundLeaves round.Donor s t = DonorLeaves false s t
RoundLeaves round.Tasks s t = tasks_left t < tasks_left s
