-- A TABLE OF TASKS AS A RECIPIENT of the rounds.
use Rattle.std.specs.Prelude.{ℕ, ◌≡◌, ◌<◌, ◌≤◌, not, Bool, true, false, All}
use Rattle.clone_chunk.specs.Stages.{copy_number}
use Rattle.clone_marks.specs.Blocks.{IsChunk, blocks_of}
use Rattle.clone_tasks.specs.declared.standing.Phase.{Phase}
use Rattle.clone_tasks.specs.declared.standing.Phase.TheVariants.{Opening, Copying, Done}
use Rattle.clone_tasks.specs.declared.standing.Standing.{Standing}
use Rattle.clone_tasks.specs.declared.standing.Standing.TheVariants.{Apart, Joining, Ready}
use Rattle.clone_tasks.specs.declared.standing.Standing.TheVariants.{Fetching, Served}
use Rattle.clone_tasks.specs.declared.standing.Standing.TheVariants.{Acknowledging}
use Rattle.clone_tasks.specs.Tables.{Table, standing_of, is_apart}
use Rattle.clone_rounds.specs.World.{Awaited, Nothing, ForFirst, ForEnd, ForStage, Seat, World}
use Rattle.clone_view.specs.Rows.{places, taken_at}

-- 0 before the first STAGE, and 4 once all was copied
abbrev pub phase_number : Phase → ℕ
phase_number Opening = 0
phase_number (Copying stage) = copy_number stage
phase_number Done = 4

-- what a task awaits, by where the table has it
abbrev pub awaited_of : Standing → Awaited
awaited_of Apart = Nothing
awaited_of Joining = ForFirst
awaited_of Ready = Nothing
awaited_of Fetching = ForEnd
awaited_of Served = Nothing
awaited_of Acknowledging = ForStage

-- it has taken an END
abbrev pub is_served : Standing → Bool
is_served Apart = false
is_served Joining = false
is_served Ready = false
is_served Fetching = false
is_served Served = true
is_served Acknowledging = false

-- a seat says of a task what the table says of it
pub record IsStanding (standing : Standing) (s : Seat) : Type 0 where
  pub connected : s.connected ≡ not (is_apart standing)
  pub awaits : s.awaits ≡ awaited_of standing
  pub ended : s.ended ≡ is_served standing

-- THE TABLE AND THE RECIPIENT of the rounds are one.
pub record IsTable (t : Table) (w : World) : Type 0 where
  pub some : 1 ≤ t.count
  pub tasks : w.sides.tasks ≡ t.count
  pub limit : w.limit ≡ t.limit
  pub losses : w.losses ≡ t.losses
  pub stage : w.sides.stage ≡ phase_number t.phase
  pub joined : w.sides.joined ≡ t.joined
  pub chunks : All IsChunk t.marks
  pub size : w.sides.size w.sides.stage ≡ places (blocks_of t.marks)
  pub taken : (b : ℕ) → b < w.sides.size w.sides.stage → w.sides.taken b ≡ taken_at t.marks b
  pub seats : (k : ℕ) → IsStanding (standing_of t k) (w.seats k)
