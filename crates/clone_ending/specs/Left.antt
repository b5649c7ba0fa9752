-- HOW MUCH A CLONE HAS LEFT TO DO, as one number, which is 0 once the clone has ended: what counts
-- most are the losses that it outlasts, then its stages, and then what is left of its stage.
use Rattle.std.specs.Prelude.{ℕ, ◌+◌, ◌-◌, ◌*◌, not, List}
use Rattle.std.specs.Prelude.{count_by, if◌then◌else◌}
use Rattle.std.specs.List.{range_with_len, sum_by}
use Rattle.clone_base.specs.declared.limits.TheConstants.{MOST_TASKS}
use Rattle.clone_chunk.specs.declared.bitmap.TheConstants.{MOST_CHUNKS}
use Rattle.clone_chunk.specs.Stages.{copy_number}
use Rattle.clone_marks.specs.declared.chunk_marks.ChunkMarks.{ChunkMarks}
use Rattle.clone_marks.specs.Blocks.{has_block}
use Rattle.clone_tasks.specs.declared.standing.Phase.{Phase}
use Rattle.clone_tasks.specs.declared.standing.Phase.TheVariants.{Opening, Copying, Done}
use Rattle.clone_tasks.specs.declared.standing.Standing.{Standing}
use Rattle.clone_tasks.specs.declared.standing.Standing.TheVariants.{Apart, Joining, Ready}
use Rattle.clone_tasks.specs.declared.standing.Standing.TheVariants.{Fetching, Served}
use Rattle.clone_tasks.specs.declared.standing.Standing.TheVariants.{Acknowledging}
use Rattle.clone_tasks.specs.Tables.{Table, awaits, is_running}

-- ---- of a stage

-- how many blocks of a chunk weren't taken
abbrev pub blocks_left : ChunkMarks → ℕ
blocks_left c = count_by (λ block. not (has_block block c)) (range_with_len 0 c.blocks)

-- and of all chunks of the stage
abbrev pub untaken : List ChunkMarks → ℕ
untaken marks = sum_by blocks_left marks

-- a task connects, awaits its STAGE, asks for blocks, awaits END, and acknowledges
abbrev pub task_left : Standing → ℕ
task_left Apart = 5
task_left Joining = 4
task_left Ready = 3
task_left Fetching = 2
task_left Served = 1
task_left Acknowledging = 0

-- an answer that is awaited
abbrev pub answer_left : Standing → ℕ
answer_left standing = if awaits standing then 1 else 0

-- what a task has left in its stage; once all was copied, the answer that it awaits
abbrev pub left_in : Phase → Standing → ℕ
left_in Opening standing = task_left standing
left_in (Copying stage) standing = task_left standing
left_in Done standing = answer_left standing

abbrev pub stage_left : Table → ℕ
stage_left t = untaken t.marks + sum_by (left_in t.phase) t.standings

-- ---- of all

-- how many stages are left
abbrev pub stages_left : Phase → ℕ
stages_left Opening = 4
stages_left (Copying stage) = 4 - copy_number stage
stages_left Done = 0

-- more than any stage has left: a chunk has 8 blocks, and a task 5 steps
abbrev pub a_stage : ℕ
a_stage = 8 * MOST_CHUNKS + 5 * MOST_TASKS + 1

-- the stages of this incarnation, and five for each that may follow it
abbrev pub rounds_left : Table → ℕ
rounds_left t = 5 * (t.limit - t.losses) + stages_left t.phase

-- WHAT IS LEFT
abbrev pub work_left : Table → ℕ
work_left t = if is_running t then rounds_left t * a_stage + stage_left t + 1 else 0
