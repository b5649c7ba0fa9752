-- The tasks of a recipient: where each stands, and what is known of the clone.
use Rattle.std.specs.Prelude.{ℕ, ◌≡◌, ◌+◌, ◌≤◌, Bool, true, false, List, [], None, slice_set}
use Rattle.std.specs.Prelude.{All, length, slice_index_or, replicate, is_none}
use Rattle.std.specs.List.{list_any}
use Rattle.std.specs.declared.option.Option.{Option}
use Rattle.clone_wire.specs.declared.frame.Attempt.{Attempt}
use Rattle.clone_marks.specs.declared.chunk_marks.ChunkMarks.{ChunkMarks}
use Rattle.clone_marks.specs.Blocks.{IsChunk, all_finished}
use Rattle.clone_chunk.specs.declared.bitmap.TheConstants.{MOST_CHUNKS}
use Rattle.clone_tasks.specs.declared.end.CloneEnd.{CloneEnd}
use Rattle.clone_tasks.specs.declared.standing.Phase.{Phase}
use Rattle.clone_tasks.specs.declared.standing.Phase.TheVariants.{Opening, Copying, Done}
use Rattle.clone_tasks.specs.declared.standing.Standing.{Standing}
use Rattle.clone_tasks.specs.declared.standing.Standing.TheVariants.{Apart, Joining, Ready}
use Rattle.clone_tasks.specs.declared.standing.Standing.TheVariants.{Fetching, Served}
use Rattle.clone_tasks.specs.declared.standing.Standing.TheVariants.{Acknowledging}
use Rattle.clone_base.specs.declared.limits.TheConstants.{MOST_LOSSES, MOST_TASKS}

pub record Table : Type 0 where
  pub session : ℕ
  -- of the wire
  pub version : ℕ
  -- how many tasks there are, and how many losses the clone outlasts
  pub count : ℕ
  pub limit : ℕ
  pub losses : ℕ
  pub phase : Phase
  -- task 0 took a STAGE in this incarnation
  pub joined : Bool
  -- where each task stands
  pub standings : List Standing
  -- the floor of the first acknowledgement of PAGE COPY
  pub floor : Option ℕ
  pub ended : Option CloneEnd
  -- the blocks of the stage that were taken
  pub marks : List ChunkMarks

-- before the first step
abbrev pub begun : (session count limit version : ℕ) → Table
begun session count limit version = record {
  session = session;
  version = version;
  count = count;
  limit = limit;
  losses = 0;
  phase = Opening;
  joined = false;
  standings = replicate MOST_TASKS Apart;
  floor = None;
  ended = None;
  marks = [];
}

-- the losses and one
abbrev pub incarnation_of : Table → ℕ
incarnation_of t = t.losses + 1

abbrev pub attempt_of : Table → Attempt
attempt_of t = record { session = t.session; incarnation = incarnation_of t }

-- ---- where a task stands

-- a task that there isn't stands apart
abbrev pub standing_of : Table → ℕ → Standing
standing_of t task = slice_index_or t.standings task Apart

abbrev pub with_standing : Table → ℕ → Standing → Table
with_standing t task standing = record t { standings = slice_set t.standings task standing }

abbrev pub is_apart : Standing → Bool
is_apart Apart = true
is_apart Joining = false
is_apart Ready = false
is_apart Fetching = false
is_apart Served = false
is_apart Acknowledging = false

abbrev pub is_ready : Standing → Bool
is_ready Apart = false
is_ready Joining = false
is_ready Ready = true
is_ready Fetching = false
is_ready Served = false
is_ready Acknowledging = false

-- a command awaits its answer
abbrev pub awaits : Standing → Bool
awaits Apart = false
awaits Joining = true
awaits Ready = false
awaits Fetching = true
awaits Served = false
awaits Acknowledging = true

-- an EXECUTE awaits blocks and their END
abbrev pub awaits_end : Standing → Bool
awaits_end Apart = false
awaits_end Joining = false
awaits_end Ready = false
awaits_end Fetching = true
awaits_end Served = false
awaits_end Acknowledging = false

abbrev pub any_awaits_end : Table → Bool
any_awaits_end t = list_any awaits_end t.standings

-- END was taken of the stage before
abbrev pub renewed : Standing → Standing
renewed Apart = Apart
renewed Joining = Joining
renewed Ready = Ready
renewed Fetching = Fetching
renewed Served = Ready
renewed Acknowledging = Acknowledging

abbrev pub is_running : Table → Bool
is_running t = is_none t.ended

abbrev pub is_done : Phase → Bool
is_done Opening = false
is_done (Copying stage) = false
is_done Done = true

-- ---- what a table keeps

-- task 0 alone awaits the STAGE of the next stage, once each chunk is finished
abbrev pub MayStand : Standing → ℕ → List ChunkMarks → Type 0
MayStand Apart task marks = Unit {0}
MayStand Joining task marks = Unit {0}
MayStand Ready task marks = Unit {0}
MayStand Fetching task marks = Unit {0}
MayStand Served task marks = Unit {0}
MayStand Acknowledging task marks = (task ≡ 0) × (all_finished marks ≡ true)

pub record AreStandings (standings : List Standing) (marks : List ChunkMarks) : Type 0 where
  pub each : (task : ℕ) → MayStand (slice_index_or standings task Apart) task marks

-- as many losses as the limit, or one more once the clone has ended
abbrev pub AreLosses : ℕ → ℕ → Option CloneEnd → Type 0
AreLosses limit losses ended =
    (losses ≤ limit + 1) × (is_none ended ≡ true → losses ≤ limit)

pub record IsTable (count version limit losses : ℕ) (ended : Option CloneEnd) : Type 0 where
  pub some : 1 ≤ count
  pub few : count ≤ MOST_TASKS
  pub first : 1 ≤ version
  pub second : version ≤ 2
  pub bounded : limit ≤ MOST_LOSSES
  pub counted : AreLosses limit losses ended

-- what bounds its lists
pub record IsBounded (t : Table) : Type 0 where
  pub places : length t.standings ≡ MOST_TASKS
  pub tasks : t.count ≤ MOST_TASKS
  pub chunks : All IsChunk t.marks
  pub few : length t.marks ≤ MOST_CHUNKS
