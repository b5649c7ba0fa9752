-- WHAT AN ANSWER CHANGES once it was taken.
use Rattle.std.specs.Prelude.{ℕ, ◌≡◌, ◌==◌, ◌&&◌, ◌||◌, true, List, map, slice_set}
use Rattle.clone_marks.specs.declared.chunk_marks.ChunkMarks.{ChunkMarks}
use Rattle.clone_marks.specs.Blocks.{blocks_of, is_taken}
use Rattle.clone_tasks.specs.declared.standing.Phase.{Phase}
use Rattle.clone_tasks.specs.declared.standing.Standing.TheVariants.{Ready, Served}
use Rattle.clone_tasks.specs.Tables.{Table, with_standing, renewed}

-- a STAGE that leaves the recipient where it is: once task 0 took one, the others may connect
abbrev pub joined_by : Table → ℕ → Table
joined_by t task = record (with_standing t task Ready) { joined = t.joined || (task == 0) }

-- a STAGE that moves the recipient, which task 0 takes: nobody has taken an END of it
abbrev pub begins : Phase → List ChunkMarks → Table → Table
begins phase marks t = record t {
  phase = phase;
  joined = true;
  standings = map renewed (slice_set t.standings 0 Ready);
  marks = marks;
}

-- END
abbrev pub served : Table → ℕ → Table
served t task = with_standing t task Served

-- a block
pub record HasTaken (t : Table) (chunk block : ℕ) (new : Table) : Type 0 where
  pub else_same : new ≡ record t { marks = new.marks }
  pub blocks : blocks_of new.marks ≡ blocks_of t.marks
  pub taken : (c b : ℕ) → is_taken new.marks c b ≡
      (is_taken t.marks c b || ((c == chunk) && (b == block)))
