-- THE RECORD of a recipient: the answers that it accepted so far, over a disk that was another one
-- at the beginning, and what of them is kept. No donor is named.
use Rattle.std.specs.Prelude.{ℕ, ◌≡◌, ◌≤◌, ◌&&◌, not, Bool, true, false, List, [], ◌∷◌, Contains}
use Rattle.std.specs.declared.option.Option.{Option}
use Rattle.clone_outside.specs.Disk.{DiskImage}
use Rattle.clone_chunk.specs.Stages.{copy_number}
use Rattle.clone_chunk.specs.declared.copy_stage.CopyStage.{CopyStage}
use Rattle.clone_chunk.specs.declared.copy_stage.CopyStage.TheVariants as copy
use Rattle.clone_chunk.specs.declared.plan.StagePlan.{StagePlan}
use Rattle.clone_accepted.specs.Answers.{Item, Moves, PageBlock, RedoBlock, Takes, ToldFiles}
use Rattle.clone_accepted.specs.Answers.{ToldPages, ToldRedo}
use Rattle.clone_accepted.specs.Record.{HasLog, IsRecord}
use Rattle.clone_accepted.specs.Whole.{HasPages, HasRedo}
use Rattle.clone_marks.specs.Blocks.{is_taken}
use Rattle.clone_marks.specs.declared.chunk_marks.ChunkMarks.{ChunkMarks}
use Rattle.clone_wire.specs.declared.frame.Frame.{Frame}
use Rattle.clone_wire.specs.declared.frame.Frame.TheVariants as frame
use Rattle.clone_tasks.specs.Awaiting.{moves}
use Rattle.clone_tasks.specs.Tables.{is_done}
use Rattle.clone_tasks.specs.declared.standing.Phase.{Phase}
use Rattle.clone_tasks.specs.declared.standing.Phase.TheVariants.{Opening, Copying, Done}
use Rattle.clone_recipient.specs.Expecting.{copied_in}
use Rattle.clone_recipient.specs.Receptions.{Reception}
use Rattle.clone_recipient.specs.Taking.{laid_at, told_by}

-- ---- what a frame adds to it

-- the stage to which it moved the recipient, if it did
abbrev pub moved_to : Bool → StagePlan → List Item
moved_to true plan = Moves (told_by plan) ∷ []
moved_to false plan = []

-- A STAGE that moves the recipient, and each block. Once all is copied nothing more is added.
abbrev pub items_of : Reception → ℕ → Frame → List Item
items_of r task (frame.Stage attempt plan) =
    moved_to (moves r.table task && not (is_done r.table.phase)) plan
items_of r task (frame.Pages attempt stage chunk block pages) =
    Takes (PageBlock (copy_number (copied_in stage)) chunk block (laid_at pages)) ∷ []
items_of r task (frame.Redo attempt chunk block from bytes) =
    Takes (RedoBlock chunk block from bytes) ∷ []
items_of r task other = []

-- ---- what of it is kept

-- the recipient's stage by its number
abbrev pub stage_of : Phase → ℕ
stage_of Opening = 0
stage_of (Copying stage) = copy_number stage
stage_of Done = 4

-- a block of the stage was taken
abbrev pub HasBlock : CopyStage → List Item → ℕ → ℕ → Type 0
HasBlock copy.FileCopy items chunk block = HasPages items 1 chunk block
HasBlock copy.PageCopy items chunk block = HasPages items 2 chunk block
HasBlock copy.RedoCopy items chunk block = HasRedo items chunk block

-- so was each that is marked
abbrev pub AreTaken : Phase → List ChunkMarks → List Item → Type 0
AreTaken Opening marks items = Unit {0}
AreTaken (Copying stage) marks items =
    (chunk block : ℕ) → is_taken marks chunk block ≡ true → HasBlock stage items chunk block
AreTaken Done marks items = Unit {0}

-- THESE WERE ACCEPTED, in their turn, and the disk holds what they say; what was told of each stage
-- up to the recipient's is among them, and so are the blocks that are marked.
pub record IsRecordIn (phase : Phase) (r : Reception) (items : List Item) (first : DiskImage)
    (told : Option DiskImage) : Type 0 where
  pub is : IsRecord items (stage_of phase) first told
  pub files : 1 ≤ stage_of phase → Contains items (Moves (ToldFiles r.files))
  pub pages : 2 ≤ stage_of phase
      → (made : List (ℕ × ℕ)) × Contains items (Moves (ToldPages r.pages made))
  pub redo : 3 ≤ stage_of phase
      → Contains items (Moves (ToldRedo r.checkpoint r.lsn r.position))
  pub blocks : AreTaken phase r.table.marks items
  pub log : is_done phase ≡ true → HasLog items r.checkpoint r.lsn r.position

abbrev pub IsRecordOf : Reception → List Item → DiskImage → Option DiskImage → Type 0
IsRecordOf r items first told = IsRecordIn r.table.phase r items first told
