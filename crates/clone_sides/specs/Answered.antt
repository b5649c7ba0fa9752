-- What a donor answered to a session over a run, and when the session was opened.
use Rattle.std.specs.Prelude.{ℕ, ◌≢◌, ◌==◌, Bool, true, false, List, [], ◌∷◌, ◌++◌, Contains, map, Result, Ok, Err, if◌then◌else◌}
use Rattle.std.specs.Option.{option_map_or}
use Rattle.clone_chunk.specs.declared.plan.StagePlan.{StagePlan}
use Rattle.clone_chunk.specs.declared.plan.StagePlan.TheVariants.{FileCopy, PageCopy, RedoCopy, Done}
use Rattle.clone_lay.specs.Laid as lay
use Rattle.clone_marks.specs.Counts.{pairs_of}
use Rattle.clone_page.specs.declared.pages.PageAt.{PageAt}
use Rattle.clone_accepted.specs.Answers.{Answer, Item, PageBlock, RedoBlock, Stage, Told, ToldDone, ToldFiles, ToldPages, ToldRedo, answer_in}
use Rattle.clone_session.specs.declared.info.StageInfo.{StageInfo}
use Rattle.clone_session.specs.declared.refusal.CloneRefusal.{CloneRefusal}
use Rattle.clone_calls.specs.Answering.{block_in, stage_in}
use Rattle.clone_calls.specs.declared.answer.DonorAnswer.{DonorAnswer}
use Rattle.clone_calls.specs.declared.answer.DonorAnswer.TheVariants as answer
use Rattle.clone_calls.specs.declared.block.Block.{Block}
use Rattle.clone_calls.specs.declared.block.Block.TheVariants.{Pages, Redo}
use Rattle.clone_calls.specs.declared.block.BlockRefusal.{BlockRefusal}
use Rattle.clone_calls.specs.declared.call.DonorCall.{DonorCall}
use Rattle.clone_calls.specs.declared.call.DonorCall.TheVariants as call
use Rattle.clone_engine.specs.Acts.{Act, Calls, Orders}
use Rattle.clone_sides.specs.Trace.{Entry}

-- what an answer tells of a stage
abbrev pub told_by : StagePlan → Told
told_by (FileCopy chunks spaces) = ToldFiles (pairs_of spaces)
told_by (PageCopy chunks position spaces) = ToldPages position (pairs_of spaces)
told_by (RedoCopy chunks checkpoint lsn position) = ToldRedo checkpoint lsn position
told_by (Done checkpoint lsn position) = ToldDone

-- pages, each with its place
abbrev pub laid_at : List PageAt → List lay.PageAt
laid_at pages =
    map (λ p. record { space = p.space; number = p.number; bytes = p.page }) pages

-- a block says what it has
abbrev pub said_of : (stage chunk number : ℕ) → Block → Answer
said_of stage chunk number (Pages pages) = PageBlock stage chunk number (laid_at pages)
said_of stage chunk number (Redo from bytes) = RedoBlock chunk number from bytes

-- an answer, where it is to this session
abbrev pub to_session : (number session : ℕ) → Answer → List Answer
to_session number session answer = if session == number then answer ∷ [] else []

abbrev pub stage_said : ℕ → Result StageInfo CloneRefusal → List Answer
stage_said number (Ok info) = to_session number info.session (Stage (told_by info.plan))
stage_said number (Err why) = []

abbrev pub block_said : ℕ → DonorCall → Result (Block × Bool) BlockRefusal → List Answer
block_said number (call.ReadBlock caller stage chunk block) (Ok given) =
    to_session number caller.session (said_of stage chunk block given.0)
block_said number asked read = []

-- what an answer says to the session of this number: its stage, or a block
abbrev pub said_by : ℕ → DonorCall → DonorAnswer → List Answer
said_by number asked given =
    option_map_or (stage_said number) (stage_in given)
    (option_map_or (block_said number asked) (block_in given) [])

abbrev pub answered_by : ℕ → Act → List Answer
answered_by number (Calls asked given) = said_by number asked given
answered_by number Orders = []

-- ALL THAT WAS ANSWERED to the session of this number
abbrev pub answers : ℕ → List Entry → List Answer
answers number [] = []
answers number (e ∷ es) = answered_by number e.act ++ answers number es

-- EACH ITEM WAS ANSWERED
abbrev pub WereAnswered : ℕ → List Entry → List Item → Type 0
WereAnswered number trace items =
    (item : Item) → Contains items item → Contains (answers number trace) (answer_in item)

-- this session is opened, or begins again while it is open
abbrev pub opens : ℕ → Act → Bool
opens number (Calls asked (answer.Init (Ok info))) = info.session == number
opens number other = false

-- the session that is open ends
abbrev pub ends : Act → Bool
ends (Calls asked (answer.Exit (Ok gone))) = true
ends (Calls asked (answer.Abandon (Ok gone))) = true
ends other = false

-- how far a session has come: it wasn't opened yet, it is open, it is gone, or it was opened again
pub data Phase : Type 0 where
  Unopened : Phase
  Open : Phase
  Gone : Phase
  Again : Phase

abbrev pub phase_with : ℕ → Phase → Act → Phase
phase_with number Unopened act = if opens number act then Open else Unopened
phase_with number Open act = if ends act then Gone else Open
phase_with number Gone act = if opens number act then Again else Gone
phase_with number Again act = Again

abbrev pub phase_after : ℕ → Phase → List Entry → Phase
phase_after number phase [] = phase
phase_after number phase (e ∷ es) = phase_after number (phase_with number phase e.act) es

-- THE SESSION WAS OPENED ONCE. That it begins again while it is open is no second opening.
abbrev pub IsOpenedOnce : ℕ → List Entry → Type 0
IsOpenedOnce number trace = phase_after number Unopened trace ≢ Again
