-- What a script answers for a step of a task and for a step of the donor, without the line feed
-- after it.
use Rattle.std.specs.Prelude.{ℕ, ◌==◌, ◌||◌, ◌++◌, [], codes, nat_lt, if◌then◌else◌}
use Rattle.std.specs.Fmt.{decimal}
use Rattle.clone_model.specs.Texts.{value_text}
use Rattle.clone_chunk.specs.CauseTexts.{cause_text}
use Rattle.clone_plain.specs.Answers.{Text}
use Rattle.clone_tasks.specs.declared.end.CloneEnd.{CloneEnd}
use Rattle.clone_tasks.specs.declared.end.CloneEnd.TheVariants as end
use Rattle.clone_recipient.specs.declared.took.Took.{Took}
use Rattle.clone_fetch.specs.declared.answer.TaskAnswer.{TaskAnswer}
use Rattle.clone_fetch.specs.declared.answer.TaskAnswer.TheVariants as task
use Rattle.clone_serve.specs.declared.turn.ServeAnswer.{ServeAnswer}
use Rattle.clone_serve.specs.declared.turn.ServeAnswer.TheVariants as served
use Rattle.clone_network.specs.declared.donor_step.DonorStep.{DonorStep}
use Rattle.clone_network.specs.declared.donor_step.DonorStep.TheVariants as step

-- the bytes that an end couldn't read, in hex digits; there is always at least one, and for none
-- there would be a dash
abbrev pub garbled_text : Text → Text
garbled_text kept = codes "garbled " ++ value_text kept

-- HOW A CLONE ENDED. The text of a cause begins with `refused`.
abbrev pub end_text : CloneEnd → Text
end_text (end.Complete lsn position) = codes "complete position " ++ decimal position
end_text (end.Spent losses) = codes "restarts spent " ++ decimal losses
end_text (end.Garbled kept) = garbled_text kept
end_text (end.Refused cause) = codes "clone " ++ cause_text cause
end_text end.DiskFault = codes "recipient disk fault"

-- a block by its chunk and its number there
abbrev pub block_text : (word : Text) (chunk block : ℕ) → Text
block_text word chunk block = word ++ codes " " ++ decimal chunk ++ codes " " ++ decimal block

-- the frame that a task sent, by its code; two codes are of REINIT
abbrev pub sent_text : ℕ → Text
sent_text code =
    if code == 1 then codes "sent INIT"
    else (if code == 2 then codes "sent ATTACH"
    else (if (code == 3) || (code == 7) then codes "sent REINIT"
    else (if code == 4 then codes "sent EXECUTE"
    else (if code == 5 then codes "sent ACK"
    else codes "sent EXIT"))))

-- the frame that a task took, by its code
abbrev pub took_text : Took → Text
took_text took =
    if took.code == 17 then block_text (codes "took PAGES") took.chunk took.block
    else (if took.code == 18 then block_text (codes "took REDO") took.chunk took.block
    else (if took.code == 19 then codes "took END"
    else codes "took STAGE"))

-- A STEP OF A TASK. One without memory has no text.
abbrev pub task_text : TaskAnswer → Text
task_text task.Idle = codes "idle"
task_text task.Stale = codes "idle"
task_text (task.Sent code) = sent_text code
task_text (task.Took took) = took_text took
task_text (task.Lost losses) = codes "lost " ++ decimal losses
task_text (task.Ended how) = end_text how
task_text task.NoMemory = []

-- a stage with the LSN and the position of the clone
abbrev pub stage_at_text : (stage lsn position : ℕ) → Text
stage_at_text stage lsn position =
    codes "answered STAGE " ++ decimal stage ++ codes " lsn " ++ decimal lsn
    ++ codes " position " ++ decimal position

-- a stage that was answered; the clone has its LSN and position from the copy of redo on
abbrev pub stage_text : (stage lsn position : ℕ) → Text
stage_text stage lsn position =
    if nat_lt stage 3 then codes "answered STAGE " ++ decimal stage
    else stage_at_text stage lsn position

-- what the donor's end served
abbrev pub served_text : ServeAnswer → Text
served_text served.Idle = codes "idle"
served_text (served.SentPages chunk block) = block_text (codes "sent PAGES") chunk block
served_text (served.SentRedo chunk block) = block_text (codes "sent REDO") chunk block
served_text served.SentEnd = codes "sent END"
served_text (served.Answered stage lsn position) = stage_text stage lsn position
served_text served.Execute = codes "execute"
served_text served.Exit = codes "exit"
served_text (served.Refused cause) = cause_text cause
served_text served.DiskFault = codes "refused E17"
served_text (served.Garbled kept) = garbled_text kept
served_text served.NoMemory = []

-- A STEP OF THE DONOR. One without memory has no text.
abbrev pub step_text : DonorStep → Text
step_text step.Lost = codes "lost"
step_text (step.Served says) = served_text says
