-- The texts of answers, without the line feed behind them.
use Rattle.std.specs.Prelude.{ℕ, List, [], ◌++◌, length, None, Some, codes, Result, Ok, Err}
use Rattle.std.specs.declared.option.Option.{Option}
use Rattle.std.specs.Fmt.{decimal}
use Rattle.clone_model.specs.History.{Row}
use Rattle.clone_model.specs.Texts.{rows_text, value_text}
use Rattle.clone_plain.specs.declared.refusal.Cause.{Cause}
use Rattle.clone_plain.specs.declared.refusal.Cause.TheVariants.{NoSuchTrx, NoSuchTable, TableExists, RowLocked, ValueTooLong, UndoFull, SpaceFull, LogFull, PoolFull, TooManyTransactions, TooManyTables, CloneRunning, TableInUse, NotDirty, InFlight, NoFlush, DiskFault}
use Rattle.clone_plain.specs.declared.refusal.Undone.{Undone}
use Rattle.clone_plain.specs.declared.refusal.Undone.TheVariants.{Left, Ended}
use Rattle.clone_plain.specs.declared.call.EngineAnswer.{EngineAnswer}
use Rattle.clone_plain.specs.declared.call.EngineAnswer.TheVariants as answers

abbrev pub Text : Type 0
Text = List ℕ

-- a refusal by its number with its letter, and its values
abbrev pub refusal_text : Cause → Text
refusal_text NoSuchTrx = codes "refused E1"
refusal_text NoSuchTable = codes "refused E2"
refusal_text TableExists = codes "refused E3"
refusal_text (RowLocked holder) = codes "refused E4 " ++ decimal holder
refusal_text ValueTooLong = codes "refused E5"
refusal_text UndoFull = codes "refused E6"
refusal_text SpaceFull = codes "refused E7"
refusal_text (LogFull need free) = codes "refused E8 " ++ decimal need ++ codes " " ++ decimal free
refusal_text (PoolFull frames) = codes "refused E9 " ++ decimal frames
refusal_text TooManyTransactions = codes "refused E10"
refusal_text TooManyTables = codes "refused E11"
refusal_text (CloneRunning session) = codes "refused E12 " ++ decimal session
refusal_text (TableInUse trx) = codes "refused E13 " ++ decimal trx
refusal_text NotDirty = codes "refused E14"
refusal_text InFlight = codes "refused E15"
refusal_text NoFlush = codes "refused E16"
refusal_text DiskFault = codes "refused E17"

-- a value, or that there is none
abbrev pub value_answer : Option (List ℕ) → Text
value_answer None = codes "none"
value_answer (Some value) = codes "value " ++ value_text value

-- how many changes are left, or that the transaction ended
abbrev pub undone_answer : Undone → Text
undone_answer (Left left) = codes "undone " ++ decimal left
undone_answer Ended = codes "ended"

-- the answer of a call that was carried out; that of a look for a dirty page no line shows
abbrev pub answer_text : EngineAnswer → Text
answer_text answers.Create = codes "created"
answer_text answers.Drop = codes "dropped"
answer_text (answers.Begin trx) = codes "trx " ++ decimal trx
answer_text answers.Put = codes "ok"
answer_text answers.Delete = codes "ok"
answer_text (answers.Get value) = value_answer value
answer_text (answers.UndoOne undone) = undone_answer undone
answer_text (answers.Commit position) = codes "committed " ++ decimal position
answer_text answers.FlushBegin = codes "begun"
answer_text answers.FlushHalf = codes "half"
answer_text answers.FlushLand = codes "landed"
answer_text (answers.OldestDirty page) = []
answer_text (answers.Checkpoint lsn) = codes "checkpoint " ++ decimal lsn
answer_text (answers.End lsn) = codes "lsn " ++ decimal lsn

-- and of one that was refused
abbrev pub called_text : Result EngineAnswer Cause → Text
called_text (Ok given) = answer_text given
called_text (Err cause) = refusal_text cause

-- the rows, each on a line, and then their number
abbrev pub rows_answer : List Row → Text
rows_answer rows = rows_text rows ++ codes "rows " ++ decimal (length rows)
