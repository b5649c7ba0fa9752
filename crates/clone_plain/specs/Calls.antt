-- What a call of an engine does to the plain donor, with its answer.
use Rattle.std.specs.Prelude.{◌≡◌, ◌⊎◌, Bool, true, false, length, None, Some, Result, Ok, Err}
use Rattle.std.specs.declared.option.Option.{Option}
use Rattle.clone_plain.specs.declared.refusal.Cause.{Cause}
use Rattle.clone_plain.specs.declared.refusal.Cause.TheVariants.{NoSuchTrx, NoSuchTable, TableExists, RowLocked, ValueTooLong, UndoFull, SpaceFull, LogFull, PoolFull, TooManyTransactions, TooManyTables, CloneRunning, TableInUse, NotDirty, InFlight, NoFlush, DiskFault}
use Rattle.clone_plain.specs.declared.call.EngineAnswer.{EngineAnswer}
use Rattle.clone_plain.specs.declared.call.EngineAnswer.TheVariants as answers
use Rattle.clone_plain.specs.declared.call.EngineCall.{EngineCall}
use Rattle.clone_plain.specs.declared.call.EngineCall.TheVariants as call
use Rattle.clone_plain.specs.Donor.{Donor}
use Rattle.clone_plain.specs.Causes.{create_cause, drop_cause, begin_cause, change_cause, get_cause, no_trx, no_table}
use Rattle.clone_plain.specs.Effects.{created, dropped, Begins, Changes, put_of, delete_of, Undoes, Commits}

-- the first cause against a call
abbrev pub cause_of : Donor → EngineCall → Option Cause
cause_of d (call.Create table buckets) = create_cause d table
cause_of d (call.Drop table) = drop_cause d table
cause_of d (call.Begin writer index) = begin_cause d
cause_of d (call.Put trx table key value) = change_cause d trx table key (length value)
cause_of d (call.Delete trx table key) = change_cause d trx table key 0
cause_of d (call.Get trx table key) = get_cause d trx table key
cause_of d (call.UndoOne trx) = no_trx d trx
cause_of d (call.Commit trx) = no_trx d trx
cause_of d (call.FlushBegin space page) = None
cause_of d (call.FlushHalf space page) = None
cause_of d (call.FlushLand space page) = None
cause_of d call.OldestDirty = None
cause_of d call.Checkpoint = None
cause_of d call.End = None

-- What a call does that is carried out. The value that a `get` answers comes from pages, and is
-- said where these are known.
abbrev pub Does : Donor → EngineCall → EngineAnswer → Donor → Type 0
Does d (call.Create table buckets) answers.Create after = after ≡ created table buckets d
Does d (call.Drop table) answers.Drop after = after ≡ dropped table d
Does d (call.Begin writer index) (answers.Begin trx) after = Begins d writer index trx after
Does d (call.Put trx table key value) answers.Put after = Changes d trx (put_of table key value) after
Does d (call.Delete trx table key) answers.Delete after = Changes d trx (delete_of table key) after
Does d (call.Get trx table key) (answers.Get value) after = after ≡ d
Does d (call.UndoOne trx) (answers.UndoOne undone) after = Undoes d trx undone after
Does d (call.Commit trx) (answers.Commit position) after = Commits d trx position after
Does d (call.FlushBegin space page) answers.FlushBegin after = after ≡ d
Does d (call.FlushHalf space page) answers.FlushHalf after = after ≡ d
Does d (call.FlushLand space page) answers.FlushLand after = after ≡ d
Does d call.OldestDirty (answers.OldestDirty page) after = after ≡ d
Does d call.Checkpoint (answers.Checkpoint lsn) after = after ≡ d
Does d call.End (answers.End lsn) after = after ≡ d
Does d asked given after = ⊥

-- a cause that the plain donor doesn't know: a page, the log or the pool is full, a page isn't at
-- this step of a flush, or the disk failed
abbrev pub is_below : Cause → Bool
is_below NoSuchTrx = false
is_below NoSuchTable = false
is_below TableExists = false
is_below (RowLocked holder) = false
is_below ValueTooLong = false
is_below UndoFull = false
is_below SpaceFull = true
is_below (LogFull need free) = true
is_below (PoolFull frames) = true
is_below TooManyTransactions = false
is_below TooManyTables = false
is_below (CloneRunning session) = false
is_below (TableInUse trx) = false
is_below NotDirty = true
is_below InFlight = true
is_below NoFlush = true
is_below DiskFault = true

-- A call is refused for the cause against it. Where there is none, it may be refused for one that
-- the plain donor doesn't know. A clone that runs is against a drop alone, and only where there is
-- such a table.
abbrev pub IsRefused : Donor → EngineCall → Cause → Type 0
IsRefused d (call.Create table buckets) (CloneRunning session) = ⊥
IsRefused d (call.Drop table) (CloneRunning session) = no_table d table ≡ None
IsRefused d call cause =
    (cause_of d call ≡ Some cause) ⊎ ((cause_of d call ≡ None) × (is_below cause ≡ true))

-- A call that is refused changes nothing. But where the disk fails in a drop, the table may be
-- gone.
abbrev pub AfterRefusal : Donor → EngineCall → Cause → Donor → Type 0
AfterRefusal d (call.Drop table) DiskFault after = (after ≡ d) ⊎ (after ≡ dropped table d)
AfterRefusal d call cause after = after ≡ d

-- A call is carried out only where there is no cause against it. Else it is refused.
abbrev pub PlainStep : Donor → EngineCall → Result EngineAnswer Cause → Donor → Type 0
PlainStep d call (Ok answer) after = (cause_of d call ≡ None) × Does d call answer after
PlainStep d call (Err cause) after = IsRefused d call cause × AfterRefusal d call cause after
