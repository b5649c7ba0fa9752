-- What the calls of a donor do, by what they answer.
use Rattle.std.specs.Prelude.{ℕ, ◌≡◌, ◌⊎◌, Bool, true, false, None, Some, IsTrue, IfOk, Result, Ok, Err, if◌then◌else◌}
use Rattle.std.specs.declared.option.Option.{Option}
use Rattle.std.specs.FinMap as finite
use Rattle.clone_outside.specs.Causes.{Rose}
use Rattle.clone_outside.specs.Disk as outside
use Rattle.clone_outside.specs.Disk.{DiskImage}
use Rattle.clone_ring.specs.Window.{end_of}
use Rattle.clone_pool.specs.Frames.{frame_at, name_of}
use Rattle.clone_pool.specs.Pool.{AreNotWaiting, IsNextToFlush}
use Rattle.clone_buffer.specs.Buffered.{Buffered}
use Rattle.clone_buffer.specs.Flushing.{IsReached}
use Rattle.clone_buffer.specs.OnePage.{Copies, NoFilesOf, after_create}
use Rattle.clone_flush.specs.Calls.{Begins, Halves, Lands, after_begin, checked, with_file, without_file}
use Rattle.clone_flush.specs.Flights.{Flights, HasWriteOf}
use Rattle.clone_flush.specs.declared.refusal.FlushRefusal.{FlushRefusal}
use Rattle.clone_flush.specs.declared.refusal.FlushRefusal.TheVariants as flush
use Rattle.clone_plain.specs.Donor.{Donor}
use Rattle.clone_plain.specs.Causes.{drop_cause}
use Rattle.clone_plain.specs.Effects.{Gets, put_of, delete_of}
use Rattle.clone_plain.specs.Calls.{cause_of, Does}
use Rattle.clone_plain.specs.declared.call.EngineAnswer.{EngineAnswer}
use Rattle.clone_plain.specs.declared.call.EngineAnswer.TheVariants as answers
use Rattle.clone_plain.specs.declared.call.EngineCall.{EngineCall}
use Rattle.clone_plain.specs.declared.call.EngineCall.TheVariants as call
use Rattle.clone_plain.specs.declared.refusal.Cause.{Cause}
use Rattle.clone_plain.specs.declared.refusal.Cause.TheVariants as cause
use Rattle.clone_plain.specs.declared.refusal.EngineRefusal.{EngineRefusal}
use Rattle.clone_plain.specs.declared.refusal.EngineRefusal.TheVariants.{Because, NoMemory}
use Rattle.clone_trx.specs.Calls.{create_way, drop_way, begin_way, change_way, get_way, undo_way, commit_way}
use Rattle.clone_trx.specs.Ways as ways
use Rattle.clone_trx.specs.Ways.{Way, ends, Answers, CarriesDrop}
use Rattle.clone_engine.specs.Disks.{Visits}
use Rattle.clone_outside.specs.DiskCalls.{DiskState}
use Rattle.clone_engine.specs.Engine.{Engine, StandsBeside, state_of}

-- what a call answered, as the call that was carried out or why it wasn't
abbrev pub answer_of : {X : Type 0} → (X → EngineAnswer) → Result X EngineRefusal
    → Result EngineAnswer EngineRefusal
answer_of did (Ok x) = Ok (did x)
answer_of did (Err refusal) = Err refusal

-- the way over pages of a call of transactions
abbrev pub way_of : Donor → EngineCall → Way
way_of d (call.Create table buckets) = create_way table buckets
way_of d (call.Drop table) = drop_way table
way_of d (call.Begin writer index) = begin_way d writer index
way_of d (call.Put trx table key value) = change_way d trx (put_of table key value)
way_of d (call.Delete trx table key) = change_way d trx (delete_of table key)
way_of d (call.Get trx table key) = get_way d table key
way_of d (call.UndoOne trx) = undo_way d trx
way_of d (call.Commit trx) = commit_way d trx
way_of d call = ends

-- a disk over a call: it fails only where its count rose
pub record Serves (old new : DiskState) (answer : Result EngineAnswer EngineRefusal) : Type 0 where
  pub visits : Visits old new
  pub fault : answer ≡ Err (Because cause.DiskFault) → Rose old.failures new.failures

-- WHAT THE DISK HOLDS stays over a call of transactions, but for the file of a table that is made
-- or dropped.
abbrev pub Holds : EngineCall → Option DiskImage → Option DiskImage → Type 0
Holds (call.Create table buckets) old new =
    outside.IsBeforeOrAfter old new (λ m. outside.with_created m table buckets)
Holds (call.Drop table) old new =
    outside.IsBeforeOrAfter old new (λ m. outside.with_removed m table)
Holds call old new = new ≡ old

-- where what was read was right, a row's value is the plain donor's
abbrev pub Sees : Donor → Buffered → EngineCall → EngineAnswer → Type 0
Sees d after (call.Get trx table key) (answers.Get value) =
    IsTrue after.right → Gets d trx table key value
Sees d after asked did = Unit {0}

-- a table is made only where no file of it is known
abbrev pub IsFresh : EngineCall → Engine → Type 0
IsFresh (call.Create table buckets) s = finite.get s.flights.files table ≡ None
IsFresh call s = Unit {0}

-- this call was carried out, and did what it is for
pub record Did (call : EngineCall) (s t : Engine) (did : EngineAnswer) : Type 0 where
  pub does : Does s.donor call did t.donor
  pub sees : Sees s.donor t.buffer call did
  pub fresh : IsFresh call s

-- a call of transactions answers for its cause or goes its way, up to this answer
abbrev pub FollowsItsWay : EngineCall → Engine → Engine → Result EngineAnswer EngineRefusal → Type 0
FollowsItsWay call s t answer =
    Answers (cause_of s.donor call) (way_of s.donor call) s.donor t.donor s.buffer t.buffer answer
    (Did call s t)

-- A CALL OF TRANSACTIONS. Want of memory is free: on the way, or before anything has changed.
abbrev pub Goes : EngineCall → Engine → Engine → Result EngineAnswer EngineRefusal → Type 0
Goes call s t (Err NoMemory) = (t ≡ s) ⊎ FollowsItsWay call s t (Err NoMemory)
Goes call s t answer = FollowsItsWay call s t answer

-- what becomes of the files: one is made of each table that is
abbrev pub flown : EngineCall → Result EngineAnswer EngineRefusal → Flights → Flights
flown (call.Create table buckets) (Ok did) f = with_file table buckets f
flown asked answer f = f

pub record Transacts (call : EngineCall) (s t : Engine) (answer : Result EngineAnswer EngineRefusal)
    : Type 0 where
  pub goes : Goes call s t answer
  pub flights : t.flights ≡ flown call answer s.flights
  pub disk : Serves s.disk t.disk answer
  pub holds : Holds call s.disk.told t.disk.told

-- The files, where a table may have been dropped: that of a table which is gone isn't known any
-- more.
abbrev pub left_by : Donor → ℕ → Flights → Flights
left_by d table f = if finite.contains_key d.tables table then f else without_file table f

-- so it is where a table may not have been made
abbrev pub left_unmade : Result (Unit {0}) EngineRefusal → ℕ → Flights → Flights
left_unmade (Ok x) table f = f
left_unmade (Err refusal) table f = without_file table f

-- A drop goes its way, with no page of the table on its way to the disk.
pub record GoesDrop (table : ℕ) (s t : Engine) (answer : Result EngineAnswer EngineRefusal)
    : Type 0 where
  pub quiet : ¬ HasWriteOf table s.flights
  pub way : ways.Goes (way_of s.donor (call.Drop table)) s.buffer t.buffer answer
  pub donor : CarriesDrop table s.donor t.donor s.buffer t.buffer answer
  pub flights : t.flights ≡ left_by t.donor table s.flights
  pub did : IfOk answer (λ did. did ≡ answers.Drop)

-- It is refused for the plain donor's cause, and then where a page of the table is on its way.
abbrev pub AnswersDrop : Option Cause → ℕ → Engine → Engine → Result EngineAnswer EngineRefusal
    → Type 0
AnswersDrop (Some why) table s t answer = (answer ≡ Err (Because why)) × (t ≡ s)
AnswersDrop None table s t answer =
    (HasWriteOf table s.flights × (answer ≡ Err (Because cause.InFlight)) × (t ≡ s))
    ⊎ GoesDrop table s t answer

-- A DROP of a table: where it is carried out, the disk has removed the table's file.
pub record Drops (table : ℕ) (s t : Engine) (answer : Result EngineAnswer EngineRefusal)
    : Type 0 where
  pub answers : AnswersDrop (drop_cause s.donor table) table s t answer
  pub file : IfOk answer
      (λ _. outside.Steps s.disk.told t.disk.told (λ m. outside.with_removed m table))
  pub disk : Serves s.disk t.disk answer
  pub holds : Holds (call.Drop table) s.disk.told t.disk.told

-- why a flush is refused, as the donor answers it
abbrev pub refusal_of : FlushRefusal → EngineRefusal
refusal_of flush.NotDirty = Because cause.NotDirty
refusal_of flush.InFlight = Because cause.InFlight
refusal_of flush.NoFlush = Because cause.NoFlush
refusal_of flush.DiskFault = Because cause.DiskFault
refusal_of flush.NoMemory = NoMemory

-- what a flush answers
abbrev pub flush_answer : Result (Unit {0}) FlushRefusal → Result (Unit {0}) EngineRefusal
flush_answer (Ok x) = Ok x
flush_answer (Err refusal) = Err (refusal_of refusal)

-- a flush answered so
abbrev pub AnswersFlush : EngineAnswer → (Result (Unit {0}) FlushRefusal → Type 0)
    → Result EngineAnswer EngineRefusal → Type 0
AnswersFlush did Flushes (Ok x) = (x ≡ did) × Flushes (Ok tt)
AnswersFlush did Flushes (Err e) =
    (refusal : FlushRefusal) × (e ≡ refusal_of refusal) × Flushes (Err refusal)

-- A CALL OF A FLUSH
pub record Flushes (did : EngineAnswer) (s t : Engine) (answer : Result EngineAnswer EngineRefusal)
    (Does : Result (Unit {0}) FlushRefusal → Type 0) : Type 0 where
  pub does : AnswersFlush did Does answer
  pub donor : t.donor ≡ s.donor
  pub disk : Serves s.disk t.disk answer

-- the oldest dirty page that waits for its flush, or none where no page does
abbrev pub IsOldestDirty : Buffered → Option (ℕ × ℕ) → Type 0
IsOldestDirty b None = AreNotWaiting b.pool.frames
IsOldestDirty b (Some page) =
    (at : ℕ) × IsNextToFlush b.pool.frames at
    × (name_of (frame_at b.pool.frames at)
    ≡ Some (record { space = page.0; number = page.1 }))

-- a checkpoint is taken at an LSN, and the log is kept from another one on where that is given
pub record Checks (kept_from : Option ℕ) (s t : Engine) (lsn : ℕ) : Type 0 where
  pub reached : IsReached s.buffer lsn
  pub state : state_of t ≡ checked lsn kept_from (state_of s)
  pub donor : t.donor ≡ s.donor
  pub disk : t.disk ≡ s.disk

-- what a call that is never refused answers
abbrev pub AnswersWith : Result EngineAnswer EngineRefusal → (EngineAnswer → Type 0) → Type 0
AnswersWith (Ok did) P = P did
AnswersWith (Err refusal) P = ⊥

-- a look for the oldest dirty page, a checkpoint, and the log's end
abbrev pub Looks : Engine → Engine → EngineAnswer → Type 0
Looks s t (answers.OldestDirty page) = IsOldestDirty s.buffer page × (t ≡ s)
Looks s t did = ⊥

abbrev pub Ends : Engine → Engine → EngineAnswer → Type 0
Ends s t (answers.End lsn) = (lsn ≡ end_of s.buffer.ring) × (t ≡ s)
Ends s t did = ⊥

-- a checkpoint that keeps no more of the log
abbrev pub ChecksAt : Engine → Engine → EngineAnswer → Type 0
ChecksAt s t (answers.Checkpoint lsn) = Checks None s t lsn
ChecksAt s t did = ⊥

-- THE STEP OF A CALL, by what it answers
abbrev pub Steps : EngineCall → Engine → Engine → Result EngineAnswer EngineRefusal → Type 0
Steps (call.Drop table) s t answer = Drops table s t answer
Steps (call.FlushBegin space page) s t answer =
    Flushes answers.FlushBegin s t answer
    (Begins (record { space = space; number = page }) (state_of s) (state_of t)
    s.disk.told t.disk.told)
Steps (call.FlushHalf space page) s t answer =
    Flushes answers.FlushHalf s t answer
    (Halves (record { space = space; number = page }) (state_of s) (state_of t)
    s.disk.told t.disk.told)
Steps (call.FlushLand space page) s t answer =
    Flushes answers.FlushLand s t answer
    (Lands (record { space = space; number = page }) (state_of s) (state_of t)
    s.disk.told t.disk.told)
Steps call.OldestDirty s t answer = AnswersWith answer (Looks s t)
Steps call.Checkpoint s t answer = AnswersWith answer (ChecksAt s t)
Steps call.End s t answer = AnswersWith answer (Ends s t)
Steps call s t answer = Transacts call s t answer

-- the flush of a page began, also where it failed at once
abbrev pub has_begun : {X : Type 0} → Result X EngineRefusal → Bool
has_begun (Ok x) = true
has_begun (Err (Because cause.DiskFault)) = true
has_begun (Err refusal) = false

-- what a clone has of each page, after a table was made, or wasn't
abbrev pub copies_made : {X : Type 0} → Result X EngineRefusal → ℕ → ℕ → Copies → Copies
copies_made (Ok x) table buckets copies = after_create table buckets copies
copies_made (Err refusal) table buckets copies = copies

-- WHAT A CLONE HAS of each page goes on beside the pages. The tracker notes a page whose flush
-- begins. A page of a table that is made starts as it is made, and a table may be dropped while no
-- clone is in the FILE COPY of its space.
abbrev pub KeepsCopies : EngineCall → Engine → Engine → Result EngineAnswer EngineRefusal → Type 0
KeepsCopies (call.Create table buckets) s t answer =
    (copies : Copies) → StandsBeside s copies
    → StandsBeside t (copies_made answer table buckets copies)
KeepsCopies (call.Drop table) s t answer =
    (copies : Copies) → NoFilesOf table copies → StandsBeside s copies → StandsBeside t copies
KeepsCopies (call.FlushBegin space page) s t answer =
    (copies : Copies) → StandsBeside s copies → StandsBeside t
    (after_begin (record { space = space; number = page }) (has_begun answer) copies)
KeepsCopies call s t answer = (copies : Copies) → StandsBeside s copies → StandsBeside t copies

-- A call that was carried out, or refused for a cause, is a step of the engine.
abbrev pub EngineStep : Engine → EngineCall → Result EngineAnswer Cause → Engine → Type 0
EngineStep s call (Ok did) t = Steps call s t (Ok did)
EngineStep s call (Err cause) t = Steps call s t (Err (Because cause))
