-- A WRITER: what it asks next, and what it has come to after an answer.
use Rattle.std.specs.Prelude.{ℕ, ◌≡◌, ◌+◌, ◌==◌, List, if◌then◌else◌, None, Some, slice_get, Result, Ok, Err, ⊤}
use Rattle.std.specs.declared.option.Option.{Option}
use Rattle.clone_model.specs.declared.change.Change.{Change}
use Rattle.clone_plain.specs.declared.call.EngineAnswer.{EngineAnswer}
use Rattle.clone_plain.specs.declared.call.EngineAnswer.TheVariants as answers
use Rattle.clone_plain.specs.declared.call.EngineCall.{EngineCall}
use Rattle.clone_plain.specs.declared.call.EngineCall.TheVariants as call
use Rattle.clone_plain.specs.declared.refusal.Cause.TheVariants.{RowLocked}
use Rattle.clone_plain.specs.declared.refusal.EngineRefusal.{EngineRefusal}
use Rattle.clone_plain.specs.declared.refusal.EngineRefusal.TheVariants.{Because}
use Rattle.clone_plain.specs.declared.refusal.Undone.TheVariants.{Ended}
use Rattle.clone_workload.specs.Transactions.{generated}
use Rattle.clone_writer.specs.declared.writer.Place.{Place}
use Rattle.clone_writer.specs.declared.writer.Place.TheVariants.{Before, Within, Undoing}

-- a writer of a workload: what it is to commit, and how far it is
pub record Writer : Type 0 where
  -- what its transactions are generated from
  pub seed : ℕ
  pub number : ℕ
  pub tables : ℕ
  -- how many transactions it is to commit
  pub count : ℕ
  -- how many it has committed
  pub index : ℕ
  -- how far it is with the next one
  pub place : Place

-- nothing is made yet
abbrev pub starting : ℕ → ℕ → ℕ → ℕ → Writer
starting seed number tables count = record
    { seed = seed; number = number; tables = tables; count = count; index = 0; place = Before }

-- the changes of its next transaction
abbrev pub changes_of : Writer → List Change
changes_of w = generated w.seed w.number w.index w.tables

-- a row gets a value, or is removed
abbrev pub setting : ℕ → ℕ → ℕ → Option (List ℕ) → EngineCall
setting trx table key (Some value) = call.Put trx table key value
setting trx table key None = call.Delete trx table key

-- the call that makes a change
abbrev pub call_of : ℕ → Change → EngineCall
call_of trx change = setting trx change.table change.key change.value

-- a change that isn't made yet, and after the last one the commit
abbrev pub next_of : ℕ → Option Change → EngineCall
next_of trx (Some change) = call_of trx change
next_of trx None = call.Commit trx

-- The next transaction begins; its changes are made in their order; it is committed. Where it was
-- met by a lock, its changes are taken back.
abbrev pub asked_at : Writer → Place → EngineCall
asked_at w Before = call.Begin w.number w.index
asked_at w (Within trx made) = next_of trx (slice_get (changes_of w) made)
asked_at w (Undoing trx) = call.UndoOne trx

-- what the writer asks next, or nothing once all is committed
abbrev pub asked : Writer → Option EngineCall
asked w = if w.index == w.count then None else Some (asked_at w w.place)

-- the writer is at another place
abbrev pub at : Place → Writer → Writer
at place w = record w { place = place }

-- One transaction more is committed.
abbrev pub committed : Writer → Writer
committed w = record w { index = w.index + 1; place = Before }

-- The transaction that was begun is open.
abbrev pub after_begin : Writer → Result EngineAnswer EngineRefusal → Writer
after_begin w (Ok (answers.Begin trx)) = at (Within trx 0) w
after_begin w given = w

-- One change more is made, or a lock was met. Any other refusal leaves the writer where it was, so
-- that it asks again.
abbrev pub after_change : Writer → ℕ → ℕ → Result EngineAnswer EngineRefusal → Writer
after_change w trx made (Ok given) = at (Within trx (made + 1)) w
after_change w trx made (Err (Because (RowLocked holder))) = at (Undoing trx) w
after_change w trx made (Err refusal) = w

abbrev pub after_commit : Writer → Result EngineAnswer EngineRefusal → Writer
after_commit w (Ok given) = committed w
after_commit w (Err refusal) = w

-- Once all is taken back, the same transaction is to begin again.
abbrev pub after_undo : Writer → Result EngineAnswer EngineRefusal → Writer
after_undo w (Ok (answers.UndoOne Ended)) = at Before w
after_undo w given = w

abbrev pub after_next : Writer → ℕ → ℕ → Option Change → Result EngineAnswer EngineRefusal → Writer
after_next w trx made (Some change) given = after_change w trx made given
after_next w trx made None given = after_commit w given

abbrev pub told_at : Writer → Place → Result EngineAnswer EngineRefusal → Writer
told_at w Before given = after_begin w given
told_at w (Within trx made) given = after_next w trx made (slice_get (changes_of w) made) given
told_at w (Undoing trx) given = after_undo w given

-- what the writer has come to after the answer to what it asked
abbrev pub told : Writer → Result EngineAnswer EngineRefusal → Writer
told w given = if w.index == w.count then w else told_at w w.place given

-- what it keeps of the transaction at a place: while its changes are made, all of them
abbrev pub KeepsAt : List Change → Place → List Change → Type 0
KeepsAt changes Before kept = ⊤
KeepsAt changes (Within trx made) kept = kept ≡ changes
KeepsAt changes (Undoing trx) kept = ⊤

abbrev pub KeepsChanges : Writer → List Change → Type 0
KeepsChanges w kept = KeepsAt (changes_of w) w.place kept
