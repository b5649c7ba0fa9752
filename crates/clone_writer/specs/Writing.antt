-- A DONOR AND ITS WRITERS: of each writer, what it has committed and what of its transaction is open.
use Rattle.std.specs.Prelude.{ℕ, ◌≡◌, ◌≢◌, ◌==◌, List, None, Some, filter, take, Result, Ok, Err, ⊤, Contains, IfSome}
use Rattle.std.specs.declared.option.Option.{Option}
use Rattle.std.specs.FinMap as finite
use Rattle.clone_model.specs.declared.change.Change.{Change}
use Rattle.clone_model.specs.declared.change.Commit.{Commit}
use Rattle.clone_plain.specs.Calls.{Does}
use Rattle.clone_plain.specs.Donor.{Donor}
use Rattle.clone_plain.specs.declared.call.EngineAnswer.{EngineAnswer}
use Rattle.clone_plain.specs.declared.call.EngineCall.{EngineCall}
use Rattle.clone_plain.specs.declared.call.EngineCall.TheVariants as call
use Rattle.clone_plain.specs.declared.refusal.EngineRefusal.{EngineRefusal}
use Rattle.clone_workload.specs.Transactions.{stream}
use Rattle.clone_writer.specs.Writers.{Writer, changes_of}
use Rattle.clone_writer.specs.declared.writer.Place.{Place}
use Rattle.clone_writer.specs.declared.writer.Place.TheVariants.{Before, Within, Undoing}

-- the commits of one writer, in their order
abbrev pub of_writer : ℕ → List Commit → List Commit
of_writer number binlog = filter (λ c. c.writer == number) binlog

-- A call that is carried out does what it does to the plain donor; a call that is refused leaves
-- its transactions and its commits.
abbrev pub Leads : Donor → EngineCall → Result EngineAnswer EngineRefusal → Donor → Type 0
Leads d asked (Ok given) after = Does d asked given after
Leads d asked (Err refusal) after = (after.active ≡ d.active) × (after.binlog ≡ d.binlog)

-- the commit that it will be, once so many changes are made
abbrev pub IsOpen : Writer → List Change → ℕ → Donor → Type 0
IsOpen w changes trx d = finite.get d.active trx
    ≡ Some (record { writer = w.number; index = w.index; changes = changes })

-- what is open of the writer's next transaction
abbrev pub IsAt : Writer → Place → Donor → Type 0
IsAt w Before d = ⊤
IsAt w (Within trx made) d = IsOpen w (take made (changes_of w)) trx d
IsAt w (Undoing trx) d = (left : List Change) × IsOpen w left trx d

-- THE WRITER AND THE DONOR AGREE: what it has committed is the beginning of its stream, and its
-- next transaction is open as far as the writer says.
pub record Agree (w : Writer) (d : Donor) : Type 0 where
  pub commits : of_writer w.number d.binlog ≡ stream w.seed w.number w.index w.tables
  pub place : IsAt w w.place d

-- the transaction is none of this writer's
abbrev pub IsOthers : ℕ → Donor → ℕ → Type 0
IsOthers number d trx = (commit : Commit) → finite.get d.active trx ≡ Some commit
    → commit.writer ≢ number

-- the transaction that a call changes or ends, if it is such a call
abbrev pub trx_of : EngineCall → Option ℕ
trx_of (call.Put trx table key value) = Some trx
trx_of (call.Delete trx table key) = Some trx
trx_of (call.UndoOne trx) = Some trx
trx_of (call.Commit trx) = Some trx
trx_of asked = None

-- The call has nothing to do with an open transaction of this writer.
abbrev pub Spares : ℕ → Donor → EngineCall → Type 0
Spares number d asked = IfSome (trx_of asked) (IsOthers number d)

-- Each open transaction and each commit is of one of these writers.
pub record AreOf (numbers : List ℕ) (d : Donor) : Type 0 where
  pub active : (trx : ℕ) (commit : Commit) → finite.get d.active trx ≡ Some commit
      → Contains numbers commit.writer
  pub done : (commit : Commit) → Contains d.binlog commit → Contains numbers commit.writer

-- The call begins no transaction of another writer.
abbrev pub BeginsFor : List ℕ → EngineCall → Type 0
BeginsFor numbers (call.Begin writer index) = Contains numbers writer
BeginsFor numbers asked = ⊤
