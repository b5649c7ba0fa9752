-- What the writers of a load have committed.
use Rattle.std.specs.Prelude.{ℕ, ◌≡◌, ◌<◌, ◌≤◌, Contains}
use Rattle.clone_model.specs.declared.change.Commit.{Commit}
use Rattle.clone_plain.specs.Donor.{Donor}
use Rattle.clone_workload.specs.Transactions.{stream}
use Rattle.clone_writer.specs.Writing.{of_writer}
use Rattle.clone_run.specs.declared.load.Load.{Load}

-- the commits of the writer of this number are the first of its stream, so many
abbrev pub HasCommitted : Load → (number count : ℕ) → Donor → Type 0
HasCommitted load number count d =
    of_writer number d.binlog ≡ stream load.seed number count load.tables

-- each commit is of one of the load's writers
abbrev pub AreOfWriters : Load → Donor → Type 0
AreOfWriters load d = (commit : Commit) → Contains d.binlog commit → commit.writer < load.writers

-- WHAT THE WRITERS HAVE COMMITTED: each a front of its stream, and nobody else anything
pub record HasCommits (load : Load) (d : Donor) : Type 0 where
  pub fronts : (number : ℕ) → number < load.writers
      → (count : ℕ) × (count ≤ load.transactions) × HasCommitted load number count d
  pub others : AreOfWriters load d

-- THEY HAVE COMMITTED ALL that the load asks for.
pub record HasAllCommits (load : Load) (d : Donor) : Type 0 where
  pub whole : (number : ℕ) → number < load.writers
      → HasCommitted load number load.transactions d
  pub others : AreOfWriters load d
