-- The open transactions, and how the last change of one is taken away.
use Rattle.std.specs.Prelude.{ℕ, ◌≡◌, ◌-◌, ◌++◌, List, length, take, None, MatchOption, option_to_list}
use Rattle.std.specs.declared.option.Option.{Option}
use Rattle.std.specs.FinMap as finite
use Rattle.std.specs.Ordering.{nat_cmp}
use Rattle.clone_model.specs.History.{Drops}
use Rattle.clone_model.specs.declared.change.Change.{Change}
use Rattle.clone_model.specs.declared.change.Commit.{Commit}
use Rattle.clone_plain.specs.Donor.{Donor, Locks}
use Rattle.clone_plain.specs.Locked.{Opened}

-- the open transactions that an ordered map lists
abbrev pub opened_of : List (ℕ × Commit) → Opened
opened_of entries = finite.from_entries entries

-- all changes but the last
abbrev pub front_of : List Change → List Change
front_of changes = take (length changes - 1) changes

-- The last change of a transaction leaves it, if it has any.
pub record TakesLast (trx : ℕ) (commit : Commit) (old new : Opened)
    (last : Option Change) : Type 0 where
  pub split : commit.changes ≡ front_of commit.changes ++ option_to_list last
  pub is : new ≡ finite.insert old trx (record commit { changes = front_of commit.changes })

-- where there is no such transaction, nothing leaves
abbrev pub Pops : ℕ → Opened → Opened → Option Change → Type 0
Pops trx old new last =
    MatchOption (finite.get old trx) ((last ≡ None) × (new ≡ old))
    (λ commit. TakesLast trx commit old new last)

-- the donor of these parts
abbrev pub donor_of : finite.FinMap nat_cmp ℕ → Opened → Locks → List Commit → Drops → Donor
donor_of tables active locks binlog drops =
    record { tables = tables; active = active; locks = locks; binlog = binlog; drops = drops }
