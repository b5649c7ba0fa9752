-- Changes, commits, histories, and the rows that a history leaves.
use Rattle.std.specs.Prelude.{ℕ, ◌-◌, ◌==◌, List, [], ◌∷◌, ◌++◌, None, Some, map, take, drop, not}
use Rattle.std.specs.FinMap as finite
use Rattle.std.specs.declared.option.Option.{Option}
use Rattle.clone_model.specs.Keys.{row_cmp}
use Rattle.clone_model.specs.declared.change.Change.{Change}
use Rattle.clone_model.specs.declared.change.Commit.{Commit}

-- The rows of all tables: a finite map from a table and a key to a value, which is a list of bytes.
abbrev pub Rows : Type 0
Rows = finite.FinMap row_cmp (List ℕ)

-- a row gets a value, or is removed
abbrev pub set_or_remove : Rows → ℕ × ℕ → Option (List ℕ) → Rows
set_or_remove rows row None = finite.remove rows row
set_or_remove rows row (Some value) = finite.insert rows row value

abbrev pub after_change : Rows → Change → Rows
after_change rows change = set_or_remove rows (change.table, change.key) change.value

-- changes in their order
abbrev pub after_changes : Rows → List Change → Rows
after_changes rows [] = rows
after_changes rows (change ∷ changes) = after_changes (after_change rows change) changes

abbrev pub after_commit : Rows → Commit → Rows
after_commit rows commit = after_changes rows commit.changes

-- commits in their order
abbrev pub after_commits : Rows → List Commit → Rows
after_commits rows [] = rows
after_commits rows (commit ∷ commits) = after_commits (after_commit rows commit) commits

-- an entry of a donor's history: a commit, or a drop of a table
pub data Entry : Type 0 where
  Committed : Commit → Entry
  Dropped : ℕ → Entry

-- a table has no rows any more
abbrev pub without_table : ℕ → Rows → Rows
without_table table rows = finite.retain_keys rows (λ row. not (row.0 == table))

abbrev pub after_entry : Rows → Entry → Rows
after_entry rows (Committed commit) = after_changes rows commit.changes
after_entry rows (Dropped table) = without_table table rows

-- entries in their order
abbrev pub after_entries : Rows → List Entry → Rows
after_entries rows [] = rows
after_entries rows (entry ∷ entries) = after_entries (after_entry rows entry) entries

-- A history is a list of entries. Its fold is what they leave of no rows, one after the other.
abbrev pub fold : List Entry → Rows
fold history = after_entries finite.empty history

-- The drops of tables in their order: of each the position at which it stands, which is the number
-- of commits before it, and the table.
abbrev pub Drops : Type 0
Drops = List (ℕ × ℕ)

-- the commits of a binlog from a position on, and the drops that stand among them
abbrev pub history_from : ℕ → List Commit → Drops → List Entry
history_from position binlog [] = map Committed (drop position binlog)
history_from position binlog (d ∷ drops) =
    map Committed (take (d.0 - position) (drop position binlog))
    ++ Dropped d.1 ∷ history_from d.0 binlog drops

-- a binlog and the drops that stand in it, as one history
abbrev pub history_of : List Commit → Drops → List Entry
history_of binlog drops = history_from 0 binlog drops

-- a row of a list: its table, its key and its value
abbrev pub Row : Type 0
Row = ℕ × ℕ × List ℕ

-- the rows of a map in ascending order
abbrev pub rows_in : Rows → List Row
rows_in rows = map (λ entry. (entry.0.0, entry.0.1, entry.1)) (finite.entries rows)
