-- What reading a binlog back answers.
use Rattle.std.specs.Prelude.{ℕ, ◌≡◌, ◌+◌, ◌<◌, ◌≤◌, ◌^◌, List, [], ◌∷◌, ◌++◌, length, take, map, codes, None, Some, Result, Ok, Err, ⊤}
use Rattle.std.specs.Fmt.{decimal}
use Rattle.std.specs.List.{AllByRecursion, flat_map}
use Rattle.std.specs.declared.option.Option.{Option}
use Rattle.clone_base.specs.declared.limits.TheConstants.{VALUE_LIMIT}
use Rattle.clone_model.specs.Texts.{ended, change_text, binlog_text}
use Rattle.clone_model.specs.declared.change.Change.{Change}
use Rattle.clone_model.specs.declared.change.Commit.{Commit}
use Rattle.clone_model.specs.declared.reading.ReadRefusal.{ReadRefusal}
use Rattle.clone_model.specs.declared.reading.ReadRefusal.TheVariants.{BadLine, NoMemory}

abbrev pub AreBytes : List ℕ → Type 0
AreBytes values = AllByRecursion (λ b. b < 256) values

-- so many stand in front, and they are bytes
abbrev pub IsFront : ℕ → List ℕ → Type 0
IsFront count values = (count ≤ length values) × AreBytes (take count values)

-- the bytes of a value, no more than 64
abbrev pub IsValue : List ℕ → Type 0
IsValue value = (length value ≤ VALUE_LIMIT) × AllByRecursion (λ b. b < 256) value

-- a value, or that there is none
abbrev pub IsValueOrNone : Option (List ℕ) → Type 0
IsValueOrNone None = Unit {0}
IsValueOrNone (Some value) = IsValue value

-- each number of the change is in its range, and so is its value
pub record IsChange (change : Change) : Type 0 where
  pub table_fits : change.table < 2 ^ 32
  pub key_fits : change.key < 2 ^ 64
  pub is_value : IsValueOrNone change.value

-- each number of the commit is in its range, and so are its changes
pub record IsCommit (commit : Commit) : Type 0 where
  pub writer_fits : commit.writer < 2 ^ 32
  pub index_fits : commit.index < 2 ^ 64
  pub count_fits : length commit.changes < 2 ^ 64
  pub changes : AllByRecursion IsChange commit.changes

abbrev pub AreCommits : List Commit → Type 0
AreCommits commits = AllByRecursion IsCommit commits

-- the first line of a commit: its writer, its index and the number of its changes
abbrev pub first_line : ℕ → ℕ → ℕ → List ℕ
first_line writer index count =
    codes "commit " ++ decimal writer ++ codes " " ++ decimal index ++ codes " " ++ decimal count

-- the lines of a commit: the first, and one for each change
abbrev pub commit_lines : Commit → List (List ℕ)
commit_lines commit =
    first_line commit.writer commit.index (length commit.changes) ∷ map change_text commit.changes

abbrev pub binlog_lines : List Commit → List (List ℕ)
binlog_lines commits = flat_map commit_lines commits

-- the lines of some binlog begin so
pub record Begins (lines : List (List ℕ)) : Type 0 where
  pub commits : List Commit
  pub are : AreCommits commits
  pub behind : List (List ℕ)
  pub same : binlog_lines commits ≡ lines ++ behind

-- The line of this number, counted from 1, is the first outside the grammar: some binlog begins
-- with those before it, and none with it behind them. Or it is the first that is missing: the text
-- ends behind the lines before it, and no binlog is of these.
pub record IsFirstBad (text : List ℕ) (number : ℕ) : Type 0 where
  pub front : List (List ℕ)
  pub rest : List ℕ
  pub split : text ≡ flat_map ended front ++ rest
  pub count : number ≡ length front + 1
  pub good : Begins front
  pub no_line : (line behind : List ℕ) → rest ≡ ended line ++ behind → Begins (front ++ line ∷ [])
      → ⊥
  pub no_end : rest ≡ [] → (commits : List Commit) → AreCommits commits
      → binlog_lines commits ≡ front → ⊥

-- The binlog that has this text, or the number of its first bad line. Want of memory is free.
abbrev pub ReadsBinlog : List ℕ → Result (List Commit) ReadRefusal → Type 0
ReadsBinlog text (Ok commits) = (text ≡ binlog_text commits) × AreCommits commits
ReadsBinlog text (Err (BadLine number)) = IsFirstBad text number
ReadsBinlog text (Err NoMemory) = ⊤
