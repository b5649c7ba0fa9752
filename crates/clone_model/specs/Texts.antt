-- The texts of values, rows and the binlog. Each number is decimal, and each line is ended by a
-- line feed.
use Rattle.std.specs.Prelude.{ℕ, ◌+◌, ◌/◌, ◌%◌, List, [], ◌∷◌, ◌++◌, length, codes, if◌then◌else◌, nat_lt, None, Some}
use Rattle.std.specs.Fmt.{decimal}
use Rattle.std.specs.List.{flat_map}
use Rattle.std.specs.declared.option.Option.{Option}
use Rattle.clone_model.specs.History.{Row}
use Rattle.clone_model.specs.declared.change.Change.{Change}
use Rattle.clone_model.specs.declared.change.Commit.{Commit}

-- the text and a line feed
abbrev pub ended : List ℕ → List ℕ
ended text = text ++ 10 ∷ []

-- 0 to 9 and a to f
abbrev pub hex_digit : ℕ → ℕ
hex_digit n = if nat_lt n 10 then 48 + n else 87 + n

-- two digits for a byte, the high one first
abbrev pub hex_byte : ℕ → List ℕ
hex_byte b = hex_digit (b / 16) ∷ hex_digit (b % 16) ∷ []

abbrev pub hex : List ℕ → List ℕ
hex bytes = flat_map hex_byte bytes

-- a value in lower-case hex digits, and the empty one as a dash
abbrev pub value_text : List ℕ → List ℕ
value_text [] = codes "-"
value_text (b ∷ bytes) = hex (b ∷ bytes)

-- table, key and value
abbrev pub row_text : Row → List ℕ
row_text row = decimal row.0 ++ codes " " ++ decimal row.1 ++ codes " " ++ value_text row.2

abbrev pub rows_text : List Row → List ℕ
rows_text rows = flat_map (λ row. ended (row_text row)) rows

-- a value, or that there is none any more
abbrev pub value_or_none : Option (List ℕ) → List ℕ
value_or_none None = codes "none"
value_or_none (Some value) = value_text value

abbrev pub change_text : Change → List ℕ
change_text change =
    decimal change.table ++ codes " " ++ decimal change.key ++ codes " "
    ++ value_or_none change.value

abbrev pub changes_text : List Change → List ℕ
changes_text changes = flat_map (λ change. ended (change_text change)) changes

-- writer, index and number of changes, and then the changes
abbrev pub commit_text : Commit → List ℕ
commit_text commit =
    ended (codes "commit " ++ decimal commit.writer ++ codes " " ++ decimal commit.index
    ++ codes " " ++ decimal (length commit.changes)) ++ changes_text commit.changes

abbrev pub binlog_text : List Commit → List ℕ
binlog_text commits = flat_map commit_text commits
