-- The fields of a line that is about a row.
use Rattle.std.specs.Prelude.{ℕ, ◌<◌, ◌^◌, List, ◌++◌, codes}
use Rattle.std.specs.Fmt.{decimal}
use Rattle.clone_model.specs.Texts.{value_text}
use Rattle.clone_model.specs.Ranges.{IsTable, IsScriptValue}
use Rattle.clone_script.specs.declared.fields.RowField.{RowField}

-- each number is in its range
abbrev pub IsRowField : RowField → Type 0
IsRowField row = (row.number < 2 ^ 32) × IsTable row.table × (row.key < 2 ^ 64)

abbrev pub row_text : RowField → List ℕ
row_text row = decimal row.number ++ codes " " ++ decimal row.table ++ codes " " ++ decimal row.key

-- the same with a value
abbrev pub IsRowWithValue : RowField × List ℕ → Type 0
IsRowWithValue read = IsRowField read.0 × IsScriptValue read.1

abbrev pub row_with_value_text : RowField × List ℕ → List ℕ
row_with_value_text read = row_text read.0 ++ codes " " ++ value_text read.1
