-- Where a table goes in the dictionary. Where the chain of a key's row begins, what a slot of it
-- holds, and what the undo record of a change tells.
use Rattle.std.specs.Prelude.{ℕ, ◌==◌, ◌%◌, List, [], None, Some, unwrap_or, option_map}
use Rattle.std.specs.declared.option.Option.{Option}
use Rattle.std.specs.List.{range_with_len, find}
use Rattle.std.specs.FinMap as finite
use Rattle.clone_page.specs.Dictionary.{entry_count}
use Rattle.clone_space.specs.declared.entry.TableEntry.{TableEntry}
use Rattle.clone_space.specs.Entries.{entry_in}
use Rattle.clone_row.specs.Slots.{slots, slot_in, row_in}
use Rattle.clone_undo.specs.Entries.{UndoEntry}
use Rattle.clone_plain.specs.Donor.{Donor}

-- the number of the first entry of the dictionary that names a table, or none where no entry does
unfoldable pub named_entry : ℕ → List TableEntry → Option ℕ
named_entry table list =
    find (λ j. (entry_in list j).table == table) (range_with_len 0 entry_count)

-- the page of a row's bucket, by its number in the space of its table
abbrev pub page_number : Donor → ℕ → ℕ → ℕ
page_number d table key = key % unwrap_or (finite.get d.tables table) 0

-- the value of the row that a slot holds, if it holds one
abbrev pub held_value : List ℕ → ℕ → Option (List ℕ)
held_value page j = option_map (λ (row : ℕ × List ℕ). row.1) (row_in (slot_in (slots page) j))

-- what a row slot tells of its row before a change
abbrev pub state_of_row : Option (List ℕ) → ℕ
state_of_row None = 2
state_of_row (Some value) = 1

-- what the undo record of a change tells: where the row is, and the value that the row had
abbrev pub told : ℕ → ℕ → ℕ → ℕ → Option (List ℕ) → UndoEntry
told table page key slot_number value =
    record {
      table = table;
      page = page;
      slot = slot_number;
      state = state_of_row value;
      key = key;
      value = unwrap_or value [];
    }
