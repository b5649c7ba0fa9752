-- The ranges of what the lines of a script may name.
use Rattle.std.specs.Prelude.{ℕ, ◌<◌, ◌≤◌, List, length}
use Rattle.std.specs.List.{AllByRecursion}
use Rattle.clone_model.specs.declared.line.TheConstants.{HIGHEST_TABLE, MOST_PAGES, MOST_CALLS}
use Rattle.clone_model.specs.declared.script_value.TheConstants.{LONGEST_SCRIPT_VALUE}

abbrev pub IsTable : ℕ → Type 0
IsTable table = (1 ≤ table) × (table ≤ HIGHEST_TABLE)

-- the page of this number may stand in this space
abbrev pub IsPageName : ℕ → ℕ → Type 0
IsPageName space page = (space ≤ HIGHEST_TABLE) × (page < MOST_PAGES)

-- a call that a line may let fail
abbrev pub IsCall : ℕ → Type 0
IsCall call = (1 ≤ call) × (call ≤ MOST_CALLS)

-- the bytes of a value that a script may give
abbrev pub IsScriptValue : List ℕ → Type 0
IsScriptValue value = (length value ≤ LONGEST_SCRIPT_VALUE) × AllByRecursion (λ b. b < 256) value
