-- Where a key is on a page of a table, and where it may go.
use Rattle.std.specs.Prelude.{ℕ, ◌≡◌, ◌<◌, Some, MatchOption}
use Rattle.std.specs.declared.option.Option.{Option}
use Rattle.clone_page.specs.Slots.{row_slot_count}
use Rattle.clone_row.specs.Slots.{unused, bound_key}
use Rattle.clone_contents.specs.Contents.{Contents}

-- the first slot of a table's page that is bound to the key, or none where no slot is
abbrev pub FindsIn : Contents → ℕ → ℕ → ℕ → Option ℕ → Type 0
FindsIn c table page key found =
    MatchOption found ((k : ℕ) → ¬ (bound_key (c.slot table page k) ≡ Some key))
    (λ j. (j < row_slot_count) × (bound_key (c.slot table page j) ≡ Some key)
    × ((k : ℕ) → k < j → ¬ (bound_key (c.slot table page k) ≡ Some key)))

-- the first slot of a table's page that was never used, or none where each was
abbrev pub FindsFreeIn : Contents → ℕ → ℕ → Option ℕ → Type 0
FindsFreeIn c table page found =
    MatchOption found ((k : ℕ) → k < row_slot_count → ¬ (c.slot table page k ≡ unused))
    (λ j. (j < row_slot_count) × (c.slot table page j ≡ unused)
    × ((k : ℕ) → k < j → ¬ (c.slot table page k ≡ unused)))
