-- A map of slots, each with a value or none: the rows that it keeps, and the slots that it has.
use Rattle.std.specs.Prelude.{ℕ, List, [], ◌∷◌, IsSome}
use Rattle.std.specs.FinMap as finite
use Rattle.std.specs.declared.option.Option.{Option}
use Rattle.std.specs.BTreeMap.{BTreeMap, get}
use Rattle.clone_model.specs.Keys.{row_cmp}
use Rattle.clone_model.specs.History.{Rows, set_or_remove}
use Rattle.clone_model.specs.declared.change.Change.{Change}

-- the rows of a list of slots. The first slot of a row counts
abbrev pub kept : List ((ℕ × ℕ) × Option (List ℕ)) → Rows
kept [] = finite.empty
kept (e ∷ es) = set_or_remove (kept es) e.0 e.1

abbrev pub HasRoomFor : BTreeMap (ℕ × ℕ) (Option (List ℕ)) → ℕ × ℕ → Type 0
HasRoomFor slots row = IsSome (get row_cmp slots row)

abbrev pub HasRoom : BTreeMap (ℕ × ℕ) (Option (List ℕ)) → List Change → Type 0
HasRoom slots [] = Unit {0}
HasRoom slots (c ∷ cs) = HasRoomFor slots (c.table, c.key) × HasRoom slots cs
