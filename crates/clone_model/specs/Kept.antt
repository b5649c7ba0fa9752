-- The bytes of a script's value, wherever they are.
use Rattle.std.specs.Prelude.{ℕ, List}
use Rattle.clone_model.specs.declared.script_value.Kept.{Kept}
use Rattle.clone_model.specs.declared.script_value.Kept.TheVariants.{Short, Long}

abbrev pub bytes_of : Kept → List ℕ
bytes_of (Short value) = value
bytes_of (Long bytes) = bytes.items
