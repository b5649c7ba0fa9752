use Rattle.std.proofs.Common.{◌≡◌, ◌++◌, drop}
use Rattle.std.specs.String.{string_bytes}
use Rattle.clone_model.specs.Texts as texts
use Rattle.clone_model.proofs.text.rows_text.Given as goal

abbrev pub invariant-loop-row : goal.invariant-loop-row
invariant-loop-row l =
    string_bytes l.text ++ texts.rows_text (drop l.row-index l.rows) ≡ texts.rows_text l.rows
