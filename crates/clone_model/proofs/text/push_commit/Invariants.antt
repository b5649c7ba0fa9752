use Rattle.std.proofs.Common.{◌≡◌, ◌++◌, drop}
use Rattle.std.specs.String.{string_bytes}
use Rattle.clone_model.specs.Texts.{changes_text}
use Rattle.clone_model.proofs.text.push_commit.Given as goal

abbrev pub invariant-loop-change : goal.invariant-loop-change
invariant-loop-change l =
    string_bytes l.text ++ changes_text (drop l.change-index l.changes) ≡ string_bytes l.initial.text ++ changes_text l.changes
