use Rattle.std.proofs.Common.{◌≡◌, ◌++◌, drop}
use Rattle.std.specs.String.{string_bytes}
use Rattle.clone_model.specs.Texts as texts
use Rattle.clone_model.proofs.text.binlog_text.Given as goal

abbrev pub invariant-loop-commit : goal.invariant-loop-commit
invariant-loop-commit l =
    string_bytes l.text ++ texts.binlog_text (drop l.commit-index l.commit-items) ≡ texts.binlog_text l.binlog.commits
