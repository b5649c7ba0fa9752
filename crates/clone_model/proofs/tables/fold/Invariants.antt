use Rattle.std.proofs.Common.{◌≡◌, drop}
use Rattle.std.specs.FinMap as finite
use Rattle.clone_model.specs.History as histories
use Rattle.clone_model.proofs.tables.fold.Given as goal

abbrev pub invariant-loop-commit : goal.invariant-loop-commit
invariant-loop-commit l = histories.after_commits l.tables (drop l.commit-index l.commits) ≡ histories.after_commits finite.empty l.commits
