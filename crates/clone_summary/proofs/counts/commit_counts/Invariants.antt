use Rattle.std.proofs.Common.{take}
use Rattle.clone_summary.proofs.CountLemmas.{AreCounted}
use Rattle.clone_summary.proofs.counts.commit_counts.Given as goal

abbrev pub invariant-loop-commit : goal.invariant-loop-commit
invariant-loop-commit l = AreCounted l.writers (take l.commit-index l.commit-items) l.counts.items
