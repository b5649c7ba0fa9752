use Rattle.clone_follow.proofs.ReplayLemmas as replay
use Rattle.clone_follow.proofs.laws.each_once.Goals as goal

pub returns-clause-applied : goal.returns-clause-applied
returns-clause-applied c = replay.each_once

pub returns-clause-folded : goal.returns-clause-folded
returns-clause-folded c = replay.folded
