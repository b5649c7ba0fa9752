use Rattle.clone_marks.proofs.RunLemmas.{counts_long, counts_at, begun_blocks, none_taken}
use Rattle.clone_marks.proofs.laws.counting_laws.Goals as goal

pub returns-clause-chunks : goal.returns-clause-chunks
returns-clause-chunks c = counts_long

pub returns-clause-blocks : goal.returns-clause-blocks
returns-clause-blocks c = counts_at

pub returns-clause-begun : goal.returns-clause-begun
returns-clause-begun c = begun_blocks

pub returns-clause-none : goal.returns-clause-none
returns-clause-none c = none_taken
