use Rattle.clone_marks.proofs.ForgetLemmas.{forgotten_blocks, forgotten_taken, forgotten_finished}
use Rattle.clone_marks.proofs.laws.forgetting_laws.Goals as goal

pub returns-clause-chunks : goal.returns-clause-chunks
returns-clause-chunks c = forgotten_blocks

pub returns-clause-taken : goal.returns-clause-taken
returns-clause-taken c = forgotten_taken

pub returns-clause-finished : goal.returns-clause-finished
returns-clause-finished c = forgotten_finished
