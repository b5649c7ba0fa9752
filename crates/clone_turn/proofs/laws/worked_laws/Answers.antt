use Rattle.clone_turn.proofs.WorkedLemmas.{makes_calls, makes_more, makes_none, makes_of, makes_one, new_calls, right_none}
use Rattle.clone_turn.proofs.laws.worked_laws.Goals as goal

pub returns-clause-none : goal.returns-clause-none
returns-clause-none g c = makes_none

pub returns-clause-one : goal.returns-clause-one
returns-clause-one g c = λ first v w call answer. makes_one _ first v w call answer

pub returns-clause-more : goal.returns-clause-more
returns-clause-more g c = makes_more

pub returns-clause-cell : goal.returns-clause-cell
returns-clause-cell g c = makes_of

pub returns-clause-calls : goal.returns-clause-calls
returns-clause-calls g c = makes_calls

pub returns-clause-new : goal.returns-clause-new
returns-clause-new g c = λ v r w made is. new_calls r w made (right_none v r is)
