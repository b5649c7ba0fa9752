use Rattle.clone_turn.proofs.JoinedSeatLemmas.{joined_run, joins_more, joins_parts}
use Rattle.clone_turn.proofs.laws.close_laws.Goals as goal

pub returns-clause-more : goal.returns-clause-more
returns-clause-more g c = λ v t w u ws. joins_more v ws t w u

pub returns-clause-calls : goal.returns-clause-calls
returns-clause-calls g c = λ v t ws. joins_parts v ws t

pub returns-clause-run : goal.returns-clause-run
returns-clause-run g c = λ v t u ws last first state. joined_run _ first v ws t u last state
