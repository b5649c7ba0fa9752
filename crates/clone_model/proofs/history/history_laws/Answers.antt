use Rattle.clone_model.proofs.history.history_laws.Goals as goal
use Rattle.clone_model.proofs.HistoryLemmas.{history-committed, history-dropped}

pub returns-clause-committed : goal.returns-clause-committed
returns-clause-committed c = history-committed

pub returns-clause-dropped : goal.returns-clause-dropped
returns-clause-dropped c = history-dropped
