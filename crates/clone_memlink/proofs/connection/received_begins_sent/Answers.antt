use Rattle.clone_memlink.proofs.LinkRunLemmas.{carries_all, honest}
use Rattle.clone_memlink.proofs.connection.received_begins_sent.Goals as goal

pub returns-clause-carries : goal.returns-clause-carries
returns-clause-carries c = carries_all

pub returns-clause-honest : goal.returns-clause-honest
returns-clause-honest c = honest
