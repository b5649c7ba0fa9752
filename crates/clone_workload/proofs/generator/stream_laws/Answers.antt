use Rattle.clone_workload.proofs.Draws.{stream_count, stream_next}
use Rattle.clone_workload.proofs.generator.stream_laws.Goals as goal

pub returns-clause-count : goal.returns-clause-count
returns-clause-count c = λ seed writer count tables. stream_count seed writer count tables

pub returns-clause-next : goal.returns-clause-next
returns-clause-next c = λ seed writer count tables. stream_next seed writer count tables
