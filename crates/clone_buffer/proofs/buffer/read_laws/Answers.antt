use Rattle.clone_buffer.proofs.ReadLemmas.{file_read_allowed}
use Rattle.clone_buffer.proofs.buffer.read_laws.Goals as goal

pub returns : goal.returns
returns c = record { file = file_read_allowed }
