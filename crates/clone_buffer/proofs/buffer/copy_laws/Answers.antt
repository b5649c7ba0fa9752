use Rattle.clone_buffer.proofs.LawLemmas.{copy_kept, copy_keeps}
use Rattle.clone_buffer.proofs.buffer.copy_laws.Goals as goal

pub returns : goal.returns
returns c = record { kept = copy_kept; keeps = copy_keeps }
