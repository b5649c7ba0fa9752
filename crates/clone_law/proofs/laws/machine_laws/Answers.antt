use Rattle.clone_law.proofs.EventLemmas.{nothing_kept, kept, central, clean_is_disk, dirty_is_redone}
use Rattle.clone_law.proofs.laws.machine_laws.Goals as goal

pub returns : goal.returns
returns c = record { begins = nothing_kept; kept = kept; clean = clean_is_disk; dirty = dirty_is_redone; central = central }
