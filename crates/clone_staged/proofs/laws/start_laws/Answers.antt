use Rattle.clone_staged.proofs.PlacedPages.{may_start}
use Rattle.clone_staged.proofs.laws.start_laws.Goals as goal

pub returns : goal.returns
returns c = record { since = may_start }
