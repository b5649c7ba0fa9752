use Rattle.clone_view.proofs.Meets.{met_here, met_next, agreed, begun_owned}
use Rattle.clone_view.proofs.laws.donor_stages.Goals as goal

pub returns : goal.returns
returns c = record { here = met_here; next = met_next; agrees = agreed; begun = begun_owned }
