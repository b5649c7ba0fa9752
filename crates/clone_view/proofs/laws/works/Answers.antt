use Rattle.clone_view.proofs.Going.{work_begins, work_goes_on, work_ends}
use Rattle.clone_view.proofs.laws.works.Goals as goal

pub returns : goal.returns
returns c = record { begins = work_begins; goes_on = work_goes_on; ends = work_ends }
