use Rattle.clone_causes.proofs.CauseLemmas.{donor_later, donor_rose}
use Rattle.clone_causes.proofs.DonorLemmas.{acts_later}
use Rattle.clone_causes.proofs.laws.donor_laws.Goals as goal

pub returns-clause-later : goal.returns-clause-later
returns-clause-later g c = donor_later

pub returns-clause-acts : goal.returns-clause-acts
returns-clause-acts g c = acts_later

pub returns-clause-rose : goal.returns-clause-rose
returns-clause-rose g c = donor_rose g.N.End.Link
