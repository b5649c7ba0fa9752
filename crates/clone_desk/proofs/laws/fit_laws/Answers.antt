use Rattle.clone_desk.proofs.RunLemmas.{fits_handed, fits_later, fits_paired}
use Rattle.clone_desk.proofs.laws.fit_laws.Goals as goal

pub returns-clause-paired : goal.returns-clause-paired
returns-clause-paired g c = fits_paired g.N.Net g.N.End.Link

pub returns-clause-handed : goal.returns-clause-handed
returns-clause-handed g c = fits_handed g.N.Net g.N.End.Link

pub returns-clause-later : goal.returns-clause-later
returns-clause-later g c = fits_later g.N.Net g.N.End.Link
