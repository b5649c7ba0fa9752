use Rattle.clone_causes.proofs.CauseLemmas.{net_later, net_rose}
use Rattle.clone_causes.proofs.laws.connection_laws.Goals as goal

pub returns-clause-later : goal.returns-clause-later
returns-clause-later g c = net_later g.N.Net g.N.End.Link

pub returns-clause-rose : goal.returns-clause-rose
returns-clause-rose g c = net_rose g.N.Net g.N.End.Link
