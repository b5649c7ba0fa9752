use Rattle.clone_causes.proofs.CauseLemmas.{recipient_later, recipient_rose}
use Rattle.clone_causes.proofs.laws.recipient_laws.Goals as goal

pub returns-clause-later : goal.returns-clause-later
returns-clause-later g c = recipient_later g.R.PageDisk.state

pub returns-clause-rose : goal.returns-clause-rose
returns-clause-rose g c = recipient_rose g.R.PageDisk.state g.N.End.Link
