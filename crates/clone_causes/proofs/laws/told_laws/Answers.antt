use Rattle.clone_causes.proofs.CauseLemmas.{cloned_told, failed_told, spent_over, table_stays}
use Rattle.clone_causes.proofs.laws.told_laws.Goals as goal

pub returns-clause-cloned : goal.returns-clause-cloned
returns-clause-cloned g c = cloned_told g.R.PageDisk.state g.N.End.Link

pub returns-clause-failed : goal.returns-clause-failed
returns-clause-failed g c = failed_told g.R.PageDisk.state g.N.End.Link

pub returns-clause-spent : goal.returns-clause-spent
returns-clause-spent g c = spent_over g.R.PageDisk.state g.N.End.Link

pub returns-clause-stays : goal.returns-clause-stays
returns-clause-stays g c = table_stays g.R.PageDisk.state
