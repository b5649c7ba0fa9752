use Rattle.std.proofs.Common.{◌<◌, ◌≤◌, subst}
use Rattle.clone_base.specs.declared.limits.TheConstants.{LSN_LIMIT}
use Rattle.clone_tasks.specs.Tables.{IsBounded}
use Rattle.clone_recipient.specs.Receptions.{AreCounted, Reception}
use Rattle.clone_recipient.proofs.reception.Reception.laws.Goals as goal

pub returns-clause-counted : goal.returns-clause-counted
returns-clause-counted c = subst (λ (r : Reception). AreCounted r.table.phase r) c.self.view_is c.self.invariant.1

pub returns-clause-ordered : goal.returns-clause-ordered
returns-clause-ordered c = subst (λ (r : Reception). r.checkpoint ≤ r.lsn) c.self.view_is c.self.inside.end.ordered

pub returns-clause-within : goal.returns-clause-within
returns-clause-within c = subst (λ (r : Reception). r.lsn < LSN_LIMIT) c.self.view_is c.self.inside.end.within

pub returns-clause-bounded : goal.returns-clause-bounded
returns-clause-bounded c = subst (λ (r : Reception). IsBounded r.table) c.self.view_is c.laws.ensures
