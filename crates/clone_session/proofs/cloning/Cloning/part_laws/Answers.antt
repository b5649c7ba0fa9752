use Rattle.std.proofs.Common.{subst}
use Rattle.std.specs.Option.{ForSome}
use Rattle.clone_archive.specs.Archived.{IsArchived}
use Rattle.clone_session.specs.Cloning.{Cloning}
use Rattle.clone_session.proofs.cloning.Cloning.part_laws.Goals as goal

pub returns-in-Some-clause-archive : goal.returns-in-Some-clause-archive
returns-in-Some-clause-archive c = subst (λ (x : Cloning). ForSome x.archive IsArchived) c.self.view_is c.laws.ensures
