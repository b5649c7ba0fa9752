use Rattle.std.proofs.Common.{arith, sym, subst}
use Rattle.clone_session.specs.Cloning.{Cloning}
use Rattle.clone_session.specs.CloneCalls.{IsInArchive}
use Rattle.clone_session.proofs.ArchiveLemmas.{kept_below}
use Rattle.clone_session.proofs.cloning.Cloning.read_redo.Goals as goal

pub read-requires-clause-below : goal.read-requires-clause-below
read-requires-clause-below c =
    omega (arith, c.requires.length, kept_below c.self.inside.archive c.args.redo (subst (λ (x : Cloning). IsInArchive x.archive c.args.redo) (sym c.self.view_is) c.requires.archived) c.laws.ensures)
