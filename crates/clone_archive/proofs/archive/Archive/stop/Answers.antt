use Rattle.std.proofs.Common.{◌∙◌, ap, sym}
use Rattle.clone_archive.specs.Archived.{archived_in}
use Rattle.clone_archive.proofs.archive.Archive.stop.Goals as goal

pub stop-requires-clause-reached : goal.stop-requires-clause-reached
stop-requires-clause-reached c = c.requires.reached _ (ap archived_in (sym c.self.view_is ∙ c.in-Some.is))
