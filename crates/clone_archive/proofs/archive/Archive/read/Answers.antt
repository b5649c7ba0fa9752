use Rattle.std.proofs.Common.{◌∙◌, ap, sym}
use Rattle.clone_archive.specs.Archived.{start_of}
use Rattle.clone_archive.proofs.archive.Archive.read.Goals as goal

pub read-requires-clause-above : goal.read-requires-clause-above
read-requires-clause-above c = c.requires.above _ (ap start_of (sym c.self.view_is ∙ c.in-Some.is))
