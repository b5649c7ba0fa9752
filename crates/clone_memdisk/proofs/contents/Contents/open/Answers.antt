use Rattle.clone_memdisk.proofs.ContainedLemmas.{kept_opened, kept_tied}
use Rattle.clone_memdisk.proofs.contents.Contents.open.Goals as goal

pub invariant_of-self : goal.invariant_of-self
invariant_of-self c = kept_opened _ _ _ _ _ c.open.ensures c.self.invariant

pub returns-clause-tied : goal.returns-clause-tied
returns-clause-tied c = kept_tied _ c.self.inside.recording (kept_opened _ _ _ _ _ c.open.ensures c.self.invariant)
