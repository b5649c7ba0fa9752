use Rattle.std.proofs.Common.{refl}
use Rattle.clone_top.proofs.LoadLemmas.{uncompressed}
use Rattle.clone_top.proofs.load.run_or_refuse.Goals as goal

pub returns : goal.returns
returns g c = λ number source. uncompressed _ _ _ _ _ _ _ _ _ _ _ c.if-run.false refl (c.run_load.ensures number source)
