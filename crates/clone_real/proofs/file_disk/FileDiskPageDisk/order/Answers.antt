use Rattle.std.proofs.Common.{rules}
use Rattle.clone_outside.proofs.StopLemmas.{given_noted}
use Rattle.clone_real.proofs.file_disk.FileDiskPageDisk.order.Goals as goal

pub returns-clause-given : goal.returns-clause-given
returns-clause-given c = given_noted c.args.order _ _ (search rules)
