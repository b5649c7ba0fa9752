use Rattle.std.proofs.lemmas.Result.{on_ok_weaker}
use Rattle.clone_memdisk.proofs.CalledLemmas.{ordered_given}
use Rattle.clone_memdisk.proofs.mem_disk.MemDiskPageDisk.order.Goals as goal

pub returns-clause-given : goal.returns-clause-given
returns-clause-given c = on_ok_weaker c.obey.result (ordered_given c.args.order c.args.self.now c.obey.new.self) c.obey.ensures.carried
