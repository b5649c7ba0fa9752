use Rattle.std.proofs.Common.{refl}
use Rattle.clone_memdisk.proofs.CalledLemmas.{done_sync, failed_sync, fails_rose, goes_same, memory_ran_out, refused_sync}
use Rattle.clone_memdisk.proofs.mem_disk.MemDiskPageDisk.sync.Goals as goal

pub returns-then-not-begin-clause-syncs : goal.returns-then-not-begin-clause-syncs
returns-then-not-begin-clause-syncs c =
    let f = c.begin.ensures.fails c.if-not-begin.true in
    rw (← c.self.view_is) (failed_sync c.self.inside.contents c.self.inside.contents _ _ _ refl f.later (fails_rose f))

pub returns-in_err-sync-clause-syncs : goal.returns-in_err-sync-clause-syncs
returns-in_err-sync-clause-syncs c =
    rw (← c.self.view_is, memory_ran_out c.from_residual.result c.from_residual.ensures.1)
    (refused_sync c.self.inside.contents c.sync.new.self _ _ _ c.in_err-sync.ensures.err (goes_same (c.begin.ensures.goes c.if-not-begin.false)))

pub returns-clause-syncs : goal.returns-clause-syncs
returns-clause-syncs c =
    rw (← c.self.view_is) (done_sync c.self.inside.contents c.sync.new.self _ _ _ _ c.self.invariant c.in_ok-sync.ensures.ok (goes_same (c.begin.ensures.goes c.if-not-begin.false)))
