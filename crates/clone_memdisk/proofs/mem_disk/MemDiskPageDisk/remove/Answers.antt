use Rattle.std.proofs.Common.{inl, refl}
use Rattle.clone_memdisk.proofs.CalledLemmas.{failed_change, fails_rose, goes_same, removed_change}
use Rattle.clone_memdisk.proofs.mem_disk.MemDiskPageDisk.remove.Goals as goal

pub returns-then-not-begin-clause-takes : goal.returns-then-not-begin-clause-takes
returns-then-not-begin-clause-takes c =
    let f = c.begin.ensures.fails c.if-not-begin.true in
    rw (← c.self.view_is) (failed_change c.self.inside.contents c.self.inside.contents _ _ _ c.self.invariant _ _ _ (inl refl) refl f.later (fails_rose f))

pub returns-clause-takes : goal.returns-clause-takes
returns-clause-takes c =
    rw (← c.self.view_is)
    (removed_change c.self.inside.contents c.remove.new.self _ _ _ c.remove.ensures.tied _ c.args.space _ c.remove.ensures.removed (goes_same (c.begin.ensures.goes c.if-not-begin.false)))
