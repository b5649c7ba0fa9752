use Rattle.std.proofs.Common.{ap, refl}
use Rattle.clone_memdisk.specs.Changes.{entry_of}
use Rattle.clone_memdisk.specs.Contained.{Contained}
use Rattle.clone_memdisk.proofs.CalledLemmas.{failed_change, fails_rose, goes_same, made_change, memory_ran_out, opens_by, refused_change}
use Rattle.clone_memdisk.proofs.mem_disk.MemDisk.write.Goals as goal

pub returns-then-not-begin-clause-writes : goal.returns-then-not-begin-clause-writes
returns-then-not-begin-clause-writes c =
    let f = c.begin.ensures.fails c.if-not-begin.true in
    rw (← c.self.view_is)
    (failed_change c.self.inside.contents c.open.new.self _ _ _ c.open.ensures.tied _ _ _ (opens_by c.self.inside.contents c.open.new.self c.args.space c.args.page c.open.ensures.opened) (ap (λ (x : Contained). x.list) c.open.ensures.opened) f.later (fails_rose f))

pub returns-in_err-change-clause-writes : goal.returns-in_err-change-clause-writes
returns-in_err-change-clause-writes c =
    rw (← c.self.view_is, memory_ran_out c.from_residual.result c.from_residual.ensures.1)
    (refused_change c.self.inside.contents c.change.new.self _ _ _ c.change.ensures.tied _ _ _ c.in_err-change.ensures.err (goes_same (c.begin.ensures.goes c.if-not-begin.false)))

pub returns-clause-writes : goal.returns-clause-writes
returns-clause-writes c =
    rw (← c.self.view_is)
    (made_change c.self.inside.contents c.change.new.self _ _ _ c.change.ensures.tied _ (entry_of c.args.change.now) _ c.in_ok-change.ensures.ok (goes_same (c.begin.ensures.goes c.if-not-begin.false)))

pub returns-then-not-begin-clause-counted : goal.returns-then-not-begin-clause-counted
returns-then-not-begin-clause-counted c = rw (← c.self.view_is) (record { call = c.begin.ensures.fails c.if-not-begin.true; tear = refl })

pub returns-in_err-change-clause-counted : goal.returns-in_err-change-clause-counted
returns-in_err-change-clause-counted c =
    rw (← c.self.view_is, memory_ran_out c.from_residual.result c.from_residual.ensures.1) (record { call = c.begin.ensures.goes c.if-not-begin.false; tear = refl })

pub returns-clause-counted : goal.returns-clause-counted
returns-clause-counted c = rw (← c.self.view_is) (record { call = c.begin.ensures.goes c.if-not-begin.false; tear = refl })
