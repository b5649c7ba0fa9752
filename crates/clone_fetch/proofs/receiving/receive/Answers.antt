use Rattle.std.proofs.Common.{refl, subst}
use Rattle.clone_wire.specs.declared.frame.Frame.{Frame}
use Rattle.clone_fetch.specs.Fetching.{TakesFrame, garbled, takes}
use Rattle.clone_fetch.proofs.receiving.receive.Goals as goal

pub returns-in-Ok-Some-clause-receives : goal.returns-in-Ok-Some-clause-receives
returns-in-Ok-Some-clause-receives g c =
    let taken = rw c.in-Ok-Some.field-0-is at c.in-Ok-Some.ensures in
    takes c.in-Ok-Some.frame taken.0 taken.1
    (subst (λ (f : Frame). TakesFrame c.args.task f c.args.reception.now c.take.new.reception (g.R.PageDisk.state c.args.disk.now) (g.R.PageDisk.state c.take.new.disk) c.take.result)
    c.in-Ok-Some.frame-is c.take.ensures.takes)

pub returns-in-Err-Garbled-clause-receives : goal.returns-in-Err-Garbled-clause-receives
returns-in-Err-Garbled-clause-receives g c =
    let lost = rw c.in-Err-Garbled.field-0-is at c.in-Err-Garbled.ensures in
    garbled lost.0 (rw (c.deref.ensures.value, lost.1) at c.break_off.ensures) refl lost.1
