use Rattle.clone_outside.specs.DiskCalls.{DiskState}
use Rattle.clone_engine.specs.Disks.{Visits}
use Rattle.clone_core.specs.declared.world.Copying.{Copying}
use Rattle.clone_core.specs.System.{System}
use Rattle.clone_core.proofs.StartLemmas.{alters_visits, breaks_untold, free_is, starts_holds}
use Rattle.clone_core.proofs.world.World.start.Goals as goal

pub invariant_of-self : goal.invariant_of-self
invariant_of-self g c =
    let i = c.self.inside in
    let s : System = record { donor = i.donor; recipient = g.R.PageDisk.state i.recipient; terms = i.terms; course = i.course; stop = i.stop; looked = i.looked; alone = i.is_alone; replica = i.replica } in
    let disk : DiskState = g.R.PageDisk.state c.begin-begun.new.disk in
    let visits : Visits (g.R.PageDisk.state i.recipient) disk = alters_visits _ _ c.begin-begun.ensures.works in
    let k : Copying = record { reception = c.in-Ok.reception; network = c.in_ok-network.network } in
    starts_holds s i.begun i.is_disturbed i.is_doubted i.is_shown disk c.in-Absent.is visits c.self.invariant k c.is_none-self-inside.result (λ j. record { reception = c.in-Ok.ensures.begun j; network = c.in_ok-network.ensures j }) (free_is i.donor.cloning.session c.is_none-self-inside.result c.session.result c.session.ensures c.is_none-self-inside.ensures) c.in-Ok.ensures.marked c.in-Ok.ensures.sizes

pub returns-in-Err-NoMemory : goal.returns-in-Err-NoMemory
returns-in-Err-NoMemory g c =
    let i = c.self.inside in
    let s : System = record { donor = i.donor; recipient = g.R.PageDisk.state i.recipient; terms = i.terms; course = i.course; stop = i.stop; looked = i.looked; alone = i.is_alone; replica = i.replica } in
    let disk : DiskState = g.R.PageDisk.state c.begin-begun.new.disk in
    let visits : Visits (g.R.PageDisk.state i.recipient) disk = alters_visits _ _ c.begin-begun.ensures.works in
    breaks_untold s i.begun i.is_disturbed i.is_doubted i.is_shown disk c.in-Absent.is visits c.args.self.now c.self.view_is
