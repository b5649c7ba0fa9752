use Rattle.clone_core.specs.System.{System}
use Rattle.clone_core.proofs.CutLemmas.{cut_kept, cut_made}
use Rattle.clone_core.proofs.world.World.cut.Goals as goal

pub invariant_of-self : goal.invariant_of-self
invariant_of-self g c =
    let i = c.self.inside in
    let s : System = record { donor = i.donor; recipient = g.R.PageDisk.state i.recipient; terms = i.terms; course = i.course; stop = i.stop; looked = i.looked; alone = i.is_alone; replica = i.replica } in
    cut_kept s i.begun i.is_disturbed i.is_doubted i.is_shown c.in-Begun.copying c.in-Begun.is c.args.connection c.args.to_donor c.args.to_task c.self.invariant c.cut.new.self c.cut.ensures.cuts

pub returns-in-Begun : goal.returns-in-Begun
returns-in-Begun g c =
    let i = c.self.inside in
    let s : System = record { donor = i.donor; recipient = g.R.PageDisk.state i.recipient; terms = i.terms; course = i.course; stop = i.stop; looked = i.looked; alone = i.is_alone; replica = i.replica } in
    cut_made s i.begun i.is_disturbed i.is_doubted i.is_shown c.in-Begun.copying c.in-Begun.is c.args.connection c.args.to_donor c.args.to_task c.self.invariant c.cut.new.self c.cut.ensures.cuts c.args.self.now c.self.view_is c.cut.result c.cut.ensures.connected
