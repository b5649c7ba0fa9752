use Rattle.clone_core.specs.System.{System}
use Rattle.clone_core.proofs.TalkLemmas.{sticks_never}
use Rattle.clone_core.proofs.world.World.never_sticks.Goals as goal

pub returns : goal.returns
returns g c =
    let i = c.self.inside in
    let s : System = record { donor = i.donor; recipient = g.R.PageDisk.state i.recipient; terms = i.terms; course = i.course; stop = i.stop; looked = i.looked; alone = i.is_alone; replica = i.replica } in
    sticks_never s i.begun i.is_disturbed i.is_doubted i.is_shown c.self.invariant c.laws.ensures.donor c.laws.ensures.cloning c.laws.ensures.chunks c.args.self.now c.self.view_is
