use Rattle.std.proofs.Common.{◌∙◌, ◌&&◌, ap, Bool}
use Rattle.std.specs.Prelude.{◌||◌}
use Rattle.clone_tasks.specs.Tables.{is_running}
use Rattle.clone_core.specs.System.{System}
use Rattle.clone_core.proofs.CutLemmas.{feed_flagged, feed_holds_flagged}
use Rattle.clone_core.proofs.world.World.feed.Goals as goal

pub invariant_of-self-in-Begun : goal.invariant_of-self-in-Begun
invariant_of-self-in-Begun g c =
    let i = c.self.inside in
    let s : System = record { donor = i.donor; recipient = g.R.PageDisk.state i.recipient; terms = i.terms; course = i.course; stop = i.stop; looked = i.looked; alone = i.is_alone; replica = i.replica } in
    let fed = c.in_ok-is_fed.is_fed in
    feed_holds_flagged s i.begun i.is_disturbed i.is_doubted i.is_shown c.in-Begun.copying c.in-Begun.is c.args.connection c.args.bytes.now c.self.invariant c.feed.new.self c.in_ok-is_fed.ensures.feeds fed c.in_ok-is_fed.ensures.connected _ (ap (λ (x : Bool). i.is_disturbed || (fed && x)) (c.is_running-goes_on.ensures ∙ ap is_running c.table.ensures))

pub returns-in-Begun-clause-acts : goal.returns-in-Begun-clause-acts
returns-in-Begun-clause-acts g c =
    let i = c.self.inside in
    let s : System = record { donor = i.donor; recipient = g.R.PageDisk.state i.recipient; terms = i.terms; course = i.course; stop = i.stop; looked = i.looked; alone = i.is_alone; replica = i.replica } in
    let fed = c.in_ok-is_fed.is_fed in
    feed_flagged s i.begun i.is_disturbed i.is_doubted i.is_shown c.in-Begun.copying c.in-Begun.is c.args.connection c.args.bytes.now c.self.invariant c.feed.new.self c.in_ok-is_fed.ensures.feeds fed c.in_ok-is_fed.ensures.connected _ (ap (λ (x : Bool). i.is_disturbed || (fed && x)) (c.is_running-goes_on.ensures ∙ ap is_running c.table.ensures)) c.args.self.now c.self.view_is
