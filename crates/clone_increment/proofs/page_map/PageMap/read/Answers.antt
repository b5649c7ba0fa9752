use Rattle.std.proofs.Common.{subst}
use Rattle.clone_model.specs.Room.{kept}
use Rattle.clone_increment.specs.Copies.{PagesByPlace}
use Rattle.clone_increment.specs.Readings.{ReadsPage}
use Rattle.clone_increment.proofs.SlotLemmas.{read_joins}
use Rattle.clone_increment.proofs.page_map.PageMap.read.Goals as goal

pub returns-clause-ok : goal.returns-clause-ok
returns-clause-ok g c =
    let told = (g.D.PageDisk.state c.args.disk.now).told in
    subst (λ (pages : PagesByPlace). ReadsPage told c.args.space c.args.number pages (kept c.insert.new.self.entries)) c.self.view_is
    (read_joins told c.self.inside.slots c.insert.new.self c.args.space c.args.number c.in_ok-slot.slot c.in_ok-slot.ensures.read c.in_ok-insert.ensures.updates)
