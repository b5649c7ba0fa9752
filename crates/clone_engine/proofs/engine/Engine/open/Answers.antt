use Rattle.std.proofs.Common.{◌∙◌, sym}
use Rattle.clone_engine.proofs.TableLemmas.{opened_engine, fresh_donor, fresh_taken}
use Rattle.clone_engine.proofs.engine.Engine.open.Goals as goal

pub returns-clause-donor : goal.returns-clause-donor
returns-clause-donor g c =
    let is = c.in_ok-transactions.ensures in
    let fresh = c.new.ensures in
    let buffer = c.laws.ensures.buffer in
    let k = g.D.PageDisk.state c.parts.new.disk in
    let engine = opened_engine _ _ _ (g.D.PageDisk.state c.args.disk.now).told k is.donor is.log is.kept buffer is.floor is.stands is.writes is.checkpoint is.files is.made in
    fresh_donor _ c.new.result engine fresh.session buffer is.log fresh.tracking fresh.archive (fresh.ring ∙ sym is.size) is.floor is.checkpoint

pub returns-clause-taken : goal.returns-clause-taken
returns-clause-taken g c =
    let is = c.in_ok-transactions.ensures in
    let engine = opened_engine _ _ _ (g.D.PageDisk.state c.args.disk.now).told (g.D.PageDisk.state c.parts.new.disk) is.donor is.log is.kept c.laws.ensures.buffer is.floor is.stands is.writes is.checkpoint is.files is.made in
    fresh_taken _ c.new.result engine c.new.ensures.session
