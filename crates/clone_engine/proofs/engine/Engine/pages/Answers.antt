use Rattle.clone_outside.specs.DiskCalls.{DiskState}
use Rattle.clone_engine.specs.Over.{over}
use Rattle.clone_engine.proofs.BlockLemmas.{read_more, visited, visited_engine, visits_more}
use Rattle.clone_engine.proofs.engine.Engine.pages.Goals as goal

pub page-requires : goal.page-requires
page-requires g c = record { engine = visited_engine _ _ c.loop-space.invariant.visits c.requires.engine }

pub returns-in_err-page-clause-visits : goal.returns-in_err-page-clause-visits
returns-in_err-page-clause-visits g c = visits_more _ _ _ c.loop-space.invariant.visits (visited _ (g.D.PageDisk.state c.page.new.disk) c.in_err-page.ensures.reads)

pub loop-space-preserved : goal.loop-space-preserved
loop-space-preserved g c =
    let l = c.loop-space in
    let list = c.as_slice-space-items in
    let is = c.in_ok-page.ensures in
    let e = λ (k : DiskState). (over c.args.self.now k).engine in
    read_more c.args.stage c.args.block (e (g.D.PageDisk.state c.args.disk.now)) (e (g.D.PageDisk.state l.disk)) (e (g.D.PageDisk.state c.page.new.disk)) l.space-index l.pages.items c.push.new.self.items list.result.now c.in_ok-page.page list.ensures c.loop-space-test.true
    (visited (e (g.D.PageDisk.state l.disk)) (g.D.PageDisk.state c.page.new.disk) is.reads) is.read is.place c.in_default.ensures.items l.invariant
