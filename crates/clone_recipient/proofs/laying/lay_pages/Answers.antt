use Rattle.std.proofs.Common.{◌∙◌, take}
use Rattle.clone_outside.proofs.DiskCallLemmas.{works_none, works_then}
use Rattle.clone_outside.proofs.FaultLemmas.{on_err_known}
use Rattle.clone_recipient.proofs.MarkLemmas.{pages_mark, space_mark, step_mark}
use Rattle.clone_recipient.proofs.StepLemmas.{pages_end, pages_go_on, steps_none}
use Rattle.clone_recipient.specs.Taking.{laid_at}
use Rattle.clone_recipient.proofs.laying.lay_pages.Goals as goal

pub loop-page-init : goal.loop-page-init
loop-page-init g c =
    let told = (g.R.PageDisk.state c.args.disk.now).told in
    record { laid = steps_none told; sizes = c.requires.sizes; works = works_none }

pub loop-page-preserved : goal.loop-page-preserved
loop-page-preserved g c =
    let told = (g.R.PageDisk.state c.args.disk.now).told in
    let mid = (g.R.PageDisk.state c.loop-page.disk).told in
    let now = (g.R.PageDisk.state c.lay_page.new.disk).told in
    let i = c.loop-page.invariant in
    let e = c.in_ok-lay_page.ensures in
    record {
      laid = pages_go_on c.args.pages.now c.loop-page.page-index c.page-item.result c.bytes.result.now told mid now c.loop-page-test.true c.page-item.is c.bytes.ensures.value i.laid e.ok;
      sizes = e.sizes;
      works = works_then i.works e.works;
    }

pub returns-clause-ok : goal.returns-clause-ok
returns-clause-ok g c = pages_end c.args.pages.now c.loop-page.page-index _ _ c.loop-page-test.false c.loop-page.invariant.laid

pub returns-in_err-lay_page-clause-mark : goal.returns-in_err-lay_page-clause-mark
returns-in_err-lay_page-clause-mark g c =
    let told = (g.R.PageDisk.state c.args.disk.now).told in
    let mid = (g.R.PageDisk.state c.loop-page.disk).told in
    let now = (g.R.PageDisk.state c.lay_page.new.disk).told in
    let e = c.in_err-lay_page.ensures in
    on_err_known c.from_residual.result (
    space_mark _ mid now e.works.tells e.partial
    ∙ step_mark told mid _ (pages_mark (laid_at (take c.loop-page.page-index c.args.pages.now))) c.loop-page.invariant.laid)
