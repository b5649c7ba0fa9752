use Rattle.std.proofs.Common.{◌∙◌, rules}
use Rattle.std.proofs.lemmas.Result.{on_ok_weaker, on_err_weaker}
use Rattle.clone_outside.specs.Disk.{edited, half_written, with_page}
use Rattle.clone_outside.proofs.FaultLemmas.{changes_by, changes_then, half_changes, on_err_known, pages_change}
use Rattle.clone_outside.proofs.DiskCallLemmas.{steps_tell, writes_work}
use Rattle.clone_outside.proofs.HalfLemmas.{whole_by_halves}
use Rattle.clone_outside.proofs.ScopeLemmas.{half_page, only_page_order, rest_page}
use Rattle.clone_outside.proofs.StopLemmas.{keeps_change, keeps_then}
use Rattle.clone_outside.proofs.pages.write_page.Goals as goal

pub returns-in_err-write_half-clause-partial : goal.returns-in_err-write_half-clause-partial
returns-in_err-write_half-clause-partial g c =
    on_err_known c.from_residual.result
    (half_changes c.args.space _ (g.D.PageDisk.state c.args.disk.now).told (g.D.PageDisk.state c.write_half.new.self).told c.args.number c.in_err-write_half.ensures.writes.failed c.in_err-write_half.ensures.writes.memory)

pub returns-clause-written : goal.returns-clause-written
returns-clause-written g c =
    on_ok_weaker c.write_rest.result
    (whole_by_halves (g.D.PageDisk.state c.args.disk.now).told (g.D.PageDisk.state c.write_half.new.self).told (g.D.PageDisk.state c.write_rest.new.self).told c.args.space c.args.number c.args.page.now c.told-page c.in_ok-write_half.ensures.writes.done)
    c.write_rest.ensures.writes.done

pub returns-clause-partial : goal.returns-clause-partial
returns-clause-partial g c =
    let told = (g.D.PageDisk.state c.args.disk.now).told in
    let mid = (g.D.PageDisk.state c.write_half.new.self).told in
    let now = (g.D.PageDisk.state c.write_rest.new.self).told in
    let half = half_written c.args.page.now in
    on_err_weaker c.write_rest.result
    (changes_then c.args.space told mid now (changes_by c.args.space told mid (λ m. with_page m c.args.space c.args.number half) (pages_change c.args.space (edited c.args.number half)) c.in_ok-write_half.ensures.writes.done))
    (half_changes c.args.space c.write_rest.result mid now c.args.number c.write_rest.ensures.writes.failed c.write_rest.ensures.writes.memory)

pub returns-in_err-write_half-clause-works : goal.returns-in_err-write_half-clause-works
returns-in_err-write_half-clause-works g c = record {
  tells = (writes_work c.args.space c.args.number c.write_half.result c.write_half.ensures.writes).tells;
  orders = search rules;
  later = search rules;
  fault = search rules;
}

pub returns-clause-works : goal.returns-clause-works
returns-clause-works g c = record {
  tells = (writes_work c.args.space c.args.number c.write_rest.result c.write_rest.ensures.writes).tells ∙ steps_tell _ _ _ c.in_ok-write_half.ensures.writes.done;
  orders = search rules;
  later = search rules;
  fault = search rules;
}

pub returns-in_err-write_half-clause-stops : goal.returns-in_err-write_half-clause-stops
returns-in_err-write_half-clause-stops g c = keeps_change _ (only_page_order c.args.space c.args.number) _ _ _ c.write_half.ensures.writes.stops (half_page c.args.space c.args.number)

pub returns-clause-stops : goal.returns-clause-stops
returns-clause-stops g c =
    let order = only_page_order c.args.space c.args.number in
    keeps_then _ order _ _ _ (keeps_change _ order _ _ _ c.write_half.ensures.writes.stops (half_page c.args.space c.args.number))
    (keeps_change _ order _ _ _ c.write_rest.ensures.writes.stops (rest_page c.args.space c.args.number))
