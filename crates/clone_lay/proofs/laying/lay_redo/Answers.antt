use Rattle.std.proofs.Common.{◌/◌, ◌-◌, ◌∙◌, arith}
use Rattle.clone_base.specs.declared.limits.TheConstants.{REDO_SPACE}
use Rattle.clone_outside.specs.Disk.{whole}
use Rattle.clone_lay.specs.Redo.{redo_page}
use Rattle.clone_outside.proofs.FaultLemmas.{changes_then, on_err_known}
use Rattle.clone_lay.proofs.LayingLemmas.{laid_changes, either_changes}
use Rattle.clone_lay.proofs.RedoLemmas.{pages_end, pages_go_on}
use Rattle.clone_lay.proofs.SizeLemmas.{sizes_kept}
use Rattle.clone_outside.proofs.ScopeLemmas.{same_but_order}
use Rattle.clone_outside.proofs.StopLemmas.{keeps_then}
use Rattle.clone_lay.proofs.laying.lay_redo.Goals as goal

pub returns-in_err-write_redo_page-clause-partial : goal.returns-in_err-write_redo_page-clause-partial
returns-in_err-write_redo_page-clause-partial g c =
    let told = (g.R.PageDisk.state c.args.disk.now).told in
    let mid = (g.R.PageDisk.state c.loop-number.disk).told in
    on_err_known c.from_residual-in_err-write_redo_page.result
    (changes_then REDO_SPACE told mid (g.R.PageDisk.state c.write_redo_page.new.disk).told
    (laid_changes REDO_SPACE ((c.args.from - c.args.checkpoint) / 4096) told mid _ _ c.loop-number.invariant.laid)
    c.in_err-write_redo_page.ensures.partial)

pub loop-number-preserved : goal.loop-number-preserved
loop-number-preserved g c =
    let first = (c.args.from - c.args.checkpoint) / 4096 in
    let mid = (g.R.PageDisk.state c.loop-number.disk).told in
    let now = (g.R.PageDisk.state c.write_redo_page.new.disk).told in
    record {
      laid = pages_go_on c.args.bytes.now first (g.R.PageDisk.state c.args.disk.now).told mid now c.loop-number.number
          (omega (arith, c.loop-number-test.true, c.div_ceil-count.ensures)) c.loop-number.invariant.laid c.in_ok-write_redo_page.ensures.ok;
      sizes = sizes_kept c.make_room.new.sizes mid now REDO_SPACE _ (λ _. whole (redo_page c.args.bytes.now c.loop-number.number)) c.loop-number.invariant.sizes c.in_ok-write_redo_page.ensures.ok;
      later = omega (arith, c.loop-number.invariant.later, c.in_ok-write_redo_page.ensures.works.later);
      tells = c.in_ok-write_redo_page.ensures.works.tells ∙ c.loop-number.invariant.tells;
      orders = c.in_ok-write_redo_page.ensures.works.orders ∙ c.loop-number.invariant.orders;
      stops = keeps_then _ (same_but_order REDO_SPACE) _ _ _ c.loop-number.invariant.stops c.write_redo_page.ensures.stops;
    }

pub returns-clause-ok : goal.returns-clause-ok
returns-clause-ok g c =
    pages_end c.args.bytes.now ((c.args.from - c.args.checkpoint) / 4096) (g.R.PageDisk.state c.args.disk.now).told (g.R.PageDisk.state c.loop-number.disk).told c.loop-number.number
    (omega (arith, c.loop-number-test.false, c.loop-number.auto.number-end, c.div_ceil-count.ensures)) c.loop-number.invariant.laid

pub returns-in_err-make_room-clause-partial : goal.returns-in_err-make_room-clause-partial
returns-in_err-make_room-clause-partial g c =
    on_err_known c.from_residual.result (either_changes REDO_SPACE _ _ _ c.in_err-make_room.ensures.partial)

pub returns-in_err-write_redo_page-clause-stops : goal.returns-in_err-write_redo_page-clause-stops
returns-in_err-write_redo_page-clause-stops g c = keeps_then _ (same_but_order REDO_SPACE) _ _ _ c.loop-number.invariant.stops c.write_redo_page.ensures.stops
