use Rattle.std.proofs.Common.{◌+◌}
use Rattle.std.proofs.lemmas.Result.{on_ok_weaker, on_err_weaker}
use Rattle.clone_outside.specs.Disk.{whole}
use Rattle.clone_outside.proofs.FaultLemmas.{changes_then, on_err_known}
use Rattle.clone_lay.proofs.LayingLemmas.{page_laid, either_changes, room_changes}
use Rattle.clone_lay.proofs.SizeLemmas.{sizes_kept}
use Rattle.clone_outside.specs.Disk.{IsSameBut}
use Rattle.clone_outside.specs.Scopes.{OnlyPage}
use Rattle.clone_outside.proofs.ScopeLemmas.{same_but_order}
use Rattle.clone_outside.proofs.StopLemmas.{keeps_then, keeps_weaker}
use Rattle.clone_lay.proofs.laying.lay_page.Goals as goal

pub returns-clause-ok : goal.returns-clause-ok
returns-clause-ok g c =
    on_ok_weaker c.write_page.result
    (page_laid (g.R.PageDisk.state c.args.disk.now).told (g.R.PageDisk.state c.make_room.new.disk).told (g.R.PageDisk.state c.write_page.new.disk).told c.args.space c.args.number c.args.page.now c.in_ok-make_room.ensures.ok)
    c.write_page.ensures.written

pub returns-clause-sizes : goal.returns-clause-sizes
returns-clause-sizes g c =
    on_ok_weaker c.write_page.result
    (sizes_kept c.make_room.new.sizes (g.R.PageDisk.state c.make_room.new.disk).told (g.R.PageDisk.state c.write_page.new.disk).told c.args.space c.args.number (λ _. whole c.args.page.now) c.in_ok-make_room.ensures.sizes)
    c.write_page.ensures.written

pub returns-clause-partial : goal.returns-clause-partial
returns-clause-partial g c =
    let told = (g.R.PageDisk.state c.args.disk.now).told in
    let mid = (g.R.PageDisk.state c.make_room.new.disk).told in
    on_err_weaker c.write_page.result
    (changes_then c.args.space told mid (g.R.PageDisk.state c.write_page.new.disk).told (room_changes c.args.space told mid (c.args.number + 1) c.in_ok-make_room.ensures.ok))
    c.write_page.ensures.partial

pub returns-in_err-make_room-clause-partial : goal.returns-in_err-make_room-clause-partial
returns-in_err-make_room-clause-partial g c =
    on_err_known c.from_residual.result (either_changes c.args.space _ _ _ c.in_err-make_room.ensures.partial)

pub returns-clause-stops : goal.returns-clause-stops
returns-clause-stops g c =
    keeps_then _ (same_but_order c.args.space) _ _ _ c.make_room.ensures.stops
    (keeps_weaker (OnlyPage c.args.space c.args.number) (IsSameBut c.args.space) _ _ c.write_page.ensures.stops (λ d m only. only.within))
