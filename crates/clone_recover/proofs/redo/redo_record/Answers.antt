use Rattle.std.proofs.Common.{true, false, subst}
use Rattle.std.proofs.lemmas.Result.{err_from_is_err_and}
use Rattle.clone_mtr.specs.References.{record_of}
use Rattle.clone_recover.specs.Redo.{MeetsOn}
use Rattle.clone_recover.proofs.OverlayReadLemmas.{always}
use Rattle.clone_recover.proofs.RedoRuleLemmas.{names_page, ready_for, steps_counted, steps_passed, steps_space, names_space, space_ready}
use Rattle.clone_recover.proofs.redo.redo_record.Goals as goal

pub apply-requires-in-Init : goal.apply-requires-in-Init
apply-requires-in-Init g c = ready_for c.meet.new.overlay c.in-Init.space c.in-Init.page (record_of c.args.entry.now) (names_page c.args.entry.now c.in-Init.space c.in-Init.page c.in-Init.is) c.in_ok-meet-in-Init.ensures.ready

pub apply-requires : goal.apply-requires
apply-requires g c = space_ready c.args.overlay.now (record_of c.args.entry.now) (names_space c.args.entry.now c.in-Extend.is)

pub returns-in_ok-apply-in-Init-clause-ok : goal.returns-in_ok-apply-in-Init-clause-ok
returns-in_ok-apply-in-Init-clause-ok g c =
    let told = (g.R.PageDisk.state c.args.disk.now).told in
    let met : MeetsOn told c.args.lsn c.in-Init.space c.in-Init.page c.args.overlay.now c.meet.new.overlay c.args.meetings.now.items c.meet.new.meetings.items true =
    subst (MeetsOn told c.args.lsn c.in-Init.space c.in-Init.page c.args.overlay.now c.meet.new.overlay c.args.meetings.now.items c.meet.new.meetings.items) c.if-not-branch.false c.in_ok-meet-in-Init.ensures.met in
    steps_counted told c.args.lsn c.in-Init.space c.in-Init.page c.args.overlay.now c.meet.new.overlay c.apply-in-Init.new.self c.args.meetings.now.items c.meet.new.meetings.items (record_of c.args.entry.now) (names_page c.args.entry.now c.in-Init.space c.in-Init.page c.in-Init.is) met c.in_ok-apply-in-Init.ensures.ok

pub returns-then-not-branch-clause-ok : goal.returns-then-not-branch-clause-ok
returns-then-not-branch-clause-ok g c =
    let told = (g.R.PageDisk.state c.args.disk.now).told in
    let met : MeetsOn told c.args.lsn c.in-Init.space c.in-Init.page c.args.overlay.now c.meet.new.overlay c.args.meetings.now.items c.meet.new.meetings.items false =
    subst (MeetsOn told c.args.lsn c.in-Init.space c.in-Init.page c.args.overlay.now c.meet.new.overlay c.args.meetings.now.items c.meet.new.meetings.items) c.if-not-branch.true c.in_ok-meet-in-Init.ensures.met in
    steps_passed told c.args.lsn c.in-Init.space c.in-Init.page c.args.overlay.now c.meet.new.overlay c.args.meetings.now.items c.meet.new.meetings.items (record_of c.args.entry.now) (names_page c.args.entry.now c.in-Init.space c.in-Init.page c.in-Init.is) met

pub returns-in_ok-apply-in-Extend-clause-ok : goal.returns-in_ok-apply-in-Extend-clause-ok
returns-in_ok-apply-in-Extend-clause-ok g c =
    steps_space (g.R.PageDisk.state c.args.disk.now).told c.args.lsn c.args.overlay.now c.apply.new.self c.args.meetings.now.items (record_of c.args.entry.now) (names_space c.args.entry.now c.in-Extend.is) c.in_ok-apply-in-Extend.ensures.ok

pub returns-in_err-meet-in-Init-clause-cause : goal.returns-in_err-meet-in-Init-clause-cause
returns-in_err-meet-in-Init-clause-cause g c =
    let p = err_from_is_err_and c.from_residual-in_err-meet-in-Init.result c.from_residual-in_err-meet-in-Init.ensures.1 in
    rw (p.1, p.2) c.in_err-meet-in-Init.ensures.cause

pub returns-in_err-apply-in-Init-clause-cause : goal.returns-in_err-apply-in-Init-clause-cause
returns-in_err-apply-in-Init-clause-cause g c =
    let p = err_from_is_err_and c.from_residual-in_err-apply-in-Init.result c.from_residual-in_err-apply-in-Init.ensures.1 in
    rw (p.1, p.2) (always (g.R.PageDisk.state c.args.disk.now).told c.args.overlay.now)

pub returns-in_err-apply-in-Extend-clause-cause : goal.returns-in_err-apply-in-Extend-clause-cause
returns-in_err-apply-in-Extend-clause-cause g c =
    let p = err_from_is_err_and c.from_residual.result c.from_residual.ensures.1 in
    rw (p.1, p.2) (always (g.R.PageDisk.state c.args.disk.now).told c.args.overlay.now)
