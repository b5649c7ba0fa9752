use Rattle.std.proofs.Common.{subst, arith}
use Rattle.std.proofs.lemmas.Result.{err_from_is_err_and}
use Rattle.clone_recover.specs.Damage.{IsUnsoundAt}
use Rattle.clone_recover.specs.Undoing.{IsSoundRecord}
use Rattle.clone_recover.proofs.OverlayReadLemmas.{header_on_or}
use Rattle.clone_recover.proofs.UndoRecordLemmas.{undone_shows, entry_in_range, never_unsound, unsound_fails}
use Rattle.clone_recover.proofs.rollback.undo_change.Goals as goal

pub returns-in_err-fetch-clause-cause : goal.returns-in_err-fetch-clause-cause
returns-in_err-fetch-clause-cause g c =
    let p = err_from_is_err_and c.from_residual-in_err-fetch.result c.from_residual-in_err-fetch.ensures.1 in
    rw (p.1, p.2)
    (header_on_or (g.R.PageDisk.state c.args.disk.now).told (g.R.PageDisk.state c.sound_change.new.disk).told c.args.overlay.now c.sound_change.new.overlay (λ image. IsUnsoundAt image c.args.slot c.args.number) c.in_err-fetch.field-0.0
    c.in_ok-change.ensures.reads.told c.in_ok-change.ensures.shows c.in_err-fetch.ensures.cause)

pub returns-clause-undone : goal.returns-clause-undone
returns-clause-undone g c =
    let told = (g.R.PageDisk.state c.args.disk.now).told in
    let on = c.record_page-on.result in
    undone_shows told (g.R.PageDisk.state c.sound_change.new.disk).told c.args.overlay.now c.sound_change.new.overlay c.fetch.new.overlay c.lay.new.self c.args.slot c.args.number on c.table-2.result c.page-2.result c.slot_offset-row_at.result c.slot_before.result c.in-Some.change
    c.record_page-on.ensures c.table-2.ensures c.page-2.ensures (omega (arith, c.slot.ensures.value, c.slot_offset-row_at.ensures)) c.slot_before.ensures c.in_ok-change.ensures.reads.told c.in_ok-change.ensures.shows c.in_ok-fetch.ensures.shows
    (subst (IsSoundRecord told c.args.overlay.now on c.args.number) c.in-Some.is c.in_ok-change.ensures.change) c.lay.ensures

pub returns-clause-range : goal.returns-clause-range
returns-clause-range g c =
    let told = (g.R.PageDisk.state c.args.disk.now).told in
    let on = c.record_page-on.result in
    entry_in_range told c.args.overlay.now c.args.slot c.args.number on c.in-Some.change c.record_page-on.ensures (subst (IsSoundRecord told c.args.overlay.now on c.args.number) c.in-Some.is c.in_ok-change.ensures.change)

pub returns-clause-sound : goal.returns-clause-sound
returns-clause-sound g c =
    let told = (g.R.PageDisk.state c.args.disk.now).told in
    let on = c.record_page-on.result in
    never_unsound told c.args.overlay.now c.args.slot c.args.number on c.in-Some.change c.record_page-on.ensures (subst (IsSoundRecord told c.args.overlay.now on c.args.number) c.in-Some.is c.in_ok-change.ensures.change)

pub returns-in_default-clause-cause : goal.returns-in_default-clause-cause
returns-in_default-clause-cause g c =
    unsound_fails (g.R.PageDisk.state c.args.disk.now).told c.args.overlay.now c.args.slot c.args.number c.record_page-on.result c.in_ok-change.field-0 c.damaged_undo.result c.record_page-on.ensures c.in_default.not-Some c.damaged_undo.ensures c.in_ok-change.ensures.change
