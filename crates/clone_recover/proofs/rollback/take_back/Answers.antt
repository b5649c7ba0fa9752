use Rattle.std.proofs.Common.{◌≤◌, ◌∙◌, subst, refl, inl}
use Rattle.std.proofs.lemmas.Result.{err_from_is_err_and, on_ok_weaker, IfErr-weaker}
use Rattle.std.specs.Prelude.{IfSome}
use Rattle.std.specs.declared.option.Option.{Option}
use Rattle.clone_undo.specs.Places.{capacity}
use Rattle.clone_undo.specs.Slots.{entries}
use Rattle.clone_undo.specs.declared.reading.SlotHeader.{SlotHeader}
use Rattle.clone_image.specs.Recovered.{system_pages, all_undone}
use Rattle.clone_recover.specs.Damage.{HeaderOn, PageOrOn, CountsTooMany, IsBroken}
use Rattle.clone_recover.specs.Undoing.{IsHeaderOf}
use Rattle.clone_recover.proofs.OverlayReadLemmas.{same_itself, page_or_on}
use Rattle.clone_recover.proofs.UndoSlotLemmas.{no_header, stays_taken, free_in_range, free_unbroken, unbroken, taken_through, taken_in_range, undo_fails, free_fails}
use Rattle.clone_recover.proofs.rollback.take_back.Goals as goal

pub returns-in_err-header-clause-cause : goal.returns-in_err-header-clause-cause
returns-in_err-header-clause-cause g c =
    let told = (g.R.PageDisk.state c.args.disk.now).told in
    let p = err_from_is_err_and c.from_residual.result c.from_residual.ensures.1 in
    rw (p.1, p.2)
    (page_or_on told told c.args.overlay.now c.args.overlay.now (λ image. CountsTooMany image c.args.slot) (λ image. IsBroken image c.args.slot) c.in_err-header.field-0.0 refl (same_itself told c.args.overlay.now)
    (λ image page many. inl many) c.in_err-header.ensures.cause)

pub returns-in_default-clause-taken_back : goal.returns-in_default-clause-taken_back
returns-in_default-clause-taken_back g c =
    let told = (g.R.PageDisk.state c.args.disk.now).told in
    stays_taken told c.args.slot c.args.overlay.now c.header_of.new.overlay
    (no_header told c.args.slot c.args.overlay.now c.in_ok-header.field-0 c.in_default.not-Some c.in_ok-header.ensures.header) c.in_ok-header.ensures.shows

pub returns-in_default-clause-ranges : goal.returns-in_default-clause-ranges
returns-in_default-clause-ranges g c =
    let told = (g.R.PageDisk.state c.args.disk.now).told in
    free_in_range told c.args.slot c.args.overlay.now (no_header told c.args.slot c.args.overlay.now c.in_ok-header.field-0 c.in_default.not-Some c.in_ok-header.ensures.header)

pub returns-in_default-clause-sound : goal.returns-in_default-clause-sound
returns-in_default-clause-sound g c =
    let told = (g.R.PageDisk.state c.args.disk.now).told in
    free_unbroken told c.args.slot c.args.overlay.now (no_header told c.args.slot c.args.overlay.now c.in_ok-header.field-0 c.in_default.not-Some c.in_ok-header.ensures.header)

pub returns-in_err-undo_changes-clause-cause : goal.returns-in_err-undo_changes-clause-cause
returns-in_err-undo_changes-clause-cause g c =
    let told = (g.R.PageDisk.state c.args.disk.now).told in
    let p = err_from_is_err_and c.from_residual-in_err-undo_changes.result c.from_residual-in_err-undo_changes.ensures.1 in
    rw (p.1, p.2)
    (undo_fails told (g.R.PageDisk.state c.header_of.new.disk).told c.args.slot c.in-Some.header.count c.args.overlay.now c.header_of.new.overlay c.in_err-undo_changes.field-0.0 c.requires c.in_ok-header.ensures.reads.told
    (subst (IsHeaderOf told c.args.overlay.now c.args.slot) c.in-Some.is c.in_ok-header.ensures.header) c.in_ok-header.ensures.shows c.in_err-undo_changes.ensures.cause)

pub returns-clause-taken_back : goal.returns-clause-taken_back
returns-clause-taken_back g c =
    let told = (g.R.PageDisk.state c.args.disk.now).told in
    on_ok_weaker c.free.result
    (λ frees. taken_through told (g.R.PageDisk.state c.header_of.new.disk).told (g.R.PageDisk.state c.undo_changes.new.disk).told c.args.slot c.in-Some.header.count c.args.overlay.now c.header_of.new.overlay c.undo_changes.new.overlay c.free.new.overlay
    c.in_ok-header.ensures.reads.told (c.in_ok-undo_changes.ensures.reads.told ∙ c.in_ok-header.ensures.reads.told)
    (subst (IsHeaderOf told c.args.overlay.now c.args.slot) c.in-Some.is c.in_ok-header.ensures.header) c.in_ok-header.ensures.shows c.in_ok-undo_changes.ensures.undone frees) c.free.ensures.freed

pub returns-clause-ranges : goal.returns-clause-ranges
returns-clause-ranges g c =
    let told = (g.R.PageDisk.state c.args.disk.now).told in
    on_ok_weaker c.free.result
    (λ frees. taken_in_range told (g.R.PageDisk.state c.header_of.new.disk).told c.args.slot c.in-Some.header.count c.args.overlay.now c.header_of.new.overlay c.in_ok-header.ensures.reads.told
    (subst (IsHeaderOf told c.args.overlay.now c.args.slot) c.in-Some.is c.in_ok-header.ensures.header) c.in_ok-header.ensures.shows c.in_ok-undo_changes.ensures.ranges) c.free.ensures.freed

pub returns-clause-sound : goal.returns-clause-sound
returns-clause-sound g c =
    let told = (g.R.PageDisk.state c.args.disk.now).told in
    let few : c.in-Some.header.count ≤ capacity = subst (λ (o : Option SlotHeader). IfSome o (λ h. h.count ≤ capacity)) c.in-Some.is c.in_ok-header.ensures.count in
    on_ok_weaker c.free.result
    (λ frees. unbroken told (g.R.PageDisk.state c.header_of.new.disk).told c.args.slot c.in-Some.header.count c.args.overlay.now c.header_of.new.overlay c.in_ok-header.ensures.reads.told few
    (subst (IsHeaderOf told c.args.overlay.now c.args.slot) c.in-Some.is c.in_ok-header.ensures.header) c.in_ok-header.ensures.shows c.in_ok-undo_changes.ensures.sound) c.free.ensures.freed

pub returns-clause-cause : goal.returns-clause-cause
returns-clause-cause g c =
    let told = (g.R.PageDisk.state c.args.disk.now).told in
    IfErr-weaker c.free.result (HeaderOn (g.R.PageDisk.state c.undo_changes.new.disk).told c.undo_changes.new.overlay) (PageOrOn told c.args.overlay.now (λ image. IsBroken image c.args.slot))
    (λ e header. free_fails told (g.R.PageDisk.state c.header_of.new.disk).told (g.R.PageDisk.state c.undo_changes.new.disk).told c.args.overlay.now c.header_of.new.overlay c.undo_changes.new.overlay
    (λ image. all_undone image (entries c.args.slot (system_pages image) c.in-Some.header.count)) (λ image. IsBroken image c.args.slot) e c.in_ok-header.ensures.reads.told (c.in_ok-undo_changes.ensures.reads.told ∙ c.in_ok-header.ensures.reads.told)
    c.in_ok-header.ensures.shows c.in_ok-undo_changes.ensures.undone header) c.free.ensures.cause
