use Rattle.std.proofs.Common.{◌≡◌, Some, None, false, sym, subst}
use Rattle.std.specs.Prelude.{IfNone}
use Rattle.std.proofs.lemmas.Option.{none-some}
use Rattle.clone_undo.specs.Slots.{is_in_use}
use Rattle.clone_overlay.specs.Images.{image_of}
use Rattle.clone_recover.specs.Damage.{CountsTooMany}
use Rattle.clone_recover.specs.Undoing.{HasHeader}
use Rattle.clone_recover.proofs.OverlayReadLemmas.{for_shown, header_nowhere, header_there, too_many, undo_damage}
use Rattle.clone_recover.proofs.rollback.header_of.Goals as goal

pub returns-in_default-clause-header : goal.returns-in_default-clause-header
returns-in_default-clause-header g c =
    for_shown (g.R.PageDisk.state c.args.disk.now).told c.args.overlay.now c.fetch.new.overlay (λ m image. HasHeader image c.args.slot None) c.in_ok-fetch.ensures.shows
    (λ m image shows. header_nowhere image c.args.slot c.header_page-number.result c.header_page-number.ensures (c.in_default.ensures (image_of m) image shows))

pub returns-in-Some-header-clause-cause : goal.returns-in-Some-header-clause-cause
returns-in-Some-header-clause-cause g c =
    let number = c.header_page-number.result in
    undo_damage (g.R.PageDisk.state c.args.disk.now).told c.args.overlay.now (λ image. CountsTooMany image c.args.slot) number c.damaged_undo.result c.damaged_undo.ensures
    (for_shown (g.R.PageDisk.state c.args.disk.now).told c.args.overlay.now c.fetch.new.overlay (λ m image. CountsTooMany image c.args.slot number) c.in_ok-fetch.ensures.shows
    (λ m image shows. too_many image c.args.slot number c.in-Some.page.now c.in-Some-header.header.count c.requires c.header_page-number.ensures (c.in-Some.ensures (image_of m) image shows) c.in-Some-header.ensures.some c.in-Some-header.ensures.count c.if-header-gt-UNDO_CAPACITY.true))

pub returns-in_default-header-clause-header : goal.returns-in_default-header-clause-header
returns-in_default-header-clause-header g c =
    for_shown (g.R.PageDisk.state c.args.disk.now).told c.args.overlay.now c.fetch.new.overlay (λ m image. HasHeader image c.args.slot (Some c.in-Some-header.header)) c.in_ok-fetch.ensures.shows
    (λ m image shows. header_there image c.args.slot c.header_page-number.result c.in-Some.page.now (Some c.in-Some-header.header) c.header_page-number.ensures (c.in-Some.ensures (image_of m) image shows) c.in-Some-header.ensures.some c.in-Some-header.ensures.count
    (λ none. absurd (none-some c.in-Some-header.header (sym none))))

pub returns-in_default-header-2-clause-header : goal.returns-in_default-header-2-clause-header
returns-in_default-header-2-clause-header g c =
    for_shown (g.R.PageDisk.state c.args.disk.now).told c.args.overlay.now c.fetch.new.overlay (λ m image. HasHeader image c.args.slot c.header.result) c.in_ok-fetch.ensures.shows
    (λ m image shows. header_there image c.args.slot c.header_page-number.result c.in-Some.page.now c.header.result c.header_page-number.ensures (c.in-Some.ensures (image_of m) image shows) c.header.ensures.some c.header.ensures.count
    (λ none. subst (λ o. IfNone o (is_in_use c.in-Some.page.now ≡ false)) none c.header.ensures.none))
