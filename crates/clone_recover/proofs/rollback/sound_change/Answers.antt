use Rattle.std.proofs.Common.{◌≡◌, ◌∙◌, None, is_some}
use Rattle.std.proofs.lemmas.Result.{err_from_is_err_and}
use Rattle.clone_image.specs.Image.{page_of}
use Rattle.clone_overlay.specs.Images.{image_of}
use Rattle.clone_recover.specs.Undoing.{HasSoundRecord}
use Rattle.clone_recover.proofs.OverlayReadLemmas.{for_shown, for_same, same_twice, header_same}
use Rattle.clone_recover.proofs.UndoRecordLemmas.{sound_record, unlisted, unstanding}
use Rattle.clone_recover.proofs.rollback.sound_change.Goals as goal

pub returns-in_default-clause-change : goal.returns-in_default-clause-change
returns-in_default-clause-change g c =
    for_shown (g.R.PageDisk.state c.args.disk.now).told c.args.overlay.now c.fetch.new.overlay (λ m image. HasSoundRecord image c.args.on c.args.number None) c.in_ok-fetch.ensures.shows
    (λ m image shows bytes there sound. c.in_default.ensures.none (image_of m) image shows bytes there sound.ranges)

pub returns-in_err-is_listed-clause-cause : goal.returns-in_err-is_listed-clause-cause
returns-in_err-is_listed-clause-cause g c =
    let p = err_from_is_err_and c.from_residual-in_err-is_listed.result c.from_residual-in_err-is_listed.ensures.1 in
    rw (p.1, p.2)
    (header_same (g.R.PageDisk.state c.args.disk.now).told (g.R.PageDisk.state c.fetch.new.disk).told c.args.overlay.now c.fetch.new.overlay c.in_err-is_listed.field-0.0 c.in_ok-fetch.ensures.reads.told c.in_ok-fetch.ensures.shows c.in_err-is_listed.ensures.cause)

pub returns-then-not-branch-clause-change : goal.returns-then-not-branch-clause-change
returns-then-not-branch-clause-change g c =
    unlisted (g.R.PageDisk.state c.args.disk.now).told (g.R.PageDisk.state c.fetch.new.disk).told c.args.overlay.now c.fetch.new.overlay c.args.on c.args.number c.table.result c.in-Some.change c.in_ok-is_listed.field-0 c.in_ok-fetch.ensures.reads.told c.table.ensures c.if-not-branch.true
    c.in_ok-fetch.ensures.shows c.in-Some.ensures.some c.in_ok-is_listed.ensures.no

pub returns-then-not-branch-clause-shows : goal.returns-then-not-branch-clause-shows
returns-then-not-branch-clause-shows g c =
    same_twice (g.R.PageDisk.state c.args.disk.now).told (g.R.PageDisk.state c.fetch.new.disk).told c.args.overlay.now c.fetch.new.overlay c.is_listed.new.overlay c.in_ok-fetch.ensures.reads.told c.in_ok-fetch.ensures.shows c.in_ok-is_listed.ensures.shows

pub returns-in_err-stands-clause-cause : goal.returns-in_err-stands-clause-cause
returns-in_err-stands-clause-cause g c =
    let told = (g.R.PageDisk.state c.args.disk.now).told in
    let p = err_from_is_err_and c.from_residual-in_err-stands.result c.from_residual-in_err-stands.ensures.1 in
    rw (p.1, p.2)
    (header_same told (g.R.PageDisk.state c.is_listed.new.disk).told c.args.overlay.now c.is_listed.new.overlay c.in_err-stands.field-0.0 (c.in_ok-is_listed.ensures.reads.told ∙ c.in_ok-fetch.ensures.reads.told)
    (same_twice told (g.R.PageDisk.state c.fetch.new.disk).told c.args.overlay.now c.fetch.new.overlay c.is_listed.new.overlay c.in_ok-fetch.ensures.reads.told c.in_ok-fetch.ensures.shows c.in_ok-is_listed.ensures.shows) c.in_err-stands.ensures.cause)

pub returns-then-not-branch-2-clause-change : goal.returns-then-not-branch-2-clause-change
returns-then-not-branch-2-clause-change g c =
    let told = (g.R.PageDisk.state c.args.disk.now).told in
    let mid = (g.R.PageDisk.state c.fetch.new.disk).told in
    unstanding told mid c.args.overlay.now c.fetch.new.overlay c.args.on c.args.number c.table-2.result c.page.result c.in-Some.change c.in_ok-stands.field-0 c.in_ok-fetch.ensures.reads.told c.table-2.ensures c.page.ensures c.if-not-branch-2.true
    c.in_ok-fetch.ensures.shows c.in-Some.ensures.some
    (for_same mid (g.R.PageDisk.state c.is_listed.new.disk).told c.fetch.new.overlay c.is_listed.new.overlay (λ m image. c.in_ok-stands.field-0 ≡ is_some (page_of image c.table-2.result c.page.result)) c.in_ok-is_listed.ensures.reads.told c.in_ok-is_listed.ensures.shows c.in_ok-stands.ensures.there)

pub returns-then-not-branch-2-clause-shows : goal.returns-then-not-branch-2-clause-shows
returns-then-not-branch-2-clause-shows g c =
    let told = (g.R.PageDisk.state c.args.disk.now).told in
    let mid = (g.R.PageDisk.state c.fetch.new.disk).told in
    let last = (g.R.PageDisk.state c.is_listed.new.disk).told in
    same_twice told mid c.args.overlay.now c.fetch.new.overlay c.stands.new.overlay c.in_ok-fetch.ensures.reads.told c.in_ok-fetch.ensures.shows
    (same_twice mid last c.fetch.new.overlay c.is_listed.new.overlay c.stands.new.overlay c.in_ok-is_listed.ensures.reads.told c.in_ok-is_listed.ensures.shows c.in_ok-stands.ensures.shows)

pub returns-clause-change : goal.returns-clause-change
returns-clause-change g c =
    let told = (g.R.PageDisk.state c.args.disk.now).told in
    let mid = (g.R.PageDisk.state c.fetch.new.disk).told in
    sound_record told mid c.args.overlay.now c.fetch.new.overlay c.args.on c.args.number c.table.result c.table-2.result c.page.result c.in-Some.change c.in_ok-is_listed.field-0 c.in_ok-stands.field-0 c.in_ok-fetch.ensures.reads.told c.table.ensures c.table-2.ensures c.page.ensures c.if-not-branch.false c.if-not-branch-2.false c.in-Some.ensures.range
    c.in_ok-fetch.ensures.shows c.in-Some.ensures.some c.in_ok-is_listed.ensures.yes
    (for_same mid (g.R.PageDisk.state c.is_listed.new.disk).told c.fetch.new.overlay c.is_listed.new.overlay (λ m image. c.in_ok-stands.field-0 ≡ is_some (page_of image c.table-2.result c.page.result)) c.in_ok-is_listed.ensures.reads.told c.in_ok-is_listed.ensures.shows c.in_ok-stands.ensures.there)

pub returns-clause-shows : goal.returns-clause-shows
returns-clause-shows g c =
    let told = (g.R.PageDisk.state c.args.disk.now).told in
    let mid = (g.R.PageDisk.state c.fetch.new.disk).told in
    let last = (g.R.PageDisk.state c.is_listed.new.disk).told in
    same_twice told mid c.args.overlay.now c.fetch.new.overlay c.stands.new.overlay c.in_ok-fetch.ensures.reads.told c.in_ok-fetch.ensures.shows
    (same_twice mid last c.fetch.new.overlay c.is_listed.new.overlay c.stands.new.overlay c.in_ok-is_listed.ensures.reads.told c.in_ok-is_listed.ensures.shows c.in_ok-stands.ensures.shows)
