use Rattle.std.proofs.Common.{ℕ, refl, inl}
use Rattle.std.proofs.lemmas.Result.{err_from_is_err_and, on_ok_weaker, IfErr-weaker}
use Rattle.clone_image.specs.Recovered.{recovered}
use Rattle.clone_recover.specs.Damage.{PageOrOn, HasTooMany, HasBroken, IsFirstBroken}
use Rattle.clone_recover.proofs.Counts.{first_broken}
use Rattle.clone_recover.proofs.OverlayReadLemmas.{same_itself, for_same, edited_after, page_or_on}
use Rattle.clone_recover.proofs.rollback.take_back_open.Goals as goal

pub returns-in_err-check_counts-clause-cause : goal.returns-in_err-check_counts-clause-cause
returns-in_err-check_counts-clause-cause g c =
    let told = (g.R.PageDisk.state c.args.disk.now).told in
    let p = err_from_is_err_and c.from_residual.result c.from_residual.ensures.1 in
    rw (p.1, p.2)
    (page_or_on told told c.args.overlay.now c.args.overlay.now HasTooMany HasBroken c.in_err-check_counts.field-0.0 refl (same_itself told c.args.overlay.now) (λ image page many. (many.0, inl many.1)) c.in_err-check_counts.ensures.cause)

pub returns-in_err-check_counts-clause-order : goal.returns-in_err-check_counts-clause-order
returns-in_err-check_counts-clause-order g c =
    let told = (g.R.PageDisk.state c.args.disk.now).told in
    let p = err_from_is_err_and c.from_residual.result c.from_residual.ensures.1 in
    rw (p.1, p.2)
    (page_or_on told told c.args.overlay.now c.args.overlay.now HasTooMany IsFirstBroken c.in_err-check_counts.field-0.0 refl (same_itself told c.args.overlay.now) (λ image page many. inl many) c.in_err-check_counts.ensures.cause)

pub returns-clause-recovered : goal.returns-clause-recovered
returns-clause-recovered g c =
    let told = (g.R.PageDisk.state c.args.disk.now).told in
    on_ok_weaker c.take_back_all.result
    (λ shows. edited_after told (g.R.PageDisk.state c.check_counts.new.disk).told c.args.overlay.now c.check_counts.new.overlay c.take_back_all.new.overlay recovered c.in_ok-check_counts.ensures.reads.told c.in_ok-check_counts.ensures.shows shows) c.take_back_all.ensures.recovered

pub returns-clause-sound : goal.returns-clause-sound
returns-clause-sound g c =
    let told = (g.R.PageDisk.state c.args.disk.now).told in
    on_ok_weaker c.take_back_all.result
    (λ sound. for_same told (g.R.PageDisk.state c.check_counts.new.disk).told c.args.overlay.now c.check_counts.new.overlay (λ m image. (page : ℕ) → HasBroken image page → ⊥) c.in_ok-check_counts.ensures.reads.told c.in_ok-check_counts.ensures.shows sound) c.take_back_all.ensures.sound

pub returns-clause-cause : goal.returns-clause-cause
returns-clause-cause g c =
    let told = (g.R.PageDisk.state c.args.disk.now).told in
    let mid = (g.R.PageDisk.state c.check_counts.new.disk).told in
    IfErr-weaker c.take_back_all.result (PageOrOn mid c.check_counts.new.overlay HasBroken) (PageOrOn told c.args.overlay.now HasBroken)
    (λ e or. page_or_on told mid c.args.overlay.now c.check_counts.new.overlay HasBroken HasBroken e c.in_ok-check_counts.ensures.reads.told c.in_ok-check_counts.ensures.shows (λ image page is. is) or) c.take_back_all.ensures.cause

pub returns-clause-order : goal.returns-clause-order
returns-clause-order g c =
    let told = (g.R.PageDisk.state c.args.disk.now).told in
    let mid = (g.R.PageDisk.state c.check_counts.new.disk).told in
    IfErr-weaker c.take_back_all.result (PageOrOn mid c.check_counts.new.overlay HasBroken) (PageOrOn told c.args.overlay.now IsFirstBroken)
    (λ e or. first_broken told mid c.args.overlay.now c.check_counts.new.overlay e c.in_ok-check_counts.ensures.reads.told c.in_ok-check_counts.ensures.shows c.in_ok-check_counts.ensures.counts or) c.take_back_all.ensures.cause
