use Rattle.std.proofs.Common.{◌≡◌, ◌+◌, suc, arith}
use Rattle.std.proofs.lemmas.Result.{err_from_is_err_and}
use Rattle.clone_outside.proofs.DiskCallLemmas.{reads_none, reads_then}
use Rattle.clone_recover.specs.Damage.{CountsTooMany, HasTooMany}
use Rattle.clone_undo.specs.Places.{undo_slot_count}
use Rattle.clone_recover.proofs.Counts.{fits_begin, fits_go_on, fits_end}
use Rattle.clone_recover.proofs.OverlayReadLemmas.{same_itself, same_twice, page_or_on}
use Rattle.clone_recover.proofs.rollback.check_counts.Goals as goal

pub loop-slot-init : goal.loop-slot-init
loop-slot-init g c = record { shows = same_itself (g.R.PageDisk.state c.args.disk.now).told c.args.overlay.now; fits = fits_begin (g.R.PageDisk.state c.args.disk.now).told c.args.overlay.now; reads = reads_none }

pub loop-slot-preserved : goal.loop-slot-preserved
loop-slot-preserved g c = record {
  shows = same_twice (g.R.PageDisk.state c.args.disk.now).told (g.R.PageDisk.state c.loop-slot.disk).told c.args.overlay.now c.loop-slot.overlay c.header_of.new.overlay c.loop-slot.invariant.reads.told c.loop-slot.invariant.shows c.in_ok-header_of.ensures.shows;
  fits =
      let next : c.loop-slot.slot + 1 ≡ suc c.loop-slot.slot = omega arith in
      fits_go_on (g.R.PageDisk.state c.args.disk.now).told (g.R.PageDisk.state c.loop-slot.disk).told c.loop-slot.slot (c.loop-slot.slot + 1) c.args.overlay.now c.loop-slot.overlay c.in_ok-header_of.field-0 c.loop-slot.invariant.reads.told next c.loop-slot.invariant.shows c.in_ok-header_of.ensures.count c.in_ok-header_of.ensures.header c.loop-slot.invariant.fits;
  reads = reads_then c.loop-slot.invariant.reads c.in_ok-header_of.ensures.reads;
}

pub returns-in_err-header_of-clause-cause : goal.returns-in_err-header_of-clause-cause
returns-in_err-header_of-clause-cause g c =
    let p = err_from_is_err_and c.from_residual.result c.from_residual.ensures.1 in
    rw (p.1, p.2)
    (page_or_on (g.R.PageDisk.state c.args.disk.now).told (g.R.PageDisk.state c.loop-slot.disk).told c.args.overlay.now c.loop-slot.overlay (λ image. CountsTooMany image c.loop-slot.slot) HasTooMany c.in_err-header_of.field-0.0 c.loop-slot.invariant.reads.told c.loop-slot.invariant.shows
    (λ image page many. (c.loop-slot.slot, many)) c.in_err-header_of.ensures.cause)

pub returns-clause-counts : goal.returns-clause-counts
returns-clause-counts g c =
    let e : c.loop-slot.slot ≡ undo_slot_count = omega arith in
    fits_end (g.R.PageDisk.state c.args.disk.now).told c.loop-slot.slot c.args.overlay.now e c.loop-slot.invariant.fits
