use Rattle.std.proofs.Common.{◌≡◌, ◌-◌, ℕ, suc, arith, subst}
use Rattle.std.proofs.lemmas.Result.{err_from_is_err_and}
use Rattle.clone_undo.specs.Entries.{IsEntry}
use Rattle.clone_image.specs.Recovered.{undone}
use Rattle.clone_outside.proofs.DiskCallLemmas.{reads_none, reads_then}
use Rattle.clone_recover.specs.Damage.{ForImage, ShowsEdited, PageOrOn, IsUnsoundAt}
use Rattle.clone_recover.specs.Undoing.{record_of}
use Rattle.clone_recover.proofs.DiskUndoLemmas.{half_begins, half_goes_on, half_edits, half_ranges, half_sound, half_fails}
use Rattle.clone_recover.proofs.rollback.undo_changes.Goals as goal

pub loop-number-init : goal.loop-number-init
loop-number-init g c = record { half = half_begins (g.R.PageDisk.state c.args.disk.now).told c.args.slot c.args.count c.args.overlay.now; reads = reads_none }

pub loop-number-preserved : goal.loop-number-preserved
loop-number-preserved g c =
    let n : ℕ = c.loop-number.number - 1 in
    let e : c.loop-number.number ≡ suc n = omega arith in
    record {
      half = half_goes_on (g.R.PageDisk.state c.args.disk.now).told c.args.slot c.args.count c.loop-number.number n c.args.overlay.now c.loop-number.overlay c.undo_change.new.overlay e c.loop-number.invariant.half
          (subst (λ t. ShowsEdited t c.loop-number.overlay c.undo_change.new.overlay (λ image. undone image (record_of image c.args.slot n))) c.loop-number.invariant.reads.told c.in_ok-undo_change.ensures.undone)
          (subst (λ t. ForImage t c.loop-number.overlay (λ m image. IsEntry (record_of image c.args.slot n))) c.loop-number.invariant.reads.told c.in_ok-undo_change.ensures.range)
          (subst (λ t. ForImage t c.loop-number.overlay (λ m image. (page : ℕ) → IsUnsoundAt image c.args.slot n page → ⊥)) c.loop-number.invariant.reads.told c.in_ok-undo_change.ensures.sound);
      reads = reads_then c.loop-number.invariant.reads c.in_ok-undo_change.ensures.reads;
    }

pub returns-clause-undone : goal.returns-clause-undone
returns-clause-undone g c =
    let e : c.loop-number.number ≡ 0 = omega arith in
    half_edits (g.R.PageDisk.state c.args.disk.now).told c.args.slot c.args.count c.loop-number.number c.args.overlay.now c.loop-number.overlay e c.loop-number.invariant.half

pub returns-clause-ranges : goal.returns-clause-ranges
returns-clause-ranges g c =
    let e : c.loop-number.number ≡ 0 = omega arith in
    half_ranges (g.R.PageDisk.state c.args.disk.now).told c.args.slot c.args.count c.loop-number.number c.args.overlay.now c.loop-number.overlay e c.loop-number.invariant.half

pub returns-in_err-undo_change-clause-cause : goal.returns-in_err-undo_change-clause-cause
returns-in_err-undo_change-clause-cause g c =
    let p = err_from_is_err_and c.from_residual.result c.from_residual.ensures.1 in
    let n : ℕ = c.loop-number.number - 1 in
    let e = c.in_err-undo_change.field-0.0 in
    rw (p.1, p.2)
    (half_fails (g.R.PageDisk.state c.args.disk.now).told c.args.slot c.args.count c.loop-number.number n c.args.overlay.now c.loop-number.overlay e (omega arith) c.loop-number.invariant.half
    (subst (λ t. PageOrOn t c.loop-number.overlay (λ image. IsUnsoundAt image c.args.slot n) e) c.loop-number.invariant.reads.told c.in_err-undo_change.ensures.cause))

pub returns-clause-sound : goal.returns-clause-sound
returns-clause-sound g c =
    let e : c.loop-number.number ≡ 0 = omega arith in
    half_sound (g.R.PageDisk.state c.args.disk.now).told c.args.slot c.args.count c.loop-number.number c.args.overlay.now c.loop-number.overlay e c.loop-number.invariant.half
