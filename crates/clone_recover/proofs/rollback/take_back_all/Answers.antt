use Rattle.std.proofs.Common.{ℕ, ◌≡◌, ◌+◌, suc, arith, subst}
use Rattle.std.proofs.lemmas.Result.{err_from_is_err_and}
use Rattle.clone_undo.specs.Places.{undo_slot_count}
use Rattle.clone_image.specs.Recovered.{undo_slot_of, taken_back}
use Rattle.clone_outside.proofs.DiskCallLemmas.{reads_none, reads_then}
use Rattle.clone_recover.specs.Undoing.{IsSlotInRange}
use Rattle.clone_recover.specs.Damage.{ForImage, ShowsEdited, PageOrOn, IsBroken}
use Rattle.clone_recover.proofs.DiskUndoLemmas.{take_begins, take_goes_on, take_ends, take_sound, take_fails}
use Rattle.clone_recover.proofs.rollback.take_back_all.Goals as goal

pub loop-slot-init : goal.loop-slot-init
loop-slot-init g c = record { taking = take_begins (g.R.PageDisk.state c.args.disk.now).told c.args.overlay.now; reads = reads_none }

pub loop-slot-preserved : goal.loop-slot-preserved
loop-slot-preserved g c =
    let s = c.loop-slot.slot in
    let e : s + 1 ≡ suc s = omega arith in
    record {
      taking = take_goes_on (g.R.PageDisk.state c.args.disk.now).told s (s + 1) c.args.overlay.now c.loop-slot.overlay c.take_back.new.overlay e c.loop-slot.invariant.taking
          (subst (λ t. ShowsEdited t c.loop-slot.overlay c.take_back.new.overlay (λ image. taken_back image s (undo_slot_of image s))) c.loop-slot.invariant.reads.told c.in_ok-take_back.ensures.taken_back)
          (subst (λ t. ForImage t c.loop-slot.overlay (λ m image. IsSlotInRange (undo_slot_of image s))) c.loop-slot.invariant.reads.told c.in_ok-take_back.ensures.ranges)
          (subst (λ t. ForImage t c.loop-slot.overlay (λ m image. (page : ℕ) → IsBroken image s page → ⊥)) c.loop-slot.invariant.reads.told c.in_ok-take_back.ensures.sound);
      reads = reads_then c.loop-slot.invariant.reads c.in_ok-take_back.ensures.reads;
    }

pub returns-clause-recovered : goal.returns-clause-recovered
returns-clause-recovered g c =
    let e : c.loop-slot.slot ≡ undo_slot_count = omega arith in
    take_ends (g.R.PageDisk.state c.args.disk.now).told c.loop-slot.slot c.args.overlay.now c.loop-slot.overlay e c.loop-slot.invariant.taking

pub returns-in_err-take_back-clause-cause : goal.returns-in_err-take_back-clause-cause
returns-in_err-take_back-clause-cause g c =
    let p = err_from_is_err_and c.from_residual.result c.from_residual.ensures.1 in
    let e = c.in_err-take_back.field-0.0 in
    rw (p.1, p.2)
    (take_fails (g.R.PageDisk.state c.args.disk.now).told c.loop-slot.slot c.args.overlay.now c.loop-slot.overlay e c.loop-slot.invariant.taking
    (subst (λ t. PageOrOn t c.loop-slot.overlay (λ image. IsBroken image c.loop-slot.slot) e) c.loop-slot.invariant.reads.told c.in_err-take_back.ensures.cause))

pub returns-clause-sound : goal.returns-clause-sound
returns-clause-sound g c =
    let e : c.loop-slot.slot ≡ undo_slot_count = omega arith in
    take_sound (g.R.PageDisk.state c.args.disk.now).told c.loop-slot.slot c.args.overlay.now c.loop-slot.overlay e c.loop-slot.invariant.taking
