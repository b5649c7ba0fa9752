use Rattle.std.proofs.Common.{◌∙◌, refl, ap}
use Rattle.std.specs.Prelude.{option_map}
use Rattle.std.proofs.lemmas.Result.{err_from_is_err_and}
use Rattle.clone_outside.specs.Disk.{DiskImage, with_mark}
use Rattle.clone_outside.specs.Mark.{mark_bytes}
use Rattle.clone_outside.specs.declared.mark.Mark.TheVariants as mark
use Rattle.clone_recover.specs.Refusals.{refusal_of}
use Rattle.clone_recover.specs.Written.{written_out}
use Rattle.clone_recover.proofs.Faults.{of_disk, disk_known, disk_undamaged, disk_damage}
use Rattle.clone_recover.proofs.RecoveryLemmas.{restores}
use Rattle.clone_recover.proofs.Marks.{marked_step}
use Rattle.clone_recover.proofs.recovery.recover_from.Goals as goal

pub returns-in_err-overlay-clause-cause : goal.returns-in_err-overlay-clause-cause
returns-in_err-overlay-clause-cause g c =
    let p = err_from_is_err_and c.from_residual.result c.from_residual.ensures.1 in
    rw (p.1, p.2) c.in_err-overlay.ensures.cause

pub returns-in_err-write_recovered-clause-cause : goal.returns-in_err-write_recovered-clause-cause
returns-in_err-write_recovered-clause-cause g c =
    let p = err_from_is_err_and c.from_residual-in_err-write_recovered.result c.from_residual-in_err-write_recovered.ensures.1 in
    rw (p.1, p.2) (disk_damage (g.R.PageDisk.state c.args.disk.now).told c.args.end.now (refusal_of c.in_err-write_recovered.field-0.0) (of_disk c.in_err-write_recovered.field-0.0))

pub returns-in_err-write_recovered-clause-known : goal.returns-in_err-write_recovered-clause-known
returns-in_err-write_recovered-clause-known g c = λ is.
    let p = err_from_is_err_and c.from_residual-in_err-write_recovered.result c.from_residual-in_err-write_recovered.ensures.1 in
    disk_known (refusal_of c.in_err-write_recovered.field-0.0) (of_disk c.in_err-write_recovered.field-0.0) (cc (p.1, p.2))

pub returns-in_err-write_recovered-clause-damaged : goal.returns-in_err-write_recovered-clause-damaged
returns-in_err-write_recovered-clause-damaged g c = λ space page why is.
    let p = err_from_is_err_and c.from_residual-in_err-write_recovered.result c.from_residual-in_err-write_recovered.ensures.1 in
    absurd (disk_undamaged (refusal_of c.in_err-write_recovered.field-0.0) space page why (of_disk c.in_err-write_recovered.field-0.0) (cc (p.1, p.2)))

pub returns-clause-ok : goal.returns-clause-ok
returns-clause-ok g c =
    let step : DiskImage → DiskImage = λ m. with_mark (written_out c.in_ok-overlay.overlay m) (mark_bytes (mark.Recovered c.args.end.now)) in
    restores (g.R.PageDisk.state c.args.disk.now).told (g.R.PageDisk.state c.write_recovered.new.disk).told c.args.end.now c.in_ok-overlay.overlay c.in_ok-overlay.ensures.ok
    (c.in_ok-write_recovered.ensures.ok ∙ ap (option_map step) c.in_ok-overlay.ensures.reads.told)

pub returns-clause-marked : goal.returns-clause-marked
returns-clause-marked g c =
    let step : DiskImage → DiskImage = λ m. with_mark (written_out c.in_ok-overlay.overlay m) (mark_bytes (mark.Recovered c.args.end.now)) in
    marked_step (g.R.PageDisk.state c.recovered_pages.new.disk).told (g.R.PageDisk.state c.write_recovered.new.disk).told step (mark_bytes (mark.Recovered c.args.end.now)) (λ m. refl) c.in_ok-write_recovered.ensures.ok
