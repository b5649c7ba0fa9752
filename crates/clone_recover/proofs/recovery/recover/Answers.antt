use Rattle.std.proofs.Common.{◌∙◌, ap, refl, Some, Err}
use Rattle.std.proofs.lemmas.Result.{err_from_is_err_and}
use Rattle.clone_recover.proofs.Faults.{disk_cause}
use Rattle.clone_recover.proofs.Marks.{answers_again, answers_anew, marked_again, marked_anew, by_ending, by_none, by_progress, by_staged, incomplete_cause, damage_cause}
use Rattle.clone_recover.proofs.recovery.recover.Goals as goal

pub returns-in-Some-Recovered-clause-ok : goal.returns-in-Some-Recovered-clause-ok
returns-in-Some-Recovered-clause-ok g c =
    answers_again (g.R.PageDisk.state c.args.disk.now).told (g.R.PageDisk.state c.mark_of.new.disk).told c.in_ok-end.field-0 c.in-Some-Recovered.end c.numbers_of.result c.in_ok-end.ensures.reads.told
    (c.in-Some-Recovered.is ∙ ap (λ mark. Some mark) c.in-Some-Recovered.field-0-is) c.in_ok-end.ensures.mark c.numbers_of.ensures.numbers

pub returns-in_ok-recover_from-in-Some-Complete-clause-ok : goal.returns-in_ok-recover_from-in-Some-Complete-clause-ok
returns-in_ok-recover_from-in-Some-Complete-clause-ok g c =
    answers_anew (g.R.PageDisk.state c.args.disk.now).told (g.R.PageDisk.state c.mark_of.new.disk).told (g.R.PageDisk.state c.recover_from.new.disk).told c.in_ok-end.field-0 c.in-Some-Complete.end c.numbers_of-in-Some-Complete.result c.in_ok-end.ensures.reads.told
    (c.in-Some-Complete.is ∙ ap (λ mark. Some mark) c.in-Some-Complete.field-0-is) c.in_ok-end.ensures.mark c.numbers_of-in-Some-Complete.ensures.numbers c.in_ok-recover_from-in-Some-Complete.ensures.ok

pub returns-in-Some-InProgress-clause-cause : goal.returns-in-Some-InProgress-clause-cause
returns-in-Some-InProgress-clause-cause g c =
    incomplete_cause (g.R.PageDisk.state c.args.disk.now).told c.in_ok-end.field-0 _ refl (by_progress _ _ (c.in-Some-InProgress.is ∙ ap (λ mark. Some mark) c.in-Some-InProgress.field-0-is)) c.in_ok-end.ensures.mark

pub returns-in-Some-Ending-clause-cause : goal.returns-in-Some-Ending-clause-cause
returns-in-Some-Ending-clause-cause g c =
    incomplete_cause (g.R.PageDisk.state c.args.disk.now).told c.in_ok-end.field-0 _ refl (by_ending _ _ (c.in-Some-Ending.is ∙ ap (λ mark. Some mark) c.in-Some-Ending.field-0-is)) c.in_ok-end.ensures.mark

pub returns-in-Some-Staged-clause-cause : goal.returns-in-Some-Staged-clause-cause
returns-in-Some-Staged-clause-cause g c =
    incomplete_cause (g.R.PageDisk.state c.args.disk.now).told c.in_ok-end.field-0 _ refl (by_staged _ _ (c.in-Some-Staged.is ∙ ap (λ mark. Some mark) c.in-Some-Staged.field-0-is)) c.in_ok-end.ensures.mark

pub returns-in-None-clause-cause : goal.returns-in-None-clause-cause
returns-in-None-clause-cause g c = incomplete_cause (g.R.PageDisk.state c.args.disk.now).told c.in_ok-end.field-0 _ refl (by_none _ c.in-None.is) c.in_ok-end.ensures.mark

pub returns-in_err-end-clause-cause : goal.returns-in_err-end-clause-cause
returns-in_err-end-clause-cause g c =
    let p = err_from_is_err_and c.from_residual.result c.from_residual.ensures.1 in
    rw (p.1, p.2) (disk_cause (g.R.PageDisk.state c.args.disk.now).told c.in_err-end.field-0.0 c.in_err-end.ensures.cause)

pub returns-in_err-recover_from-in-Some-Complete-clause-cause : goal.returns-in_err-recover_from-in-Some-Complete-clause-cause
returns-in_err-recover_from-in-Some-Complete-clause-cause g c =
    let p = err_from_is_err_and c.from_residual-in_err-recover_from-in-Some-Complete.result c.from_residual-in_err-recover_from-in-Some-Complete.ensures.1 in
    rw (p.1, p.2)
    (damage_cause (g.R.PageDisk.state c.args.disk.now).told (g.R.PageDisk.state c.mark_of.new.disk).told c.in_ok-end.field-0 c.in-Some-Complete.end c.in_err-recover_from-in-Some-Complete.field-0.0 c.in_ok-end.ensures.reads.told
    (c.in-Some-Complete.is ∙ ap (λ mark. Some mark) c.in-Some-Complete.field-0-is) c.in_ok-end.ensures.mark c.in_err-recover_from-in-Some-Complete.ensures.cause (λ same. c.in_err-recover_from-in-Some-Complete.ensures.known (ap Err same)))

pub returns-in-Some-Recovered-clause-marked : goal.returns-in-Some-Recovered-clause-marked
returns-in-Some-Recovered-clause-marked g c =
    marked_again (g.R.PageDisk.state c.args.disk.now).told (g.R.PageDisk.state c.mark_of.new.disk).told c.in_ok-end.field-0 c.in-Some-Recovered.end c.numbers_of.ensures.ranges c.in_ok-end.ensures.reads.told
    (c.in-Some-Recovered.is ∙ ap (λ mark. Some mark) c.in-Some-Recovered.field-0-is) c.in_ok-end.ensures.mark

pub returns-in_ok-recover_from-in-Some-Complete-clause-marked : goal.returns-in_ok-recover_from-in-Some-Complete-clause-marked
returns-in_ok-recover_from-in-Some-Complete-clause-marked g c = marked_anew (g.R.PageDisk.state c.recover_from.new.disk).told c.in-Some-Complete.end c.numbers_of-in-Some-Complete.ensures.ranges c.in_ok-recover_from-in-Some-Complete.ensures.marked
