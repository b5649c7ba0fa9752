use Rattle.std.proofs.Common.{◌∙◌, ℕ, ap, sym, false, option_copied}
use Rattle.std.specs.Prelude.{nat_lt}
use Rattle.std.proofs.lemmas.Result.{err_from_is_err_and}
use Rattle.clone_recover.proofs.RecordPageLemmas.{meets_none, meets_page, meets_on}
use Rattle.clone_recover.proofs.OverlayReadLemmas.{always}
use Rattle.clone_recover.proofs.redo.meet.Goals as goal

pub returns-in_ok-settle-in-Some-clause-met : goal.returns-in_ok-settle-in-Some-clause-met
returns-in_ok-settle-in-Some-clause-met g c =
    meets_on (g.R.PageDisk.state c.args.disk.now).told c.args.lsn c.args.space c.args.number c.args.overlay.now c.fetch.new.overlay c.args.meetings.now.items c.settle.new.meetings.items c.in_ok-settle-in-Some.field-0 c.in_ok-fetch.ensures.shows
    (λ base image shows. meets_page c.args.lsn c.args.space c.args.number image c.args.meetings.now.items c.settle.new.meetings.items c.in-Some.page.now (nat_lt c.lsn.result c.args.lsn) c.in_ok-settle-in-Some.field-0
    (ap option_copied (sym c.in-Some.is) ∙ c.page.ensures base image shows) (ap (λ (x : ℕ). nat_lt x c.args.lsn) c.lsn.ensures) c.in_ok-settle-in-Some.ensures.counts c.in_ok-settle-in-Some.ensures.met)

pub returns-in-None-clause-met : goal.returns-in-None-clause-met
returns-in-None-clause-met g c =
    meets_on (g.R.PageDisk.state c.args.disk.now).told c.args.lsn c.args.space c.args.number c.args.overlay.now c.fetch.new.overlay c.args.meetings.now.items c.args.meetings.now.items false c.in_ok-fetch.ensures.shows
    (λ base image shows. meets_none c.args.lsn c.args.space c.args.number image c.args.meetings.now.items (ap option_copied (sym c.in-None.is) ∙ c.page.ensures base image shows))

pub returns-in_err-settle-in-Some-clause-cause : goal.returns-in_err-settle-in-Some-clause-cause
returns-in_err-settle-in-Some-clause-cause g c =
    let p = err_from_is_err_and c.from_residual-in_err-settle-in-Some.result c.from_residual-in_err-settle-in-Some.ensures.1 in
    rw (p.1, p.2) (always (g.R.PageDisk.state c.args.disk.now).told c.args.overlay.now)
