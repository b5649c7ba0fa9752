use Rattle.std.proofs.lemmas.Result.{err_from_is_err_and, on_ok_weaker, IfErr-weaker}
use Rattle.clone_recover.specs.Chains.{IsFirstBrokenChain}
use Rattle.clone_recover.proofs.DiskStepLemmas.{on_ok_known}
use Rattle.clone_recover.proofs.TableLemmas.{header_fails, chains_unbroken, chains_fail, chains_nowhere}
use Rattle.clone_recover.proofs.chains.check_chains.Goals as goal

pub returns-in-Some-clause-shows : goal.returns-in-Some-clause-shows
returns-in-Some-clause-shows g c = on_ok_known c.check_tables.result c.in_ok-fetch.ensures.shows

pub returns-in-Some-clause-sound : goal.returns-in-Some-clause-sound
returns-in-Some-clause-sound g c =
    on_ok_weaker c.check_tables.result
    (chains_unbroken (g.R.PageDisk.state c.args.disk.now).told (g.R.PageDisk.state c.fetch.new.disk).told c.args.overlay.now c.fetch.new.overlay c.in-Some.system.now c.in_ok-fetch.ensures.reads.told c.in_ok-fetch.ensures.shows (λ base image shows. c.in-Some.ensures base image shows))
    c.check_tables.ensures.sound

pub returns-in-Some-clause-cause : goal.returns-in-Some-clause-cause
returns-in-Some-clause-cause g c =
    IfErr-weaker c.check_tables.result _ _
    (λ e. chains_fail (g.R.PageDisk.state c.args.disk.now).told (g.R.PageDisk.state c.fetch.new.disk).told c.args.overlay.now c.fetch.new.overlay c.in-Some.system.now e c.in_ok-fetch.ensures.reads.told c.in_ok-fetch.ensures.shows (λ base image shows. c.in-Some.ensures base image shows))
    c.check_tables.ensures.cause

pub returns-in-None-clause-sound : goal.returns-in-None-clause-sound
returns-in-None-clause-sound g c = chains_nowhere (g.R.PageDisk.state c.args.disk.now).told c.args.overlay.now c.fetch.new.overlay c.in_ok-fetch.ensures.shows (λ base image shows. c.in-None.ensures base image shows)

pub returns-in_err-fetch-clause-cause : goal.returns-in_err-fetch-clause-cause
returns-in_err-fetch-clause-cause g c =
    let p = err_from_is_err_and c.from_residual.result c.from_residual.ensures.1 in
    rw (p.1, p.2) (header_fails (g.R.PageDisk.state c.args.disk.now).told c.args.overlay.now IsFirstBrokenChain c.in_err-fetch.field-0.0 c.in_err-fetch.ensures.cause)
