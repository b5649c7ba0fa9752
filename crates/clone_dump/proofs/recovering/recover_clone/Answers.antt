use Rattle.std.proofs.lemmas.Result.{err_from_is_err_and}
use Rattle.clone_dump.proofs.RowsLemmas.{nothing}
use Rattle.clone_dump.proofs.recovering.recover_clone.Goals as goal

pub returns-in_err-recovered_line-clause-cause : goal.returns-in_err-recovered_line-clause-cause
returns-in_err-recovered_line-clause-cause g c =
    let p = err_from_is_err_and c.from_residual-in_err-recovered_line.result c.from_residual-in_err-recovered_line.ensures.1 in
    rw (p.1, p.2) (nothing (g.R.PageDisk.state c.args.disk.now).told)

pub returns-clause-says : goal.returns-clause-says
returns-clause-says g c = record { numbers = c.in_ok-numbers.numbers; recovers = c.in_ok-numbers.ensures.ok; is = c.in_ok-recovered_line.ensures }
