use Rattle.std.proofs.lemmas.Result.{on_ok_weaker, on_err_weaker}
use Rattle.clone_outside.proofs.FaultLemmas.{on_err_known}
use Rattle.clone_lay.proofs.CopyLemmas.{completed_keeps, partly_complete, partly_numbered, then_complete}
use Rattle.clone_lay.proofs.marking.complete.Goals as goal

pub returns-in_err-write_numbers-clause-partial : goal.returns-in_err-write_numbers-clause-partial
returns-in_err-write_numbers-clause-partial g c = on_err_known c.from_residual.result (partly_numbered c.args.end.now _ _ c.in_err-write_numbers.ensures.partial)

pub returns-clause-ok : goal.returns-clause-ok
returns-clause-ok g c =
    on_ok_weaker c.write_mark.result
    (then_complete c.args.end.now (g.R.PageDisk.state c.args.disk.now).told (g.R.PageDisk.state c.write_numbers.new.disk).told (g.R.PageDisk.state c.write_mark.new.disk).told c.in_ok-write_numbers.ensures.ok)
    c.write_mark.ensures.ok

pub returns-clause-partial : goal.returns-clause-partial
returns-clause-partial g c =
    on_err_weaker c.write_mark.result
    (partly_complete c.args.end.now (g.R.PageDisk.state c.args.disk.now).told (g.R.PageDisk.state c.write_numbers.new.disk).told (g.R.PageDisk.state c.write_mark.new.disk).told c.in_ok-write_numbers.ensures.ok)
    c.write_mark.ensures.partial

pub returns-clause-stops : goal.returns-clause-stops
returns-clause-stops g c =
    completed_keeps (g.R.PageDisk.state c.args.disk.now).told (g.R.PageDisk.state c.write_numbers.new.disk).told _ _ _ c.args.end.now c.in_ok-write_numbers.ensures.stays c.in_ok-write_numbers.ensures.ok c.write_numbers.ensures.stops c.write_mark.ensures.stops
