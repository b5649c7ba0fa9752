use Rattle.std.proofs.lemmas.Result.{err_from_is_err_and}
use Rattle.clone_model.proofs.BinlogLines.{IsRefusedBy-first}
use Rattle.clone_model.proofs.reading.read_commit.Goals as goal

pub returns-in_err-changes : goal.returns-in_err-changes
returns-in_err-changes c =
    let p = err_from_is_err_and c.from_residual.result c.from_residual.ensures.1 in
    let first = c.in-Some.ensures.some in
    rw (p.1, p.2) (IsRefusedBy-first _ _ c.in-Some.writer c.in-Some.index c.in-Some.count _ _ first.0 first.1 first.2 first.3 c.in_err-changes.ensures)
