use Rattle.std.proofs.lemmas.Result.{err_from_is_err_and}
use Rattle.clone_model.proofs.BinlogLines.{HasCommits-more, IsRefusedBy-commits}
use Rattle.clone_model.proofs.Beginnings.{ReadsBinlog-from}
use Rattle.clone_model.proofs.reading.read_binlog.Goals as goal

pub returns-in_err-commit : goal.returns-in_err-commit
returns-in_err-commit c =
    let p = err_from_is_err_and c.from_residual.result c.from_residual.ensures.1 in
    rw (p.1, p.2) (ReadsBinlog-from _ c.in_err-commit.field-0.0 (IsRefusedBy-commits _ _ _ _ _ c.loop-rest.invariant c.in_err-commit.ensures))

pub loop-rest-preserved : goal.loop-rest-preserved
loop-rest-preserved c =
    let read = c.in_ok-commit.ensures in
    rw (c.in_ok-push.ensures.ok, c.len.ensures) (HasCommits-more _ _ _ _ c.in_ok-commit.commit _ c.loop-rest.invariant read.0 read.1)
