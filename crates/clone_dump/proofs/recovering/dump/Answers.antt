use Rattle.std.proofs.Common.{List, ap, ◌∙◌}
use Rattle.std.proofs.lemmas.Result.{err_from_is_err_and}
use Rattle.clone_model.specs.History.{Row}
use Rattle.clone_model.specs.Texts.{ended}
use Rattle.clone_plain.specs.Answers.{rows_answer}
use Rattle.clone_dump.proofs.RowsLemmas.{nothing, says_rows}
use Rattle.clone_dump.proofs.recovering.dump.Goals as goal

pub returns-in_err-rows_lines-clause-cause : goal.returns-in_err-rows_lines-clause-cause
returns-in_err-rows_lines-clause-cause g c =
    let p = err_from_is_err_and c.from_residual-in_err-rows_lines.result c.from_residual-in_err-rows_lines.ensures.1 in
    rw (p.1, p.2) (nothing (g.R.PageDisk.state c.args.disk.now).told)

pub returns-clause-says : goal.returns-clause-says
returns-clause-says g c =
    let text = c.in_ok-rows_lines.ensures ∙ ap (λ (l : List Row). ended (rows_answer l)) c.deref.ensures.value in
    says_rows _ _ c.in_ok-rows.rows.items _ c.in_ok-rows.ensures.rows c.in_ok-rows.ensures.ascending text
