use Rattle.clone_top.proofs.LoadLemmas.{reports_rows}
use Rattle.clone_top.proofs.concluding.recovered.Goals as goal

pub returns-clause-says : goal.returns-clause-says
returns-clause-says g c = reports_rows c.args.with_report c.args.cloned _ _ c.in_ok-rows.rows.items _ _ c.if-not-with_report.false c.in_ok-rows.ensures.rows c.in_ok-rows.ensures.ascending c.deref.ensures.value c.in_ok-report.ensures
