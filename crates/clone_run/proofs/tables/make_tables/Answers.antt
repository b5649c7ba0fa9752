use Rattle.std.proofs.lemmas.Result.{err_from_is_err_and}
use Rattle.std.proofs.Common.{subst, sym}
use Rattle.clone_run.specs.Tables.{SetsUp}
use Rattle.clone_run.proofs.TableLemmas.{set_more, stops_more}
use Rattle.clone_run.proofs.tables.make_tables.Goals.{else-loop-number-test, then-loop-number-test+in-Some+in_ok-make_table+else-number-tables}
use Rattle.clone_run.proofs.tables.make_tables.Goals as goal

pub returns-in_err-make_table-clause-sets_up : goal.returns-in_err-make_table-clause-sets_up
returns-in_err-make_table-clause-sets_up g c = set_more _ _ _ c.loop-number.invariant c.make_table.ensures.sets_up

pub loop-number-preserved : goal.loop-number-preserved
loop-number-preserved g c = set_more _ _ _ c.loop-number.invariant c.make_table.ensures.sets_up

pub returns-clause-sets_up : goal.returns-clause-sets_up
returns-clause-sets_up g c =
    elim c.loop-number-test.branch [
      | else-loop-number-test w ↦ subst (λ d. SetsUp c.args.donor.now d) (sym w.donor-is) c.loop-number.invariant
      | then-loop-number-test+in-Some+in_ok-make_table+else-number-tables w ↦
          subst (λ d. SetsUp c.args.donor.now d) (sym w.donor-is) (set_more _ _ _ c.loop-number.invariant w.make_table.ensures.sets_up)
    ]

pub returns-in_err-make_table-clause-why : goal.returns-in_err-make_table-clause-why
returns-in_err-make_table-clause-why g c =
    let e = err_from_is_err_and c.from_residual.result c.from_residual.ensures.1 in
    rw (e.1, e.2) (stops_more _ _ _ _ c.loop-number.invariant c.in_err-make_table.ensures.why)
