use Rattle.clone_trx.proofs.Common.{◌∙◌, get_or, row_cmp_total, row_cmp_exact, holders_of, removed}
use Rattle.clone_trx.proofs.LockListLemmas.{RowName, without_goes_on}
use Rattle.clone_trx.proofs.locks.remove_all.Goals as goal

pub loop-row-preserved : goal.loop-row-preserved
loop-row-preserved c =
    let row : RowName = get_or c.args.rows.now c.loop-row.row-index (0, 0) in
    without_goes_on c.args.rows.now c.loop-row.row-index (0, 0) (holders_of c.loop-row.holders.entries) (holders_of c.remove.new.self.entries) c.loop-row-test.true
    (removed row_cmp_total row_cmp_exact c.loop-row.holders c.remove.new.self row c.remove.ensures.updates)
    ∙ c.loop-row.invariant
