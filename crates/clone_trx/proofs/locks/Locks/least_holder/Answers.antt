use Rattle.clone_trx.proofs.Common.{◌∙◌, ◌<◌, ◌≤◌, ◌==◌, ap, sym, holds_in, list_any, TRANSACTION_LIMIT, holders_of}
use Rattle.clone_trx.proofs.HolderListLemmas.{least_holder-found, list_tells}
use Rattle.clone_trx.proofs.LockListLemmas.{RowName}
use Rattle.clone_trx.proofs.ScanLemmas.{find_skips, find_takes, find_ends}
use Rattle.clone_trx.proofs.locks.Locks.least_holder.Goals as goal

pub loop-trx-preserved : goal.loop-trx-preserved
loop-trx-preserved c =
    let trx = c.loop-trx.trx in
    let lt : trx < TRANSACTION_LIMIT = c.loop-trx-test.true in
    let tells = list_tells (holders_of c.self.inside.holders.entries) c.args.self.now c.self.inside.rows.items c.args.table trx c.index.result.now c.has_row_of.result c.self.invariant c.self.view_is lt c.index.ensures
    (c.has_row_of.ensures ∙ ap (list_any (λ (row : RowName). row.0 == c.args.table)) c.deref.ensures.value) in
    c.loop-trx.invariant ∙ find_skips (holds_in c.args.self.now c.args.table) trx TRANSACTION_LIMIT lt (sym tells ∙ c.if-has_row_of.false)

pub returns-then-has_row_of : goal.returns-then-has_row_of
returns-then-has_row_of c =
    let trx = c.loop-trx.trx in
    let lt : trx < TRANSACTION_LIMIT = c.loop-trx-test.true in
    let tells = list_tells (holders_of c.self.inside.holders.entries) c.args.self.now c.self.inside.rows.items c.args.table trx c.index.result.now c.has_row_of.result c.self.invariant c.self.view_is lt c.index.ensures
    (c.has_row_of.ensures ∙ ap (list_any (λ (row : RowName). row.0 == c.args.table)) c.deref.ensures.value) in
    sym (least_holder-found c.args.self.now c.args.table ∙ c.loop-trx.invariant ∙ find_takes (holds_in c.args.self.now c.args.table) trx TRANSACTION_LIMIT lt (sym tells ∙ c.if-has_row_of.true))

pub returns : goal.returns
returns c =
    let le : TRANSACTION_LIMIT ≤ c.loop-trx.trx = c.loop-trx-test.false in
    sym (least_holder-found c.args.self.now c.args.table ∙ c.loop-trx.invariant ∙ find_ends (holds_in c.args.self.now c.args.table) c.loop-trx.trx TRANSACTION_LIMIT le)
