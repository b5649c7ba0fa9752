use Rattle.clone_trx.proofs.Common.{◌≡◌, ◌∙◌, ◌<◌, ◌≤◌, ap, sym, not, true, false, arith, is_some, Option, Commit, TRANSACTION_LIMIT}
use Rattle.std.specs.FinMap as finite
use Rattle.clone_trx.proofs.LastChangeLemmas.{get_opened}
use Rattle.clone_trx.proofs.ScanLemmas.{least_unused-found, find_skips, find_takes, find_ends}
use Rattle.clone_trx.proofs.active.Active.least_free.Goals as goal

pub loop-trx-preserved : goal.loop-trx-preserved
loop-trx-preserved c =
    let lt : c.loop-trx.trx-counter < TRANSACTION_LIMIT = omega arith in
    let at = get_opened c.self.inside.commits c.args.self.now c.loop-trx.trx-counter c.self.view_is in
    let there : not (finite.contains_key c.args.self.now c.loop-trx.trx-counter) ≡ false = ap (λ (o : Option Commit). not (is_some o)) at ∙ ap not (sym c.contains_key.ensures ∙ c.if-not-contains_key.false) in
    c.loop-trx.invariant ∙ find_skips (λ trx. not (finite.contains_key c.args.self.now trx)) c.loop-trx.trx-counter TRANSACTION_LIMIT lt there

pub returns-then-not-contains_key : goal.returns-then-not-contains_key
returns-then-not-contains_key c =
    let lt : c.loop-trx.trx-counter < TRANSACTION_LIMIT = omega arith in
    let at = get_opened c.self.inside.commits c.args.self.now c.loop-trx.trx-counter c.self.view_is in
    let free : not (finite.contains_key c.args.self.now c.loop-trx.trx-counter) ≡ true = ap (λ (o : Option Commit). not (is_some o)) at ∙ ap not (sym c.contains_key.ensures ∙ c.if-not-contains_key.true) in
    sym (least_unused-found c.args.self.now ∙ c.loop-trx.invariant ∙ find_takes (λ trx. not (finite.contains_key c.args.self.now trx)) c.loop-trx.trx-counter TRANSACTION_LIMIT lt free)

pub returns : goal.returns
returns c =
    let le : TRANSACTION_LIMIT ≤ c.loop-trx.trx-counter = omega arith in
    sym (least_unused-found c.args.self.now ∙ c.loop-trx.invariant ∙ find_ends (λ trx. not (finite.contains_key c.args.self.now trx)) c.loop-trx.trx-counter TRANSACTION_LIMIT le)
