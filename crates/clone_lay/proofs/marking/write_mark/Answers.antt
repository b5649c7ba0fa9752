use Rattle.std.proofs.Common.{ℕ, List, subst}
use Rattle.clone_outside.specs.Scopes.{OnlyMark}
use Rattle.clone_outside.specs.Stops.{Keeps}
use Rattle.clone_outside.proofs.ScopeLemmas.{only_mark, only_mark_order}
use Rattle.clone_outside.proofs.StopLemmas.{keeps_change, keeps_settled, keeps_then, stays_synced}
use Rattle.clone_lay.proofs.marking.write_mark.Goals as goal

pub returns-in_err-write_mark-clause-stops : goal.returns-in_err-write_mark-clause-stops
returns-in_err-write_mark-clause-stops g c =
    subst (λ (bytes : List ℕ). Keeps (OnlyMark bytes) (g.R.PageDisk.state c.args.disk.now).stops (g.R.PageDisk.state c.write_mark.new.self).stops) c.to_bytes.ensures
    (keeps_change _ (only_mark_order c.to_bytes.result) _ _ _ c.write_mark.ensures.takes.stops (only_mark c.to_bytes.result))

pub returns-clause-stays : goal.returns-clause-stays
returns-clause-stays g c = stays_synced c.sync.result (g.R.PageDisk.state c.write_mark.new.self) (g.R.PageDisk.state c.sync.new.self) c.sync.ensures.syncs

pub returns-clause-stops : goal.returns-clause-stops
returns-clause-stops g c =
    let order = only_mark_order c.to_bytes.result in
    subst (λ (bytes : List ℕ). Keeps (OnlyMark bytes) (g.R.PageDisk.state c.args.disk.now).stops (g.R.PageDisk.state c.sync.new.self).stops) c.to_bytes.ensures
    (keeps_then _ order _ _ _ (keeps_change _ order _ _ _ c.write_mark.ensures.takes.stops (only_mark c.to_bytes.result))
    (keeps_settled _ order c.sync.result (g.R.PageDisk.state c.write_mark.new.self) (g.R.PageDisk.state c.sync.new.self) c.sync.ensures.syncs.stops))
