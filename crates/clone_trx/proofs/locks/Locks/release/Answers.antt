use Rattle.clone_trx.proofs.Common.{◌∙◌, ◌<◌, ap, subst, arith, length, List, Locks, Releases, holders_of, without}
use Rattle.clone_trx.proofs.LockListLemmas.{RowName, released_listed, releases, list_at_item}
use Rattle.clone_trx.proofs.locks.Locks.release.Goals as goal

pub invariant_of-self : goal.invariant_of-self
invariant_of-self c =
    let h = holders_of c.self.inside.holders.entries in
    let lt : c.args.trx < length c.self.inside.rows.items = omega (arith, c.requires, c.self.invariant.count) in
    let own = c.deref.ensures.value ∙ list_at_item c.self.inside.rows.items c.args.trx c.index.result.now lt c.index.ensures in
    released_listed h (holders_of c.remove_all.new.holders.entries) c.self.inside.rows.items c.args.trx c.clear.new.self lt (c.remove_all.ensures ∙ ap (λ (rows : List RowName). without rows h) own) c.clear.ensures.items c.self.invariant

pub returns : goal.returns
returns c =
    let h = holders_of c.self.inside.holders.entries in
    let lt : c.args.trx < length c.self.inside.rows.items = omega (arith, c.requires, c.self.invariant.count) in
    let own = c.deref.ensures.value ∙ list_at_item c.self.inside.rows.items c.args.trx c.index.result.now lt c.index.ensures in
    subst (λ (m : Locks). Releases c.args.trx m (holders_of c.remove_all.new.holders.entries)) c.self.view_is
    (releases h (holders_of c.remove_all.new.holders.entries) c.self.inside.rows.items c.args.trx (c.remove_all.ensures ∙ ap (λ (rows : List RowName). without rows h) own) c.self.invariant)
