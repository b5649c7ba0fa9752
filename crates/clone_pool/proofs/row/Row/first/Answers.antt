use Rattle.std.proofs.Common.{◌<◌, length, subst, sym, arith}
use Rattle.std.proofs.lemmas.List.{get_or_read}
use Rattle.clone_pool.specs.Tournament.{IsFirst}
use Rattle.clone_pool.proofs.RowLemmas.{first_of_row}
use Rattle.clone_pool.proofs.row.Row.first.Goals as goal

pub returns-clause-some : goal.returns-clause-some
returns-clause-some c =
    let i = c.self.inside in
    let some : 0 < length i.row.items = grind (arith, c.is_empty.ensures, c.if-is_empty.false, i.row.ok) in
    let read = get_or_read i.row.items 0 c.index.result.now some c.index.ensures 0 in
    subst (λ rs. IsFirst rs c.index.result.now) c.self.view_is (subst (IsFirst i.ranks.items) (sym read) (first_of_row i.ranks.items i.row.items c.self.invariant.0 some))
