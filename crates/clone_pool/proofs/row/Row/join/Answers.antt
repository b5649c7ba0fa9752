use Rattle.std.proofs.Common.{◌≡◌, ◌<◌, ◌≤◌, length, set, subst, sym, arith}
use Rattle.std.proofs.lemmas.List.{length-set}
use Rattle.std.proofs.lemmas.List.Edits.{length-insert}
use Rattle.std.specs.List.{insert}
use Rattle.clone_pool.specs.declared.tournament.TheConstants.{NO_NUMBER}
use Rattle.clone_pool.specs.Tournament.{rank_at}
use Rattle.clone_pool.specs.Row.{IsRow, IsBetween}
use Rattle.clone_pool.proofs.RowLemmas.{few, joined, on_ok}
use Rattle.clone_pool.proofs.row.Row.join.Goals as goal

pub invariant_of-self-2 : goal.invariant_of-self-2
invariant_of-self-2 c =
    let i = c.self.inside in
    let ranks = i.ranks.items in
    let row = i.row.items in
    let place = c.place_for-place.result in
    let at = c.args.at in
    let rank = c.args.rank in
    let low = subst (λ rs. at < length rs) (sym c.self.view_is) c.requires.at in
    let out = subst (λ rs. NO_NUMBER ≤ (rank_at rs at).number) (sym c.self.view_is) c.requires.out in
    let part : rank.number < NO_NUMBER = grind (arith, c.takes_part.ensures, c.if-not-takes_part.false) in
    let here = subst (λ rs. IsBetween rs row rank place) c.deref.ensures.value c.place_for-place.ensures in
    let after = joined ranks row c.self.invariant.0 place at rank low out part here in
    let less = few (set ranks at rank) (insert row place at) after in
    let long = length-set ranks at rank in
    let more = length-insert row place at here.within in
    let items : c.insert.new.self.items ≡ insert row place at = on_ok c.insert.result c.insert.ensures.full (λ full. omega (arith, less, long, more, c.self.invariant.1.room, i.row.ok, full)) c.insert.ensures.items in
    (subst (IsRow (set ranks at rank)) (sym items) after, record { few = omega (arith, long, c.self.invariant.1.few); room = omega (arith, long, c.self.invariant.1.room, c.insert.ensures.capacity) })
