use Rattle.std.proofs.Common.{◌≡◌, set, subst, sym, arith}
use Rattle.std.proofs.lemmas.List.{length-set}
use Rattle.std.specs.List.{remove}
use Rattle.clone_pool.specs.Tournament.{no_rank}
use Rattle.clone_pool.specs.Row.{IsRow}
use Rattle.clone_pool.proofs.RowLemmas.{left, on_some}
use Rattle.clone_pool.proofs.row.Row.leave.Goals as goal

pub invariant_of-self-2 : goal.invariant_of-self-2
invariant_of-self-2 c =
    let i = c.self.inside in
    let ranks = i.ranks.items in
    let row = i.row.items in
    let place = c.place_of-place.result in
    let at = c.args.at in
    let items : c.remove.new.self.items ≡ remove row place = on_some c.remove.result (c.remove.ensures.variant.1 (omega (arith, c.place_of-place.ensures.within, i.row.ok))) c.remove.ensures.items in (
      subst (IsRow (set ranks at no_rank)) (sym items) (left ranks row c.self.invariant.0 place at c.place_of-place.ensures.within c.place_of-place.ensures.there),
      record { few = omega (arith, length-set ranks at no_rank, c.self.invariant.1.few); room = omega (arith, length-set ranks at no_rank, c.self.invariant.1.room, c.remove.ensures.capacity) },
    )
