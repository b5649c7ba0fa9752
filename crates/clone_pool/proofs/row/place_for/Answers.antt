use Rattle.std.proofs.Common.{◌<◌, ◌-◌, ◌∙◌, length, subst, sym, arith}
use Rattle.std.proofs.lemmas.List.{get_or_read}
use Rattle.clone_pool.specs.Row.{frame_in}
use Rattle.clone_pool.proofs.RowLemmas.{part_within, between, one_more, tested}
use Rattle.clone_pool.proofs.row.place_for.Goals as goal

pub bounds-ranks-index : goal.bounds-ranks-index
bounds-ranks-index c =
    let row = c.args.row.now.items in
    let place = c.loop-place.place - 1 in
    let low : place < length row = omega (arith, c.loop-place.invariant.within, c.loop-place-test.true) in
    let read = get_or_read row place c.index.result.now low c.index.ensures 0 in
    subst (λ n. n < length c.args.ranks.now) (sym read) (part_within c.args.ranks.now (frame_in row place) (c.requires.part place low))

pub loop-place-preserved : goal.loop-place-preserved
loop-place-preserved c =
    let row = c.args.row.now.items in
    let place = c.loop-place.place - 1 in
    let low : place < length row = omega (arith, c.loop-place.invariant.within, c.loop-place-test.true) in
    let test = tested c.args.ranks.now row c.args.rank place c.index.result.now _ c.is_before.result low (c.requires.part place low) c.index.ensures c.is_before.ensures in
    record {
      within = omega (arith, c.loop-place.invariant.within);
      before = one_more c.args.ranks.now row c.args.rank c.loop-place.place c.loop-place.invariant.before (test ∙ c.if-is_before.true);
    }

pub returns-else-is_before : goal.returns-else-is_before
returns-else-is_before c =
    let row = c.args.row.now.items in
    let place = c.loop-place.place - 1 in
    let low : place < length row = omega (arith, c.loop-place.invariant.within, c.loop-place-test.true) in
    let test = tested c.args.ranks.now row c.args.rank place c.index.result.now _ c.is_before.result low (c.requires.part place low) c.index.ensures c.is_before.ensures in
    between c.args.ranks.now row c.args.rank c.loop-place.place c.requires c.loop-place.invariant.within c.loop-place.invariant.before (λ _. test ∙ c.if-is_before.false)
