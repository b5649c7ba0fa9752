use Rattle.std.proofs.Common.{◌≡◌, ◌∙◌, ℕ, List, replicate, length, ap, subst, sym, arith}
use Rattle.std.proofs.lemmas.List.{length-replicate}
use Rattle.clone_pool.specs.declared.tournament.Rank.{Rank}
use Rattle.clone_pool.specs.Tournament.{no_rank}
use Rattle.clone_pool.specs.Row.{IsRow}
use Rattle.clone_pool.proofs.RowLemmas.{empty_row}
use Rattle.clone_pool.proofs.row.Row.new.Goals as goal

pub invariant_of-result : goal.invariant_of-result
invariant_of-result c =
    let whole : c.loop.counter ≡ c.args.count = omega arith in
    let ranks : c.loop.ranks.items ≡ replicate c.args.count no_rank = c.loop.invariant ∙ ap (λ n. replicate n no_rank) whole in
    let long : length c.loop.ranks.items ≡ c.args.count = ap length ranks ∙ length-replicate c.args.count no_rank in
    let Empty : List Rank × List ℕ → Type 0 = λ t. IsRow t.0 t.1 in
    (subst Empty (λ i. (sym ranks i, sym c.in_ok-row.ensures.items i)) (empty_row c.args.count), record { few = omega (arith, long); room = omega (arith, long, c.in_ok-row.ensures.exact) })
