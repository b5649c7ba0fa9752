use Rattle.std.proofs.Common.{◌≡◌, ◌-◌, false, List, drop, subst, sym, ap, ◌∙◌, arith}
use Rattle.std.proofs.lemmas.List.{get_or-drop, length-drop, get_or_read}
use Rattle.clone_pool.specs.declared.tournament.Rank.{Rank}
use Rattle.clone_pool.specs.Tournament.{HasNoRank, IsFirst, rank_at, is_before, no_rank}
use Rattle.clone_pool.proofs.RankLemmas.{number_le}
use Rattle.clone_pool.proofs.TournamentLemmas.{top_of_ranks}
use Rattle.clone_pool.proofs.tournament.Tournament.first.Goals as goal

pub returns-then-top-clause-none : goal.returns-then-top-clause-none
returns-then-top-clause-none c =
    let i = c.self.inside in
    let nodes = i.nodes.items in
    let top = get_or_read nodes 1 c.index-top.result.now (omega (arith, c.self.invariant.long)) c.index-top.ensures no_rank in
    subst HasNoRank c.self.view_is (λ frame_number low. omega (arith, number_le (rank_at nodes 1) (rank_at (drop i.count nodes) frame_number) (top_of_ranks i.count nodes c.self.invariant frame_number low), ap (λ (r : Rank). r.number) top))

pub returns-clause-some : goal.returns-clause-some
returns-clause-some c =
    let i = c.self.inside in
    let nodes = i.nodes.items in
    let ranks = drop i.count nodes in
    let frame_number = c.leaf_below.result - i.count in
    let long = length-drop i.count nodes in
    let Matched = λ (xs : List Rank). rank_at xs c.leaf_below.result ≡ rank_at xs 1 in
    let top = get_or_read nodes 1 c.index-top.result.now (omega (arith, c.self.invariant.long)) c.index-top.ensures no_rank in
    let leaf : rank_at ranks frame_number ≡ rank_at nodes 1 =
    get_or-drop i.count nodes frame_number no_rank ∙ ap (λ n. rank_at nodes n) (omega (arith, c.leaf_below.ensures.low)) ∙ subst Matched c.deref.ensures.value c.leaf_below.ensures.key in
    subst (λ rs. IsFirst rs frame_number) c.self.view_is (record {
      within = omega (arith, long, c.self.invariant.long, c.leaf_below.ensures.low, c.leaf_below.ensures.high);
      part = omega (arith, ap (λ (r : Rank). r.number) top, ap (λ (r : Rank). r.number) leaf);
      first = λ other low. subst (λ (r : Rank). is_before (rank_at ranks other) r ≡ false) (sym leaf) (top_of_ranks i.count nodes c.self.invariant other low);
    })
