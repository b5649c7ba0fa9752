-- The top of a tournament has the first rank.
use Rattle.std.proofs.Common.{◌≡◌, ◌≢◌, ◌<◌, ◌≤◌, ◌+◌, ◌*◌, ◌/◌, ◌⊎◌, inl, inr, ℕ, zero, suc, false, List, length, drop, replicate, sym, subst, ◌∙◌, ap, arith}
use Rattle.std.proofs.lemmas.List.{get_or-drop, length-drop, get_or-replicate, length-replicate}
use Rattle.std.proofs.lemmas.Bool.{cases_lt, cases_eq}
use Rattle.clone_pool.specs.declared.tournament.Rank.{Rank}
use Rattle.clone_pool.specs.Tournament.{AreMatchedBut, IsTournament, rank_at, is_before, first_of, no_rank}
use Rattle.clone_pool.proofs.RankLemmas.{rank_trans, rank_irrefl, left_after, right_after, first_of_same}

pub top_first : (count : ℕ) (nodes : List Rank) → AreMatchedBut 0 count nodes → (fuel node : ℕ) → node ≤ fuel → 0 < node → node < 2 * count → is_before (rank_at nodes node) (rank_at nodes 1) ≡ false
top_first count nodes matched zero node le some low = absurd (omega arith)
top_first count nodes matched (suc fuel) node le some low = by (cases_lt 1 node) (λ more. top_first count nodes matched fuel (node / 2) (omega arith) (omega arith) (omega arith))
  where
    After : ℕ → Type 0
    After n = is_before (rank_at nodes n) (rank_at nodes 1) ≡ false

    under : 1 < node → After (node / 2) → After node
    under more above = side (cases_eq node (2 * (node / 2))) (matched (node / 2) (omega arith) (omega arith) (omega arith))
      where
        side : (node ≡ 2 * (node / 2)) ⊎ (node ≢ 2 * (node / 2)) → rank_at nodes (node / 2) ≡ first_of (rank_at nodes (2 * (node / 2))) (rank_at nodes (2 * (node / 2) + 1)) → After node
        side (inl even) match = subst After (sym even) (rank_trans (rank_at nodes 1) (rank_at nodes (node / 2)) (rank_at nodes (2 * (node / 2))) above (subst (λ (r : Rank). is_before (rank_at nodes (2 * (node / 2))) r ≡ false) (sym match) (left_after (rank_at nodes (2 * (node / 2))) (rank_at nodes (2 * (node / 2) + 1)))))
        side (inr odd) match =
            let e : node ≡ 2 * (node / 2) + 1 = omega (arith, odd) in
            subst After (sym e) (rank_trans (rank_at nodes 1) (rank_at nodes (node / 2)) (rank_at nodes (2 * (node / 2) + 1)) above (subst (λ (r : Rank). is_before (rank_at nodes (2 * (node / 2) + 1)) r ≡ false) (sym match) (right_after (rank_at nodes (2 * (node / 2))) (rank_at nodes (2 * (node / 2) + 1)))))

    by : (1 < node) ⊎ (node ≤ 1) → (1 < node → After (node / 2)) → After node
    by (inl more) above = under more (above more)
    by (inr one) above = let e : node ≡ 1 = omega arith in subst After (sym e) (rank_irrefl (rank_at nodes 1))

-- no rank goes before that of the top
pub top_of_ranks : (count : ℕ) (nodes : List Rank) → IsTournament count nodes → (frame_number : ℕ) → frame_number < length (drop count nodes) → is_before (rank_at (drop count nodes) frame_number) (rank_at nodes 1) ≡ false
top_of_ranks count nodes t frame_number low =
    let long = length-drop count nodes in
    subst (λ (r : Rank). is_before r (rank_at nodes 1) ≡ false) (sym (get_or-drop count nodes frame_number no_rank)) (top_first count nodes t.matched (count + frame_number) (count + frame_number) (omega arith) (omega (arith, long, t.long)) (omega (arith, long, t.long)))

-- nodes that have one rank are matched
pub one_rank : (count : ℕ) (r : Rank) → IsTournament count (replicate (2 * count) r)
one_rank count r = record {
  long = length-replicate (2 * count) r;
  matched = λ node some low but. here node (omega arith) ∙ sym (ap (λ (a : Rank). first_of a (rank_at (replicate (2 * count) r) (2 * node + 1))) (here (2 * node) (omega arith)) ∙ ap (λ (b : Rank). first_of r b) (here (2 * node + 1) (omega arith)) ∙ first_of_same r);
}
  where
    here : (n : ℕ) → n < 2 * count → rank_at (replicate (2 * count) r) n ≡ r
    here n low = get_or-replicate (2 * count) n r no_rank low
