-- Sums over lists that are put together, or in another order.
use Rattle.std.proofs.Common.{ℕ, ◌≡◌, ◌+◌, List, [], ◌∷◌, ◌++◌, refl, sym, ap, ◌∙◌, sum_by, arith}
use Rattle.std.specs.List.Sorted.{IsPermutation}
use Rattle.std.proofs.lemmas.List.Sorted.{sum_by-IsPermutation}
use Rattle.std.proofs.lemmas.List.Sums.{sum_by-cons}
use Rattle.clone_turn.specs.Rule.{total}

module _ {X : Type 0} (f : X → ℕ) where
  as_sum : (xs : List X) → sum_by f xs ≡ total f xs
  as_sum [] = refl
  as_sum (x ∷ xs) = sum_by-cons f x xs ∙ ap (λ n. f x + n) (as_sum xs)

  pub total_moved : (xs ys : List X) → IsPermutation xs ys → total f xs ≡ total f ys
  total_moved xs ys moved = sym (as_sum xs) ∙ (sym (sum_by-IsPermutation f xs ys moved) ∙ as_sum ys)

  pub total_append : (xs ys : List X) → total f (xs ++ ys) ≡ total f xs + total f ys
  total_append [] ys = omega arith
  total_append (x ∷ xs) ys = let more = total_append xs ys in omega arith
