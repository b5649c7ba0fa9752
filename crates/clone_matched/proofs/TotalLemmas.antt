-- Sums over lists.
use Rattle.std.proofs.Common.{ℕ, zero, suc, ◌≡◌, ◌≤◌, ◌⊎◌, List, [], ◌∷◌, refl, ap, inl, inr, arith}
use Rattle.std.specs.List.{AllByRecursion}
use Rattle.clone_turn.specs.Parts.{IsSublist}
use Rattle.clone_turn.specs.Rule.{total}

pub none_or_some : (n : ℕ) → (n ≡ 0) ⊎ (1 ≤ n)
none_or_some zero = inl refl
none_or_some (suc n) = inr (omega arith)

module _ {X : Type 0} (f : X → ℕ) where
  pub total_sublist : (xs ys : List X) → IsSublist xs ys → total f xs ≤ total f ys
  total_sublist [] ys within = omega arith
  total_sublist (x ∷ xs) [] within = absurd within
  total_sublist (x ∷ xs) (y ∷ ys) (inl same) = let one = ap f same.0 in let more = total_sublist xs ys same.1 in omega (arith, one, more)
  total_sublist (x ∷ xs) (y ∷ ys) (inr within) = let more = total_sublist (x ∷ xs) ys within in omega (arith, more)

  -- where the sum is nothing each is
  pub total_none : (xs : List X) → total f xs ≡ 0 → AllByRecursion (λ x. f x ≡ 0) xs
  total_none [] none = tt
  total_none (x ∷ xs) none = (omega (arith, none), total_none xs (omega (arith, none)))
