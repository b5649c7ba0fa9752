-- Sums over lists of views, and one view changed.
use Rattle.std.proofs.Common.{ℕ, zero, suc, ◌≡◌, ◌+◌, ◌≤◌, ◌≢◌, List, [], ◌∷◌, ◌++◌, set, refl, sym, ap, arith}
use mathlib.Core.Option.{some, some-injective, some-ne-none}
use lib.ListN.{get_elem?}
use Rattle.clone_turn.specs.Rule.{total}
use Rattle.std.proofs.Common.{Some, None, subst}
use Rattle.std.specs.declared.option.Option.{Option}

or_else : {X : Type 0} → X → Option X → X
or_else x None = x
or_else x (Some y) = y

pub given_some : {X : Type 0} (a b : X) → Some a ≡ Some b → a ≡ b
unfolding or_else
given_some a b e = ap (λ o. or_else a o) e

Bare : {X : Type 0} → Option X → Type 0
Bare None = Unit {0}
Bare (Some y) = ⊥

pub never : {X : Type 0} (a : X) → None ≡ Some a → ⊥
unfolding Bare
never a e = subst Bare e tt

module _ {V : Type 0} (f : V → ℕ) where
  pub total_set : (vs : List V) (i : ℕ) (v w : V) → get_elem? vs i ≡ some v → total f (set vs i w) + f v ≡ total f vs + f w
  total_set [] i v w e = absurd (some-ne-none v (sym e))
  total_set (x ∷ xs) zero v w e = let same : f x ≡ f v = ap f (some-injective x v e) in omega arith
  total_set (x ∷ xs) (suc i) v w e = let more = total_set xs i v w e in omega arith

  pub total_snoc : (vs : List V) (w : V) → total f (vs ++ w ∷ []) ≡ total f vs + f w
  total_snoc [] w = omega arith
  total_snoc (x ∷ xs) w = let more = total_snoc xs w in omega arith

  pub total_same : (g : V → ℕ) → ((i : ℕ) (v : V) → ℕ) → (vs : List V) → ((i : ℕ) (v : V) → get_elem? vs i ≡ some v → f v ≡ g v) → total f vs ≡ total g vs
  total_same g u [] same = refl
  total_same g u (x ∷ xs) same = let a = same 0 x refl in let b = total_same g u xs (λ i v e. same (suc i) v e) in omega arith

  -- where the sum is that of one view, each other is 0
  pub total_part : (vs : List V) (i : ℕ) (v : V) → get_elem? vs i ≡ some v → f v ≤ total f vs
  total_part [] i v e = absurd (some-ne-none v (sym e))
  total_part (x ∷ xs) zero v e = let same : f x ≡ f v = ap f (some-injective x v e) in omega arith
  total_part (x ∷ xs) (suc i) v e = let more = total_part xs i v e in omega arith

  pub total_unchanged : (vs : List V) (i : ℕ) (v w : V) → get_elem? vs i ≡ some v → f w ≡ f v → total f (set vs i w) ≡ total f vs
  total_unchanged vs i v w e same = let more = total_set vs i v w e in omega arith

  total_none : (vs : List V) → ((j : ℕ) (u : V) → get_elem? vs j ≡ some u → f u ≡ 0) → total f vs ≡ 0
  total_none [] none = refl
  total_none (x ∷ xs) none = let a = none 0 x refl in let b = total_none xs (λ j u e. none (suc j) u e) in omega arith

  -- where the sum is that of one view, each other's is 0
  pub total_rest : (vs : List V) (i : ℕ) (v : V) → get_elem? vs i ≡ some v → total f vs ≡ f v → (j : ℕ) (u : V) → j ≢ i → get_elem? vs j ≡ some u → f u ≡ 0
  total_rest [] i v e sum j u n there = absurd (some-ne-none v (sym e))
  total_rest (x ∷ xs) zero v e sum zero u n there = absurd (n refl)
  total_rest (x ∷ xs) zero v e sum (suc j) u n there = let same : f x ≡ f v = ap f (some-injective x v e) in let part = total_part xs j u there in omega arith
  total_rest (x ∷ xs) (suc i) v e sum zero u n there = let same : f x ≡ f u = ap f (some-injective x u there) in let part = total_part xs i v e in omega arith
  total_rest (x ∷ xs) (suc i) v e sum (suc j) u n there = let part = total_part xs i v e in total_rest xs i v e (omega arith) j u (λ k. n (ap suc k)) there

  -- and the other way round
  pub total_only : (vs : List V) (i : ℕ) (v : V) → get_elem? vs i ≡ some v → ((j : ℕ) (u : V) → j ≢ i → get_elem? vs j ≡ some u → f u ≡ 0) → total f vs ≡ f v
  total_only [] i v e none = absurd (some-ne-none v (sym e))
  total_only (x ∷ xs) zero v e none = let same : f x ≡ f v = ap f (some-injective x v e) in let b = total_none xs (λ j u there. none (suc j) u (λ z. omega arith) there) in omega arith
  total_only (x ∷ xs) (suc i) v e none = let a = none 0 x (λ z. omega arith) refl in let b = total_only xs i v e (λ j u n there. none (suc j) u (λ k. n (omega arith)) there) in omega arith
