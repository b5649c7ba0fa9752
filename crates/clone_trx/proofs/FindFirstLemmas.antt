-- The first number of a range for which a test holds.
use Rattle.std.proofs.lemmas.Bool.{cases_eq}
use Rattle.std.specs.List.{range_with_len}
use Rattle.clone_trx.proofs.Common.{◌≡◌, ◌<◌, ◌≤◌, ◌+◌, ◌⊎◌, inl, inr, ℕ, zero, suc, Bool, true, false, cond, refl, ap, ◌∙◌, arith, Some, None, find}

pub finds_first : (P : ℕ → Bool) (a n j : ℕ) → a ≤ j → j < a + n → P j ≡ true → ((k : ℕ) → k < j → P k ≡ false) → find P (range_with_len a n) ≡ Some j
finds_first P a zero j low high passes fails = absurd (omega (arith, low, high))
finds_first P a (suc n) j low high passes fails = by (cases_eq a j) (λ less. finds_first P (a + 1) n j (omega (arith, less)) (omega (arith, high)) passes fails)
  where
    by : (a ≡ j) ⊎ (a ≡ j → ⊥) → (a < j → find P (range_with_len (a + 1) n) ≡ Some j) → cond (P a) (Some a) (find P (range_with_len (a + 1) n)) ≡ Some j
    by (inl here) behind = ap (λ (b : Bool). cond b (Some a) (find P (range_with_len (a + 1) n))) (ap P here ∙ passes) ∙ ap Some here
    by (inr apart) behind =
        let less : a < j = omega (arith, low, apart) in
        ap (λ (b : Bool). cond b (Some a) (find P (range_with_len (a + 1) n))) (fails a less) ∙ behind less

pub finds_none : (P : ℕ → Bool) (a n : ℕ) → ((k : ℕ) → k < a + n → P k ≡ false) → find P (range_with_len a n) ≡ None
finds_none P a zero fails = refl
finds_none P a (suc n) fails = ap (λ (b : Bool). cond b (Some a) (find P (range_with_len (a + 1) n))) (fails a (omega arith)) ∙ finds_none P (a + 1) n (λ k less. fails k (omega (arith, less)))
