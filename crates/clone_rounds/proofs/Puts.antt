-- A value at one place of many.
use Rattle.std.proofs.Common.{◌≡◌, ◌≢◌, ◌<◌, ℕ, zero, suc, Bool, true, false, cond, sym, ap, subst, refl, ◌∙◌, arith, inl, inr, ◌⊎◌}
use Rattle.std.specs.Prelude.{eqb}
use Rattle.std.proofs.lemmas.Bool.{cases_eq}
use Rattle.std.proofs.lemmas.Bool.Decides.{eqb_tells}
use Rattle.clone_rounds.specs.World.{put}

pub put_cases : {A : Type 0} (f : ℕ → A) (k : ℕ) (x : A) (j : ℕ) → ((j ≡ k) × (put f k x j ≡ x)) ⊎ ((j ≢ k) × (put f k x j ≡ f j))
put_cases f k x j = at (eqb_tells j k)
  where
    at : ((eqb j k ≡ true) × (j ≡ k)) ⊎ ((eqb j k ≡ false) × (j ≢ k)) → ((j ≡ k) × (put f k x j ≡ x)) ⊎ ((j ≢ k) × (put f k x j ≡ f j))
    at (inl h) = inl (h.1, ap (λ t. cond t x (f j)) h.0)
    at (inr h) = inr (h.1, ap (λ t. cond t x (f j)) h.0)

pub put_all : {A : Type 0} (P : ℕ → A → Type 0) (f : ℕ → A) (k : ℕ) (x : A) → ((j : ℕ) → j ≢ k → P j (f j)) → P k x → (j : ℕ) → P j (put f k x j)
put_all P f k x others own j = at (put_cases f k x j)
  where
    at : ((j ≡ k) × (put f k x j ≡ x)) ⊎ ((j ≢ k) × (put f k x j ≡ f j)) → P j (put f k x j)
    at (inl h) = subst (P j) (sym h.1) (subst (λ i. P i x) (sym h.0) own)
    at (inr h) = subst (P j) (sym h.1) (others j h.0)

pub put_true : (f : ℕ → Bool) (k j : ℕ) → f j ≡ true → put f k true j ≡ true
put_true f k j e = put_all (λ i b. f i ≡ true → b ≡ true) f k true (λ i other h. h) (λ h. refl) j e

pub put_false : (f : ℕ → Bool) (k j : ℕ) → f j ≡ false → j ≢ k → put f k true j ≡ false
put_false f k j e other = at (put_cases f k true j)
  where
    at : ((j ≡ k) × (put f k true j ≡ true)) ⊎ ((j ≢ k) × (put f k true j ≡ f j)) → put f k true j ≡ false
    at (inl h) = absurd (other h.0)
    at (inr h) = h.1 ∙ e

pub put_same : {A : Type 0} (f : ℕ → A) (k : ℕ) (x : A) → put f k x k ≡ x
put_same f k x = put_all (λ i y. i ≡ k → y ≡ x) f k x (λ i other e. absurd (other e)) (λ e. refl) k refl

pub put_other : {A : Type 0} (f : ℕ → A) (k : ℕ) (x : A) (j : ℕ) → j ≢ k → put f k x j ≡ f j
put_other f k x j other = put_all (λ i y. i ≢ k → y ≡ f i) f k x (λ i away e. refl) (λ away. absurd (away refl)) j other

-- the numbers below one are searched for one that is so
pub find_below : (P : ℕ → Type 0) → ((k : ℕ) → P k ⊎ (P k → ⊥)) → (n : ℕ) → ((k : ℕ) × (k < n) × P k) ⊎ ((k : ℕ) → k < n → P k → ⊥)
find_below P is zero = inr (λ k small p. omega (arith, small))
find_below P is (suc n) = at (find_below P is n) (is n)
  where
    at : ((k : ℕ) × (k < n) × P k) ⊎ ((k : ℕ) → k < n → P k → ⊥) → P n ⊎ (P n → ⊥) → ((k : ℕ) × (k < suc n) × P k) ⊎ ((k : ℕ) → k < suc n → P k → ⊥)
    at (inl h) here = let small : h.0 < n = h.1 in inl (h.0, omega (arith, small), h.2)
    at (inr none) (inl p) = inl (n, omega arith, p)
    at (inr none) (inr never) = inr (λ k small p. each k small p (cases_eq k n))
      where
        each : (k : ℕ) → k < suc n → P k → (k ≡ n) ⊎ (k ≢ n) → ⊥
        each k small p (inl same) = never (subst P same p)
        each k small p (inr other) = none k (omega (arith, small, other)) p
