-- Two halves of the right to call are the whole.
use Rattle.std.proofs.Common.{ℕ, ◌≡◌, ◌+◌, ◌*◌, ◌-◌, max, ◌^◌, refl, sym, subst}

abbrev pub Sums : ℕ → ℕ → ℕ → ℕ → Type 0
Sums a h b k = a * 2 ^ (max h k - h) + b * 2 ^ (max h k - k) ≡ 2 ^ max h k

pub halves : (a h b k : ℕ) → a ≡ 1 → h ≡ 1 → b ≡ 1 → k ≡ 1 → Sums a h b k
halves a h b k ea eh eb ek =
    subst (λ x. Sums x h b k) (sym ea) (subst (λ x. Sums 1 x b k) (sym eh) (subst (λ x. Sums 1 1 x k) (sym eb) (subst (λ x. Sums 1 1 1 x) (sym ek) refl)))
