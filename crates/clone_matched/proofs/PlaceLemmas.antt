-- The element at a place of a list.
use Rattle.std.proofs.Common.{ℕ, zero, suc, ◌≡◌, ◌<◌, ◌==◌, Bool, true, false, cond, List, [], ◌∷◌, ◌++◌, length, set, get_or, refl, sym, ap, ◌∙◌, subst, eqb→eq, T, arith}
use Rattle.std.specs.List.{AllByRecursion}
use Rattle.std.proofs.lemmas.Bool.{eqb-false}

module _ {X : Type 0} where
  -- this stands at the place
  abbrev pub IsAt : List X → ℕ → X → Type 0
  IsAt [] k x = ⊥
  IsAt (y ∷ ys) zero x = y ≡ x
  IsAt (y ∷ ys) (suc k) x = IsAt ys k x

  pub at_one : (xs : List X) (k : ℕ) (x y : X) → IsAt xs k x → IsAt xs k y → x ≡ y
  at_one [] k x y a b = absurd a
  at_one (z ∷ zs) zero x y a b = sym a ∙ b
  at_one (z ∷ zs) (suc k) x y a b = at_one zs k x y a b

  pub at_low : (xs : List X) (k : ℕ) (x : X) → IsAt xs k x → k < length xs
  at_low [] k x at = absurd at
  at_low (y ∷ ys) zero x at = omega arith
  at_low (y ∷ ys) (suc k) x at = let low = at_low ys k x at in omega (arith, low)

  pub at_here : (xs : List X) (k : ℕ) (x : X) → k < length xs → get_or xs k x ≡ x → IsAt xs k x
  at_here [] k x low is = absurd (omega arith)
  at_here (y ∷ ys) zero x low is = is
  at_here (y ∷ ys) (suc k) x low is = at_here ys k x (omega arith) is

  pub at_each : (P : X → Type 0) (xs : List X) (k : ℕ) (x : X) → IsAt xs k x → AllByRecursion P xs → P x
  at_each P [] k x at each = absurd at
  at_each P (y ∷ ys) zero x at each = subst P at each.0
  at_each P (y ∷ ys) (suc k) x at each = at_each P ys k x at each.1

  -- one more
  pub at_more : (xs : List X) (y : X) (k : ℕ) (x : X) → IsAt xs k x → IsAt (xs ++ y ∷ []) k x
  at_more [] y k x at = absurd at
  at_more (z ∷ zs) y zero x at = at
  at_more (z ∷ zs) y (suc k) x at = at_more zs y k x at

  pub at_last : (xs : List X) (y : X) → IsAt (xs ++ y ∷ []) (length xs) y
  at_last [] y = refl
  at_last (x ∷ xs) y = at_last xs y

  -- one is changed
  pub at_set : (xs : List X) (k : ℕ) (x new : X) → IsAt xs k x → IsAt (set xs k new) k new
  at_set [] k x new at = absurd at
  at_set (y ∷ ys) zero x new at = refl
  at_set (y ∷ ys) (suc k) x new at = at_set ys k x new at

  at_other : (xs : List X) (p k : ℕ) (x new : X) → (p ≡ k → ⊥) → IsAt xs k x → IsAt (set xs p new) k x
  at_other [] p k x new apart at = absurd at
  at_other (y ∷ ys) zero zero x new apart at = absurd (apart refl)
  at_other (y ∷ ys) zero (suc k) x new apart at = at
  at_other (y ∷ ys) (suc p) zero x new apart at = at
  at_other (y ∷ ys) (suc p) (suc k) x new apart at = at_other ys p k x new (λ e. apart (ap suc e)) at

  pub at_changed : (f : X → X) (xs : List X) (p k : ℕ) (x there : X) → get_or xs p there ≡ there → IsAt xs k x → IsAt (set xs p (f there)) k (cond (p == k) (f x) x)
  at_changed f xs p k x there is at = by (p == k) refl
    where
      by : (b : Bool) → (p == k) ≡ b → IsAt (set xs p (f there)) k (cond b (f x) x)
      by true same =
          let e : p ≡ k = eqb→eq p k (subst T (sym same) tt) in
          let one : x ≡ there = at_one xs k x there at (at_here xs k there (at_low xs k x at) (subst (λ n. get_or xs n there ≡ there) e is)) in
          subst (λ n. IsAt (set xs n (f there)) k (f x)) (sym e) (subst (λ y. IsAt (set xs k (f there)) k (f y)) (sym one) (at_set xs k x (f there) at))
      by false apart = at_other xs p k x (f there) (eqb-false p k apart) at
