-- Sums over the numbers below one, and lists of numbers of which the first counts most.
use Rattle.std.proofs.Common.{◌≡◌, ◌<◌, ◌≤◌, ◌+◌, ◌*◌, ◌++◌, ℕ, zero, suc, List, [], ◌∷◌, length, refl, sym, ap, subst, arith, inl, inr, ◌⊎◌}
use Rattle.std.proofs.Math.Nat.{mul_comm}
use Rattle.std.proofs.lemmas.Nat.{mul-add-lt}
use Rattle.clone_rounds.specs.World.{put}
use Rattle.clone_rounds.specs.Measure.{AreBelow, IsLess, as_number, product, sum_below}
use Rattle.clone_rounds.proofs.Puts.{put_all}

-- ---- sums

pub sum_most : (f g : ℕ → ℕ) (n : ℕ) → ((i : ℕ) → f i ≤ g i) → sum_below f n ≤ sum_below g n
sum_most f g zero h = omega arith
sum_most f g (suc n) h = let again : sum_below f n ≤ sum_below g n = sum_most f g n h in let here : f n ≤ g n = h n in omega (arith, again, here)

pub sum_less : (f g : ℕ → ℕ) (n k : ℕ) → ((i : ℕ) → f i ≤ g i) → f k < g k → k < n → sum_below f n < sum_below g n
sum_less f g zero k h less small = absurd (omega (arith, small))
sum_less f g (suc n) k h less small = at (λ e. sum_less f g n k h less e) (below k n small)
  where
    below : (i m : ℕ) → i < suc m → (i < m) ⊎ (i ≡ m)
    below i m e = grind arith

    most : sum_below f n ≤ sum_below g n
    most = sum_most f g n h

    here : f n ≤ g n
    here = h n

    again : sum_below f n < sum_below g n → sum_below f (suc n) < sum_below g (suc n)
    again e = omega (arith, e, here)

    last : f n < g n → sum_below f (suc n) < sum_below g (suc n)
    last e = omega (arith, e, most)

    at : (k < n → sum_below f n < sum_below g n) → (k < n) ⊎ (k ≡ n) → sum_below f (suc n) < sum_below g (suc n)
    at rest (inl e) = again (rest e)
    at rest (inr e) = last (subst (λ i. f i < g i) e less)

-- one place has changed
module _ {A : Type 0} (F : A → ℕ) (f : ℕ → A) (k : ℕ) (x : A) (n : ℕ) where
  pub put_most : F x ≤ F (f k) → sum_below (λ i. F (put f k x i)) n ≤ sum_below (λ i. F (f i)) n
  put_most h = sum_most (λ i. F (put f k x i)) (λ i. F (f i)) n (put_all (λ i y. F y ≤ F (f i)) f k x (λ i other. omega arith) h)

  pub put_less : F x < F (f k) → k < n → sum_below (λ i. F (put f k x i)) n < sum_below (λ i. F (f i)) n
  put_less h small = sum_less (λ i. F (put f k x i)) (λ i. F (f i)) n k (put_all (λ i y. F y ≤ F (f i)) f k x (λ i other. omega arith) (omega (arith, h))) (put_all (λ i y. i ≡ k → F y < F (f i)) f k x (λ i other e. absurd (other e)) (λ e. h) k refl) small

  pub put_equal : F x ≡ F (f k) → sum_below (λ i. F (put f k x i)) n ≡ sum_below (λ i. F (f i)) n
  put_equal e = sum_same n
    where
      same : (i : ℕ) → F (put f k x i) ≡ F (f i)
      same = put_all (λ i y. F y ≡ F (f i)) f k x (λ i other. refl) e

      sum_same : (m : ℕ) → sum_below (λ i. F (put f k x i)) m ≡ sum_below (λ i. F (f i)) m
      sum_same zero = refl
      sum_same (suc m) = let again : sum_below (λ i. F (put f k x i)) m ≡ sum_below (λ i. F (f i)) m = sum_same m in let here : F (put f k x m) ≡ F (f m) = same m in omega (arith, again, here)

-- ---- lists

pub less_front : (xs ys more next : List ℕ) → IsLess xs ys → IsLess (xs ++ more) (ys ++ next)
less_front [] ys more next h = absurd h
less_front (x ∷ xs) [] more next h = absurd h
less_front (x ∷ xs) (y ∷ ys) more next (inl h) = inl h
less_front (x ∷ xs) (y ∷ ys) more next (inr h) = inr (h.0, less_front xs ys more next h.1)

pub less_back : (xs more next : List ℕ) → IsLess more next → IsLess (xs ++ more) (xs ++ next)
less_back [] more next h = h
less_back (x ∷ xs) more next h = inr (refl, less_back xs more next h)

-- a number that is no more, and what counts less after it
pub less_then : {A : Type 0} {x y : ℕ} → x ≤ y → A → (x < y) ⊎ ((x ≡ y) × A)
less_then {A} {x} {y} h less = at (below x y h)
  where
    below : (i m : ℕ) → i ≤ m → (i < m) ⊎ (i ≡ m)
    below i m e = grind arith

    at : (x < y) ⊎ (x ≡ y) → (x < y) ⊎ ((x ≡ y) × A)
    at (inl e) = inl e
    at (inr e) = inr (e, less)

-- what holds of a number wherever it holds of all that are less holds of all
all_below : (P : ℕ → Type 0) → ((m : ℕ) → ((i : ℕ) → i < m → P i) → P m) → (n m : ℕ) → m < n → P m
all_below P step zero m small = absurd (omega (arith, small))
all_below P step (suc n) m small = step m (λ i less. all_below P step n i (omega (arith, small, less)))

not_less : (xs : List ℕ) → IsLess xs [] → ⊥
not_less [] h = h
not_less (x ∷ xs) h = h

-- the same of lists of one length
pub all_lists : (n : ℕ) (P : List ℕ → Type 0) → ((ys : List ℕ) → length ys ≡ n → ((xs : List ℕ) → length xs ≡ n → IsLess xs ys → P xs) → P ys) → (ys : List ℕ) → length ys ≡ n → P ys
all_lists zero P step [] e = step [] e (λ xs f h. absurd (not_less xs h))
all_lists zero P step (y ∷ ys) e = absurd (omega (arith, e))
all_lists (suc n) P step [] e = absurd (omega (arith, e))
all_lists (suc n) P step (y ∷ ys) e = heads (λ Q again zs f. all_lists n Q again zs f) ys (shorter y ys e)
  where
    shorter : (x : ℕ) (xs : List ℕ) → length (x ∷ xs) ≡ suc n → length xs ≡ n
    shorter x xs f = omega (arith, f)

    longer : (x : ℕ) (xs : List ℕ) → length xs ≡ n → length (x ∷ xs) ≡ suc n
    longer x xs f = omega (arith, f)

    heads : ((Q : List ℕ → Type 0) → ((zs : List ℕ) → length zs ≡ n → ((xs : List ℕ) → length xs ≡ n → IsLess xs zs → Q xs) → Q zs) → (zs : List ℕ) → length zs ≡ n → Q zs) → (zs : List ℕ) → length zs ≡ n → P (y ∷ zs)
    heads tails = all_below (λ m. (zs : List ℕ) → length zs ≡ n → P (m ∷ zs)) head (suc y) y (omega arith)
      where
        head : (m : ℕ) → ((i : ℕ) → i < m → (zs : List ℕ) → length zs ≡ n → P (i ∷ zs)) → (zs : List ℕ) → length zs ≡ n → P (m ∷ zs)
        head m before = tails (λ zs. P (m ∷ zs)) (λ zs f again. step (m ∷ zs) (longer m zs f) (λ xs g h. less zs again xs g h))
          where
            less : (zs : List ℕ) → ((xs : List ℕ) → length xs ≡ n → IsLess xs zs → P (m ∷ xs)) → (xs : List ℕ) → length xs ≡ suc n → IsLess xs (m ∷ zs) → P xs
            less zs again [] g h = absurd h
            less zs again (x ∷ xs) g (inl h) = before x h xs (shorter x xs g)
            less zs again (x ∷ xs) g (inr h) = subst (λ i. P (i ∷ xs)) (sym h.0) (again xs (shorter x xs g) h.1)

-- ---- a list as one number

number_below : (bounds xs : List ℕ) → AreBelow bounds xs → as_number bounds xs < product bounds
number_below [] [] h = omega arith
number_below [] (x ∷ xs) h = absurd h
number_below (b ∷ bounds) [] h = absurd h
number_below (b ∷ bounds) (x ∷ xs) h = rw (mul_comm b (product bounds)) (mul-add-lt x (product bounds) (as_number bounds xs) b h.0 (number_below bounds xs h.1))

pub number_less : (bounds xs ys : List ℕ) → AreBelow bounds xs → IsLess xs ys → as_number bounds xs < as_number bounds ys
number_less [] [] ys h less = absurd less
number_less [] (x ∷ xs) ys h less = absurd h
number_less (b ∷ bounds) [] ys h less = absurd h
number_less (b ∷ bounds) (x ∷ xs) [] h less = absurd less
number_less (b ∷ bounds) (x ∷ xs) (y ∷ ys) h (inl e) =
    let front : x * product bounds + as_number bounds xs < product bounds * y = mul-add-lt x (product bounds) (as_number bounds xs) y e (number_below bounds xs h.1) in
    let same : product bounds * y ≡ y * product bounds = mul_comm (product bounds) y in
    omega (arith, front, same)
number_less (b ∷ bounds) (x ∷ xs) (y ∷ ys) h (inr e) =
    let again : as_number bounds xs < as_number bounds ys = number_less bounds xs ys h.1 e.1 in
    let same : x * product bounds ≡ y * product bounds = ap (λ z. z * product bounds) e.0 in
    omega (arith, again, same)
