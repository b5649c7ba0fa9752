-- Lists by what stands at each index.
use Rattle.std.proofs.Common.{◌≡◌, ◌+◌, ◌<◌, ℕ, zero, suc, List, [], ◌∷◌, ◌++◌, length, take, drop, replicate, Some, refl, ap, arith, slice_get}
use Rattle.std.proofs.lemmas.Option.{same_Some}

module _ {X : Type 0} where
  pub slice_get-append_left : (xs ys : List X) (i : ℕ) → i < length xs → slice_get (xs ++ ys) i ≡ slice_get xs i
  slice_get-append_left [] ys i low = absurd (omega arith)
  slice_get-append_left (x ∷ xs) ys zero low = refl
  slice_get-append_left (x ∷ xs) ys (suc i) low = slice_get-append_left xs ys i (omega arith)

  pub slice_get-append_right : (xs ys : List X) (i j : ℕ) → length xs + j ≡ i → slice_get (xs ++ ys) i ≡ slice_get ys j
  slice_get-append_right [] ys i j is = let same : i ≡ j = omega arith in ap (slice_get ys) same
  slice_get-append_right (x ∷ xs) ys zero j is = absurd (omega arith)
  slice_get-append_right (x ∷ xs) ys (suc i) j is = slice_get-append_right xs ys i j (omega arith)

  pub slice_get-take : (n : ℕ) (xs : List X) (i : ℕ) → i < n → slice_get (take n xs) i ≡ slice_get xs i
  slice_get-take zero xs i low = absurd (omega arith)
  slice_get-take (suc n) [] i low = refl
  slice_get-take (suc n) (x ∷ xs) zero low = refl
  slice_get-take (suc n) (x ∷ xs) (suc i) low = slice_get-take n xs i (omega arith)

  pub slice_get-drop : (n : ℕ) (xs : List X) (i j : ℕ) → n + i ≡ j → slice_get (drop n xs) i ≡ slice_get xs j
  slice_get-drop zero xs i j is = let same : i ≡ j = omega arith in ap (slice_get xs) same
  slice_get-drop (suc n) [] i j is = refl
  slice_get-drop (suc n) (x ∷ xs) i zero is = absurd (omega arith)
  slice_get-drop (suc n) (x ∷ xs) i (suc j) is = slice_get-drop n xs i j (omega arith)

  pub slice_get-replicate : (n : ℕ) (x : X) (i : ℕ) → i < n → slice_get (replicate n x) i ≡ Some x
  slice_get-replicate zero x i low = absurd (omega arith)
  slice_get-replicate (suc n) x zero low = refl
  slice_get-replicate (suc n) x (suc i) low = slice_get-replicate n x i (omega arith)

  -- two lists that have the same at each index are equal
  pub same_elements : (xs ys : List X) → ((i : ℕ) → slice_get xs i ≡ slice_get ys i) → xs ≡ ys
  same_elements [] [] same = refl
  same_elements [] (y ∷ ys) same = absurd (let first = same 0 in cc)
  same_elements (x ∷ xs) [] same = absurd (let first = same 0 in cc)
  same_elements (x ∷ xs) (y ∷ ys) same =
      let first : x ≡ y = same_Some x y (same 0) in
      let rest : xs ≡ ys = same_elements xs ys (λ i. same (suc i)) in
      λ i. first i ∷ rest i
