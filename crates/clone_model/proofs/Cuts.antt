-- Lists that are cut at the first of some byte.
use Rattle.std.proofs.Common.{◌≡◌, ◌≢◌, ℕ, List, [], ◌∷◌, ◌++◌, All, refl}
use Rattle.std.specs.List.{AllByRecursion}
use Rattle.std.proofs.lemmas.List.Elements.{recursion_from_All}

-- no such byte stands in the text
abbrev pub Lacks : ℕ → List ℕ → Type 0
Lacks byte text = AllByRecursion (λ b. b ≢ byte) text

-- the same, from the form by index
pub lacks_from_All : (byte : ℕ) (text : List ℕ) → All (λ b. b ≢ byte) text → Lacks byte text
lacks_from_All byte text h = recursion_from_All (λ b. b ≢ byte) text h

-- a text with the byte in it does not lack it
pub not_lacks : (byte : ℕ) (front rest : List ℕ) → Lacks byte (front ++ byte ∷ rest) → ⊥
not_lacks byte [] rest h = h.0 refl
not_lacks byte (b ∷ front) rest h = not_lacks byte front rest h.1

-- a list is cut at the first such byte in one way
pub same_cuts : (byte : ℕ) (xs ys rest others : List ℕ) → Lacks byte xs → Lacks byte ys → xs ++ byte ∷ rest ≡ ys ++ byte ∷ others → (xs ≡ ys) × (rest ≡ others)
same_cuts byte [] [] rest others h k e = (refl, cc)
same_cuts byte [] (y ∷ ys) rest others h k e = let same : y ≡ byte = cc in absurd (k.0 same)
same_cuts byte (x ∷ xs) [] rest others h k e = let same : x ≡ byte = cc in absurd (h.0 same)
same_cuts byte (x ∷ xs) (y ∷ ys) rest others h k e =
    let head : x ≡ y = cc in
    let tail = same_cuts byte xs ys rest others h.1 k.1 (cc) in
    (cc, tail.1)

-- what holds of each element of two lists holds of each element of both
pub recursion-append : {X : Type 0} (P : X → Type 0) (xs ys : List X) → AllByRecursion P xs → AllByRecursion P ys → AllByRecursion P (xs ++ ys)
recursion-append P [] ys h k = k
recursion-append P (x ∷ xs) ys h k = (h.0, recursion-append P xs ys h.1 k)

pub recursion-front : {X : Type 0} (P : X → Type 0) (xs ys : List X) → AllByRecursion P (xs ++ ys) → AllByRecursion P xs
recursion-front P [] ys h = tt
recursion-front P (x ∷ xs) ys h = (h.0, recursion-front P xs ys h.1)

pub Lacks-append : (byte : ℕ) (xs ys : List ℕ) → Lacks byte xs → Lacks byte ys → Lacks byte (xs ++ ys)
Lacks-append byte xs ys h k = recursion-append (λ b. b ≢ byte) xs ys h k
