-- Lists of one length, joined end to end: what stands at an index.
use Rattle.std.proofs.Common.{◌≡◌, ℕ, zero, suc, ◌+◌, ◌*◌, ◌<◌, ◌≤◌, List, [], ◌∷◌, ◌++◌, length}
use Rattle.std.proofs.Common.{take, drop, get_or, arith, ◌∙◌, ap, sym, length-append, append_assoc}
use Rattle.std.specs.List.{flat_map, All}
use Rattle.std.proofs.lemmas.List.{take-append-le, drop-append-le}
use Rattle.std.proofs.lemmas.List.Elements.{All-head, All-tail}
use Rattle.std.proofs.Math.Seq.{take-append-add, drop-append-add}

-- each list of xs has n elements
abbrev pub AreLong : {X : Type 0} → (X → List ℕ) → ℕ → List X → Type 0
AreLong f n xs = All (λ x. length (f x) ≡ n) xs

pub length-joined : {X : Type 0} (f : X → List ℕ) (n : ℕ) (xs : List X) → AreLong f n xs → length (flat_map f xs) ≡ n * length xs
length-joined f n [] long = omega arith
length-joined f n (x ∷ xs) long =
    let first = All-head (λ x. length (f x) ≡ n) x xs long in
    let rest = length-joined f n xs (All-tail (λ x. length (f x) ≡ n) x xs long) in
    omega (arith, length-append (f x) (flat_map f xs))

-- from an index in the i-th list on, there are the rest of that list and the lists behind it
pub drop-joined : {X : Type 0} (f : X → List ℕ) (n : ℕ) (xs : List X) → AreLong f n xs → (i at : ℕ) (d : X) → i < length xs → at ≤ n
    → drop (n * i + at) (flat_map f xs) ≡ drop at (f (get_or xs i d)) ++ flat_map f (drop (suc i) xs)
drop-joined f n [] long i at d below within = absurd (omega arith)
drop-joined f n (x ∷ xs) long zero at d below within =
    let first = All-head (λ x. length (f x) ≡ n) x xs long in
    let here : n * 0 + at ≡ at = omega arith in
    rw here (drop-append-le at (f x) (flat_map f xs) (omega arith))
drop-joined f n (x ∷ xs) long (suc i) at d below within =
    let first = All-head (λ x. length (f x) ≡ n) x xs long in
    let behind : n * suc i + at ≡ length (f x) + (n * i + at) = omega arith in
    rw behind
    (drop-append-add (f x) (flat_map f xs) (n * i + at)
    ∙ drop-joined f n xs (All-tail (λ x. length (f x) ≡ n) x xs long) i at d (omega arith) within)

-- up to an index in the i-th list, there are the lists before it and its front
pub take-joined : {X : Type 0} (f : X → List ℕ) (n : ℕ) (xs : List X) → AreLong f n xs → (i at : ℕ) (d : X) → i < length xs → at ≤ n
    → take (n * i + at) (flat_map f xs) ≡ flat_map f (take i xs) ++ take at (f (get_or xs i d))
take-joined f n [] long i at d below within = absurd (omega arith)
take-joined f n (x ∷ xs) long zero at d below within =
    let first = All-head (λ x. length (f x) ≡ n) x xs long in
    let here : n * 0 + at ≡ at = omega arith in
    rw here (take-append-le at (f x) (flat_map f xs) (omega arith))
take-joined f n (x ∷ xs) long (suc i) at d below within =
    let first = All-head (λ x. length (f x) ≡ n) x xs long in
    let behind : n * suc i + at ≡ length (f x) + (n * i + at) = omega arith in
    rw behind
    (take-append-add (f x) (flat_map f xs) (n * i + at)
    ∙ (ap (λ ys. f x ++ ys) (take-joined f n xs (All-tail (λ x. length (f x) ≡ n) x xs long) i at d (omega arith) within)
    ∙ sym (append_assoc (f x) (flat_map f (take i xs)) (take at (f (get_or xs i d))))))
