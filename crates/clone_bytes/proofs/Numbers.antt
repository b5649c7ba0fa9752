-- The bytes of a number that was read are the bytes that were read.
use Rattle.std.proofs.Common.{◌≡◌, ℕ, zero, suc, ◌+◌, ◌^◌, ◌<◌, ◌≤◌, List, [], ◌∷◌, ◌++◌, length, take, drop, replicate, refl, sym, ◌∙◌, arith, inl, inr}
use Rattle.std.proofs.Math.Nat.{mod-lt}
use Rattle.std.proofs.lemmas.Bool.{cases_lt}
use Rattle.std.proofs.lemmas.List.{append-nil, length-take, get_or-drop, get_or-take, get_or_past}
use Rattle.std.proofs.lemmas.Nat.{same_from_place}
use Rattle.std.specs.Int.{byte_at}
use Rattle.byteorder.specs.Endian.{big_bytes, big_number}
use Rattle.byteorder.specs.Numbers.{big_from-cons, big_from-take, big_from-lt, big_number-reads_back, length-bytes_high_first}
use Rattle.clone_bytes.specs.Fields.{IsBytes}

pub IsBytes-drop : (n : ℕ) (bytes : List ℕ) → IsBytes bytes → IsBytes (drop n bytes)
IsBytes-drop n bytes fits i = rw get_or-drop (fits (n + i))

pub IsBytes-take : (n : ℕ) (bytes : List ℕ) → IsBytes bytes → IsBytes (take n bytes)
IsBytes-take n bytes fits i =
    elim (cases_lt i n) [
      | inl lt ↦ rw (get_or-take n bytes i 0 lt) (fits i)
      | inr le ↦ rw (get_or_past (take n bytes) i 0 (omega (arith, length-take n bytes))) (omega arith)
    ]

byte_below : (k x : ℕ) → byte_at k x < 256
byte_below zero x = mod-lt _ (omega arith)
byte_below (suc k) x = mod-lt _ (omega arith)

pub IsBytes-big_bytes : (n x : ℕ) → IsBytes (big_bytes n x)
IsBytes-big_bytes zero x i = omega arith
IsBytes-big_bytes (suc n) x zero = byte_below n x
IsBytes-big_bytes (suc n) x (suc i) = IsBytes-big_bytes n x i

-- bytes that give the same number are the same
same_bytes : (n : ℕ) (xs ys : List ℕ) → length xs ≡ n → length ys ≡ n → IsBytes xs → IsBytes ys → big_number n xs ≡ big_number n ys → xs ≡ ys
same_bytes n [] [] p q xs_fit ys_fit e = refl
same_bytes n [] (y ∷ ys) p q xs_fit ys_fit e = absurd (omega arith)
same_bytes n (x ∷ xs) [] p q xs_fit ys_fit e = absurd (omega arith)
same_bytes zero (x ∷ xs) (y ∷ ys) p q xs_fit ys_fit e = absurd (omega arith)
same_bytes (suc n) (x ∷ xs) (y ∷ ys) p q xs_fit ys_fit e =
    let xs_small : big_number n xs < 256 ^ n = big_from-lt 0 n xs (λ i. xs_fit (suc i)) in
    let ys_small : big_number n ys < 256 ^ n = big_from-lt 0 n ys (λ i. ys_fit (suc i)) in
    let parts = same_from_place x (big_number n xs) y (big_number n ys) (256 ^ n) xs_small ys_small
    (rw (← big_from-cons 0 n x xs, ← big_from-cons 0 n y ys) e) in
    let rest = same_bytes n xs ys (omega arith) (omega arith) (λ i. xs_fit (suc i)) (λ i. ys_fit (suc i)) parts.1 in
    cc (parts.0, rest)

-- the bytes of a number that was read are the bytes that were read
pub big_bytes-big_number : (n : ℕ) (bytes : List ℕ) → n ≤ length bytes → IsBytes bytes → big_bytes n (big_number n bytes) ≡ take n bytes
big_bytes-big_number n bytes long fits =
    let x = big_number n bytes in
    let below : x < 256 ^ n = big_from-lt 0 n bytes fits in
    let back : big_number n (big_bytes n x) ≡ x = rw append-nil at (big_number-reads_back n x [] below) in
    let cut : big_number n (take n bytes) ≡ x = big_from-take 0 n n bytes (omega arith) in
    same_bytes n (big_bytes n x) (take n bytes) (length-bytes_high_first n x) (omega (arith, length-take n bytes)) (IsBytes-big_bytes n x) (IsBytes-take n bytes fits) (back ∙ sym cut)

pub IsBytes-append : (xs ys : List ℕ) → IsBytes xs → IsBytes ys → IsBytes (xs ++ ys)
IsBytes-append [] ys p q i = q i
IsBytes-append (x ∷ xs) ys p q zero = p 0
IsBytes-append (x ∷ xs) ys p q (suc i) = IsBytes-append xs ys (λ k. p (suc k)) q i

pub IsBytes-front : (xs ys : List ℕ) → IsBytes (xs ++ ys) → IsBytes xs
IsBytes-front [] ys p i = omega arith
IsBytes-front (x ∷ xs) ys p zero = p 0
IsBytes-front (x ∷ xs) ys p (suc i) = IsBytes-front xs ys (λ k. p (suc k)) i

pub IsBytes-back : (xs ys : List ℕ) → IsBytes (xs ++ ys) → IsBytes ys
IsBytes-back [] ys p i = p i
IsBytes-back (x ∷ xs) ys p i = IsBytes-back xs ys (λ k. p (suc k)) i

pub IsBytes-replicate : (n b : ℕ) → b < 256 → IsBytes (replicate n b)
IsBytes-replicate zero b below i = omega arith
IsBytes-replicate (suc n) b below zero = below
IsBytes-replicate (suc n) b below (suc i) = IsBytes-replicate n b below i

pub IsBytes-cons : (x : ℕ) (xs : List ℕ) → x < 256 → IsBytes xs → IsBytes (x ∷ xs)
IsBytes-cons x xs p q zero = p
IsBytes-cons x xs p q (suc i) = q i
