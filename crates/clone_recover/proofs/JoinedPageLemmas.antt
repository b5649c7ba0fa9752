-- Pages that are joined, and pieces of what they make.
use Rattle.std.proofs.Common.{◌≡◌, ◌<◌, ◌≤◌, ◌+◌, ◌-◌, ◌*◌, ℕ, zero, suc, List, [], ◌∷◌, ◌++◌, length, take, drop, get_or, refl, sym, ap, ◌∙◌, arith, append_assoc}
use Rattle.std.proofs.lemmas.List.{length-append, length-drop, take-append-drop, take-append-le, drop-append-le, take_all}
use Rattle.clone_recover.specs.Reading.{joined}

-- the first pages, which are whole, and what the others make
pub record Split (pages : List (List ℕ)) (n : ℕ) : Type 0 where
  pub front : List ℕ
  pub is : joined pages ≡ front ++ joined (drop n pages)
  pub long : length front ≡ 4096 * n

pub split : (n : ℕ) (pages : List (List ℕ)) → ((p : ℕ) → p < n → length (get_or pages p []) ≡ 4096) → n ≤ length pages → Split pages n
split zero pages whole le = record { front = []; is = refl; long = omega arith }
split (suc n) [] whole le = absurd (omega (arith, le))
split (suc n) (p ∷ ps) whole le =
    let s = split n ps (λ q lt. whole (suc q) (omega (arith, lt))) (omega (arith, le)) in
    let first : length p ≡ 4096 = whole zero (omega arith) in
    record {
      front = p ++ s.front;
      is = ap (λ xs. p ++ xs) s.is ∙ sym (append_assoc p s.front (joined (drop n ps)));
      long = omega (arith, length-append p s.front, first, s.long);
    }

pub joined_at : (n : ℕ) (pages : List (List ℕ)) → n < length pages → joined (drop n pages) ≡ get_or pages n [] ++ joined (drop (suc n) pages)
joined_at n [] lt = absurd (omega (arith, lt))
joined_at zero (p ∷ ps) lt = refl
joined_at (suc n) (p ∷ ps) lt = joined_at n ps (omega (arith, lt))

pub joined_past : (n : ℕ) (pages : List (List ℕ)) → length pages ≤ n → joined (drop n pages) ≡ []
joined_past zero [] le = refl
joined_past (suc n) [] le = refl
joined_past zero (p ∷ ps) le = absurd (omega (arith, le))
joined_past (suc n) (p ∷ ps) le = joined_past n ps (omega (arith, le))

-- Pieces of lists.

pub drop_front : (a b : List ℕ) (n : ℕ) → n ≡ length a → drop n (a ++ b) ≡ b
drop_front [] b n is = ap (λ k. drop k b) is
drop_front (x ∷ a) b zero is = absurd (omega (arith, is))
drop_front (x ∷ a) b (suc n) is = drop_front a b n (omega (arith, is))

pub take_front : (a b : List ℕ) (n : ℕ) → n ≡ length a → take n (a ++ b) ≡ a
take_front a b n is = take-append-le n a b (omega (arith, is)) ∙ take_all n a (omega (arith, is))

pub take_behind : (a b : List ℕ) (n : ℕ) → length a ≤ n → take n (a ++ b) ≡ a ++ take (n - length a) b
take_behind [] b n le = ap (λ k. take k b) (omega arith)
take_behind (x ∷ a) b zero le = absurd (omega (arith, le))
take_behind (x ∷ a) b (suc n) le = ap (λ xs. x ∷ xs) (take_behind a b n (omega (arith, le)) ∙ ap (λ k. a ++ take k b) (omega arith))

pub drop_behind : (a b : List ℕ) (n : ℕ) → length a ≤ n → drop n (a ++ b) ≡ drop (n - length a) b
drop_behind [] b n le = ap (λ k. drop k b) (omega arith)
drop_behind (x ∷ a) b zero le = absurd (omega (arith, le))
drop_behind (x ∷ a) b (suc n) le = drop_behind a b n (omega (arith, le)) ∙ ap (λ k. drop k b) (omega arith)

drop_nothing : (n : ℕ) → drop n (◌++◌ {A = ℕ} [] []) ≡ []
drop_nothing zero = refl
drop_nothing (suc n) = refl

pub drop_twice : (a k : ℕ) (xs : List ℕ) → drop k (drop a xs) ≡ drop (a + k) xs
drop_twice zero k xs = ap (λ n. drop n xs) (omega arith)
drop_twice (suc a) k [] = drop_nothing k ∙ sym (drop_nothing (suc a + k))
drop_twice (suc a) k (x ∷ xs) = drop_twice a k xs ∙ ap (λ n. drop n (x ∷ xs)) (next a k)
  where
    next : (b c : ℕ) → suc (b + c) ≡ suc b + c
    next b c = omega arith

-- a piece of the front, and what is behind it
pub cut : (ys d j : List ℕ) (from k : ℕ) → from ≤ k → k ≤ length ys → drop from (ys ++ j) ≡ take (k - from) (drop from (ys ++ d)) ++ (drop (k - from) (drop from ys) ++ j)
cut ys d j from k le within =
    let piece = take (k - from) (drop from ys) in
    let long = length-drop from ys in
    let same : take (k - from) (drop from (ys ++ d)) ≡ piece = ap (take (k - from)) (drop-append-le from ys d (omega (arith, le, within))) ∙ take-append-le (k - from) (drop from ys) d (omega (arith, le, within, long)) in
    drop-append-le from ys j (omega (arith, le, within))
    ∙ ap (λ xs. xs ++ j) (sym (take-append-drop (k - from) (drop from ys)))
    ∙ append_assoc piece (drop (k - from) (drop from ys)) j
    ∙ ap (λ xs. xs ++ (drop (k - from) (drop from ys) ++ j)) (sym same)

-- a list that is no longer than the front of another is a front of it
pub front_within : (a b c d : List ℕ) → a ++ b ≡ c ++ d → length c ≤ length a → a ≡ c ++ drop (length c) a
front_within a b c d e le =
    let same : take (length c) a ≡ c = sym (take-append-le (length c) a b le) ∙ ap (take (length c)) e ∙ take_front c d (length c) refl in
    sym (take-append-drop (length c) a) ∙ ap (λ xs. xs ++ drop (length c) a) same
