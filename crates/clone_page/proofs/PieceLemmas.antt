-- Pieces of a page, written one after the other.
use Rattle.std.proofs.Common.{◌≡◌, ◌+◌, ◌-◌, ◌∙◌, ℕ, List, [], ◌++◌, length, replicate, take, drop, arith, refl, sym, ap}
use Rattle.std.proofs.lemmas.List.{drop_all, append_assoc, append-nil, take_at, drop_at, drop-drop, drop-replicate, length-append, length-drop, length-take}
use Rattle.clone_page.specs.Bytes.{put_at}

-- three pieces written one after the other
pub laid : (a b c d : ℕ) (head middle tail old : List ℕ) → length head ≡ a → length middle ≡ b → length old ≡ a + b + c → d ≡ a + b →
    take d (take a (head ++ drop a old) ++ (middle ++ drop b (drop a (head ++ drop a old)))) ++ (tail ++ drop c (drop d (take a (head ++ drop a old) ++ (middle ++ drop b (drop a (head ++ drop a old)))))) ≡ head ++ middle ++ tail
laid a b c d head middle tail old first second long is =
    let laid_head = take_at head (drop a old) a first in
    let behind_head = drop_at head (drop a old) a first in
    let whole = length-append head middle in
    let laid_middle = take_at (head ++ middle) (drop b (drop a old)) d (omega arith) in
    let behind_middle = drop_at (head ++ middle) (drop b (drop a old)) d (omega arith) in
    let nothing : drop c (drop b (drop a old)) ≡ [] = drop_all c (drop b (drop a old)) (simp (length-drop) (omega arith)) in
    rw (laid_head, behind_head, ← append_assoc head middle (drop b (drop a old)), laid_middle, behind_middle, nothing, append-nil) refl

-- how much lies between the head and the tail
pub room : (a b c : ℕ) (head old : List ℕ) → length head ≡ a → length old ≡ a + b + c → length (take b (drop a (head ++ drop a old))) ≡ b
room a b c head old first long = rw (drop_at head (drop a old) a first) (simp (length-take, length-drop) (omega arith))

pub joined : {a a' b b' c c' : List ℕ} → a ≡ a' → b ≡ b' → c ≡ c' → a ++ b ++ c ≡ a' ++ b' ++ c'
joined p q r = cc

-- what a write to a range leaves
pub written : (at n : ℕ) (old new piece : List ℕ) → new ≡ piece → length piece ≡ n → take at old ++ (new ++ drop n (drop at old)) ≡ put_at at piece old
written at n old new piece is long = rw (is, drop-drop n at old, ← long) refl

-- a value behind a head, with zero bytes behind it
pub padded : (at room : ℕ) (front value : List ℕ) → length front ≡ at → put_at at value (front ++ replicate room 0) ≡ front ++ (value ++ replicate (room - length value) 0)
padded at room front value long =
    let head = take_at front (replicate room 0) at long in
    let tail = sym (drop-drop (length value) at (front ++ replicate room 0)) ∙ ap (drop (length value)) (drop_at front (replicate room 0) at long) ∙ drop-replicate (length value) room 0 in
    (λ i. head i ++ (value ++ tail i))
