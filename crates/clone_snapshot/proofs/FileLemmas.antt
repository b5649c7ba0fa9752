-- The walk over spaces to the one that a chunk is of.
use Rattle.std.proofs.Common.{ℕ, zero, suc, ◌≡◌, ◌+◌, ◌-◌, ◌<◌, ◌≤◌, List, [], ◌∷◌, ◌++◌, length, drop, get_or, arith, refl, ap, ◌∙◌}
use Rattle.std.specs.List.{slice_get}
use Rattle.std.specs.Int.{div_ceil}
use Rattle.std.proofs.lemmas.List.{drop_more}
use Rattle.std.proofs.lemmas.List.FromFn.{length-map-range_with_len}
use Rattle.clone_snapshot.specs.StageLists.{Files, PagePart, cut, chunks_of, pages_of_space}
use Rattle.clone_snapshot.proofs.CutLemmas.{length-cut}

slice_get-append_left : {X : Type 0} (xs ys : List X) (i : ℕ) → i < length xs → slice_get (xs ++ ys) i ≡ slice_get xs i
slice_get-append_left [] ys i within = absurd (omega arith)
slice_get-append_left (x ∷ xs) ys zero within = refl
slice_get-append_left (x ∷ xs) ys (suc i) within = slice_get-append_left xs ys i (omega arith)

slice_get-append_right : {X : Type 0} (xs ys : List X) (i : ℕ) → length xs ≤ i → slice_get (xs ++ ys) i ≡ slice_get ys (i - length xs)
slice_get-append_right [] ys i past = let e : i - 0 ≡ i = omega arith in rw e refl
slice_get-append_right (x ∷ xs) ys zero past = absurd (omega arith)
slice_get-append_right (x ∷ xs) ys (suc i) past =
    let e : suc i - suc (length xs) ≡ i - length xs = omega arith in
    rw e (slice_get-append_right xs ys i (omega arith))

length-space_chunks : (space : ℕ × ℕ) → length (cut 64 (PagePart (pages_of_space space))) ≡ div_ceil space.1 64
length-space_chunks space = length-cut 64 (PagePart (pages_of_space space)) ∙ ap (λ n. div_ceil n 64) (length-map-range_with_len (λ number. (space.0, number)) 0 space.1)

-- the chunk is one of the next space
pub chunk_here : (spaces : List (ℕ × ℕ)) (i ahead : ℕ) (d : ℕ × ℕ) → i < length spaces → ahead < div_ceil (get_or spaces i d).1 64 → slice_get (chunks_of (Files (drop i spaces))) ahead ≡ slice_get (cut 64 (PagePart (pages_of_space (get_or spaces i d)))) ahead
chunk_here spaces i ahead d within here =
    let space = get_or spaces i d in
    ap (λ rest. slice_get (chunks_of (Files rest)) ahead) (drop_more spaces i d within) ∙ slice_get-append_left (cut 64 (PagePart (pages_of_space space))) (chunks_of (Files (drop (i + 1) spaces))) ahead (omega (arith, here, length-space_chunks space))

-- or of a later one
pub chunk_later : (spaces : List (ℕ × ℕ)) (i ahead : ℕ) (d : ℕ × ℕ) → i < length spaces → div_ceil (get_or spaces i d).1 64 ≤ ahead → slice_get (chunks_of (Files (drop i spaces))) ahead ≡ slice_get (chunks_of (Files (drop (i + 1) spaces))) (ahead - div_ceil (get_or spaces i d).1 64)
chunk_later spaces i ahead d within later =
    let space = get_or spaces i d in
    let passed = slice_get-append_right (cut 64 (PagePart (pages_of_space space))) (chunks_of (Files (drop (i + 1) spaces))) ahead (omega (arith, later, length-space_chunks space)) in
    ap (λ rest. slice_get (chunks_of (Files rest)) ahead) (drop_more spaces i d within) ∙ passed ∙ ap (λ n. slice_get (chunks_of (Files (drop (i + 1) spaces))) (ahead - n)) (length-space_chunks space)
