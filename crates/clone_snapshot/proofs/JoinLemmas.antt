-- The pieces of a part, one after another, are the part.
use Rattle.std.proofs.Common.{ℕ, zero, suc, ◌≡◌, ◌+◌, ◌*◌, ◌-◌, ◌<◌, List, [], ◌∷◌, ◌++◌, length, take, drop, arith, refl, sym, ap, ◌∙◌}
use Rattle.std.specs.List.{flat_map, range_with_len, sum_by}
use Rattle.std.specs.Int.{div_ceil}
use Rattle.std.proofs.lemmas.Grind.{div_ceil_times, flat_map-append}
use Rattle.std.proofs.lemmas.List.{drop-drop, take_all}
use Rattle.std.proofs.lemmas.List.Concat.{length-flat_map}
use Rattle.std.proofs.lemmas.List.Folds.{flat_map-map}
use Rattle.std.proofs.lemmas.List.FromFn.{length-range_with_len, length-map-range_with_len}
use Rattle.std.proofs.Math.Nat.{mul-suc, mul-add}
use Rattle.std.proofs.Math.Seq.{take-add}
use Rattle.clone_snapshot.specs.StageLists.{StageList, Files, Pages, Redo, Nothing, Part, PagePart, RedoPart, piece, cut, pages_of_space, chunks_of, chunk_count, blocks_of, pages_of, all_pages, bytes_of, all_bytes}
use Rattle.clone_snapshot.proofs.CutLemmas.{length-cut}
use Rattle.clone_snapshot.proofs.SpanLemmas.{range_piece}

flat_map-flat_map : {X Y Z : Type 0} (g : Y → List Z) (f : X → List Y) (xs : List X) → flat_map g (flat_map f xs) ≡ flat_map (λ x. flat_map g (f x)) xs
flat_map-flat_map g f [] = refl
flat_map-flat_map g f (x ∷ xs) = flat_map-append g (f x) (flat_map f xs) ∙ ap (λ rest. flat_map g (f x) ++ rest) (flat_map-flat_map g f xs)

flat_map-nil : {X Y : Type 0} (f : X → List Y) (xs : List X) → ((x : X) → f x ≡ []) → flat_map f xs ≡ []
flat_map-nil f [] none = refl
flat_map-nil f (x ∷ xs) none = rw (none x) (flat_map-nil f xs none)

-- so many pieces of a list from piece a on
joined_from : {X : Type 0} (size : ℕ) (xs : List X) (a n : ℕ) → flat_map (λ i. take size (drop (size * i) xs)) (range_with_len a n) ≡ take (size * n) (drop (size * a) xs)
joined_from size xs a zero = let e : size * 0 ≡ 0 = omega arith in rw e refl
joined_from size xs a (suc n) =
    let long : size * suc n ≡ size + size * n = mul-suc size n ∙ omega arith in
    let next : size * a + size ≡ size * (a + 1) = omega (arith, mul-add size a 1) in
    let rest : drop (size * (a + 1)) xs ≡ drop size (drop (size * a) xs) = sym (drop-drop size (size * a) xs ∙ ap (λ k. drop k xs) next) in
    rw (long, take-add size (size * n) (drop (size * a) xs)) (ap (λ more. take size (drop (size * a) xs) ++ more) (joined_from size xs (a + 1) n ∙ ap (take (size * n)) rest))

-- all pieces of a list
joined : {X : Type 0} (size : ℕ) (xs : List X) → 0 < size → flat_map (λ i. take size (drop (size * i) xs)) (range_with_len 0 (div_ceil (length xs) size)) ≡ xs
joined size xs some =
    let first : size * 0 ≡ 0 = omega arith in
    joined_from size xs 0 (div_ceil (length xs) size) ∙ rw first (take_all (size * div_ceil (length xs) size) xs (omega (arith, div_ceil_times (length xs) size some)))

joined_pages : (size : ℕ) (part : Part) → 0 < size → flat_map pages_of (cut size part) ≡ pages_of part
joined_pages size (PagePart pages) some = flat_map-map pages_of (piece size (PagePart pages)) (range_with_len 0 (div_ceil (length pages) size)) ∙ joined size pages some
joined_pages size (RedoPart from count) some = flat_map-map pages_of (piece size (RedoPart from count)) (range_with_len 0 (div_ceil count size)) ∙ flat_map-nil (λ i. []) (range_with_len 0 (div_ceil count size)) (λ i. refl)

joined_bytes : (size : ℕ) (part : Part) → 0 < size → flat_map bytes_of (cut size part) ≡ bytes_of part
joined_bytes size (PagePart pages) some = flat_map-map bytes_of (piece size (PagePart pages)) (range_with_len 0 (div_ceil (length pages) size)) ∙ flat_map-nil (λ i. []) (range_with_len 0 (div_ceil (length pages) size)) (λ i. refl)
joined_bytes size (RedoPart from count) some =
    let all = range_with_len from count in
    let pieces = range_with_len 0 (div_ceil count size) in
    let long : length all ≡ count = length-range_with_len from count in
    let whole : flat_map (λ i. take size (drop (size * i) all)) pieces ≡ all = rw long at (joined size all some) in
    flat_map-map bytes_of (piece size (RedoPart from count)) pieces ∙ sym (λ k. flat_map (λ i. range_piece from count size (size * i) k) pieces) ∙ whole

-- the pages of a stage's blocks are those of its chunks, and so are the bytes
pages_of_blocks : (part : Part) → flat_map pages_of (blocks_of part) ≡ pages_of part
pages_of_blocks (PagePart pages) = joined_pages 8 (PagePart pages) (omega arith)
pages_of_blocks (RedoPart from count) = joined_pages 16384 (RedoPart from count) (omega arith)

bytes_of_blocks : (part : Part) → flat_map bytes_of (blocks_of part) ≡ bytes_of part
bytes_of_blocks (PagePart pages) = joined_bytes 8 (PagePart pages) (omega arith)
bytes_of_blocks (RedoPart from count) = joined_bytes 16384 (RedoPart from count) (omega arith)

pages_of_chunks : (list : StageList) → flat_map pages_of (chunks_of list) ≡ all_pages list
pages_of_chunks (Files spaces) =
    let chunks : ℕ × ℕ → List Part = λ space. cut 64 (PagePart (pages_of_space space)) in
    flat_map-flat_map pages_of chunks spaces ∙ (λ k. flat_map (λ space. joined_pages 64 (PagePart (pages_of_space space)) (omega arith) k) spaces)
pages_of_chunks (Pages pages) = joined_pages 64 (PagePart pages) (omega arith)
pages_of_chunks (Redo start end) = joined_pages 65536 (RedoPart start (end - start)) (omega arith)
pages_of_chunks Nothing = refl

bytes_of_chunks : (list : StageList) → flat_map bytes_of (chunks_of list) ≡ all_bytes list
bytes_of_chunks (Files spaces) =
    let chunks : ℕ × ℕ → List Part = λ space. cut 64 (PagePart (pages_of_space space)) in
    flat_map-flat_map bytes_of chunks spaces ∙ flat_map-nil (λ space. flat_map bytes_of (chunks space)) spaces (λ space. joined_bytes 64 (PagePart (pages_of_space space)) (omega arith))
bytes_of_chunks (Pages pages) = joined_bytes 64 (PagePart pages) (omega arith)
bytes_of_chunks (Redo start end) = joined_bytes 65536 (RedoPart start (end - start)) (omega arith)
bytes_of_chunks Nothing = refl

pub pages_joined : (list : StageList) → flat_map pages_of (flat_map blocks_of (chunks_of list)) ≡ all_pages list
pages_joined list = flat_map-flat_map pages_of blocks_of (chunks_of list) ∙ (λ k. flat_map (λ part. pages_of_blocks part k) (chunks_of list)) ∙ pages_of_chunks list

pub bytes_joined : (list : StageList) → flat_map bytes_of (flat_map blocks_of (chunks_of list)) ≡ all_bytes list
bytes_joined list = flat_map-flat_map bytes_of blocks_of (chunks_of list) ∙ (λ k. flat_map (λ part. bytes_of_blocks part k) (chunks_of list)) ∙ bytes_of_chunks list

pub length-chunks : (list : StageList) → length (chunks_of list) ≡ chunk_count list
length-chunks (Files spaces) =
    let chunks : ℕ × ℕ → List Part = λ space. cut 64 (PagePart (pages_of_space space)) in
    length-flat_map chunks spaces ∙ (λ k. sum_by (λ space. chunks_of_space space k) spaces)
  where
    chunks_of_space : (space : ℕ × ℕ) → length (cut 64 (PagePart (pages_of_space space))) ≡ div_ceil space.1 64
    chunks_of_space space = length-cut 64 (PagePart (pages_of_space space)) ∙ ap (λ n. div_ceil n 64) (length-map-range_with_len (λ number. (space.0, number)) 0 space.1)
length-chunks (Pages pages) = length-cut 64 (PagePart pages)
length-chunks (Redo start end) = length-cut 65536 (RedoPart start (end - start))
length-chunks Nothing = refl
