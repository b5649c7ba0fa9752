-- How many blocks the chunks of a stage have, run by run.
use Rattle.std.proofs.Common.{ℕ, zero, suc, ◌≡◌, ◌+◌, ◌*◌, ◌-◌, ◌^◌, ◌<◌, ◌≤◌, min, false, cond, List, [], ◌∷◌, ◌++◌, length, get_or, take, drop, map, replicate, refl, sym, ap, ◌∙◌, subst, arith, inl, inr}
use Rattle.std.specs.Int.{div_ceil}
use Rattle.std.specs.List.{All, slice_get, slice_index, range_with_len}
use Rattle.std.specs.Option.{option_map_or}
use Rattle.std.proofs.lemmas.Bool.{cases_lt}
use Rattle.std.proofs.lemmas.List.{append-nil, append_assoc, map-append, map_more, length-map, length-take, length-drop, length-replicate}
use Rattle.std.proofs.lemmas.List.Elements.{All-nil, All-append, All-map, All-head, All-tail}
use Rattle.std.proofs.lemmas.List.FromFn.{length-range_with_len, get_or-range_with_len, length-map-range_with_len, map-range_with_len_more}
use Rattle.std.proofs.lemmas.List.Sums.{sum_by-cons}
use Rattle.std.proofs.lemmas.Nat.{pow_pos}
use Rattle.std.proofs.lemmas.Simd.{map-map}
use Rattle.clone_chunk.specs.declared.spaces.SpaceSize.{SpaceSize}
use Rattle.clone_snapshot.specs.StageLists.{StageList, Files, Pages, Redo, Nothing, Part, PagePart, RedoPart, size_of, piece, cut, pages_of_space, chunks_of, chunk_count, blocks_of, block_count}
use Rattle.clone_snapshot.proofs.CutLemmas.{is_piece, is_past, length-cut}
use Rattle.clone_snapshot.proofs.JoinLemmas.{length-chunks}
use Rattle.clone_marks.specs.declared.chunk_marks.ChunkMarks.{ChunkMarks}
use Rattle.clone_marks.specs.Blocks as marks
use Rattle.clone_marks.specs.Blocks.{IsChunk, AreMarks, is_taken, finished_count}
use Rattle.clone_marks.specs.Counts.{pairs_of, counted_pages, block_counts, run_counts, unmarked}
use Rattle.clone_marks.proofs.ForgetLemmas.{emptied_unfinished, emptied_has}

abbrev count_of : Part → ℕ
count_of chunk = length (blocks_of chunk)

map_same : {A B : Type 0} (f g : A → B) (xs : List A) → ((x : A) → f x ≡ g x) → map f xs ≡ map g xs
map_same f g [] e = refl
map_same f g (x ∷ xs) e = rw (e x, map_same f g xs e) refl

-- ---- a part that is cut

cut_counts : (size block : ℕ) (part : Part) → ((i : ℕ) → count_of (piece size part i) ≡ div_ceil (min size (size_of part - size * i)) block) → map count_of (cut size part) ≡ run_counts (size_of part) size block
cut_counts size block part each =
    let numbers = range_with_len 0 (div_ceil (size_of part) size) in
    map-map count_of (piece size part) numbers ∙ map_same (λ i. count_of (piece size part i)) (λ i. div_ceil (min size (size_of part - size * i)) block) numbers each

page_piece : (pages : List (ℕ × ℕ)) (i : ℕ) → count_of (piece 64 (PagePart pages) i) ≡ div_ceil (min 64 (length pages - 64 * i)) 8
page_piece pages i =
    length-cut 8 (PagePart (take 64 (drop (64 * i) pages))) ∙ ap (λ n. div_ceil n 8) (length-take 64 (drop (64 * i) pages) ∙ ap (min 64) (length-drop (64 * i) pages))

redo_piece : (from count i : ℕ) → count_of (piece 65536 (RedoPart from count) i) ≡ div_ceil (min 65536 (count - 65536 * i)) 16384
redo_piece from count i = length-cut 16384 (RedoPart (from + 65536 * i) (min 65536 (count - 65536 * i)))

page_counts : (pages : List (ℕ × ℕ)) → block_counts (Pages pages) ≡ run_counts (length pages) 64 8
page_counts pages = cut_counts 64 8 (PagePart pages) (page_piece pages)

pub counted_counts : (count : ℕ) → block_counts (counted_pages count) ≡ run_counts count 64 8
counted_counts count = page_counts (replicate count (0, 0)) ∙ ap (λ n. run_counts n 64 8) (length-replicate count (0, 0))

pub redo_counts : (checkpoint lsn : ℕ) → block_counts (Redo checkpoint lsn) ≡ run_counts (lsn - checkpoint) 65536 16384
redo_counts checkpoint lsn = cut_counts 65536 16384 (RedoPart checkpoint (lsn - checkpoint)) (redo_piece checkpoint (lsn - checkpoint))

space_counts : (space : ℕ × ℕ) → map count_of (cut 64 (PagePart (pages_of_space space))) ≡ run_counts space.1 64 8
space_counts space =
    cut_counts 64 8 (PagePart (pages_of_space space)) (page_piece (pages_of_space space)) ∙ ap (λ n. run_counts n 64 8) (length-map-range_with_len (λ number. (space.0, number)) 0 space.1)

file_counts : (space : ℕ × ℕ) (spaces : List (ℕ × ℕ)) → block_counts (Files (space ∷ spaces)) ≡ run_counts space.1 64 8 ++ block_counts (Files spaces)
file_counts space spaces =
    map-append count_of (cut 64 (PagePart (pages_of_space space))) (chunks_of (Files spaces)) ∙ ap (λ xs. xs ++ block_counts (Files spaces)) (space_counts space)

file_counts_push : (spaces : List (ℕ × ℕ)) (space : ℕ × ℕ) → block_counts (Files (spaces ++ space ∷ [])) ≡ block_counts (Files spaces) ++ run_counts space.1 64 8
file_counts_push [] space = file_counts space [] ∙ append-nil (run_counts space.1 64 8)
file_counts_push (x ∷ spaces) space =
    file_counts x (spaces ++ space ∷ []) ∙ ap (λ xs. run_counts x.1 64 8 ++ xs) (file_counts_push spaces space) ∙ sym (append_assoc (run_counts x.1 64 8) (block_counts (Files spaces)) (run_counts space.1 64 8)) ∙ ap (λ xs. xs ++ run_counts space.1 64 8) (sym (file_counts x spaces))

-- ---- the walks that make them

-- one more space
pub spaces_more : (spaces : List SpaceSize) (i : ℕ) (d : SpaceSize) → i < length spaces → unmarked (block_counts (Files (pairs_of (take (i + 1) spaces)))) ≡ unmarked (block_counts (Files (pairs_of (take i spaces)))) ++ unmarked (run_counts (get_or spaces i d).pages 64 8)
spaces_more spaces i d within =
    let pair : SpaceSize → ℕ × ℕ = λ s. (s.space, s.pages) in
    let space = get_or spaces i d in
    ap (λ xs. unmarked (block_counts (Files xs))) (map_more pair spaces i d within) ∙ ap unmarked (file_counts_push (pairs_of (take i spaces)) (pair space)) ∙ map-append (λ n. record { blocks = n; taken = 0 }) (block_counts (Files (pairs_of (take i spaces)))) (run_counts space.pages 64 8)

-- a chunk begins before the end
pub begins_before : (units chunk i : ℕ) → 0 < chunk → i < div_ceil units chunk → chunk * i < units
begins_before units chunk i some less =
    elim (cases_lt (chunk * i) units) [
      | inl before ↦ before
      | inr past ↦ absurd (omega (arith, less, is_past units chunk i some past))
    ]

-- and has 1 to 8 blocks
pub counted_blocks : (units chunk block i : ℕ) → 0 < chunk → 0 < block → chunk ≤ 8 * block → i < div_ceil units chunk → (1 ≤ div_ceil (min chunk (units - chunk * i)) block) × (div_ceil (min chunk (units - chunk * i)) block ≤ 8)
counted_blocks units chunk block i some least few less =
    let before = begins_before units chunk i some less in
    let here = min chunk (units - chunk * i) in
    let one : block * 0 < here = omega arith in
    (is_piece here block 0 least one, is_past here block 8 least (omega arith))

-- the count of a chunk
abbrev pub blocks_here : ℕ → ℕ → ℕ → ℕ → ℕ
blocks_here units chunk block i = div_ceil (min chunk (units - chunk * i)) block

abbrev pub run_front : ℕ → ℕ → ℕ → ℕ → List ChunkMarks
run_front units chunk block i = unmarked (map (blocks_here units chunk block) (range_with_len 0 i))

pub run_more : (units chunk block i : ℕ) → run_front units chunk block (i + 1) ≡ run_front units chunk block i ++ (record { blocks = blocks_here units chunk block i; taken = 0 }) ∷ []
run_more units chunk block i =
    let f = blocks_here units chunk block in
    ap unmarked (map-range_with_len_more f 0 i i (omega arith)) ∙ map-append (λ n. record { blocks = n; taken = 0 }) (map f (range_with_len 0 i)) (f i ∷ [])

-- ---- what they keep

All_range : (P : ℕ → Type 0) (n : ℕ) → ((i : ℕ) → i < n → P i) → All P (range_with_len 0 n)
All_range P n each k d less =
    let within : k < n = rw (length-range_with_len 0 n) at less in
    let place : get_or (range_with_len 0 n) k d ≡ k = get_or-range_with_len 0 n k d within ∙ omega arith in
    subst P (sym place) (each k within)

run_are : (units chunk block : ℕ) → 0 < chunk → 0 < block → chunk ≤ 8 * block → All IsChunk (unmarked (run_counts units chunk block))
run_are units chunk block some least few =
    let begun : ℕ → ChunkMarks = λ n. record { blocks = n; taken = 0 } in
    let f = blocks_here units chunk block in
    All-map IsChunk begun (map f (range_with_len 0 (div_ceil units chunk)))
    (All-map (λ n. IsChunk (begun n)) f (range_with_len 0 (div_ceil units chunk))
    (All_range (λ i. IsChunk (begun (f i))) (div_ceil units chunk) (λ i less.
    let counted = counted_blocks units chunk block i some least few less in
    record { some = counted.0; few = counted.1; within = pow_pos (f i) })))

runs_are : (counts : List ℕ) (units chunk block : ℕ) → counts ≡ run_counts units chunk block → 0 < chunk → 0 < block → chunk ≤ 8 * block → All IsChunk (unmarked counts)
runs_are counts units chunk block e some least few =
    let P : List ℕ → Type 0 = λ xs. All IsChunk (unmarked xs) in
    subst P (sym e) (run_are units chunk block some least few)

files_are : (spaces : List (ℕ × ℕ)) → All IsChunk (unmarked (block_counts (Files spaces)))
files_are [] = All-nil IsChunk
files_are (space ∷ spaces) =
    let P : List ℕ → Type 0 = λ xs. All IsChunk (unmarked xs) in
    let begun : ℕ → ChunkMarks = λ n. record { blocks = n; taken = 0 } in
    let front = run_counts space.1 64 8 in
    let rest = block_counts (Files spaces) in
    let both : All IsChunk (unmarked (front ++ rest)) = rw (map-append begun front rest) (All-append IsChunk (unmarked front) (unmarked rest) (run_are space.1 64 8 (omega arith) (omega arith) (omega arith)) (files_are spaces)) in
    subst P (sym (file_counts space spaces)) both

list_are : (list : StageList) → All IsChunk (unmarked (block_counts list))
list_are (Files spaces) = files_are spaces
list_are (Pages pages) = runs_are (block_counts (Pages pages)) (length pages) 64 8 (page_counts pages) (omega arith) (omega arith) (omega arith)
list_are (Redo checkpoint lsn) = runs_are (block_counts (Redo checkpoint lsn)) (lsn - checkpoint) 65536 16384 (redo_counts checkpoint lsn) (omega arith) (omega arith) (omega arith)
list_are Nothing = All-nil IsChunk

none_finished : (counts : List ℕ) → All IsChunk (unmarked counts) → finished_count (unmarked counts) ≡ 0
none_finished [] are = refl
none_finished (n ∷ counts) are =
    let c : ChunkMarks = record { blocks = n; taken = 0 } in
    let test : ChunkMarks → ℕ = λ x. cond (marks.is_finished x) 1 0 in
    let none : test c ≡ 0 = ap (λ b. cond b 1 0) (emptied_unfinished c (All-head IsChunk c (unmarked counts) are).some) in
    let count = sum_by-cons test c (unmarked counts) in
    omega (arith, none, count, none_finished counts (All-tail IsChunk c (unmarked counts) are))

length-counts : (list : StageList) → length (block_counts list) ≡ chunk_count list
length-counts list = length-map (chunks_of list) count_of ∙ length-chunks list

pub begun_marks : (list : StageList) → chunk_count list ≤ 8388608 → AreMarks (unmarked (block_counts list)) 0
begun_marks list few =
    let begun : ℕ → ChunkMarks = λ n. record { blocks = n; taken = 0 } in
    let long = length-map (block_counts list) begun ∙ length-counts list in
    record { chunks = list_are list; few = omega (arith, few, long); count = sym (none_finished (block_counts list) (list_are list)) }

pub counted_few : (count : ℕ) → div_ceil count 64 ≤ 8388608 → chunk_count (counted_pages count) ≤ 8388608
counted_few count few = rw (length-replicate {A = ℕ × ℕ} count (0, 0)) few

pub redo_few : (checkpoint lsn : ℕ) → lsn < 2 ^ 39 → chunk_count (Redo checkpoint lsn) ≤ 8388608
redo_few checkpoint lsn below = is_past (lsn - checkpoint) 65536 8388608 (omega arith) (omega arith)

-- ---- the laws

pub counts_long : (list : StageList) → length (block_counts list) ≡ chunk_count list
counts_long list = length-counts list

count_at : (parts : List Part) (i : ℕ) → slice_index (map count_of parts) i ≡ length (option_map_or blocks_of (slice_get parts i) [])
count_at [] i = refl
count_at (part ∷ parts) zero = refl
count_at (part ∷ parts) (suc i) = count_at parts i

pub counts_at : (list : StageList) (chunk : ℕ) → slice_index (block_counts list) chunk ≡ block_count list chunk
counts_at list chunk = count_at (chunks_of list) chunk

pub begun_blocks : (counts : List ℕ) → marks.blocks_of (unmarked counts) ≡ counts
begun_blocks [] = refl
begun_blocks (n ∷ counts) = ap (λ rest. n ∷ rest) (begun_blocks counts)

pub none_taken : (counts : List ℕ) (chunk block : ℕ) → is_taken (unmarked counts) chunk block ≡ false
none_taken [] chunk block = refl
none_taken (n ∷ counts) zero block = emptied_has (record { blocks = n; taken = 0 }) block
none_taken (n ∷ counts) (suc chunk) block = none_taken counts chunk block
