-- Parts as spans of what they are parts of: entries of a list, pages of a space, bytes of the log.
use Rattle.std.proofs.Common.{ℕ, zero, suc, ◌≡◌, ◌+◌, ◌*◌, ◌-◌, ◌<◌, ◌≤◌, min, List, [], ◌∷◌, length, take, drop, map, Option, Some, None, arith, refl, sym, ap, ◌∙◌, inl, inr}
use Rattle.std.specs.List.{slice_get, range_with_len}
use Rattle.std.specs.Option.{SomeIff, option_map, option_map_or}
use Rattle.std.specs.Int.{div_ceil}
use Rattle.std.proofs.lemmas.Bool.{cases_lt}
use Rattle.std.proofs.lemmas.List.{drop-take, drop-drop, take-take, take_all, take_min, drop-map, take-map, length-take, length-take-le, length-drop}
use Rattle.std.proofs.lemmas.List.FromFn.{length-map-range_with_len}
use Rattle.clone_snapshot.specs.StageLists.{StageList, Files, Pages, Redo, Part, PagePart, RedoPart, size_of, piece, cut, run, chunks_of, blocks_of, block_of, block_count}
use Rattle.clone_snapshot.specs.declared.span.Span.{Span}
use Rattle.clone_snapshot.proofs.CutLemmas.{length-cut, piece_at, no_piece}

-- piece i of a span
abbrev pub sub : ℕ → ℕ → Span → Span
sub size i span = record { first = span.first + size * i; count = min size (span.count - size * i) }

abbrev pub entries : List (ℕ × ℕ) → Span → Part
entries pages span = PagePart (take span.count (drop span.first pages))

abbrev pub pages_at : ℕ → Span → Part
pages_at space span = PagePart (run space span.first span.count)

abbrev pub bytes_at : Span → Part
bytes_at span = RedoPart span.first span.count

drop-range : (from count k : ℕ) → drop k (range_with_len from count) ≡ range_with_len (from + k) (count - k)
drop-range from count zero =
    let a : from + 0 ≡ from = omega arith in
    let b : count - 0 ≡ count = omega arith in
    rw (a, b) refl
drop-range from zero (suc k) = let none : 0 - suc k ≡ 0 = omega arith in rw none refl
drop-range from (suc count) (suc k) =
    let a : from + suc k ≡ from + 1 + k = omega arith in
    let b : suc count - suc k ≡ count - k = omega arith in
    rw (a, b) (drop-range (from + 1) count k)

take-range : (from count k : ℕ) → take k (range_with_len from count) ≡ range_with_len from (min k count)
take-range from count zero = let none : min 0 count ≡ 0 = omega arith in rw none refl
take-range from zero (suc k) = let none : min (suc k) 0 ≡ 0 = omega arith in rw none refl
take-range from (suc count) (suc k) =
    let more : min (suc k) (suc count) ≡ suc (min k count) = omega arith in
    rw more (ap (λ rest. from ∷ rest) (take-range (from + 1) count k))

-- a piece of consecutive numbers
pub range_piece : (from count size k : ℕ) → take size (drop k (range_with_len from count)) ≡ range_with_len (from + k) (min size (count - k))
range_piece from count size k = ap (take size) (drop-range from count k) ∙ take-range (from + k) (count - k) size

pub run_piece : (space from count size k : ℕ) → take size (drop k (run space from count)) ≡ run space (from + k) (min size (count - k))
run_piece space from count size k =
    let page : ℕ → ℕ × ℕ = λ number. (space, number) in
    ap (take size) (drop-map page k (range_with_len from count)) ∙ take-map page size (drop k (range_with_len from count)) ∙ ap (map page) (range_piece from count size k)

take_of_take : {X : Type 0} (m n : ℕ) (xs : List X) → take m (take n xs) ≡ take (min m n) xs
take_of_take m n xs =
    elim (cases_lt m n) [
      | inl less ↦ let e : min m n ≡ m = omega arith in rw e (take-take m n xs (omega arith))
      | inr more ↦ let e : min m n ≡ n = omega arith in rw e (take_all m (take n xs) (omega (arith, length-take n xs)))
    ]

-- a piece of the entries of a list
entries_piece : {X : Type 0} (xs : List X) (from count size k : ℕ) → k ≤ count → take size (drop k (take count (drop from xs))) ≡ take (min size (count - k)) (drop (from + k) xs)
entries_piece xs from count size k h =
    let e : k + (count - k) ≡ count = omega arith in
    let cut_off : drop k (take (k + (count - k)) (drop from xs)) ≡ take (count - k) (drop k (drop from xs)) = drop-take k (count - k) (drop from xs) in
    ap (take size) (rw e at cut_off) ∙ take_of_take size (count - k) (drop k (drop from xs)) ∙ ap (take (min size (count - k))) (drop-drop k from xs)

-- what cutting a span says of the part that it shows
piece_is : (shown : Span → Part) (size i : ℕ) (whole : Span) (part : Part) (r : Option Span) → 0 < size → size_of part ≡ whole.count → (size * i < whole.count → shown (sub size i whole) ≡ piece size part i) → SomeIff r (size * i < whole.count) (sub size i whole) → option_map shown r ≡ slice_get (cut size part) i
piece_is shown size i whole part None some same pieces none =
    sym (no_piece size part i some (elim (cases_lt (size * i) whole.count) [ inl within ↦ absurd (none within) | inr past ↦ omega arith ]))
piece_is shown size i whole part (Some span) some same pieces found =
    ap (λ s. Some (shown s)) found.1 ∙ ap (λ p. Some p) (pieces found.0) ∙ sym (piece_at size part i some (omega (arith, found.0, same)))

-- THE CHUNKS
pub page_chunk_is : (pages : List (ℕ × ℕ)) (chunk : ℕ) (r : Option Span) → SomeIff r (64 * chunk < length pages) (sub 64 chunk (record { first = 0; count = length pages })) → option_map (entries pages) r ≡ slice_get (chunks_of (Pages pages)) chunk
page_chunk_is pages chunk r found =
    piece_is (entries pages) 64 chunk (record { first = 0; count = length pages }) (PagePart pages) r (omega arith) refl (λ within. ap (λ xs. PagePart xs) front) found
  where
    front : take (min 64 (length pages - 64 * chunk)) (drop (0 + 64 * chunk) pages) ≡ take 64 (drop (64 * chunk) pages)
    front =
        let a : 0 + 64 * chunk ≡ 64 * chunk = omega arith in
        rw (a, ← length-drop (64 * chunk) pages) (take_min 64 (drop (64 * chunk) pages))

pub space_chunk_is : (space pages chunk : ℕ) (r : Option Span) → SomeIff r (64 * chunk < pages) (sub 64 chunk (record { first = 0; count = pages })) → option_map (pages_at space) r ≡ slice_get (cut 64 (PagePart (run space 0 pages))) chunk
space_chunk_is space pages chunk r found =
    piece_is (pages_at space) 64 chunk (record { first = 0; count = pages }) (PagePart (run space 0 pages)) r (omega arith) (length-map-range_with_len (λ number. (space, number)) 0 pages) (λ within. ap (λ xs. PagePart xs) (sym (run_piece space 0 pages 64 (64 * chunk)))) found

pub redo_chunk_is : (start end chunk : ℕ) (r : Option Span) → SomeIff r (65536 * chunk < end - start) (sub 65536 chunk (record { first = start; count = end - start })) → option_map bytes_at r ≡ slice_get (chunks_of (Redo start end)) chunk
redo_chunk_is start end chunk r found =
    piece_is bytes_at 65536 chunk (record { first = start; count = end - start }) (RedoPart start (end - start)) r (omega arith) refl (λ within. refl) found

entries_count : (pages : List (ℕ × ℕ)) (span : Span) → span.first + span.count ≤ length pages → length (take span.count (drop span.first pages)) ≡ span.count
entries_count pages span within = length-take-le span.count (drop span.first pages) (omega (arith, length-drop span.first pages))

-- THE BLOCKS of a chunk
in_chunk : (list : StageList) (chunk block : ℕ) (part : Part) → slice_get (chunks_of list) chunk ≡ Some part → slice_get (blocks_of part) block ≡ block_of list chunk block
in_chunk list chunk block part e = sym (ap (λ o. slice_get (option_map_or blocks_of o []) block) e)

pub page_block_is : (pages : List (ℕ × ℕ)) (chunk block : ℕ) (span : Span) (r : Option Span) → slice_get (chunks_of (Pages pages)) chunk ≡ Some (entries pages span) → span.first + span.count ≤ length pages → SomeIff r (8 * block < span.count) (sub 8 block span) → option_map (entries pages) r ≡ block_of (Pages pages) chunk block
page_block_is pages chunk block span r e within found =
    piece_is (entries pages) 8 block span (entries pages span) r (omega arith) (entries_count pages span within) (λ inside. ap (λ xs. PagePart xs) (sym (entries_piece pages span.first span.count 8 (8 * block) (omega arith)))) found ∙ in_chunk (Pages pages) chunk block (entries pages span) e

pub file_block_is : (spaces : List (ℕ × ℕ)) (chunk block space : ℕ) (span : Span) (r : Option Span) → slice_get (chunks_of (Files spaces)) chunk ≡ Some (pages_at space span) → SomeIff r (8 * block < span.count) (sub 8 block span) → option_map (pages_at space) r ≡ block_of (Files spaces) chunk block
file_block_is spaces chunk block space span r e found =
    piece_is (pages_at space) 8 block span (pages_at space span) r (omega arith) (length-map-range_with_len (λ number. (space, number)) span.first span.count) (λ inside. ap (λ xs. PagePart xs) (sym (run_piece space span.first span.count 8 (8 * block)))) found ∙ in_chunk (Files spaces) chunk block (pages_at space span) e

pub redo_block_is : (start end chunk block : ℕ) (span : Span) (r : Option Span) → slice_get (chunks_of (Redo start end)) chunk ≡ Some (bytes_at span) → SomeIff r (16384 * block < span.count) (sub 16384 block span) → option_map bytes_at r ≡ block_of (Redo start end) chunk block
redo_block_is start end chunk block span r e found =
    piece_is bytes_at 16384 block span (bytes_at span) r (omega arith) refl (λ inside. refl) found ∙ in_chunk (Redo start end) chunk block (bytes_at span) e

-- how many there are
counted : (list : StageList) (chunk size : ℕ) (part : Part) → slice_get (chunks_of list) chunk ≡ Some part → blocks_of part ≡ cut size part → div_ceil (size_of part) size ≡ block_count list chunk
counted list chunk size part e cuts =
    sym (ap (λ o. length (option_map_or blocks_of o [])) e ∙ ap length cuts ∙ length-cut size part)

pub page_blocks_counted : (pages : List (ℕ × ℕ)) (chunk : ℕ) (span : Span) → slice_get (chunks_of (Pages pages)) chunk ≡ Some (entries pages span) → span.first + span.count ≤ length pages → div_ceil span.count 8 ≡ block_count (Pages pages) chunk
page_blocks_counted pages chunk span e within = ap (λ n. div_ceil n 8) (sym (entries_count pages span within)) ∙ counted (Pages pages) chunk 8 (entries pages span) e refl

pub file_blocks_counted : (spaces : List (ℕ × ℕ)) (chunk space : ℕ) (span : Span) → slice_get (chunks_of (Files spaces)) chunk ≡ Some (pages_at space span) → div_ceil span.count 8 ≡ block_count (Files spaces) chunk
file_blocks_counted spaces chunk space span e =
    ap (λ n. div_ceil n 8) (sym (length-map-range_with_len (λ number. (space, number)) span.first span.count)) ∙ counted (Files spaces) chunk 8 (pages_at space span) e refl

pub redo_blocks_counted : (start end chunk : ℕ) (span : Span) → slice_get (chunks_of (Redo start end)) chunk ≡ Some (bytes_at span) → div_ceil span.count 16384 ≡ block_count (Redo start end) chunk
redo_blocks_counted start end chunk span e = counted (Redo start end) chunk 16384 (bytes_at span) e refl
