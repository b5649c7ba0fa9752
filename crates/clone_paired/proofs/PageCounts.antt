-- How many blocks the chunks of a list of pages have is known by the number of its pages.
use Rattle.std.proofs.Common.{ℕ, ◌≡◌, ◌∙◌, ◌-◌, ◌*◌, min, List, [], ◌∷◌, length, take, drop, map, refl, sym, ap}
use Rattle.std.specs.Int.{div_ceil}
use Rattle.std.specs.List.{range_with_len}
use Rattle.std.proofs.lemmas.List.{length-drop, length-take}
use Rattle.std.proofs.lemmas.Simd.{map-map}
use Rattle.clone_snapshot.specs.StageLists.{PagePart, Pages, Part, blocks_of, piece}
use Rattle.clone_snapshot.proofs.CutLemmas.{length-cut}
use Rattle.clone_marks.specs.Counts.{block_counts, counted_pages, run_counts}
use Rattle.clone_marks.proofs.RunLemmas.{counted_counts}

map_same : {A B : Type 0} (f g : A → B) (xs : List A) → ((x : A) → f x ≡ g x) → map f xs ≡ map g xs
map_same f g [] e = refl
map_same f g (x ∷ xs) e = rw (e x, map_same f g xs e) refl

abbrev count_of : Part → ℕ
count_of chunk = length (blocks_of chunk)

page_piece : (pages : List (ℕ × ℕ)) (i : ℕ) → count_of (piece 64 (PagePart pages) i) ≡ div_ceil (min 64 (length pages - 64 * i)) 8
page_piece pages i =
    length-cut 8 (PagePart (take 64 (drop (64 * i) pages))) ∙ ap (λ n. div_ceil n 8) (length-take 64 (drop (64 * i) pages) ∙ ap (min 64) (length-drop (64 * i) pages))

page_counts : (pages : List (ℕ × ℕ)) → block_counts (Pages pages) ≡ run_counts (length pages) 64 8
page_counts pages =
    let numbers = range_with_len 0 (div_ceil (length pages) 64) in
    map-map count_of (piece 64 (PagePart pages)) numbers ∙ map_same (λ i. count_of (piece 64 (PagePart pages) i)) (λ i. div_ceil (min 64 (length pages - 64 * i)) 8) numbers (page_piece pages)

pub pages_counted : (pages : List (ℕ × ℕ)) (count : ℕ) → count ≡ length pages → block_counts (Pages pages) ≡ block_counts (counted_pages count)
pages_counted pages count is = page_counts pages ∙ ap (λ n. run_counts n 64 8) (sym is) ∙ sym (counted_counts count)
