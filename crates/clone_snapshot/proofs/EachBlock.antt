-- What each block of a stage is: of the stage's kind, neither empty nor too large, and within
-- the list.
use Rattle.std.proofs.Common.{ℕ, zero, suc, ◌≡◌, ◌≢◌, ◌+◌, ◌*◌, ◌-◌, ◌<◌, ◌≤◌, min, List, [], ◌∷◌, ◌++◌, length, take, drop, Option, Some, None, Vec, Global, arith, refl, sym, ap, ◌∙◌, subst, inl, inr}
use Rattle.std.specs.List.{slice_get, flat_map, All, Contains}
use Rattle.std.specs.Option.{option_map_or}
use Rattle.std.proofs.lemmas.Bool.{cases_lt}
use Rattle.std.proofs.lemmas.List.{length-take, length-drop, take_at, drop_at, get_or_default}
use Rattle.std.proofs.lemmas.List.Elements.{All-take, All-drop}
use Rattle.std.proofs.lemmas.List.FromFn.{length-map-range_with_len}
use Rattle.clone_snapshot.specs.StageLists as lists
use Rattle.clone_snapshot.specs.StageLists.{StageList, Part, PagePart, RedoPart, IsBlockSized, size_of, piece, cut, chunks_of, blocks_of, block_of, pages_of, pages_of_space, all_pages, run}
use Rattle.clone_snapshot.specs.Snaps.{list_of}
use Rattle.clone_snapshot.specs.declared.listing.Listing.{Listing}
use Rattle.clone_snapshot.specs.declared.listing.Listing.TheVariants.{Files, Pages, Redo, Nothing}
use Rattle.clone_snapshot.proofs.CutLemmas.{piece_at, no_piece}
use Rattle.clone_snapshot.proofs.SpanLemmas.{run_piece}

-- each part of a list is of a kind
abbrev Are : (Part → Type 0) → List Part → Type 0
Are P parts = (i : ℕ) (part : Part) → slice_get parts i ≡ Some part → P part

Are-append : (P : Part → Type 0) (xs ys : List Part) → Are P xs → Are P ys → Are P (xs ++ ys)
Are-append P [] ys first second i part e = second i part e
Are-append P (x ∷ xs) ys first second zero part e = first 0 part e
Are-append P (x ∷ xs) ys first second (suc i) part e = Are-append P xs ys (λ j. first (suc j)) second i part e

Are-flat_map : {X : Type 0} (P : Part → Type 0) (f : X → List Part) (xs : List X) → ((x : X) → Are P (f x)) → Are P (flat_map f xs)
Are-flat_map P f [] each i part e = absurd (cc)
Are-flat_map P f (x ∷ xs) each i part e = Are-append P (f x) (flat_map f xs) (each x) (Are-flat_map P f xs each) i part e

Are-cut : (P : Part → Type 0) (size : ℕ) (whole : Part) → 0 < size → ((i : ℕ) → size * i < size_of whole → P (piece size whole i)) → Are P (cut size whole)
Are-cut P size whole some each i part e =
    elim (cases_lt (size * i) (size_of whole)) [
      | inl within ↦
          let is : Some (piece size whole i) ≡ Some part = sym (piece_at size whole i some within) ∙ e in
          let same : piece size whole i ≡ part = cc in
          subst P same (each i within)
      | inr past ↦ let is : None ≡ Some part = sym (no_piece size whole i some past) ∙ e in absurd (cc)
    ]

-- the blocks of chunks of a kind
blocks_at_are : (P Q : Part → Type 0) (o : Option Part) → ((part : Part) → P part → Are Q (blocks_of part)) → ((part : Part) → o ≡ Some part → P part) → Are Q (option_map_or blocks_of o [])
blocks_at_are P Q None split each i part e = absurd (cc)
blocks_at_are P Q (Some chunk) split each i part e = split chunk (each chunk refl) i part e

blocks_are : (P Q : Part → Type 0) (list : StageList) → ((part : Part) → P part → Are Q (blocks_of part)) → Are P (chunks_of list) → (chunk block : ℕ) (part : Part) → block_of list chunk block ≡ Some part → Q part
blocks_are P Q list split chunks chunk = blocks_at_are P Q (slice_get (chunks_of list) chunk) split (chunks chunk)

-- pages, or redo
abbrev IsPages : Part → Type 0
IsPages (PagePart pages) = Unit {0}
IsPages (RedoPart from count) = ⊥

abbrev IsRedo : Part → Type 0
IsRedo (PagePart pages) = ⊥
IsRedo (RedoPart from count) = Unit {0}

page_blocks : (part : Part) → IsPages part → Are IsPages (blocks_of part)
page_blocks (PagePart pages) kind = Are-cut IsPages 8 (PagePart pages) (omega arith) (λ i within. tt)
page_blocks (RedoPart from count) kind = absurd kind

redo_blocks : (part : Part) → IsRedo part → Are IsRedo (blocks_of part)
redo_blocks (PagePart pages) kind = absurd kind
redo_blocks (RedoPart from count) kind = Are-cut IsRedo 16384 (RedoPart from count) (omega arith) (λ i within. tt)

page_chunks : (pages : List (ℕ × ℕ)) → Are IsPages (cut 64 (PagePart pages))
page_chunks pages = Are-cut IsPages 64 (PagePart pages) (omega arith) (λ i within. tt)

-- a block of redo is one of a stage that copies redo
pub redo_alone : (list : StageList) (chunk block from count : ℕ) → block_of list chunk block ≡ Some (RedoPart from count) → (start : ℕ) × (end : ℕ) × (list ≡ lists.Redo start end)
redo_alone (lists.Files spaces) chunk block from count is =
    absurd (blocks_are IsPages IsPages (lists.Files spaces) page_blocks (Are-flat_map IsPages (λ (space : ℕ × ℕ). cut 64 (PagePart (pages_of_space space))) spaces (λ space. page_chunks (pages_of_space space))) chunk block (RedoPart from count) is)
redo_alone (lists.Pages pages) chunk block from count is =
    absurd (blocks_are IsPages IsPages (lists.Pages pages) page_blocks (page_chunks pages) chunk block (RedoPart from count) is)
redo_alone (lists.Redo start end) chunk block from count is = (start, end, refl)
redo_alone lists.Nothing chunk block from count is = absurd (cc)

-- no block of another stage is redo
pub no_redo : (l : Listing) (chunk block from count : ℕ) → ((start end : ℕ) → l ≢ Redo start end) → block_of (list_of l) chunk block ≢ Some (RedoPart from count)
no_redo (Files spaces) chunk block from count other = λ is. let (start, end, same) = redo_alone (lists.Files spaces.items) chunk block from count is in cc
no_redo (Pages pages) chunk block from count other = λ is. let (start, end, same) = redo_alone (lists.Pages pages.items) chunk block from count is in cc
no_redo (Redo start end) chunk block from count other = absurd (other start end refl)
no_redo Nothing chunk block from count other = λ e. cc

-- no block of another stage has pages
redo_only : (start end chunk block : ℕ) (part : Part) → block_of (lists.Redo start end) chunk block ≡ Some part → IsRedo part
redo_only start end = blocks_are IsRedo IsRedo (lists.Redo start end) redo_blocks (Are-cut IsRedo 65536 (RedoPart start (end - start)) (omega arith) (λ i within. tt))

pub no_pages : (l : Listing) (chunk block : ℕ) (pages : List (ℕ × ℕ)) → ((spaces : Vec (ℕ × ℕ) Global) → l ≢ Files spaces) → ((listed : Vec (ℕ × ℕ) Global) → l ≢ Pages listed) → block_of (list_of l) chunk block ≢ Some (PagePart pages)
no_pages (Files spaces) chunk block pages files listed = absurd (files spaces refl)
no_pages (Pages all) chunk block pages files listed = absurd (listed all refl)
no_pages (Redo start end) chunk block pages files listed = redo_only start end chunk block (PagePart pages)
no_pages Nothing chunk block pages files listed = λ e. cc

-- THE SIZE of a chunk, and of a block, whatever its chunk
abbrev pub IsChunkSized : Part → Type 0
IsChunkSized (PagePart pages) = (0 < length pages) × (length pages ≤ 64)
IsChunkSized (RedoPart from count) = (0 < count) × (count ≤ 65536)

sized_chunks : (pages : List (ℕ × ℕ)) → Are IsChunkSized (cut 64 (PagePart pages))
sized_chunks pages = Are-cut IsChunkSized 64 (PagePart pages) (omega arith) sized
  where
    sized : (i : ℕ) → 64 * i < length pages → IsChunkSized (PagePart (take 64 (drop (64 * i) pages)))
    sized i within =
        let long : length (take 64 (drop (64 * i) pages)) ≡ min 64 (length pages - 64 * i) = length-take 64 (drop (64 * i) pages) ∙ ap (min 64) (length-drop (64 * i) pages) in
        (omega arith, omega arith)

pub chunk_sized : (list : StageList) (chunk : ℕ) (part : Part) → slice_get (chunks_of list) chunk ≡ Some part → IsChunkSized part
chunk_sized (lists.Files spaces) chunk part e =
    Are-flat_map IsChunkSized (λ (space : ℕ × ℕ). cut 64 (PagePart (pages_of_space space))) spaces (λ space. sized_chunks (pages_of_space space)) chunk part e
chunk_sized (lists.Pages pages) chunk part e = sized_chunks pages chunk part e
chunk_sized (lists.Redo start end) chunk part e =
    Are-cut IsChunkSized 65536 (RedoPart start (end - start)) (omega arith) (λ i within. (omega arith, omega arith)) chunk part e
chunk_sized lists.Nothing chunk part e = absurd (cc)

sized_blocks : (part : Part) → Unit {0} → Are IsBlockSized (blocks_of part)
sized_blocks (PagePart pages) any = Are-cut IsBlockSized 8 (PagePart pages) (omega arith) sized
  where
    sized : (i : ℕ) → 8 * i < length pages → IsBlockSized (PagePart (take 8 (drop (8 * i) pages)))
    sized i within =
        let long : length (take 8 (drop (8 * i) pages)) ≡ min 8 (length pages - 8 * i) = length-take 8 (drop (8 * i) pages) ∙ ap (min 8) (length-drop (8 * i) pages) in
        (omega arith, omega arith)
sized_blocks (RedoPart from count) any = Are-cut IsBlockSized 16384 (RedoPart from count) (omega arith) (λ i within. (omega arith, omega arith))

pub block_sized : (list : StageList) (chunk block : ℕ) (part : Part) → block_of list chunk block ≡ Some part → IsBlockSized part
block_sized list = blocks_are (λ part. Unit {0}) IsBlockSized list sized_blocks (λ i part e. tt)

-- WITHIN the list: what is true of all its pages is true of a block's
abbrev Have : (ℕ × ℕ → Type 0) → Part → Type 0
Have P part = All P (pages_of part)

have_blocks : (P : ℕ × ℕ → Type 0) (part : Part) → Have P part → Are (Have P) (blocks_of part)
have_blocks P (PagePart pages) all = Are-cut (Have P) 8 (PagePart pages) (omega arith) (λ i within. All-take P 8 (drop (8 * i) pages) (All-drop P (8 * i) pages all))
have_blocks P (RedoPart from count) all = Are-cut (Have P) 16384 (RedoPart from count) (omega arith) (λ i within. all)

have_chunks : (P : ℕ × ℕ → Type 0) (pages : List (ℕ × ℕ)) → All P pages → Are (Have P) (cut 64 (PagePart pages))
have_chunks P pages all = Are-cut (Have P) 64 (PagePart pages) (omega arith) (λ i within. All-take P 64 (drop (64 * i) pages) (All-drop P (64 * i) pages all))

have_files : (P : ℕ × ℕ → Type 0) (spaces : List (ℕ × ℕ)) → All P (flat_map pages_of_space spaces) → Are (Have P) (chunks_of (lists.Files spaces))
have_files P [] all i part e = absurd (cc)
have_files P (space ∷ spaces) all i part e =
    let here = pages_of_space space in
    let later = flat_map pages_of_space spaces in
    let first : All P here = subst (All P) (take_at here later (length here) refl) (All-take P (length here) (here ++ later) all) in
    let rest : All P later = subst (All P) (drop_at here later (length here) refl) (All-drop P (length here) (here ++ later) all) in
    Are-append (Have P) (cut 64 (PagePart here)) (chunks_of (lists.Files spaces)) (have_chunks P here first) (have_files P spaces rest) i part e

all_have : (P : ℕ × ℕ → Type 0) (list : StageList) → All P (all_pages list) → Are (Have P) (chunks_of list)
all_have P (lists.Files spaces) all i part e = have_files P spaces all i part e
all_have P (lists.Pages pages) all i part e = have_chunks P pages all i part e
all_have P (lists.Redo start end) all i part e = Are-cut (Have P) 65536 (RedoPart start (end - start)) (omega arith) (λ i within. all) i part e
all_have P lists.Nothing all i part e = absurd (cc)

pub pages_listed : (list : StageList) (chunk block : ℕ) (pages : List (ℕ × ℕ)) → block_of list chunk block ≡ Some (PagePart pages) → All (Contains (all_pages list)) pages
pages_listed list chunk block pages =
    let P : ℕ × ℕ → Type 0 = Contains (all_pages list) in
    blocks_are (Have P) (Have P) list (have_blocks P) (all_have P list (λ k d within. (k, within, get_or_default (all_pages list) k _ _ within))) chunk block (PagePart pages)

-- a block of files is consecutive pages of one space
abbrev IsRun : Part → Type 0
IsRun (PagePart pages) = (space : ℕ) × (first : ℕ) × (pages ≡ run space first (length pages))
IsRun (RedoPart from count) = ⊥

run_piece_is : (size k : ℕ) (pages : List (ℕ × ℕ)) → IsRun (PagePart pages) → IsRun (PagePart (take size (drop k pages)))
run_piece_is size k pages (space, first, is) =
    let part : take size (drop k pages) ≡ run space (first + k) (min size (length pages - k)) = ap (λ all. take size (drop k all)) is ∙ run_piece space first (length pages) size k in
    let long : length (take size (drop k pages)) ≡ min size (length pages - k) = length-take size (drop k pages) ∙ ap (min size) (length-drop k pages) in
    (space, first + k, part ∙ ap (run space (first + k)) (sym long))

run_blocks : (part : Part) → IsRun part → Are IsRun (blocks_of part)
run_blocks (PagePart pages) is = Are-cut IsRun 8 (PagePart pages) (omega arith) (λ i within. run_piece_is 8 (8 * i) pages is)
run_blocks (RedoPart from count) is = absurd is

run_chunks : (space : ℕ × ℕ) → Are IsRun (cut 64 (PagePart (pages_of_space space)))
run_chunks space =
    let whole : IsRun (PagePart (pages_of_space space)) = (space.0, 0, ap (run space.0 0) (sym (length-map-range_with_len (λ number. (space.0, number)) 0 space.1))) in
    Are-cut IsRun 64 (PagePart (pages_of_space space)) (omega arith) (λ i within. run_piece_is 64 (64 * i) (pages_of_space space) whole)

pub pages_of_one_space : (spaces pages : List (ℕ × ℕ)) (chunk block : ℕ) → block_of (lists.Files spaces) chunk block ≡ Some (PagePart pages) → (space : ℕ) × (first : ℕ) × (pages ≡ run space first (length pages))
pages_of_one_space spaces pages chunk block =
    blocks_are IsRun IsRun (lists.Files spaces) run_blocks (Are-flat_map IsRun (λ (space : ℕ × ℕ). cut 64 (PagePart (pages_of_space space))) spaces run_chunks) chunk block (PagePart pages)

-- and a block of redo lies between the ends of the redo
abbrev Between : ℕ → ℕ → Part → Type 0
Between start end (PagePart pages) = ⊥
Between start end (RedoPart from count) = (start ≤ from) × (from + count ≤ end)

between_blocks : (start end : ℕ) (part : Part) → Between start end part → Are (Between start end) (blocks_of part)
between_blocks start end (PagePart pages) within = absurd within
between_blocks start end (RedoPart from count) within = Are-cut (Between start end) 16384 (RedoPart from count) (omega arith) (λ i inside. (omega arith, omega arith))

pub redo_between : (start end chunk block from count : ℕ) → start ≤ end → block_of (lists.Redo start end) chunk block ≡ Some (RedoPart from count) → (start ≤ from) × (from + count ≤ end)
redo_between start end chunk block from count ordered =
    blocks_are (Between start end) (Between start end) (lists.Redo start end) (between_blocks start end) (Are-cut (Between start end) 65536 (RedoPart start (end - start)) (omega arith) (λ i inside. (omega arith, omega arith))) chunk block (RedoPart from count)
