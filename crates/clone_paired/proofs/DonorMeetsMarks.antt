-- The chunks of a donor's stage, where they were reset to what the recipient has marked.
use Rattle.std.proofs.Common.{ℕ, zero, suc, ◌≡◌, ◌∙◌, ◌+◌, ◌<◌, List, [], ◌∷◌, ◌++◌, Bool, true, false, if◌then◌else◌, Option, Some, length, refl, sym, ap, subst, arith}
use Rattle.std.specs.Prelude.{slice_get, slice_index, not, ◌==◌, ◌&&◌, ◌||◌}
use Rattle.std.specs.Option.{option_map_or}
use Rattle.std.specs.List.{All}
use Rattle.std.proofs.lemmas.Bool.{both_ways, eq-eqb, eqb-true, ne_eqb}
use Rattle.clone_chunk.specs.Chunks.{has_bit, is_kept, is_whole, within}
use Rattle.clone_chunk.specs.Partials.{mask_of}
use Rattle.clone_chunk.specs.declared.chunk.Chunk.TheVariants as chunk
use Rattle.clone_chunk.specs.declared.partials.PartialChunk.{PartialChunk}
use Rattle.clone_snapshot.specs.Resets.{IsReset}
use Rattle.clone_snapshot.specs.StageLists.{StageList, block_count, chunk_count}
use Rattle.clone_marks.specs.Blocks.{IsChunk, blocks_of, has_block, is_finished, is_finished_at, is_partial, partials_from, partials_of}
use Rattle.clone_marks.specs.Counts.{block_counts}
use Rattle.clone_marks.specs.declared.chunk_marks.ChunkMarks.{ChunkMarks}
use Rattle.clone_marks.proofs.ChunkLemmas.{finished_has, partial_unfinished}
use Rattle.clone_marks.proofs.MarkLemmas.{chunk_at}
use Rattle.clone_marks.proofs.RunLemmas.{counts_at, counts_long}
use Rattle.clone_session.specs.Cloning.{Session}
use Rattle.clone_rounds.specs.Steps.{kept_of}
use Rattle.clone_view.specs.Donors.{AreOwned, Owns}
use Rattle.clone_view.specs.Rows.{place_of, places, taken_at}
use Rattle.clone_view.proofs.Rows.{place_small, taken_place}
use Rattle.clone_paired.proofs.DonorMovesBlocks.{none_kept, none_whole, reset_owned, whole_has, within_small}
use Rattle.clone_snapshot.proofs.ResetLemmas.{within_none}

-- ---- the masks of partial chunks

and_false : (a b : Bool) → b ≡ false → (a && b) ≡ false
and_false true b is = is
and_false false b is = refl

mask_push : (partial : Bool) (from j taken : ℕ) (rest : List PartialChunk) → mask_of ((if partial then (record { chunk = from; mask = taken }) ∷ [] else []) ++ rest) j ≡ (if partial && (from == j) then taken else mask_of rest j)
mask_push true from j taken rest = refl
mask_push false from j taken rest = refl

mask_below : (from j : ℕ) (marks : List ChunkMarks) → j < from → mask_of (partials_from from marks) j ≡ 0
mask_below from j [] less = refl
mask_below from j (c ∷ marks) less =
    mask_push (is_partial c) from j c.taken (partials_from (from + 1) marks)
    ∙ ap (λ (b : Bool). if b then c.taken else mask_of (partials_from (from + 1) marks) j) (and_false (is_partial c) (from == j) (ne_eqb from j (λ e. omega (arith, e, less))))
    ∙ mask_below (from + 1) j marks (omega (arith, less))

-- what a chunk has, if it is partial
abbrev pub shown : ChunkMarks → ℕ
shown c = if is_partial c then c.taken else 0

mask_from : (from i : ℕ) (marks : List ChunkMarks) → mask_of (partials_from from marks) (from + i) ≡ option_map_or shown (slice_get marks i) 0
mask_from from i [] = refl
mask_from from zero (c ∷ marks) = mask_push (is_partial c) from (from + 0) c.taken (partials_from (from + 1) marks) ∙ by (is_partial c)
  where
    by : (partial : Bool) → (if partial && (from == from + 0) then c.taken else mask_of (partials_from (from + 1) marks) (from + 0)) ≡ (if partial then c.taken else 0)
    by true = ap (λ (b : Bool). if b then c.taken else mask_of (partials_from (from + 1) marks) (from + 0)) (eq-eqb from (from + 0) (omega arith))
    by false = mask_below (from + 1) (from + 0) marks (omega arith)
mask_from from (suc i) (c ∷ marks) =
    mask_push (is_partial c) from (from + suc i) c.taken (partials_from (from + 1) marks)
    ∙ ap (λ (b : Bool). if b then c.taken else mask_of (partials_from (from + 1) marks) (from + suc i)) (and_false (is_partial c) (from == from + suc i) (ne_eqb from (from + suc i) (λ e. omega (arith, e))))
    ∙ ap (mask_of (partials_from (from + 1) marks)) (omega arith)
    ∙ mask_from (from + 1) i marks

pub mask_at : (marks : List ChunkMarks) (i : ℕ) → mask_of (partials_of marks) i ≡ option_map_or shown (slice_get marks i) 0
mask_at marks i = ap (mask_of (partials_of marks)) (omega arith) ∙ mask_from 0 i marks

-- ---- one chunk

abbrev Has : ChunkMarks → ℕ → (partial finished : Bool) → Type 0
Has c block partial finished = Owns (is_kept (within (if partial then c.taken else 0) c.blocks) block) (Some (if finished || is_whole (if partial then c.taken else 0) c.blocks then chunk.Finished else chunk.Free)) (kept_of (has_block block c))

module _ (c : ChunkMarks) (is : IsChunk c) (block : ℕ) (small : block < c.blocks) where
  owns_shown : is_finished c ≡ false → Has c block true false
  owns_shown unfinished = subst (λ (n : ℕ). Owns (is_kept n block) (Some (if is_whole c.taken c.blocks then chunk.Finished else chunk.Free)) (kept_of (has_block block c))) (sym (within_small c.taken c.blocks is.within)) (by (has_block block c) refl)
    where
      whole : (b : Bool) → is_whole c.taken c.blocks ≡ b → has_block block c ≡ false → b ≡ false
      whole false e none = refl
      whole true e none = absurd (both_ways (has_block block c) none (ap (λ (n : ℕ). is_kept n block) (sym (within_small c.taken c.blocks is.within)) ∙ whole_has c.taken c.blocks block e small))

      by : (has : Bool) → has_block block c ≡ has → Owns has (Some (if is_whole c.taken c.blocks then chunk.Finished else chunk.Free)) (kept_of has)
      by true e = refl
      by false e = subst (λ (b : Bool). Owns false (Some (if b then chunk.Finished else chunk.Free)) (kept_of false)) (sym (whole (is_whole c.taken c.blocks) refl e)) refl

  none_of : is_kept (within 0 c.blocks) block ≡ false
  none_of = ap (λ (n : ℕ). is_kept n block) (within_none c.blocks) ∙ none_kept block

  owns_finished : is_finished c ≡ true → Has c block false true
  owns_finished finished =
      subst (λ (b : Bool). Owns b (Some chunk.Finished) (kept_of (has_block block c))) (sym none_of)
      (subst (λ (b : Bool). Owns false (Some chunk.Finished) (kept_of b)) (sym (finished_has c block finished small)) (λ e. cc (e)))

  owns_empty : c.taken ≡ 0 → Has c block false false
  owns_empty empty =
      subst (λ (b : Bool). Owns b (Some (if is_whole 0 c.blocks then chunk.Finished else chunk.Free)) (kept_of (has_block block c))) (sym none_of)
      (subst (λ (b : Bool). Owns false (Some (if b then chunk.Finished else chunk.Free)) (kept_of (has_block block c))) (sym (none_whole c.blocks (omega (arith, small))))
      (subst (λ (b : Bool). Owns false (Some chunk.Free) (kept_of b)) (sym (ap (λ (n : ℕ). is_kept n block) empty ∙ none_kept block)) refl))

  empty_of : (empty : Bool) → (c.taken == 0) ≡ empty → is_finished c ≡ false → (not empty && not (is_finished c)) ≡ false → c.taken ≡ 0
  empty_of true e unfinished partial = eqb-true c.taken 0 e
  empty_of false e unfinished partial = absurd (both_ways (not (is_finished c)) partial (ap not unfinished))

  chunk_by : (partial finished : Bool) → is_partial c ≡ partial → is_finished c ≡ finished → Has c block partial finished
  chunk_by true true p f = absurd (both_ways (is_finished c) (partial_unfinished c p) f)
  chunk_by true false p f = owns_shown f
  chunk_by false true p f = owns_finished f
  chunk_by false false p f = owns_empty (empty_of (c.taken == 0) refl f p)

  pub chunk_owns : Owns (is_kept (within (shown c) c.blocks) block) (Some (if is_finished c || is_whole (shown c) c.blocks then chunk.Finished else chunk.Free)) (kept_of (has_block block c))
  chunk_owns = chunk_by (is_partial c) (is_finished c) refl refl

-- ---- all of them

mark_there : (marks : List ChunkMarks) (i : ℕ) → i < length marks → (c : ChunkMarks) × (slice_get marks i ≡ Some c)
mark_there [] i small = absurd (omega (arith, small))
mark_there (c ∷ marks) zero small = (c, refl)
mark_there (c ∷ marks) (suc i) small = mark_there marks i (omega (arith, small))

blocks_index : (marks : List ChunkMarks) (i : ℕ) (c : ChunkMarks) → slice_get marks i ≡ Some c → slice_index (blocks_of marks) i ≡ c.blocks
blocks_index [] i c is = absurd (cc (is))
blocks_index (x ∷ marks) zero c is = let same : x ≡ c = cc (is) in ap (λ (y : ChunkMarks). y.blocks) same
blocks_index (x ∷ marks) (suc i) c is = blocks_index marks i c is

blocks_long : (marks : List ChunkMarks) → length (blocks_of marks) ≡ length marks
blocks_long [] = refl
blocks_long (c ∷ marks) = ap suc (blocks_long marks)

module _ (marks : List ChunkMarks) (are : All IsChunk marks) (s : Session) (list : StageList) (is : s.snap.list ≡ list) (counts : blocks_of marks ≡ block_counts list) (bitmap : List ℕ) (bits : (i : ℕ) → has_bit bitmap i ≡ is_finished_at marks i) (partials : List PartialChunk) (all : partials ≡ partials_of marks) (reset : IsReset list bitmap partials s.snap.chunks s.snap.kept) (taken : ℕ → Bool) (taken_is : (place : ℕ) → place < places (block_counts list) → taken place ≡ taken_at marks place) where
  long : length marks ≡ chunk_count list
  long = sym (blocks_long marks) ∙ ap length counts ∙ counts_long list

  module _ (i block : ℕ) (below : i < chunk_count list) (small : block < block_count list i) where
    abbrev mark : (c : ChunkMarks) × (slice_get marks i ≡ Some c)
    mark = mark_there marks i (subst (λ (n : ℕ). i < n) (sym long) below)

    abbrev c : ChunkMarks
    c = mark.0

    index : slice_index (blocks_of marks) i ≡ block_count list i
    index = ap (λ (l : List ℕ). slice_index l i) counts ∙ counts_at list i

    blocks : c.blocks ≡ block_count list i
    blocks = sym (blocks_index marks i c mark.1) ∙ index

    within_marks : block < slice_index (blocks_of marks) i
    within_marks = subst (λ (n : ℕ). block < n) (sym index) small

    place_is : place_of (block_counts s.snap.list) i block ≡ place_of (blocks_of marks) i block
    place_is = ap (λ (l : StageList). place_of (block_counts l) i block) is ∙ ap (λ (l : List ℕ). place_of l i block) (sym counts)

    place_less : place_of (block_counts s.snap.list) i block < places (block_counts list)
    place_less = subst (λ (n : ℕ). n < places (block_counts list)) (sym (ap (λ (l : StageList). place_of (block_counts l) i block) is)) (place_small (block_counts list) i block (subst (λ (n : ℕ). block < n) (sym (counts_at list i)) small))

    has_is : taken (place_of (block_counts s.snap.list) i block) ≡ has_block block c
    has_is = taken_is (place_of (block_counts s.snap.list) i block) place_less ∙ ap (taken_at marks) place_is ∙ taken_place marks i block within_marks ∙ ap (λ (o : Option ChunkMarks). option_map_or (has_block block) o false) mark.1

    mask_is : mask_of partials i ≡ shown c
    mask_is = ap (λ (l : List PartialChunk). mask_of l i) all ∙ mask_at marks i ∙ ap (λ (o : Option ChunkMarks). option_map_or shown o 0) mark.1

    bit_is : has_bit bitmap i ≡ is_finished c
    bit_is = bits i ∙ ap (λ (o : Option ChunkMarks). option_map_or is_finished o false) mark.1

    abbrev As : (bit : Bool) (mask blocks : ℕ) (has : Bool) → Type 0
    As bit mask blocks has = Owns (is_kept (within mask blocks) block) (Some (if bit || is_whole mask blocks then chunk.Finished else chunk.Free)) (kept_of has)

    own : As (has_bit bitmap i) (mask_of partials i) (block_count list i) (taken (place_of (block_counts s.snap.list) i block))
    own =
        subst (λ (b : Bool). As b (mask_of partials i) (block_count list i) (taken (place_of (block_counts s.snap.list) i block))) (sym bit_is)
        (subst (λ (n : ℕ). As (is_finished c) n (block_count list i) (taken (place_of (block_counts s.snap.list) i block))) (sym mask_is)
        (subst (λ (n : ℕ). As (is_finished c) (shown c) n (taken (place_of (block_counts s.snap.list) i block))) blocks
        (subst (λ (b : Bool). As (is_finished c) (shown c) c.blocks b) (sym has_is) (chunk_owns c (chunk_at marks i c are mark.1) block (subst (λ (n : ℕ). block < n) (sym blocks) small)))))

  -- WHAT THE RECIPIENT TOOK IS KEPT, and all else is free.
  pub kept_owned : AreOwned s (λ place. kept_of (taken place))
  kept_owned = reset_owned list bitmap partials s is reset (λ place. kept_of (taken place)) (place_of (block_counts s.snap.list)) own
