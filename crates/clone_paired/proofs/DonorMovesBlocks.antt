-- The blocks of a session's stage, where its chunks were reset to what a requester has.
use Rattle.std.proofs.Common.{ℕ, zero, suc, ◌≡◌, ◌≢◌, ◌∙◌, ◌⊎◌, ◌+◌, ◌-◌, ◌^◌, ◌<◌, ◌≤◌, List, [], ◌∷◌, Bool, true, false, cond, if◌then◌else◌, Option, Some, length, replicate, refl, sym, ap, subst, inl, inr, arith}
use Rattle.std.specs.Prelude.{slice_get, slice_index, ◌==◌, ◌||◌}
use Rattle.std.specs.Int.{bit_at}
use Rattle.std.proofs.Math.Nat.{mod-eq_of_lt, mod-lt}
use Rattle.std.proofs.lemmas.Bool.{both_ways, cases_lt, eq-eqb, eqb-true, false_from_ne_true}
use Rattle.std.proofs.lemmas.List.{get_or_past, length-replicate}
use Rattle.std.proofs.lemmas.List.Sums.{sum_by-cons}
use Rattle.std.proofs.lemmas.Nat.{pow_pos}
use Rattle.std.proofs.lemmas.Nat.Bits.{bit_at-zero, bit_at_ones, same_from_bits_below}
use Rattle.std.proofs.lemmas.Option.{slice_get_within}
use Rattle.clone_chunk.specs.Chunks.{IsMarked, has_bit, is_kept, is_unfinished, is_whole, left_of, within}
use Rattle.clone_chunk.specs.Partials.{mask_of}
use Rattle.clone_chunk.specs.declared.chunk.Chunk.{Chunk}
use Rattle.clone_chunk.specs.declared.chunk.Chunk.TheVariants as chunk
use Rattle.clone_chunk.specs.declared.partials.PartialChunk.{PartialChunk}
use Rattle.clone_snapshot.specs.Resets.{IsReset}
use Rattle.clone_snapshot.specs.StageLists.{StageList, block_count, chunk_count}
use Rattle.clone_snapshot.proofs.CountLemmas.{has_blocks}
use Rattle.clone_snapshot.proofs.ResetLemmas.{marked, within_none}
use Rattle.clone_session.specs.Cloning.{Session}
use Rattle.clone_session.specs.Effects.{begun}
use Rattle.clone_rounds.specs.World.{Owner, Free}
use Rattle.clone_rounds.proofs.Puts.{find_below}
use Rattle.clone_view.specs.Donors.{AreOwned, Owns}
use Rattle.clone_paired.specs.Sessions.{AreChunks}
use Rattle.clone_paired.proofs.DonorMoves.{AreUnclaimed}

-- ---- a mask

-- a whole one has each block
pub whole_has : (mask blocks block : ℕ) → is_whole mask blocks ≡ true → block < blocks → is_kept (within mask blocks) block ≡ true
whole_has mask blocks block whole small =
    let all : within mask blocks + 1 ≡ 2 ^ blocks = eqb-true (within mask blocks + 1) (2 ^ blocks) whole in
    let is : within mask blocks ≡ 2 ^ blocks - 1 = omega (arith, all) in
    eq-eqb (bit_at (within mask blocks) block) 1 (ap (λ (n : ℕ). bit_at n block) is ∙ bit_at_ones blocks block small)

pub within_small : (mask blocks : ℕ) → mask < 2 ^ blocks → within mask blocks ≡ mask
within_small mask blocks small = mod-eq_of_lt small

pub within_less : (mask blocks : ℕ) → within mask blocks < 2 ^ blocks
within_less mask blocks = mod-lt mask (pow_pos blocks)

-- none is kept of nothing
pub none_kept : (block : ℕ) → is_kept 0 block ≡ false
none_kept block = ap (λ (n : ℕ). n == 1) (bit_at-zero block)

pub none_whole : (blocks : ℕ) → 0 < blocks → is_whole 0 blocks ≡ false
none_whole blocks some = false_from_ne_true (is_whole 0 blocks) (λ whole. both_ways (is_kept (within 0 blocks) 0) (ap (λ (n : ℕ). is_kept n 0) (within_none blocks) ∙ none_kept 0) (whole_has 0 blocks 0 whole some))

-- one that isn't whole lacks a block
pub record Lacks (mask blocks : ℕ) : Type 0 where
  pub block : ℕ
  pub there : block < blocks
  pub unkept : is_kept mask block ≡ false

pub lacks : (mask blocks : ℕ) → mask < 2 ^ blocks → is_whole mask blocks ≡ false → Lacks mask blocks
lacks mask blocks small partial = by (find_below (λ block. is_kept mask block ≡ false) decides blocks)
  where
    decides : (block : ℕ) → (is_kept mask block ≡ false) ⊎ (is_kept mask block ≡ false → ⊥)
    decides block = at (is_kept mask block) refl
      where
        at : (b : Bool) → is_kept mask block ≡ b → (is_kept mask block ≡ false) ⊎ (is_kept mask block ≡ false → ⊥)
        at true is = inr (λ none. both_ways (is_kept mask block) none is)
        at false is = inl is

    one : (block : ℕ) → (is_kept mask block ≡ false → ⊥) → bit_at mask block ≡ 1
    one block has = eqb-true (bit_at mask block) 1 (at (is_kept mask block) refl)
      where
        at : (b : Bool) → is_kept mask block ≡ b → is_kept mask block ≡ true
        at true is = is
        at false is = absurd (has is)

    by : ((block : ℕ) × (block < blocks) × (is_kept mask block ≡ false)) ⊎ ((block : ℕ) → block < blocks → is_kept mask block ≡ false → ⊥) → Lacks mask blocks
    by (inl found) = record { block = found.0; there = found.1; unkept = found.2 }
    by (inr none) =
        let some = pow_pos blocks in
        let full : mask ≡ 2 ^ blocks - 1 = same_from_bits_below blocks mask (2 ^ blocks - 1) small (omega arith) (λ b less. one b (none b less) ∙ sym (bit_at_ones blocks b less)) in
        let whole : is_whole mask blocks ≡ true = eq-eqb (within mask blocks + 1) (2 ^ blocks) (ap (λ (n : ℕ). n + 1) (within_small mask blocks small) ∙ omega (arith, full, some)) in
        absurd (both_ways (is_whole mask blocks) partial whole)

-- ---- chunks that were reset

or_true : (a b : Bool) → b ≡ true → (a || b) ≡ true
or_true true b is = refl
or_true false b is = is

or_none : (a b : Bool) → a ≡ false → b ≡ false → (a || b) ≡ false
or_none true b is other = is
or_none false b is other = other

no_bit : (i : ℕ) → has_bit [] i ≡ false
no_bit i = none_kept _

module _ (list : StageList) (bitmap : List ℕ) (partials : List PartialChunk) (s : Session) (is : s.snap.list ≡ list) (reset : IsReset list bitmap partials s.snap.chunks s.snap.kept) where
  abbrev blocks : ℕ → ℕ
  blocks i = block_count list i

  mask_past : (i : ℕ) → chunk_count list ≤ i → slice_index s.snap.kept i ≡ 0
  mask_past i past = get_or_past s.snap.kept i 0 (omega (arith, reset.masks, past))

  mask_less : (i : ℕ) → slice_index s.snap.kept i < 2 ^ blocks i
  mask_less i = by (cases_lt i (chunk_count list))
    where
      by : (i < chunk_count list) ⊎ (chunk_count list ≤ i) → slice_index s.snap.kept i < 2 ^ blocks i
      by (inl below) = subst (λ (n : ℕ). n < 2 ^ blocks i) (sym (reset.mask i below)) (within_less (mask_of partials i) (blocks i))
      by (inr past) = subst (λ (n : ℕ). n < 2 ^ blocks i) (sym (mask_past i past)) (pow_pos (blocks i))

  unfinished_partial : (i : ℕ) → i < chunk_count list → slice_get s.snap.chunks i ≢ Some chunk.Finished → is_whole (slice_index s.snap.kept i) (blocks i) ≡ false
  unfinished_partial i below other = by (is_whole (mask_of partials i) (blocks i)) refl
    where
      twice : within (slice_index s.snap.kept i) (blocks i) ≡ within (mask_of partials i) (blocks i)
      twice = within_small (slice_index s.snap.kept i) (blocks i) (mask_less i) ∙ reset.mask i below

      by : (whole : Bool) → is_whole (mask_of partials i) (blocks i) ≡ whole → is_whole (slice_index s.snap.kept i) (blocks i) ≡ false
      by false whole = ap (λ (n : ℕ). n + 1 == 2 ^ blocks i) twice ∙ whole
      by true whole = absurd (other (reset.chunk i below ∙ ap (λ (b : Bool). Some (if b then chunk.Finished else chunk.Free)) (or_true (has_bit bitmap i) (is_whole (mask_of partials i) (blocks i)) whole)))

  pub reset_chunks : AreChunks s.snap
  reset_chunks = record {
    count = reset.count ∙ ap chunk_count (sym is);
    masks = reset.masks ∙ ap chunk_count (sym is);
    within = λ i. subst (λ (l : StageList). slice_index s.snap.kept i < 2 ^ block_count l i) (sym is) (mask_less i);
    some = λ i below other. subst (λ (l : StageList). is_whole (slice_index s.snap.kept i) (block_count l i) ≡ false) (sym is) (unfinished_partial i (subst (λ (l : StageList). i < chunk_count l) is below) other);
  }

  pub reset_unclaimed : AreUnclaimed s
  reset_unclaimed i task claimed = by _ (sym (reset.chunk i (subst (λ (n : ℕ). i < n) reset.count (slice_get_within s.snap.chunks i (chunk.Claimed task) claimed))) ∙ claimed)
    where
      by : (b : Bool) → Some (if b then chunk.Finished else chunk.Free) ≡ Some (chunk.Claimed task) → ⊥
      by true e = cc (e)
      by false e = cc (e)

  -- a block by what its chunk is
  pub reset_owned : (owner : ℕ → Owner) (place : ℕ → ℕ → ℕ) → ((i block : ℕ) → i < chunk_count list → block < blocks i → Owns (is_kept (within (mask_of partials i) (blocks i)) block) (Some (if has_bit bitmap i || is_whole (mask_of partials i) (blocks i) then chunk.Finished else chunk.Free)) (owner (place i block))) → (i block : ℕ) → block < block_count s.snap.list i → Owns (is_kept (slice_index s.snap.kept i) block) (slice_get s.snap.chunks i) (owner (place i block))
  reset_owned owner place own i block small =
      let there : block < blocks i = subst (λ (l : StageList). block < block_count l i) is small in
      let below : i < chunk_count list = (has_blocks list i).0 (omega (arith, there)) in
      subst (λ (n : ℕ). Owns (is_kept n block) (slice_get s.snap.chunks i) (owner (place i block))) (sym (reset.mask i below))
      (subst (λ (o : Option Chunk). Owns (is_kept (within (mask_of partials i) (blocks i)) block) o (owner (place i block))) (sym (reset.chunk i below)) (own i block below there))

-- where the requester has nothing, each block is free
pub free_owned : (list : StageList) (s : Session) → s.snap.list ≡ list → IsReset list [] [] s.snap.chunks s.snap.kept → AreOwned s (λ place. Free)
free_owned list s is reset = reset_owned list [] [] s is reset (λ place. Free) (λ i block. 0) own
  where
    own : (i block : ℕ) → i < chunk_count list → block < block_count list i → Owns (is_kept (within 0 (block_count list i)) block) (Some (if has_bit [] i || is_whole 0 (block_count list i) then chunk.Finished else chunk.Free)) Free
    own i block below small =
        subst (λ (b : Bool). Owns b (Some (if has_bit [] i || is_whole 0 (block_count list i) then chunk.Finished else chunk.Free)) Free) (sym (ap (λ (n : ℕ). is_kept n block) (within_none (block_count list i)) ∙ none_kept block))
        (subst (λ (b : Bool). Owns false (Some (if b then chunk.Finished else chunk.Free)) Free) (sym (or_none (has_bit [] i) (is_whole 0 (block_count list i)) (no_bit i) (none_whole (block_count list i) ((has_blocks list i).1 below)))) refl)

-- ---- a stage that has just begun

get_free : (n i : ℕ) → i < n → slice_get (replicate n chunk.Free) i ≡ Some chunk.Free
get_free zero i h = absurd (omega (arith, h))
get_free (suc n) zero h = refl
get_free (suc n) (suc i) h = get_free n i (omega (arith, h))

pub begun_reset : (list : StageList) → IsReset list [] [] (begun list).chunks (begun list).kept
begun_reset list = marked list [] (begun list).chunks (begun list).chunks (begun list).kept count same (ap (λ (n : ℕ). replicate n 0) (sym count))
  where
    count : length (begun list).chunks ≡ chunk_count list
    count = length-replicate (chunk_count list) chunk.Free

    same : IsMarked [] (begun list).chunks (begun list).chunks
    same = record { count = refl; each = λ i less. get_free (chunk_count list) i (subst (λ (n : ℕ). i < n) count less) ∙ ap (λ (b : Bool). Some (if b then chunk.Finished else chunk.Free)) (sym (no_bit i)) }

-- ---- each chunk is finished

pub none_unfinished : (chunks : List Chunk) → ((i : ℕ) (c : Chunk) → slice_get chunks i ≡ Some c → c ≡ chunk.Finished) → left_of chunks ≡ 0
none_unfinished [] all = refl
none_unfinished (c ∷ chunks) all =
    let step = sum_by-cons (λ (y : Chunk). cond (is_unfinished y) 1 0) c chunks in
    let here : ◌≡◌ {A = ℕ} (cond (is_unfinished c) 1 0) 0 = ap (λ (y : Chunk). cond (is_unfinished y) 1 0) (all 0 c refl) in
    omega (arith, step, here, none_unfinished chunks (λ i y is. all (suc i) y is))
