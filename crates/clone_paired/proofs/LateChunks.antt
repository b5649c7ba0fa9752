-- THE CHUNKS of a session, once a stage begins, a later incarnation joins it, or one chunk is claimed or finished.
use Rattle.std.proofs.Common.{ℕ, ◌≡◌, ◌≢◌, ◌∙◌, ◌⊎◌, ◌+◌, ◌^◌, ◌<◌, ◌≤◌, List, Bool, true, false, if◌then◌else◌, Some, refl, sym, ap, subst, inl, inr, arith}
use Rattle.std.specs.Prelude.{replicate, slice_get, slice_index, slice_set, ◌==◌, ◌||◌, ◌%◌}
use Rattle.std.proofs.lemmas.Bool.{cases_eq, cases_lt, ne_eqb}
use Rattle.std.proofs.lemmas.List.{get_or-replicate, get_or_past, length-replicate, length-set}
use Rattle.std.proofs.lemmas.Nat.{mod_below, pow_below, pow_pos}
use Rattle.clone_base.proofs.MapEntries.{slice_get-set_other}
use Rattle.clone_chunk.specs.Chunks.{has_bit, is_whole, within}
use Rattle.clone_chunk.specs.Partials.{mask_of}
use Rattle.clone_chunk.specs.declared.chunk.Chunk.{Chunk}
use Rattle.clone_chunk.specs.declared.chunk.Chunk.TheVariants.{Finished, Free}
use Rattle.clone_chunk.specs.declared.partials.PartialChunk.{PartialChunk}
use Rattle.clone_snapshot.specs.Resets.{IsReset}
use Rattle.clone_snapshot.specs.Snaps.{Snap}
use Rattle.clone_snapshot.specs.StageLists.{StageList, block_count, chunk_count}
use Rattle.clone_snapshot.proofs.CountLemmas.{has_blocks}
use Rattle.clone_snapshot.proofs.ResetLemmas.{within_none}
use Rattle.clone_session.specs.Effects.{begun}
use Rattle.clone_paired.specs.Sessions.{AreChunks}
use Rattle.clone_paired.proofs.LateOwner.{small_mod}

none_mask : (count i : ℕ) → slice_index (replicate count 0) i ≡ 0
none_mask count i = by (cases_lt i count)
  where
    by : (i < count) ⊎ (count ≤ i) → slice_index (replicate count 0) i ≡ 0
    by (inl small) = get_or-replicate count i 0 0 small
    by (inr past) = let long = length-replicate {A = ℕ} count 0 in get_or_past (replicate count 0) i 0 (omega (arith, long, past))

-- no block is kept of a chunk that has some
not_whole : (count : ℕ) → 0 < count → is_whole 0 count ≡ false
not_whole count some =
    let none = within_none count in
    let more : 2 ^ 0 < 2 ^ count = pow_below 0 count some in
    ne_eqb (within 0 count + 1) (2 ^ count) (λ e. absurd (omega (arith, none, more, e)))

-- A STAGE has just begun.
pub begun_chunks : (list : StageList) (room : ℕ) → AreChunks (record (begun list) { room = room })
begun_chunks list room = record {
  count = length-replicate (chunk_count list) Free;
  masks = length-replicate (chunk_count list) 0;
  within = λ i. let some = pow_pos (block_count list i) in omega (arith, none_mask (chunk_count list) i, some);
  some = λ i small undone. ap (λ (m : ℕ). is_whole m (block_count list i)) (none_mask (chunk_count list) i) ∙ not_whole (block_count list i) ((has_blocks list i).1 small);
}

-- ---- it is reset

open_whole : (bit whole : Bool) → (if bit || whole then Finished else Free) ≢ Finished → whole ≡ false
open_whole true whole undone = absurd (undone refl)
open_whole false true undone = absurd (undone refl)
open_whole false false undone = refl

within_twice : (mask count : ℕ) → is_whole (within mask count) count ≡ is_whole mask count
within_twice mask count = let some = pow_pos count in ap (λ (m : ℕ). m + 1 == 2 ^ count) (small_mod (mask % 2 ^ count) (2 ^ count) (mod_below mask (2 ^ count) some))

pub reset_chunks : (bitmap : List ℕ) (partials : List PartialChunk) (snap : Snap) → IsReset snap.list bitmap partials snap.chunks snap.kept → AreChunks snap
reset_chunks bitmap partials snap reset = record {
  count = reset.count;
  masks = reset.masks;
  within = λ i. inside i (cases_lt i (chunk_count snap.list));
  some = λ i small undone.
      ap (λ (m : ℕ). is_whole m (block_count snap.list i)) (reset.mask i small) ∙ within_twice (mask_of partials i) (block_count snap.list i)
      ∙ open_whole (has_bit bitmap i) (is_whole (mask_of partials i) (block_count snap.list i)) (λ done. undone (reset.chunk i small ∙ ap (λ (c : Chunk). Some c) done));
}
  where
    inside : (i : ℕ) → (i < chunk_count snap.list) ⊎ (chunk_count snap.list ≤ i) → slice_index snap.kept i < 2 ^ block_count snap.list i
    inside i (inl small) =
        let some = pow_pos (block_count snap.list i) in
        subst (λ (m : ℕ). m < 2 ^ block_count snap.list i) (sym (reset.mask i small)) (mod_below (mask_of partials i) (2 ^ block_count snap.list i) some)
    inside i (inr past) =
        let some = pow_pos (block_count snap.list i) in
        omega (arith, get_or_past snap.kept i 0 (omega (arith, past, reset.masks)), some)

-- ---- one chunk has changed

-- A chunk that isn't finished has got a new state.
pub set_chunks : (snap : Snap) (i : ℕ) (old new : Chunk) → AreChunks snap → slice_get snap.chunks i ≡ Some old → old ≢ Finished → AreChunks (record snap { chunks = slice_set snap.chunks i new })
set_chunks snap i old new are is undone = record {
  count = length-set snap.chunks i new ∙ are.count;
  masks = are.masks;
  within = are.within;
  some = λ j small unfinished. by j small unfinished (cases_eq j i);
}
  where
    by : (j : ℕ) → j < chunk_count snap.list → slice_get (slice_set snap.chunks i new) j ≢ Some Finished → (j ≡ i) ⊎ (j ≢ i) → is_whole (slice_index snap.kept j) (block_count snap.list j) ≡ false
    by j small unfinished (inl same) = are.some j small (λ done. undone (cc (is, ap (slice_get snap.chunks) same, done)))
    by j small unfinished (inr other) = are.some j small (λ done. unfinished (slice_get-set_other snap.chunks i j new other ∙ done))
