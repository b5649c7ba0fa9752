-- How many blocks a chunk has.
use Rattle.std.proofs.Common.{ℕ, ◌≡◌, ◌<◌, ◌≤◌, ◌↔◌, [], length, Some, None, arith, ap, inl, inr}
use Rattle.std.specs.List.{slice_get}
use Rattle.std.specs.Option.{option_map_or}
use Rattle.std.proofs.lemmas.Bool.{cases_lt}
use Rattle.std.proofs.lemmas.Option.{slice_get-get_or, slice_get_past}
use Rattle.clone_chunk.specs.declared.masks.TheConstants.{CHUNK_BLOCKS}
use Rattle.clone_snapshot.specs.StageLists.{StageList, Part, PagePart, RedoPart, chunks_of, chunk_count, blocks_of, block_count}
use Rattle.clone_snapshot.proofs.CutLemmas.{length-cut}
use Rattle.clone_snapshot.proofs.EachBlock.{IsChunkSized, chunk_sized}
use Rattle.clone_snapshot.proofs.JoinLemmas.{length-chunks}
use Rattle.std.proofs.Common.{get_or}

-- a chunk has at least one, and at most eight of pages or four of redo
counted : (part : Part) → IsChunkSized part → (0 < length (blocks_of part)) × (length (blocks_of part) ≤ CHUNK_BLOCKS)
counted (PagePart pages) sized = (omega (arith, sized.0, length-cut 8 (PagePart pages)), omega (arith, sized.1, length-cut 8 (PagePart pages)))
counted (RedoPart from count) sized = (omega (arith, sized.0, length-cut 16384 (RedoPart from count)), omega (arith, sized.1, length-cut 16384 (RedoPart from count)))

within : (list : StageList) (chunk : ℕ) → chunk < chunk_count list → (0 < block_count list chunk) × (block_count list chunk ≤ CHUNK_BLOCKS)
within list chunk below =
    let part = get_or (chunks_of list) chunk (RedoPart 0 0) in
    let here : slice_get (chunks_of list) chunk ≡ Some part = slice_get-get_or (chunks_of list) chunk (RedoPart 0 0) (omega (arith, below, length-chunks list)) in
    let same : block_count list chunk ≡ length (blocks_of part) = ap (λ o. length (option_map_or blocks_of o [])) here in
    let count = counted part (chunk_sized list chunk part here) in
    (omega (arith, same, count.0), omega (arith, same, count.1))

past : (list : StageList) (chunk : ℕ) → chunk_count list ≤ chunk → block_count list chunk ≡ 0
past list chunk beyond =
    let none : slice_get (chunks_of list) chunk ≡ None = slice_get_past (chunks_of list) chunk (omega (arith, beyond, length-chunks list)) in
    ap (λ o. length (option_map_or blocks_of o [])) none

pub has_blocks : (list : StageList) (chunk : ℕ) → (0 < block_count list chunk) ↔ (chunk < chunk_count list)
has_blocks list chunk = (some, λ below. (within list chunk below).0)
  where
    some : 0 < block_count list chunk → chunk < chunk_count list
    some blocks =
        elim (cases_lt chunk (chunk_count list)) [
          | inl below ↦ below
          | inr beyond ↦ absurd (omega (arith, blocks, past list chunk beyond))
        ]

pub few_blocks : (list : StageList) (chunk : ℕ) → block_count list chunk ≤ CHUNK_BLOCKS
few_blocks list chunk =
    elim (cases_lt chunk (chunk_count list)) [
      | inl below ↦ (within list chunk below).1
      | inr beyond ↦ omega (arith, past list chunk beyond)
    ]
