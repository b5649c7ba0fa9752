-- The last block that is sent of a chunk.
use Rattle.std.proofs.Common.{◌≡◌, ◌↔◌, ℕ, ◌+◌, ◌<◌, ◌==◌, List, true, false, sym, ap, ◌∙◌, arith, inl, inr}
use Rattle.std.specs.List.{slice_index}
use Rattle.std.proofs.lemmas.Bool.{cases_eq}
use Rattle.std.proofs.lemmas.Nat.Bits.{bit_at-zero}
use Rattle.clone_chunk.specs.Chunks.{is_kept}
use Rattle.clone_snapshot.specs.StageLists.{StageList, block_count}
use Rattle.clone_snapshot.specs.Resets.{IsLast}

-- where none is kept, it is the one with the greatest number
pub last_of_all : (list : StageList) (kept : List ℕ) (chunk block : ℕ) → slice_index kept chunk ≡ 0 → IsLast list kept chunk block ↔ (block + 1 ≡ block_count list chunk)
last_of_all list kept chunk block none = (greatest, λ same. record { there = omega arith; later = λ b above below. absurd (omega arith) })
  where
    greatest : IsLast list kept chunk block → block + 1 ≡ block_count list chunk
    greatest last =
        elim (cases_eq (block + 1) (block_count list chunk)) [
          | inl same ↦ same
          | inr other ↦
              let there = last.there in
              let kept_so : is_kept (slice_index kept chunk) (block + 1) ≡ true = last.later (block + 1) (omega arith) (omega arith) in
              let free : is_kept (slice_index kept chunk) (block + 1) ≡ false = ap (λ m. is_kept m (block + 1)) none ∙ ap (λ b. b == 1) (bit_at-zero (block + 1)) in
              absurd (let wrong : true ≡ false = sym kept_so ∙ free in cc)
        ]
