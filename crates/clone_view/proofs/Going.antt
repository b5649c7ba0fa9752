-- What an EXECUTE goes on with: the blocks that are left of its chunk.
use Rattle.std.proofs.Common.{◌≡◌, ◌≢◌, ◌<◌, ◌≤◌, ◌+◌, ◌-◌, ◌/◌, ◌%◌, ◌^◌, ℕ, zero, suc, true, false, cond, ◌∷◌, Some, sym, ap, ◌∙◌, arith, inl, inr, ◌⊎◌}
use Rattle.std.specs.Prelude.{nat_lt, min, ◌==◌, if◌then◌else◌}
use Rattle.std.specs.Int.{bit_at, trailing_ones, w8}
use Rattle.std.proofs.lemmas.Bool.{cases_eq, cases_lt, lt-ltb, le-ltb, eq-eqb}
use Rattle.std.proofs.lemmas.Nat.{shr-shr, shr_le}
use Rattle.std.proofs.lemmas.Nat.Bits.{bit_at-trailing_ones}
use Rattle.clone_chunk.specs.Chunks.{is_kept}
use Rattle.clone_chunk.specs.Stages.{copy_number}
use Rattle.clone_snapshot.specs.StageLists.{StageList, block_count}
use Rattle.clone_marks.specs.Counts.{block_counts}
use Rattle.clone_serve.specs.Following.{next_block, work_at, work_after}
use Rattle.clone_serve.specs.declared.doing.Doing.TheVariants as doing
use Rattle.clone_serve.specs.declared.doing.Execution.{Execution}
use Rattle.clone_serve.specs.declared.doing.Place.{Place}
use Rattle.clone_rounds.specs.World.{Serving}
use Rattle.clone_view.specs.Rows.{place_of, left_from}
use Rattle.clone_view.specs.Donors.{core_of}

-- blocks that are kept are passed over
skips : (first kept from count next : ℕ) → from ≤ next → ((i : ℕ) → from ≤ i → i < next → is_kept kept i ≡ true) → left_from first kept from count ≡ left_from first kept next (from + count - next)
skips first kept from zero next low all = let none : from + 0 - next ≡ 0 = omega (arith, low) in sym (ap (left_from first kept next) none)
skips first kept from (suc count) next low all = at (cases_eq from next) (λ h. skips first kept (from + 1) count next h (λ i g. all i (omega (arith, g))))
  where
    at : (from ≡ next) ⊎ (from ≢ next) → (from + 1 ≤ next → left_from first kept (from + 1) count ≡ left_from first kept next (from + 1 + count - next)) → left_from first kept from (suc count) ≡ left_from first kept next (from + suc count - next)
    at (inl same) again = let all_of : from + suc count - next ≡ suc count = omega (arith, same) in ap (λ x. left_from first kept x (suc count)) same ∙ sym (ap (left_from first kept next) all_of)
    at (inr other) again =
        let less : from < next = omega (arith, low, other) in
        let rest : from + 1 + count - next ≡ from + suc count - next = omega arith in
        ap (λ b. if b then left_from first kept (from + 1) count else ((first + from) ∷ left_from first kept (from + 1) count)) (all from (omega arith) less) ∙ again (omega (arith, less)) ∙ ap (left_from first kept next) rest

bit_after : (kept from i : ℕ) → bit_at (kept / 2 ^ from) i ≡ bit_at kept (from + i)
bit_after kept from i = ap (λ n. n % 2) (shr-shr kept from i)

pub next_is : (kept from : ℕ) → kept < 255 → (from ≤ next_block kept from) × ((i : ℕ) → from ≤ i → i < next_block kept from → is_kept kept i ≡ true)
unfolding next_block
next_is kept from few = at (cases_lt from 8)
  where
    small : kept / 2 ^ from + 1 < 2 ^ 8
    small = let less : kept / 2 ^ from ≤ kept = shr_le kept from in omega (arith, less, few)

    each : (i : ℕ) → from ≤ i → i < from + trailing_ones w8 (kept / 2 ^ from) → is_kept kept i ≡ true
    each i above below =
        let here : bit_at (kept / 2 ^ from) (i - from) ≡ 1 = (bit_at-trailing_ones w8 (kept / 2 ^ from) small).2 (i - from) (omega (arith, above, below)) in
        let place : from + (i - from) ≡ i = omega (arith, above) in
        let bit : bit_at kept i ≡ 1 = sym (ap (bit_at kept) place) ∙ sym (bit_after kept from (i - from)) ∙ here in
        eq-eqb (bit_at kept i) 1 bit

    at : (from < 8) ⊎ (8 ≤ from) → (from ≤ cond (nat_lt from 8) (from + trailing_ones w8 (kept / 2 ^ from)) from) × ((i : ℕ) → from ≤ i → i < cond (nat_lt from 8) (from + trailing_ones w8 (kept / 2 ^ from)) from → is_kept kept i ≡ true)
    at (inl low) = rw (lt-ltb from 8 low) (omega arith, each)
    at (inr past) = rw (le-ltb from 8 past) (omega arith, λ i above below. absurd (omega (arith, above, below)))

-- and that block isn't kept
pub next_unkept : (kept from : ℕ) → kept < 255 → from < 8 → is_kept kept (next_block kept from) ≡ false
unfolding next_block
next_unkept kept from few low = rw (lt-ltb from 8 low) here
  where
    small : kept / 2 ^ from + 1 < 2 ^ 8
    small = let less : kept / 2 ^ from ≤ kept = shr_le kept from in omega (arith, less, few)

    clear : bit_at kept (from + trailing_ones w8 (kept / 2 ^ from)) ≡ 0
    clear = sym (bit_after kept from (trailing_ones w8 (kept / 2 ^ from))) ∙ (bit_at-trailing_ones w8 (kept / 2 ^ from) small).1

    here : is_kept kept (from + trailing_ones w8 (kept / 2 ^ from)) ≡ false
    here = ap (λ n. n == 1) clear

pub work_begins : (list : StageList) (run : Execution) (i kept : ℕ) → kept < 255 → core_of list (doing.Serving run (work_at i kept 0)) ≡ Some (Serving (copy_number run.stage) (left_from (place_of (block_counts list) i 0) kept 0 (block_count list i)))
work_begins list run i kept few =
    let next : (0 ≤ next_block kept 0) × ((j : ℕ) → 0 ≤ j → j < next_block kept 0 → is_kept kept j ≡ true) = next_is kept 0 few in
    let plain : 0 + block_count list i - next_block kept 0 ≡ block_count list i - next_block kept 0 = omega arith in
    ap (λ xs. Some (Serving (copy_number run.stage) xs)) (sym (skips (place_of (block_counts list) i 0) kept 0 (block_count list i) (next_block kept 0) next.0 next.1 ∙ ap (left_from (place_of (block_counts list) i 0) kept (next_block kept 0)) plain))

pub work_goes_on : (list : StageList) (run : Execution) (place : Place) → place.kept < 255 → place.block < block_count list place.chunk → block_count list place.chunk ≤ 8 → core_of list (doing.Serving run (work_after place false)) ≡ Some (Serving (copy_number run.stage) (left_from (place_of (block_counts list) place.chunk 0) place.kept (place.block + 1) (block_count list place.chunk - place.block - 1)))
work_goes_on list run place few there short =
    let from : min (place.block + 1) 255 ≡ place.block + 1 = omega (arith, there, short) in
    let next : (place.block + 1 ≤ next_block place.kept (place.block + 1)) × ((j : ℕ) → place.block + 1 ≤ j → j < next_block place.kept (place.block + 1) → is_kept place.kept j ≡ true) = next_is place.kept (place.block + 1) few in
    let plain : place.block + 1 + (block_count list place.chunk - place.block - 1) - next_block place.kept (place.block + 1) ≡ block_count list place.chunk - next_block place.kept (place.block + 1) = omega (arith, there) in
    ap (λ b. core_of list (doing.Serving run (work_at place.chunk place.kept b))) from ∙ ap (λ xs. Some (Serving (copy_number run.stage) xs)) (sym (skips (place_of (block_counts list) place.chunk 0) place.kept (place.block + 1) (block_count list place.chunk - place.block - 1) (next_block place.kept (place.block + 1)) next.0 next.1 ∙ ap (left_from (place_of (block_counts list) place.chunk 0) place.kept (next_block place.kept (place.block + 1))) plain))

pub work_ends : (list : StageList) (run : Execution) (place : Place) → ((j : ℕ) → place.block < j → j < block_count list place.chunk → is_kept place.kept j ≡ true) → core_of list (doing.Serving run (work_after place true)) ≡ Some (Serving (copy_number run.stage) (left_from (place_of (block_counts list) place.chunk 0) place.kept (place.block + 1) (block_count list place.chunk - place.block - 1)))
work_ends list run place later =
    let count : ℕ = block_count list place.chunk - place.block - 1 in
    let over : place.block + 1 + (block_count list place.chunk - place.block - 1) - (place.block + 1 + (block_count list place.chunk - place.block - 1)) ≡ 0 = omega arith in
    ap (λ xs. Some (Serving (copy_number run.stage) xs)) (sym (skips (place_of (block_counts list) place.chunk 0) place.kept (place.block + 1) (block_count list place.chunk - place.block - 1) (place.block + 1 + (block_count list place.chunk - place.block - 1)) (omega arith) (λ j above below. later j (omega (arith, above)) (omega (arith, above, below))) ∙ ap (left_from (place_of (block_counts list) place.chunk 0) place.kept (place.block + 1 + (block_count list place.chunk - place.block - 1))) over))
