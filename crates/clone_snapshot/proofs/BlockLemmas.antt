-- The array of a block of pages.
use Rattle.std.proofs.Common.{ℕ, ◌≡◌, ◌≤◌, ◌++◌, List, length, drop, replicate, arith, ◌∙◌, length-append}
use Rattle.std.proofs.lemmas.List.{drop_at, drop-replicate, length-drop, length-replicate}
use Rattle.clone_snapshot.specs.Blocks.{IsFilled}

-- pages written over the front of zeros
pub filled_front : (pages : List (ℕ × ℕ)) (count : ℕ) → length pages ≡ count → count ≤ 8 → IsFilled (pages ++ drop count (replicate 8 (0, 0))) count
filled_front pages count long few = record {
  few = few;
  size = simp (length-append, length-drop, length-replicate) (omega arith);
  behind = drop_at pages (drop count (replicate 8 (0, 0))) count long ∙ drop-replicate count 8 (0, 0);
}
