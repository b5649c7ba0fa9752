-- The redo on a recipient's disk.
use Rattle.std.proofs.Common.{◌≡◌, ◌<◌, ◌≤◌, ◌+◌, ◌-◌, ◌*◌, ◌/◌, ◌%◌, ◌⊎◌, zero, suc, [], ◌++◌, ℕ, List, Some, length, map, min, refl, sym, ap, ◌∙◌, arith, append_assoc, inl, inr}
use Rattle.std.specs.Prelude.{replicate, slice_get, take, drop}
use Rattle.std.specs.List.{range_with_len}
use Rattle.std.specs.Option.{option_map_or}
use Rattle.std.proofs.lemmas.Bool.{cases_lt}
use Rattle.std.proofs.lemmas.Grind.{div_ceil_times}
use Rattle.std.proofs.lemmas.List.{append-nil, drop-drop, drop_all, length-drop, length-take-le, take-append-drop, take_all}
use Rattle.clone_outside.specs.declared.disk.Held.{Held}
use Rattle.clone_overlay.specs.Images.{bytes_of}
use Rattle.clone_lay.specs.declared.laying.TheConstants.{REDO_BLOCK}
use Rattle.clone_outside.specs.Disk.{whole}
use Rattle.clone_lay.specs.Redo.{filled, pages_for, redo_block, redo_page, redo_pages}
use Rattle.clone_recover.specs.Reading.{joined}
use Rattle.clone_recover.proofs.JoinedPageLemmas.{take_front}
use Rattle.clone_snapshot.specs.StageLists.{Part, Redo, RedoPart, block_count, block_of, blocks_of, chunks_of, piece}
use Rattle.clone_snapshot.proofs.CutLemmas.{piece_at}
use Rattle.clone_standing.specs.Latest.{redo_number}
use Rattle.clone_standing.proofs.PlaceLemmas.{is_counted, of_chunk, of_cut}

-- a block of a chunk begins at its number
pub block_number : (start end chunk block from count : ℕ) → start ≤ end → block_of (Redo start end) chunk block ≡ Some (RedoPart from count)
    → (from ≡ start + REDO_BLOCK * redo_number chunk block) × (REDO_BLOCK * redo_number chunk block < end - start) × (count ≡ min REDO_BLOCK (end - start - REDO_BLOCK * redo_number chunk block))
block_number start end chunk block from count ordered is =
    let (whole, there, here) = of_chunk (slice_get (chunks_of (Redo start end)) chunk) block (RedoPart from count) is in
    let outer = of_cut 65536 (RedoPart start (end - start)) chunk whole (omega arith) there in
    let first : ℕ = start + 65536 * chunk in
    let long : ℕ = min 65536 (end - start - 65536 * chunk) in
    let inside : slice_get (blocks_of (RedoPart first long)) block ≡ Some (RedoPart from count) = ap (λ p. slice_get (blocks_of p) block) outer.1 ∙ here in
    let inner = of_cut 16384 (RedoPart first long) block (RedoPart from count) (omega arith) inside in
    let from_is : first + 16384 * block ≡ from = cc in
    let count_is : min 16384 (long - 16384 * block) ≡ count = cc in
    (omega (arith, from_is), omega (arith, outer.0, inner.0), omega (arith, outer.0, inner.0, count_is))

-- and each number is that of a block
pub numbered : (start end k : ℕ) → REDO_BLOCK * k < end - start → k % 4 < block_count (Redo start end) (k / 4)
numbered start end k within =
    let chunk : ℕ = k / 4 in
    let block : ℕ = k % 4 in
    let whole : Part = piece 65536 (RedoPart start (end - start)) chunk in
    let there = piece_at 65536 (RedoPart start (end - start)) chunk (omega arith) (omega (arith, within)) in
    let here = piece_at 16384 whole block (omega arith) (omega (arith, within)) in
    is_counted (Redo start end) chunk block (piece 16384 whole block) (ap (λ o. slice_get (option_map_or blocks_of o []) block) there ∙ here)

-- bytes that are so many as a block has are the block's
pub is_block : (redo : List ℕ) (k count most : ℕ) → length redo ≤ most → REDO_BLOCK * k < most → count ≡ min REDO_BLOCK (most - REDO_BLOCK * k) → REDO_BLOCK * k + count ≤ length redo → take count (drop (REDO_BLOCK * k) redo) ≡ redo_block redo k
is_block redo k count most few within count_is there =
    let back : List ℕ = drop (16384 * k) redo in
    let long : length back ≡ length redo - 16384 * k = length-drop (16384 * k) redo in
    elim (cases_lt count 16384) [
      | inl less ↦ take_all count back (omega (arith, long, few, count_is, less, there)) ∙ sym (take_all 16384 back (omega (arith, long, few, count_is, less, there)))
      | inr all ↦ (let same : count ≡ 16384 = omega (arith, all, count_is) in ap (λ (n : ℕ). take n back) same)
    ]

-- bytes, and others behind them
record Front (bytes whole : List ℕ) : Type 0 where
  behind : List ℕ
  is : whole ≡ bytes ++ behind

-- the redo pages from one on, and the bytes from its first one on in front of them
abbrev pages_from : List ℕ → ℕ → ℕ → List Held
pages_from redo a n = map (λ number. whole (redo_page redo number)) (range_with_len a n)

full : (xs : List ℕ) → 4096 ≤ length xs → filled (take 4096 xs) ≡ take 4096 xs
full xs le =
    let none : 4096 - length (take 4096 xs) ≡ 0 = omega (arith, length-take-le 4096 xs le) in
    ap (λ (n : ℕ). take 4096 xs ++ replicate n 0) none ∙ append-nil (take 4096 xs)

from_page : (redo : List ℕ) (n a : ℕ) → length redo ≤ 4096 * (a + n) → Front (drop (4096 * a) redo) (joined (bytes_of (pages_from redo a n)))
from_page redo zero a le = record { behind = []; is = sym (ap (λ (xs : List ℕ). xs ++ []) (drop_all (4096 * a) redo (omega (arith, le)))) }
from_page redo (suc n) a le = at (cases_lt (length xs) 4096) (from_page redo n (a + 1) (omega (arith, le)))
  where
    xs : List ℕ
    xs = drop (4096 * a) redo

    rest : List ℕ
    rest = joined (bytes_of (pages_from redo (a + 1) n))

    at : (length xs < 4096) ⊎ (4096 ≤ length xs) → Front (drop (4096 * (a + 1)) redo) rest → Front xs (redo_page redo a ++ rest)
    at (inl low) more = record {
      behind = replicate (4096 - length (take 4096 xs)) 0 ++ rest;
      is =
          append_assoc (take 4096 xs) (replicate (4096 - length (take 4096 xs)) 0) rest
          ∙ ap (λ (ys : List ℕ). ys ++ (replicate (4096 - length (take 4096 xs)) 0 ++ rest)) (take_all 4096 xs (omega (arith, low)));
    }
    at (inr high) more =
        let next : drop (4096 * (a + 1)) redo ≡ drop 4096 xs =
        (let e : 4096 * (a + 1) ≡ 4096 * a + 4096 = omega arith in ap (λ (k : ℕ). drop k redo) e ∙ sym (drop-drop 4096 (4096 * a) redo)) in
        record {
          behind = more.behind;
          is =
              ap (λ (ys : List ℕ). ys ++ rest) (full xs high) ∙ ap (λ (ys : List ℕ). take 4096 xs ++ ys) (more.is ∙ ap (λ (ys : List ℕ). ys ++ more.behind) next)
              ∙ sym (append_assoc (take 4096 xs) (drop 4096 xs) more.behind) ∙ ap (λ (ys : List ℕ). ys ++ more.behind) (take-append-drop 4096 xs);
        }

-- the first bytes of all redo pages are the redo
pub first_bytes : (redo : List ℕ) → take (length redo) (joined (bytes_of (redo_pages redo))) ≡ redo
first_bytes redo =
    let bounds = div_ceil_times (length redo) 4096 (omega arith) in
    let all = from_page redo (pages_for (length redo)) 0 (omega (arith, bounds.0)) in
    ap (take (length redo)) all.is ∙ take_front redo all.behind (length redo) refl
