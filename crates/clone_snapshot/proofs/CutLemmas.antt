-- The pieces that a part is cut into.
use Rattle.std.proofs.Common.{ℕ, ◌≡◌, ◌+◌, ◌*◌, ◌<◌, ◌≤◌, length, Some, None, arith, ap, ◌∙◌, inl, inr}
use Rattle.std.specs.List.{slice_get}
use Rattle.std.specs.Int.{div_ceil}
use Rattle.std.proofs.lemmas.Bool.{cases_lt}
use Rattle.std.proofs.lemmas.Grind.{div_ceil_times}
use Rattle.std.proofs.lemmas.List.FromFn.{length-map-range_with_len, get_or-map-range_with_len}
use Rattle.std.proofs.lemmas.Nat.{mul-le}
use Rattle.std.proofs.lemmas.Option.{slice_get-get_or, slice_get_past}
use Rattle.clone_snapshot.specs.StageLists.{Part, size_of, piece, cut}

-- a piece begins within the whole exactly where it is one of the pieces
pub is_piece : (n size i : ℕ) → 0 < size → size * i < n → i < div_ceil n size
is_piece n size i some within =
    elim (cases_lt i (div_ceil n size)) [
      | inl below ↦ below
      | inr past ↦ absurd (omega (arith, div_ceil_times n size some, mul-le (div_ceil n size) size i size past (omega arith)))
    ]

pub is_past : (n size i : ℕ) → 0 < size → n ≤ size * i → div_ceil n size ≤ i
is_past n size i some past =
    elim (cases_lt i (div_ceil n size)) [
      | inl below ↦ absurd (omega (arith, div_ceil_times n size some, mul-le (i + 1) size (div_ceil n size) size (omega arith) (omega arith)))
      | inr beyond ↦ beyond
    ]

pub length-cut : (size : ℕ) (part : Part) → length (cut size part) ≡ div_ceil (size_of part) size
length-cut size part = length-map-range_with_len (piece size part) 0 (div_ceil (size_of part) size)

pub piece_at : (size : ℕ) (part : Part) (i : ℕ) → 0 < size → size * i < size_of part → slice_get (cut size part) i ≡ Some (piece size part i)
piece_at size part i some within =
    let count = div_ceil (size_of part) size in
    let below : i < count = is_piece (size_of part) size i some within in
    let here = get_or-map-range_with_len (piece size part) 0 count i i (piece size part i) below (omega arith) in
    slice_get-get_or (cut size part) i (piece size part i) (omega (arith, below, length-cut size part)) ∙ ap (λ p. Some p) here

pub no_piece : (size : ℕ) (part : Part) (i : ℕ) → 0 < size → size_of part ≤ size * i → slice_get (cut size part) i ≡ None
no_piece size part i some past =
    slice_get_past (cut size part) i (omega (arith, length-cut size part, is_past (size_of part) size i some past))
