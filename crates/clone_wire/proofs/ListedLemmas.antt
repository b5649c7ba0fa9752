-- Partial chunks that were listed one after the other are those that a list may have.
use Rattle.std.proofs.Common.{◌≡◌, ℕ, suc, ◌+◌, ◌<◌, ◌≤◌, false, List, [], ◌∷◌, length, get_or, All, AllPairs, arith}
use Rattle.std.proofs.lemmas.List.Elements.{All-nil, All-cons, All-head, All-tail, All-weaker}
use Rattle.std.proofs.lemmas.List.Kept.{AllPairs-cons}
use Rattle.clone_chunk.specs.declared.partials.PartialChunk.{PartialChunk}
use Rattle.clone_chunk.specs.Chunks.{has_bit}
use Rattle.clone_chunk.specs.Partials.{IsMask, AreUnset}
use Rattle.clone_wire.specs.Ranges.{AllAre, IsChunkNumber, AreListed}

abbrev From : ℕ → PartialChunk → Type 0
From from p = from ≤ p.chunk

abbrev pub Below : PartialChunk → PartialChunk → Type 0
Below p q = p.chunk < q.chunk

abbrev pub HasMask : PartialChunk → Type 0
HasMask p = IsMask p.mask

abbrev IsUnset : List ℕ → PartialChunk → Type 0
IsUnset bitmap p = has_bit bitmap p.chunk ≡ false

-- ---- what was listed

listed_from : (bitmap : List ℕ) (from : ℕ) (xs : List PartialChunk) → AreListed bitmap from xs → All (From from) xs
listed_from bitmap from [] are = All-nil (From from)
listed_from bitmap from (x ∷ xs) are = All-cons (From from) x xs are.0.next.low (All-weaker (From (x.chunk + 1)) (From from) (λ y above. let low = are.0.next.low in omega arith) xs (listed_from bitmap (x.chunk + 1) xs are.1))

pub listed_ascend : (bitmap : List ℕ) (from : ℕ) (xs : List PartialChunk) → AreListed bitmap from xs → AllPairs Below xs
listed_ascend bitmap from [] are = λ i j d less within. absurd (omega arith)
listed_ascend bitmap from (x ∷ xs) are =
    AllPairs-cons Below x xs (All-weaker (From (x.chunk + 1)) (Below x) (λ y above. omega arith) xs (listed_from bitmap (x.chunk + 1) xs are.1)) (listed_ascend bitmap (x.chunk + 1) xs are.1)

pub listed_masks : (bitmap : List ℕ) (from : ℕ) (xs : List PartialChunk) → AreListed bitmap from xs → All HasMask xs
listed_masks bitmap from [] are = All-nil HasMask
listed_masks bitmap from (x ∷ xs) are = All-cons HasMask x xs are.0.mask (listed_masks bitmap (x.chunk + 1) xs are.1)

pub listed_numbers : (bitmap : List ℕ) (from : ℕ) (xs : List PartialChunk) → AreListed bitmap from xs → AllAre IsChunkNumber xs
listed_numbers bitmap from [] are = tt
listed_numbers bitmap from (x ∷ xs) are = (let high = are.0.next.high in omega arith, listed_numbers bitmap (x.chunk + 1) xs are.1)

pub listed_unset : (bitmap : List ℕ) (from : ℕ) (xs : List PartialChunk) → AreListed bitmap from xs → AreUnset bitmap xs
listed_unset bitmap from [] are = All-nil (IsUnset bitmap)
listed_unset bitmap from (x ∷ xs) are = All-cons (IsUnset bitmap) x xs are.0.next.unset (listed_unset bitmap (x.chunk + 1) xs are.1)

-- ---- what may be listed

tail_ascends : (x : PartialChunk) (xs : List PartialChunk) → AllPairs Below (x ∷ xs) → AllPairs Below xs
tail_ascends x xs up i j d less within = up (suc i) (suc j) d (omega arith) (omega arith)

first_below : (x : PartialChunk) (xs : List PartialChunk) → AllPairs Below (x ∷ xs) → All (From (x.chunk + 1)) xs
first_below x xs up k d within = let below : x.chunk < (get_or xs k d).chunk = up 0 (suc k) d (omega arith) (omega arith) in omega arith

-- so many greater numbers fit after the first
room_after : (x : PartialChunk) (xs : List PartialChunk) → AllPairs Below (x ∷ xs) → AllAre IsChunkNumber (x ∷ xs) → x.chunk + length xs ≤ 0xFFFFFFFF
room_after x [] up are = let small = are.0 in omega arith
room_after x (y ∷ ys) up are =
    let next = room_after y ys (tail_ascends x (y ∷ ys) up) are.1 in
    let above = All-head (From (x.chunk + 1)) y ys (first_below x (y ∷ ys) up) in
    omega arith

pub are_listed : (bitmap : List ℕ) (from : ℕ) (xs : List PartialChunk) → All (From from) xs → AllPairs Below xs → All HasMask xs → AllAre IsChunkNumber xs → AreUnset bitmap xs → AreListed bitmap from xs
are_listed bitmap from [] above up masks numbers unset = tt
are_listed bitmap from (x ∷ xs) above up masks numbers unset = (
  record {
    next = record { low = All-head (From from) x xs above; high = room_after x xs up numbers; unset = All-head (IsUnset bitmap) x xs unset };
    mask = All-head HasMask x xs masks;
  },
  are_listed bitmap (x.chunk + 1) xs (first_below x xs up) (tail_ascends x xs up) (All-tail HasMask x xs masks) numbers.1 (All-tail (IsUnset bitmap) x xs unset),
)
