-- A bit for each chunk. Bit i stands in byte i / 8 with the value 2 ^ (i mod 8).
use Rattle.std.specs.Prelude.{ℕ, ◌≡◌, ◌≤◌, ◌-◌, ◌+◌, ◌*◌, ◌/◌, ◌^◌, Bool, IsTrue, List, length}
use Rattle.std.specs.Prelude.{nat_lt, slice_index}
use Rattle.clone_chunk.specs.declared.bitmap.TheConstants.{MOST_CHUNKS}

pub record Bits : Type 0 where
  pub count : ℕ
  pub bytes : List ℕ

-- as many bytes as so many bits fill, the last of them perhaps not wholly
abbrev pub HasLength : ℕ → List ℕ → Type 0
HasLength count bytes = length bytes ≡ (count + 7) / 8

-- no bit from the count on is set in the last byte
abbrev pub ends_at : ℕ → List ℕ → Bool
ends_at count bytes =
    nat_lt (slice_index bytes (length bytes - 1)) (2 ^ (count - 8 * (length bytes - 1)))

pub record IsBitmap (count : ℕ) (bytes : List ℕ) : Type 0 where
  pub few : count ≤ MOST_CHUNKS
  pub long : HasLength count bytes
  pub end : IsTrue (ends_at count bytes)
