-- Parts of a list of bytes. Numbers are big-endian.
use Rattle.std.specs.Prelude.{ℕ, ◌+◌, List, ◌++◌, length, take, drop}
use Rattle.byteorder.specs.Endian.{big_number}

-- n bytes from an offset on
abbrev pub part : ℕ → ℕ → List ℕ → List ℕ
part at n bytes = take n (drop at bytes)

-- the number in n bytes from an offset on
abbrev pub field : ℕ → ℕ → List ℕ → ℕ
field at n bytes = big_number n (drop at bytes)

-- these bytes from an offset on, and all others as they were
abbrev pub put_at : ℕ → List ℕ → List ℕ → List ℕ
put_at at piece bytes = take at bytes ++ (piece ++ drop (at + length piece) bytes)
