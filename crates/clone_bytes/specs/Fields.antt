-- What reading a field answers, by the bytes that were left before and are left now.
use Rattle.std.specs.Prelude.{ℕ, ◌≡◌, ◌<◌, ◌≤◌, List, length, drop, slice_index, Result, Ok, Err}
use Rattle.clone_bytes.specs.declared.reader.Short.{Short}

-- each number is one of a byte
abbrev pub IsBytes : List ℕ → Type 0
IsBytes bytes = (i : ℕ) → slice_index bytes i < 256

-- a value of so many bytes, which are behind the reader then, or that too few are left
abbrev pub Reads : {X : Type 0} → (X → Type 0) → ℕ → List ℕ → List ℕ → Result X Short → Type 0
Reads IsValue n old new (Ok x) = (n ≤ length old) × IsValue x × (new ≡ drop n old)
Reads IsValue n old new (Err short) =
    (length old < n) × (short.need ≡ n) × (short.have ≡ length old) × (new ≡ old)
