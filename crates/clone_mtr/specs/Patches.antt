-- What a write puts on a page: bytes, from an offset on.
use Rattle.std.specs.Prelude.{ℕ, ◌<◌, ◌≤◌, List, take, ⊤}
use Rattle.std.specs.List.{AllByRecursion}
use Rattle.clone_mtr.specs.declared.patch.Kept.{Kept}
use Rattle.clone_mtr.specs.declared.patch.Kept.TheVariants.{Short, Long}
use Rattle.clone_mtr.specs.declared.patch.TheConstants.{SHORT_PATCH}

-- bytes, each below 256
abbrev pub AreBytes : List ℕ → Type 0
AreBytes bytes = AllByRecursion (λ b. b < 256) bytes

pub record Patched : Type 0 where
  pub offset : ℕ
  pub bytes : List ℕ

-- the bytes that a patch keeps
abbrev pub kept_bytes : Kept → List ℕ
kept_bytes (Short bytes len) = take len bytes
kept_bytes (Long bytes) = bytes.items

-- as many bytes count as there are in place, at most
abbrev pub IsWithin : Kept → Type 0
IsWithin (Short bytes len) = len ≤ SHORT_PATCH
IsWithin (Long bytes) = ⊤
