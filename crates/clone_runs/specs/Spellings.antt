-- Frames as bytes.
use Rattle.std.specs.Prelude.{ℕ, ◌≡◌, ◌<◌, List, ◌++◌, length, flat_map}
use Rattle.std.specs.List.{AllByRecursion}

module _ {X : Type 0} (spelled : X → List ℕ) where
  -- the spellings of frames, one after the other
  abbrev pub spellings : List X → List ℕ
  spellings xs = flat_map spelled xs

  -- where bytes begin with both spellings the frames are one
  abbrev pub IsToldFrom : X → X → Type 0
  IsToldFrom x y = (r q : List ℕ) → spelled x ++ r ≡ spelled y ++ q → x ≡ y

  -- each frame of the one list has bytes, by which it is told from those of the other
  abbrev pub AreToldFrom : List X → List X → Type 0
  AreToldFrom xs ys =
      AllByRecursion (λ x. (0 < length (spelled x)) × AllByRecursion (IsToldFrom x) ys) xs
