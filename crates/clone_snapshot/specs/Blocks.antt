-- A block of pages as the code keeps it: as many pages as it has, and zeros behind them.
use Rattle.std.specs.Prelude.{ℕ, ◌≡◌, ◌≤◌, ◌-◌, ◌++◌, List, length, take, drop, replicate}
use Rattle.std.proofs.Common.{arith, ap, sym, ◌∙◌, take-append-drop, length-take-le}
use Rattle.clone_base.specs.declared.limits.TheConstants.{BLOCK_PAGES}

-- zeros behind so many pages
abbrev pub filler : ℕ → List (ℕ × ℕ)
filler count = replicate (BLOCK_PAGES - count) (0, 0)

abbrev pub filled : List (ℕ × ℕ) → List (ℕ × ℕ)
filled pages = pages ++ filler (length pages)

pub record IsFilled (pages : List (ℕ × ℕ)) (count : ℕ) : Type 0 where
  pub few : count ≤ BLOCK_PAGES
  pub size : length pages ≡ BLOCK_PAGES
  pub behind : drop count pages ≡ filler count

-- the pages in front of the zeros have the count, and give the array back
pub length_taken : (pages : List (ℕ × ℕ)) (count : ℕ) → IsFilled pages count →
    length (take count pages) ≡ count
length_taken pages count h = length-take-le count pages (omega (arith, h.few, h.size))

pub filled-take : (pages : List (ℕ × ℕ)) (count : ℕ) → IsFilled pages count →
    filled (take count pages) ≡ pages
filled-take pages count h =
    let behind : filler (length (take count pages)) ≡ drop count pages =
    ap filler (length_taken pages count h) ∙ sym h.behind in
    ap (λ rest. take count pages ++ rest) behind ∙ take-append-drop count pages
