-- The pages of a bucket as a chain: each page names the one behind it.
use Rattle.std.specs.Prelude.{ℕ, ◌≡◌, ◌==◌, List, [], ◌∷◌, if◌then◌else◌, None, Some}
use Rattle.std.specs.declared.option.Option.{Option}
use Rattle.clone_page.specs.Header.{kind_of, next_of, no_page}

-- the page behind a page on its chain, or none at the chain's end; an unused page ends its chain
abbrev pub behind : List ℕ → Option ℕ
behind page =
    if kind_of page == 0 then None
    else (if next_of page == no_page then None else Some (next_of page))

-- the pages of a chain from a page on: that page, and those behind it up to an end
abbrev pub IsChain : (ℕ → Option ℕ) → ℕ → List ℕ → Type 0
IsChain next page [] = next page ≡ None
IsChain next page (one ∷ rest) = (next page ≡ Some one) × IsChain next one rest
