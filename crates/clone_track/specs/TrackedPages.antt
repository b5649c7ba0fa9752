-- What contracts see of a tracker: the pages that were noted, their notes, and the room for more.
use Rattle.std.specs.Prelude.{ℕ, List, [], ◌∷◌, None, Some, option_map, refl}
use Rattle.std.specs.declared.option.Option.{Option}
use Rattle.std.specs.FinMap as finite
use Rattle.std.specs.Coded.{Coded, code_by, coded×, coded_ℕ, coded_option}
use base.Stored.{coded_unit}
use Rattle.clone_model.specs.Keys.{row_cmp}

-- A set of pages, each named by its space and its number there, with nothing at each.
abbrev pub Pages : Type 0
Pages = finite.FinMap row_cmp (Unit {0})

-- the pages that were noted, if any are being noted now, how many notes are kept of them, and for
-- how many more there is room
pub record TrackedPages : Type 0 where
  pub pages : Option Pages
  pub kept : ℕ
  pub room : ℕ

abbrev pub pages_code : Coded Pages
pages_code = finite.code (coded× coded_ℕ coded_ℕ) coded_unit

abbrev pub tracked_pages_code : Coded TrackedPages
tracked_pages_code =
    code_by (Option Pages × (ℕ × ℕ)) (coded× (coded_option pages_code) (coded× coded_ℕ coded_ℕ))
    (λ t. (t.pages, (t.kept, t.room)))
    (λ p. record { pages = p.0; kept = p.1.0; room = p.1.1 }) (λ _. refl)

-- the pages of a list join a set
abbrev pub all_noted : List (ℕ × ℕ) → Pages → Pages
all_noted [] pages = pages
all_noted (page ∷ others) pages = finite.insert (all_noted others pages) page tt

-- a page joins those that were noted, if any are being noted
abbrev pub noted : ℕ × ℕ → Option Pages → Option Pages
noted page pages = option_map (λ set. finite.insert set page tt) pages

-- the pages in ascending order, each once
abbrev pub listed : Option Pages → List (ℕ × ℕ)
listed None = []
listed (Some pages) = finite.keys pages
