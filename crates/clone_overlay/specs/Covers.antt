-- The pages of a space that are held over those of a disk.
use Rattle.std.specs.Prelude.{ℕ, List, None, Some, refl, max}
use Rattle.std.specs.declared.option.Option.{Option}
use Rattle.std.specs.FinMap as finite
use Rattle.std.specs.Ordering.{nat_cmp}
use Rattle.std.specs.Coded.{Coded, code_by, coded×, coded_ℕ, coded_list}

-- from a page's number to its bytes
abbrev pub Leaves : Type 0
Leaves = finite.FinMap nat_cmp (List ℕ)

abbrev pub leaves_of : List (ℕ × List ℕ) → Leaves
leaves_of entries = finite.from_entries entries

-- how many of the disk's pages count, how many pages there are, and those that are held
pub record Cover : Type 0 where
  pub kept : ℕ
  pub count : ℕ
  pub leaves : Leaves

-- from the number of a space to its cover
abbrev pub Overlay : Type 0
Overlay = finite.FinMap nat_cmp Cover

abbrev pub covers_of : List (ℕ × Cover) → Overlay
covers_of entries = finite.from_entries entries

abbrev pub cover_code : Coded Cover
cover_code =
    code_by (ℕ × (ℕ × Leaves))
    (coded× coded_ℕ (coded× coded_ℕ (finite.code coded_ℕ (coded_list coded_ℕ))))
    (λ c. (c.kept, (c.count, c.leaves))) (λ p. record { kept = p.0; count = p.1.0; leaves = p.1.1 })
    (λ _. refl)

-- the page is held too
abbrev pub holding : ℕ → List ℕ → Cover → Cover
holding number page cover = record cover { leaves = finite.insert cover.leaves number page }

-- there are at least so many pages
abbrev pub stretched_to : ℕ → Cover → Cover
stretched_to count cover = record cover { count = max cover.count count }

-- pages of a new space, none of which is the disk's
abbrev pub unused : ℕ → Cover
unused count = record { kept = 0; count = count; leaves = finite.empty }

-- the page is edited, where it is held
abbrev pub edited_there : Leaves → ℕ → (List ℕ → List ℕ) → Option (List ℕ) → Leaves
edited_there leaves number edit None = leaves
edited_there leaves number edit (Some page) = finite.insert leaves number (edit page)

abbrev pub leaf_edited : Leaves → ℕ → (List ℕ → List ℕ) → Leaves
leaf_edited leaves number edit = edited_there leaves number edit (finite.get leaves number)

abbrev pub with_leaf : ℕ → (List ℕ → List ℕ) → Cover → Cover
with_leaf number edit cover = record cover { leaves = leaf_edited cover.leaves number edit }

-- the cover of a space is changed, where the space is there
abbrev pub changed_there : Overlay → ℕ → (Cover → Cover) → Option Cover → Overlay
changed_there overlay space change None = overlay
changed_there overlay space change (Some cover) = finite.insert overlay space (change cover)

abbrev pub with_cover : Overlay → ℕ → (Cover → Cover) → Overlay
with_cover overlay space change = changed_there overlay space change (finite.get overlay space)
