-- An image: the pages of each space that is there. A page is a list of bytes.
use Rattle.std.specs.Prelude.{ℕ, ◌-◌, List, [], ◌∷◌, ◌++◌, length, replicate, None, Some, slice_get, slice_set, get_or, option_map, option_and_then, unwrap_or, ◌≡◌}
use Rattle.std.specs.declared.option.Option.{Option}
use Rattle.std.specs.FinMap as finite
use Rattle.std.specs.Ordering.{nat_cmp}
use Rattle.clone_base.specs.declared.limits.TheConstants.{PAGE_SIZE}
use Rattle.clone_page.specs.Header.{zero_page}
use Rattle.clone_mtr.specs.Effects.{effect}
use Rattle.clone_mtr.specs.declared.record.Record.{Record}
use Rattle.clone_mtr.specs.declared.record.Record.TheVariants.{Init, Write, Extend, Create, Drop}

-- from the number of a space to its pages
abbrev pub Image : Type 0
Image = finite.FinMap nat_cmp (List (List ℕ))

-- the page, if it is there
abbrev pub page_of : Image → ℕ → ℕ → Option (List ℕ)
page_of image space number =
    option_and_then (λ pages. slice_get pages number) (finite.get image space)

-- the space gets these pages, or stays as it is
abbrev pub with_pages : Image → ℕ → Option (List (List ℕ)) → Image
with_pages image space None = image
with_pages image space (Some pages) = finite.insert image space pages

-- the pages of a space are edited, where the space is there
abbrev pub with_edit : Image → ℕ → (List (List ℕ) → List (List ℕ)) → Image
with_edit image space edit = with_pages image space (option_map edit (finite.get image space))

-- the page is edited, where it is there
abbrev pub edited : ℕ → (List ℕ → List ℕ) → List (List ℕ) → List (List ℕ)
edited number edit pages = slice_set pages number (edit (get_or pages number []))

-- at least so many pages, the new ones unused
abbrev pub extended : ℕ → List (List ℕ) → List (List ℕ)
extended count pages = pages ++ replicate (count - length pages) zero_page

-- What a record does to an image. A record of a space or of a page that isn't there changes
-- nothing.
abbrev pub after_record : ℕ → Image → Record → Image
after_record lsn image (Init space number kind) =
    with_edit image space (edited number (effect lsn (Init space number kind)))
after_record lsn image (Write space number patch) =
    with_edit image space (edited number (effect lsn (Write space number patch)))
after_record lsn image (Extend space count) = with_edit image space (extended count)
after_record lsn image (Create space count) = finite.insert image space (replicate count zero_page)
after_record lsn image (Drop space) = finite.remove image space

-- records in their order
abbrev pub after_records : ℕ → Image → List Record → Image
after_records lsn image [] = image
after_records lsn image (r ∷ rs) = after_records lsn (after_record lsn image r) rs

-- a record that makes no page
abbrev pub MakesNoPage : Record → Type 0
MakesNoPage (Init space number kind) = Unit {0}
MakesNoPage (Write space number patch) = Unit {0}
MakesNoPage (Extend space count) = ⊥
MakesNoPage (Create space count) = ⊥
MakesNoPage (Drop space) = Unit {0}

-- a record that changes pages that are there and nothing else
abbrev pub EditsPages : Record → Type 0
EditsPages (Init space number kind) = Unit {0}
EditsPages (Write space number patch) = Unit {0}
EditsPages (Extend space count) = ⊥
EditsPages (Create space count) = ⊥
EditsPages (Drop space) = ⊥

-- the pages by space and number, where one that isn't there has no bytes
abbrev pub all_pages : Image → ℕ → ℕ → List ℕ
all_pages image space number = unwrap_or (page_of image space number) []

-- how many pages a space has, if it is there
abbrev pub page_count : Image → ℕ → Option ℕ
page_count image space = option_map length (finite.get image space)

-- each page is whole
abbrev pub AreWholePages : Image → Type 0
AreWholePages image =
    (space number : ℕ) (page : List ℕ) → page_of image space number ≡ Some page
    → length page ≡ PAGE_SIZE
