-- Pages that are laid on a disk, each at its place, over those that are there.
use Rattle.std.specs.Prelude.{◌==◌, ◌&&◌, ◌+◌, ℕ, Bool, true, false, nat_lt, List, [], ◌∷◌, ◌++◌, length, take, drop, None, Some, if◌then◌else◌}
use Rattle.std.specs.Option.{option_or}
use Rattle.std.specs.List.{list_any}
use Rattle.std.specs.declared.option.Option.{Option}
use Rattle.clone_outside.specs.Disk.{DiskImage, zero_page, extended, pages_in, whole, with_space}
use Rattle.clone_outside.specs.declared.disk.Held.{Held}

-- The space has at least so many pages. It is made where it isn't there, and else extended, and its
-- new pages are of zero bytes.
abbrev pub with_room : ℕ → ℕ → DiskImage → DiskImage
with_room space count m = with_space space (extended count (pages_in m space)) m

-- pages from a number on, over those that were there; pages of zero bytes fill what was short of it
abbrev pub laid_over : ℕ → List Held → List Held → List Held
laid_over first new old = take first (extended first old) ++ new ++ drop (first + length new) old

-- these pages stand in a space from a number on
abbrev pub with_laid : ℕ → ℕ → List Held → DiskImage → DiskImage
with_laid space first pages m = with_space space (laid_over first pages (pages_in m space)) m

-- the page stands whole at its place
abbrev pub laid_page : ℕ → ℕ → List ℕ → DiskImage → DiskImage
laid_page space number bytes m = with_laid space number (whole bytes ∷ []) m

-- a page, with its place
pub record PageAt : Type 0 where
  pub space : ℕ
  pub number : ℕ
  pub bytes : List ℕ

-- pages were laid, one after the other
abbrev pub laid_pages : List PageAt → DiskImage → DiskImage
laid_pages [] m = m
laid_pages (page ∷ pages) m = laid_pages pages (laid_page page.space page.number page.bytes m)

-- the bytes of a page that has this place
abbrev pub bytes_at : ℕ → ℕ → PageAt → Option (List ℕ)
bytes_at space number page =
    if page.space == space && page.number == number then Some page.bytes else None

-- the bytes that were laid last at a place, if any were
abbrev pub last_bytes : ℕ → ℕ → List PageAt → Option (List ℕ)
last_bytes space number [] = None
last_bytes space number (page ∷ pages) =
    option_or (last_bytes space number pages) (bytes_at space number page)

-- a page of the space was laid behind the place
abbrev pub reaches_past : ℕ → ℕ → List PageAt → Bool
reaches_past space number pages =
    list_any (λ page. page.space == space && nat_lt number page.number) pages

-- What stands at a place once pages were laid: the bytes that were laid there last, else the page
-- that stood there, else zero bytes where the space reaches past the place by now.
abbrev pub standing : Option (List ℕ) → Option Held → Bool → Option Held
standing (Some bytes) stood past = Some (whole bytes)
standing None (Some page) past = Some page
standing None None true = Some zero_page
standing None None false = None
