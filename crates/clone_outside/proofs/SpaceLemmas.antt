-- A space of a disk that gets its pages, and what then stands where.
use Rattle.std.proofs.Common.{◌≡◌, ◌≢◌, ◌⊎◌, ℕ, List, [], Some, sym, ap, ◌∙◌, inl, inr}
use Rattle.std.specs.Prelude.{unwrap_or}
use Rattle.std.specs.declared.option.Option.{Option}
use Rattle.std.specs.FinMap as finite
use Rattle.std.specs.FinMap.{same_map}
use Rattle.std.specs.Cmp.{nat_cmp_total}
use Rattle.std.proofs.lemmas.Bool.{cases_eq}
use Rattle.std.proofs.lemmas.Map.Lookups.{exact_unsigned}
use Rattle.clone_base.proofs.MapEntries.{get-set_same, get-set_other}
use Rattle.clone_outside.specs.Disk.{DiskImage, Spaces, changed, with_page, edited, pages_in, with_space}
use Rattle.clone_outside.specs.declared.disk.Held.{Held}

pub get_here : (m : DiskImage) (s : ℕ) (pages : List Held) → finite.get (with_space s pages m).spaces s ≡ Some pages
get_here m s pages = get-set_same nat_cmp_total exact_unsigned m.spaces s pages

pub get_there : (m : DiskImage) (s q : ℕ) (pages : List Held) → q ≢ s → finite.get (with_space s pages m).spaces q ≡ finite.get m.spaces q
get_there m s q pages other = get-set_other nat_cmp_total exact_unsigned m.spaces s pages q other

pub pages_here : (m : DiskImage) (s : ℕ) (pages : List Held) → pages_in (with_space s pages m) s ≡ pages
pages_here m s pages = ap (λ (o : Option (List Held)). unwrap_or o []) (get_here m s pages)

-- the pages that a space gets last are those that it has
pub given_twice : (m : DiskImage) (s : ℕ) (old new : List Held) → with_space s new (with_space s old m) ≡ with_space s new m
given_twice m s old new =
    ap (λ (x : Spaces). record m { spaces = x })
    (same_map nat_cmp_total exact_unsigned _ _ (λ q. at q (cases_eq q s)))
  where
    at : (q : ℕ) → (q ≡ s) ⊎ (q ≢ s) → finite.get (with_space s new (with_space s old m)).spaces q ≡ finite.get (with_space s new m).spaces q
    at q (inl same) =
        ap (finite.get (with_space s new (with_space s old m)).spaces) same ∙ get_here (with_space s old m) s new
        ∙ sym (ap (finite.get (with_space s new m).spaces) same ∙ get_here m s new)
    at q (inr other) = get_there (with_space s old m) s q new other ∙ get_there m s q old other ∙ sym (get_there m s q new other)

-- a page of a space that got its pages is written
pub page_given : (m : DiskImage) (s n : ℕ) (pages : List Held) (edit : Held → Held) → with_page (with_space s pages m) s n edit ≡ with_space s (edited n edit pages) m
page_given m s n pages edit =
    ap (λ (o : Option (List Held)). record m { spaces = changed (with_space s pages m).spaces s (edited n edit) o }) (get_here m s pages)
    ∙ given_twice m s pages (edited n edit pages)
