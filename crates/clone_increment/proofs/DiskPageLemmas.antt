-- The bytes of a disk's pages after a call.
use Rattle.std.proofs.Common.{◌≡◌, ◌≢◌, ◌⊎◌, ◌-◌, ℕ, zero, suc, List, [], ◌∷◌, ◌++◌, length, replicate, Some, None, is_some, IsSome, unwrap_or, option_map, refl, sym, ap, subst, ◌∙◌, inl, inr}
use Rattle.std.specs.Prelude.{slice_get, option_and_then}
use Rattle.std.specs.declared.option.Option.{Option}
use Rattle.std.specs.FinMap as finite
use Rattle.std.specs.Cmp.{nat_cmp_total}
use Rattle.std.proofs.lemmas.Bool.{cases_eq}
use Rattle.std.proofs.lemmas.Map.Lookups.{exact_unsigned}
use Rattle.clone_base.proofs.MapEntries.{get-removed_other, get-removed_same, get-set_other, get-set_same}
use Rattle.clone_outside.specs.Disk as disk
use Rattle.clone_outside.specs.Disk.{DiskImage, Spaces, changed, edited, with_created, with_extended, with_page, with_pages, with_removed}
use Rattle.clone_outside.specs.declared.disk.Held.{Held}
use Rattle.clone_page.specs.Header.{zero_page}
use Rattle.clone_increment.specs.Copies.{bytes_at}

-- the bytes of a page
abbrev pub bytes_of : Option Held → Option (List ℕ)
bytes_of o = option_map (λ (h : Held). h.bytes) o

-- what a space has at a number
abbrev pub at_number : Option (List Held) → ℕ → Option (List ℕ)
at_number space n = bytes_of (option_and_then (λ (pages : List Held). slice_get pages n) space)

-- ---- lists of pages

edited_other : (pages : List Held) (n q : ℕ) (edit : Held → Held) → q ≢ n → slice_get (edited n edit pages) q ≡ slice_get pages q
edited_other [] n q edit other = refl
edited_other (p ∷ pages) zero zero edit other = absurd (other refl)
edited_other (p ∷ pages) zero (suc q) edit other = refl
edited_other (p ∷ pages) (suc n) zero edit other = refl
edited_other (p ∷ pages) (suc n) (suc q) edit other = edited_other pages n q edit (λ same. other (ap suc same))

edited_there : (pages : List Held) (n q : ℕ) (edit : Held → Held) → is_some (bytes_of (slice_get (edited n edit pages) q)) ≡ is_some (bytes_of (slice_get pages q))
edited_there [] n q edit = refl
edited_there (p ∷ pages) zero zero edit = refl
edited_there (p ∷ pages) zero (suc q) edit = refl
edited_there (p ∷ pages) (suc n) zero edit = refl
edited_there (p ∷ pages) (suc n) (suc q) edit = edited_there pages n q edit

zeros : (k q : ℕ) → IsSome (bytes_of (slice_get (replicate k disk.zero_page) q)) → bytes_of (slice_get (replicate k disk.zero_page) q) ≡ Some zero_page
zeros zero q there = cc
zeros (suc k) zero there = refl
zeros (suc k) (suc q) there = zeros k q there

grown : (pages : List Held) (k q : ℕ) → IsSome (bytes_of (slice_get (pages ++ replicate k disk.zero_page) q))
    → bytes_of (slice_get (pages ++ replicate k disk.zero_page) q) ≡ Some (unwrap_or (bytes_of (slice_get pages q)) zero_page)
grown [] k q there = zeros k q there
grown (p ∷ pages) k zero there = refl
grown (p ∷ pages) k (suc q) there = grown pages k q there

-- ---- disks

-- the spaces but for one whose pages are changed
spaces_other : (spaces : Spaces) (s q : ℕ) (change : List Held → List Held) → q ≢ s → finite.get (with_pages spaces s change) q ≡ finite.get spaces q
spaces_other spaces s q change other = at (finite.get spaces s)
  where
    at : (o : Option (List Held)) → finite.get (changed spaces s change o) q ≡ finite.get spaces q
    at None = refl
    at (Some pages) = get-set_other nat_cmp_total exact_unsigned spaces s (change pages) q other

spaces_here : (spaces : Spaces) (s : ℕ) (change : List Held → List Held) → finite.get (with_pages spaces s change) s ≡ option_map change (finite.get spaces s)
spaces_here spaces s change = at (finite.get spaces s) refl
  where
    at : (o : Option (List Held)) → finite.get spaces s ≡ o → finite.get (changed spaces s change o) s ≡ option_map change o
    at None none = none
    at (Some pages) some = get-set_same nat_cmp_total exact_unsigned spaces s (change pages)

-- a page that is changed
pub page_other : (m : DiskImage) (s n : ℕ) (edit : Held → Held) (place : ℕ × ℕ) → place ≢ (s, n) → bytes_at (with_page m s n edit) place ≡ bytes_at m place
page_other m s n edit place other = elim (cases_eq place.0 s) [
  | inl same ↦ here same
  | inr away ↦ ap (λ (o : Option (List Held)). at_number o place.1) (spaces_other m.spaces s place.0 (edited n edit) away)
]
  where
    apart : place.0 ≡ s → place.1 ≢ n
    apart same tie = other (λ i. (same i, tie i))

    at : (q : ℕ) (o : Option (List Held)) → q ≢ n → at_number (option_map (edited n edit) o) q ≡ at_number o q
    at q None differ = refl
    at q (Some pages) differ = ap bytes_of (edited_other pages n q edit differ)

    here : place.0 ≡ s → bytes_at (with_page m s n edit) place ≡ bytes_at m place
    here same =
        ap (λ (q : ℕ). at_number (finite.get (with_pages m.spaces s (edited n edit)) q) place.1) same
        ∙ ap (λ (o : Option (List Held)). at_number o place.1) (spaces_here m.spaces s (edited n edit))
        ∙ at place.1 (finite.get m.spaces s) (apart same) ∙ sym (ap (λ (q : ℕ). at_number (finite.get m.spaces q) place.1) same)

pub page_there : (m : DiskImage) (s n : ℕ) (edit : Held → Held) (place : ℕ × ℕ) → is_some (bytes_at (with_page m s n edit) place) ≡ is_some (bytes_at m place)
page_there m s n edit place = elim (cases_eq place.0 s) [
  | inl same ↦ here same
  | inr away ↦ ap (λ (o : Option (List Held)). is_some (at_number o place.1)) (spaces_other m.spaces s place.0 (edited n edit) away)
]
  where
    at : (o : Option (List Held)) → is_some (at_number (option_map (edited n edit) o) place.1) ≡ is_some (at_number o place.1)
    at None = refl
    at (Some pages) = edited_there pages n place.1 edit

    here : place.0 ≡ s → is_some (bytes_at (with_page m s n edit) place) ≡ is_some (bytes_at m place)
    here same =
        ap (λ (q : ℕ). is_some (at_number (finite.get (with_pages m.spaces s (edited n edit)) q) place.1)) same
        ∙ ap (λ (o : Option (List Held)). is_some (at_number o place.1)) (spaces_here m.spaces s (edited n edit))
        ∙ at (finite.get m.spaces s) ∙ sym (ap (λ (q : ℕ). is_some (at_number (finite.get m.spaces q) place.1)) same)

itself : (o : Option (List ℕ)) → IsSome o → o ≡ Some (unwrap_or o zero_page)
itself None there = cc
itself (Some bytes) there = refl

-- a page that is there was as it is, or it has zero bytes
pub extended_at : (m : DiskImage) (s count : ℕ) (place : ℕ × ℕ) → IsSome (bytes_at (with_extended m s count) place) → bytes_at (with_extended m s count) place ≡ Some (unwrap_or (bytes_at m place) zero_page)
extended_at m s count place there = elim (cases_eq place.0 s) [
  | inl same ↦ here same
  | inr away ↦ elsewhere (ap (λ (o : Option (List Held)). at_number o place.1) (spaces_other m.spaces s place.0 (disk.extended count) away))
]
  where
    elsewhere : bytes_at (with_extended m s count) place ≡ bytes_at m place → bytes_at (with_extended m s count) place ≡ Some (unwrap_or (bytes_at m place) zero_page)
    elsewhere same = same ∙ itself (bytes_at m place) (ap is_some (sym same) ∙ there)

    at : (o : Option (List Held)) → IsSome (at_number (option_map (disk.extended count) o) place.1) → at_number (option_map (disk.extended count) o) place.1 ≡ Some (unwrap_or (at_number o place.1) zero_page)
    at None there = cc
    at (Some pages) there = grown pages (count - length pages) place.1 there

    here : place.0 ≡ s → bytes_at (with_extended m s count) place ≡ Some (unwrap_or (bytes_at m place) zero_page)
    here same =
        let now : bytes_at (with_extended m s count) place ≡ at_number (option_map (disk.extended count) (finite.get m.spaces s)) place.1 =
        ap (λ (q : ℕ). at_number (finite.get (with_pages m.spaces s (disk.extended count)) q) place.1) same
        ∙ ap (λ (o : Option (List Held)). at_number o place.1) (spaces_here m.spaces s (disk.extended count)) in
        now ∙ at (finite.get m.spaces s) (sym (ap is_some now) ∙ there)
        ∙ sym (ap (λ (q : ℕ). Some (unwrap_or (at_number (finite.get m.spaces q) place.1) zero_page)) same)

-- a space that was made has pages of zero bytes
pub created_here : (m : DiskImage) (s count n : ℕ) → IsSome (bytes_at (with_created m s count) (s, n)) → bytes_at (with_created m s count) (s, n) ≡ Some zero_page
created_here m s count n there =
    let now : bytes_at (with_created m s count) (s, n) ≡ bytes_of (slice_get (replicate count disk.zero_page) n) =
    ap (λ (o : Option (List Held)). at_number o n) (get-set_same nat_cmp_total exact_unsigned m.spaces s (replicate count disk.zero_page)) in
    now ∙ zeros count n (sym (ap is_some now) ∙ there)

-- no more than so many
pub created_below : (m : DiskImage) (s count n : ℕ) → IsSome (bytes_at (with_created m s count) (s, n)) → IsSome (bytes_of (slice_get (replicate count disk.zero_page) n))
created_below m s count n there =
    sym (ap (λ (o : Option (List Held)). is_some (at_number o n)) (get-set_same nat_cmp_total exact_unsigned m.spaces s (replicate count disk.zero_page))) ∙ there

pub created_other : (m : DiskImage) (s count : ℕ) (place : ℕ × ℕ) → place.0 ≢ s → bytes_at (with_created m s count) place ≡ bytes_at m place
created_other m s count place away = ap (λ (o : Option (List Held)). at_number o place.1) (get-set_other nat_cmp_total exact_unsigned m.spaces s (replicate count disk.zero_page) place.0 away)

-- a page that is there after a space was removed was there
pub removed_at : (m : DiskImage) (s : ℕ) (place : ℕ × ℕ) → IsSome (bytes_at (with_removed m s) place) → bytes_at (with_removed m s) place ≡ bytes_at m place
removed_at m s place there = elim (cases_eq place.0 s) [
  | inl same ↦ absurd (gone same)
  | inr away ↦ ap (λ (o : Option (List Held)). at_number o place.1) (get-removed_other nat_cmp_total exact_unsigned m.spaces s place.0 away)
]
  where
    gone : place.0 ≡ s → ⊥
    gone same =
        let none : bytes_at (with_removed m s) place ≡ None =
        ap (λ (q : ℕ). at_number (finite.get (finite.remove m.spaces s) q) place.1) same
        ∙ ap (λ (o : Option (List Held)). at_number o place.1) (get-removed_same nat_cmp_total exact_unsigned m.spaces s) in
        let e = sym (ap is_some none) ∙ there in cc
