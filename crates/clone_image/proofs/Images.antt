-- The pages of an image when a record is applied to it.
use Rattle.std.proofs.Common.{◌≡◌, ◌≢◌, ℕ, ◌<◌, ◌≤◌, List, [], replicate, get_or, refl, sym, ap, ◌∙◌, arith, inl, inr, ◌⊎◌, Option, Some, None}
use Rattle.std.specs.Prelude.{slice_get, option_map, option_and_then}
use Rattle.std.specs.FinMap as finite
use Rattle.std.specs.Cmp.{nat_cmp_total}
use Rattle.std.specs.Ordering.{nat_cmp}
use Rattle.std.proofs.lemmas.Bool.{cases_eq}
use Rattle.std.proofs.lemmas.List.{length-replicate, get_or-replicate}
use Rattle.std.proofs.lemmas.Map.Lookups.{exact_unsigned}
use Rattle.std.proofs.lemmas.Option.{slice_get_within, slice_get-get_or, slice_get_past, get_or_from_slice_get}
use Rattle.clone_base.proofs.MapEntries.{get-set_same, get-set_other, slice_get-set_same, slice_get-set_other}
use Rattle.clone_page.specs.Header.{zero_page}
use Rattle.clone_image.specs.Image.{Image, page_of, with_pages, with_edit, edited}

-- a finite map by numbers, where one entry was set
pub get-put_same : {X : Type 0} (m : finite.FinMap nat_cmp X) (k : ℕ) (x : X) → finite.get (finite.insert m k x) k ≡ Some x
get-put_same m k x = get-set_same nat_cmp_total exact_unsigned m k x

pub get-put_other : {X : Type 0} (m : finite.FinMap nat_cmp X) (k q : ℕ) (x : X) → q ≢ k → finite.get (finite.insert m k x) q ≡ finite.get m q
get-put_other m k q x other = get-set_other nat_cmp_total exact_unsigned m k x q other

-- the page that is edited
pub page_of-edited_same : (image : Image) (space number : ℕ) (edit : List ℕ → List ℕ) (page : List ℕ) → page_of image space number ≡ Some page → page_of (with_edit image space (edited number edit)) space number ≡ Some (edit page)
page_of-edited_same image space number edit page is = at (finite.get image space) refl
  where
    at : (o : Option (List (List ℕ))) → finite.get image space ≡ o → page_of (with_edit image space (edited number edit)) space number ≡ Some (edit page)
    at None none = absurd (let e = sym is ∙ ap (option_and_then (λ pages. slice_get pages number)) none in cc)
    at (Some pages) some =
        let there : slice_get pages number ≡ Some page = sym (ap (option_and_then (λ ps. slice_get ps number)) some) ∙ is in
        let new = ap (λ (o : Option (List (List ℕ))). page_of (with_pages image space (option_map (edited number edit) o)) space number) some in
        new ∙ ap (option_and_then (λ ps. slice_get ps number)) (get-put_same image space (edited number edit pages)) ∙ slice_get-set_same pages number (edit (get_or pages number [])) (slice_get_within pages number page there)
        ∙ ap (λ p. Some (edit p)) (get_or_from_slice_get pages number page [] there)

-- another page
pub page_of-edited_other : (image : Image) (space number s n : ℕ) (edit : List ℕ → List ℕ) → (s ≡ space → n ≡ number → ⊥) → page_of (with_edit image space (edited number edit)) s n ≡ page_of image s n
page_of-edited_other image space number s n edit other = at (finite.get image space) refl (cases_eq s space)
  where
    at : (o : Option (List (List ℕ))) → finite.get image space ≡ o → (s ≡ space) ⊎ (s ≢ space) → page_of (with_edit image space (edited number edit)) s n ≡ page_of image s n
    at None none either = ap (λ (o : Option (List (List ℕ))). page_of (with_pages image space (option_map (edited number edit) o)) s n) none
    at (Some pages) some (inr apart) =
        ap (λ (o : Option (List (List ℕ))). page_of (with_pages image space (option_map (edited number edit) o)) s n) some ∙ ap (option_and_then (λ ps. slice_get ps n)) (get-put_other image space s (edited number edit pages) apart)
    at (Some pages) some (inl same) =
        let new = ap (λ (o : Option (List (List ℕ))). page_of (with_pages image space (option_map (edited number edit) o)) s n) some in
        new ∙ ap (option_and_then (λ ps. slice_get ps n)) (ap (finite.get (finite.insert image space (edited number edit pages))) same ∙ get-put_same image space (edited number edit pages)) ∙ slice_get-set_other pages number n (edit (get_or pages number [])) (other same)
        ∙ sym (ap (option_and_then (λ ps. slice_get ps n)) (ap (finite.get image) same ∙ some))

-- the pages of a space that was made
pub page_of-made : (image : Image) (space count n : ℕ) → n < count → page_of (finite.insert image space (replicate count zero_page)) space n ≡ Some zero_page
page_of-made image space count n lt =
    ap (option_and_then (λ ps. slice_get ps n)) (get-put_same image space (replicate count zero_page)) ∙ slice_get-get_or (replicate count zero_page) n zero_page (omega (arith, lt, length-replicate count zero_page))
    ∙ ap (λ p. Some p) (get_or-replicate count n zero_page zero_page lt)

pub page_of-past : (image : Image) (space count n : ℕ) → count ≤ n → page_of (finite.insert image space (replicate count zero_page)) space n ≡ None
page_of-past image space count n le =
    ap (option_and_then (λ ps. slice_get ps n)) (get-put_same image space (replicate count zero_page)) ∙ slice_get_past (replicate count zero_page) n (omega (arith, le, length-replicate count zero_page))

pub page_of-elsewhere : (image : Image) (space count s n : ℕ) → s ≢ space → page_of (finite.insert image space (replicate count zero_page)) s n ≡ page_of image s n
page_of-elsewhere image space count s n apart = ap (option_and_then (λ ps. slice_get ps n)) (get-put_other image space s (replicate count zero_page) apart)
