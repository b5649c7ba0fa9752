-- The pages of an image in which a space got longer, or that lost one.
use Rattle.std.proofs.Common.{◌+◌, ◌≡◌, ◌≢◌, ◌<◌, ◌≤◌, ◌-◌, ◌^◌, ◌⊎◌, inl, inr, ℕ, List, length, replicate, slice_get, refl, sym, ap, subst, ◌∙◌, arith, Option, Some, None, option_map, option_and_then, IsSome}
use Rattle.clone_buffer.proofs.Common.{cases_eq, cases_lt, length-append, length-replicate, get_or-replicate, zero_page, Record, Image, replayed, replayed_is_redone, redone, ends}
use Rattle.std.proofs.lemmas.Option.{slice_get_past, slice_get-get_or}
use Rattle.std.specs.FinMap as finite
use Rattle.std.specs.Cmp.{nat_cmp_total}
use Rattle.std.proofs.lemmas.Map.Lookups.{exact_unsigned}
use Rattle.clone_base.proofs.MapEntries.{get-removed_same, get-removed_other}
use Rattle.clone_base.proofs.Lists.{slice_get-append_left, slice_get-append_right, slice_get-some}
use Rattle.clone_image.specs.Image.{page_of, page_count, with_pages, with_edit, extended}
use Rattle.clone_image.specs.Redone.{standing_at, standing_in}
use Rattle.clone_image.proofs.Images.{get-put_same, get-put_other}

-- The pages of a space that is made longer.

abbrev pub longer : Image → ℕ → ℕ → Image
longer image space pages = with_edit image space (extended pages)

-- the space has so many pages
sized : (image : Image) (space count : ℕ) → page_count image space ≡ Some count → (pages : List (List ℕ)) × ((finite.get image space ≡ Some pages) × (length pages ≡ count))
sized image space count is = by (finite.get image space) refl is
  where
    by : (o : Option (List (List ℕ))) → finite.get image space ≡ o → option_map (λ (ps : List (List ℕ)). length ps) o ≡ Some count → (pages : List (List ℕ)) × ((finite.get image space ≡ Some pages) × (length pages ≡ count))
    by None none is = absurd (cc)
    by (Some pages) some is = (pages, (some, cc))

in_pages : (image : Image) (space number : ℕ) (pages : List (List ℕ)) → finite.get image space ≡ Some pages → page_of image space number ≡ slice_get pages number
in_pages image space number pages is = ap (λ (o : Option (List (List ℕ))). option_and_then (λ ps. slice_get ps number) o) is

in_longer : (image : Image) (space count number : ℕ) (pages : List (List ℕ)) → finite.get image space ≡ Some pages → page_of (longer image space count) space number ≡ slice_get (extended count pages) number
in_longer image space count number pages is =
    ap (λ (o : Option (List (List ℕ))). page_of (with_pages image space (option_map (extended count) o)) space number) is ∙ in_pages (finite.insert image space (extended count pages)) space number (extended count pages) (get-put_same image space (extended count pages))

-- a page is new where it lies behind those that the space had
abbrev pub New : ℕ → ℕ → ℕ → ℕ → ℕ → Type 0
New space count pages s n = (s ≡ space) × (count ≤ n) × (n < pages)

pub new_or_not : (space count pages s n : ℕ) → New space count pages s n ⊎ (New space count pages s n → ⊥)
new_or_not space count pages s n = by (cases_eq s space) (cases_lt n count) (cases_lt n pages)
  where
    by : (s ≡ space) ⊎ (s ≢ space) → (n < count) ⊎ (count ≤ n) → (n < pages) ⊎ (pages ≤ n) → New space count pages s n ⊎ (New space count pages s n → ⊥)
    by (inr other) size end = inr (λ new. other new.0)
    by (inl same) (inl low) end = inr (λ new. omega (arith, low, new.1))
    by (inl same) (inr high) (inr out) = inr (λ new. omega (arith, out, new.2))
    by (inl same) (inr high) (inl low) = inl (same, high, low)

module _ (image : Image) (space count pages : ℕ) (size : page_count image space ≡ Some count) where
  abbrev had : List (List ℕ)
  had = (sized image space count size).0

  there : finite.get image space ≡ Some had
  there = (sized image space count size).1.0

  long : length had ≡ count
  long = (sized image space count size).1.1

  -- a page past the end isn't there
  pub past_count : (n : ℕ) → count ≤ n → page_of image space n ≡ None
  past_count n high = in_pages image space n had there ∙ slice_get_past had n (omega (arith, high, long))

  -- each other one is
  pub below_count : (n : ℕ) → n < count → IsSome (page_of image space n)
  below_count n low = let page = slice_get-some had n (omega (arith, low, long)) in subst IsSome (sym (in_pages image space n had there ∙ page.1)) refl

  -- a new page has zero bytes
  pub longer_new : (n : ℕ) → count ≤ n → n < pages → page_of (longer image space pages) space n ≡ Some zero_page
  longer_new n high low =
      in_longer image space pages n had there ∙ slice_get-append_right had (replicate (pages - length had) zero_page) n (n - count) (omega (arith, high, long))
      ∙ slice_get-get_or (replicate (pages - length had) zero_page) (n - count) zero_page (omega (arith, high, low, long, length-replicate (pages - length had) zero_page))
      ∙ ap Some (get_or-replicate (pages - length had) (n - count) zero_page zero_page (omega (arith, high, low, long)))

  pub longer_count : page_count (longer image space pages) space ≡ Some (count + (pages - count))
  longer_count =
      ap (λ (o : Option (List (List ℕ))). page_count (with_pages image space (option_map (extended pages) o)) space) there ∙ ap (option_map (λ (ps : List (List ℕ)). length ps)) (get-put_same image space (extended pages had))
      ∙ ap Some (omega (arith, long, length-append had (replicate (pages - length had) zero_page), length-replicate (pages - length had) zero_page))

  -- each other page stays
  pub longer_same : (s n : ℕ) → (New space count pages s n → ⊥) → page_of (longer image space pages) s n ≡ page_of image s n
  longer_same s n old = by (cases_eq s space)
    where
      more : List (List ℕ)
      more = replicate (pages - length had) zero_page

      own : (n < count) ⊎ (count ≤ n) → (New space count pages space n → ⊥) → page_of (longer image space pages) space n ≡ page_of image space n
      own (inl low) old = in_longer image space pages n had there ∙ slice_get-append_left had more n (omega (arith, low, long)) ∙ sym (in_pages image space n had there)
      own (inr high) old =
          let out : pages ≤ n = outside (cases_lt n pages) in
          in_longer image space pages n had there ∙ slice_get_past (extended pages had) n (omega (arith, high, out, long, length-append had more, length-replicate (pages - length had) zero_page)) ∙ sym (past_count n high)
        where
          outside : (n < pages) ⊎ (pages ≤ n) → pages ≤ n
          outside (inl low) = absurd (old (refl, high, low))
          outside (inr out) = out

      by : (s ≡ space) ⊎ (s ≢ space) → page_of (longer image space pages) s n ≡ page_of image s n
      by (inl same) =
          subst (λ (x : ℕ). page_of (longer image space pages) x n ≡ page_of image x n) (sym same) (own (cases_lt n count) (λ new. old (same, new.1, new.2)))
      by (inr other) =
          ap (λ (o : Option (List (List ℕ))). page_of (with_pages image space (option_map (extended pages) o)) s n) there ∙ ap (option_and_then (λ ps. slice_get ps n)) (get-put_other image space s (extended pages had) other)

  -- the page's bytes tell how it stands by the log
  pub standing_of_page : (log : List (List Record)) (n : ℕ) → image ≡ replayed log → ends log < 2 ^ 64 → redone space n log ≡ standing_at (page_of image space n)
  standing_of_page log n is small =
      sym (replayed_is_redone log space n small) ∙ ap (λ (i : Image). standing_in (finite.get i space) n) (sym is) ∙ ap (λ (o : Option (List (List ℕ))). standing_in o n) there ∙ ap standing_at (sym (in_pages image space n had there))

-- The pages of an image without a space.
module _ (image : Image) (space : ℕ) where
  abbrev pub removed : Image
  removed = finite.remove image space

  pub gone : (n : ℕ) → page_of removed space n ≡ None
  gone n = ap (option_and_then (λ (pages : List (List ℕ)). slice_get pages n)) (get-removed_same nat_cmp_total exact_unsigned image space)

  pub still_there : (s n : ℕ) → s ≢ space → page_of removed s n ≡ page_of image s n
  still_there s n other = ap (option_and_then (λ (pages : List (List ℕ)). slice_get pages n)) (get-removed_other nat_cmp_total exact_unsigned image space s other)
