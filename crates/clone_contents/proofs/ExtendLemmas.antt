-- The space of a table gets longer, for the contents: pages of zero bytes come behind its last one.
use Rattle.std.proofs.Common.{◌≡◌, ◌≢◌, ◌<◌, ◌≤◌, ◌-◌, ◌⊎◌, ℕ, Bool, true, false, cond, eqb, List, length, replicate, refl, sym, ap, ◌∙◌, arith, inl, inr, Option, Some, None, option_map, option_and_then, slice_get, nat_lt, length-append}
use Rattle.std.specs.FinMap as finite
use Rattle.std.proofs.lemmas.Bool.Decides.{eqb_tells}
use Rattle.clone_contents.proofs.Common.{cases_eq, length-replicate, same_Some, zero_page, Extend, Image, page_of, page_count, get-put_same, get-put_other, contents_of, set_at, IsFormed, HasContents}
use Rattle.clone_image.specs.Image.{after_record, with_pages, extended}
use Rattle.clone_image.specs.Redone.{Standing, no_space, past_end, stands, stretched, standing_at, standing_in, standing_of}
use Rattle.clone_image.proofs.Standings.{after_record-standing}
use Rattle.clone_contents.proofs.SameContents.{set_at-same, set_at-other}
use Rattle.clone_contents.proofs.ImagePages.{there, within_space}
use Rattle.clone_contents.proofs.ZeroPages.{GetsZeros, zeros_come, none_is}

-- the page that stands, if one does
abbrev page_in : Standing → Option (List ℕ)
page_in no_space = None
page_in past_end = None
page_in (stands page) = Some page

page_standing : (image : Image) (s n : ℕ) → page_of image s n ≡ page_in (standing_of image s n)
page_standing image s n = space (finite.get image s)
  where
    at : (o : Option (List ℕ)) → o ≡ page_in (standing_at o)
    at None = refl
    at (Some page) = refl

    space : (o : Option (List (List ℕ))) → option_and_then (λ pages. slice_get pages n) o ≡ page_in (standing_in o n)
    space None = refl
    space (Some pages) = at (slice_get pages n)

made_zero : (b : Bool) (page : List ℕ) → page_in (cond b (stands zero_page) past_end) ≡ Some page → page ≡ zero_page
made_zero true page is = sym (same_Some zero_page page is)
made_zero false page is = absurd (let e = is in cc)

-- a page of the space stays, or comes and is zero
longer : (n count : ℕ) (p : Standing) → (page_in (stretched n count p) ≡ page_in p) ⊎ ((page_in p ≡ None) × ((page : List ℕ) → page_in (stretched n count p) ≡ Some page → page ≡ zero_page))
longer n count no_space = inl refl
longer n count (stands page) = inl refl
longer n count past_end = inr (refl, λ page is. made_zero (nat_lt n count) page is)

module _ (image : Image) (lsn table pages count : ℕ) (formed : IsFormed image) (in_table : table ≢ 0) (size : page_count image table ≡ Some pages) (more : pages ≤ count) where
  abbrev new : Image
  new = after_record lsn image (Extend table count)

  pages_come : (t n : ℕ) → (page_of new t n ≡ page_of image t n) ⊎ ((t ≡ table) × (page_of image t n ≡ None) × ((page : List ℕ) → page_of new t n ≡ Some page → page ≡ zero_page))
  pages_come t n =
      elim (eqb_tells table t) [
        | inr other ↦ inl (now ∙ ap (λ (b : Bool). page_in (cond b (stretched n count old) old)) other.0 ∙ sym was)
        | inl same ↦ (let here = now ∙ ap (λ (b : Bool). page_in (cond b (stretched n count old) old)) same.0 in elim (longer n count old) [
          | inl kept ↦ inl (here ∙ kept ∙ sym was)
          | inr comes ↦ inr (sym same.1, was ∙ comes.0, λ page is. comes.1 page (sym here ∙ is))
        ])
      ]
    where
      old : Standing
      old = standing_of image t n

      was : page_of image t n ≡ page_in old
      was = page_standing image t n

      now : page_of new t n ≡ page_in (cond (eqb table t) (stretched n count old) old)
      now = page_standing new t n ∙ ap page_in (after_record-standing lsn image (Extend table count) t n)

  size_is : (t : ℕ) → page_count new t ≡ set_at table (Some count) (contents_of image).size t
  size_is t = at (finite.get image table) refl
    where
      put : List (List ℕ) → Image
      put ps = finite.insert image table (extended count ps)

      long : (ps : List (List ℕ)) → finite.get image table ≡ Some ps → length (extended count ps) ≡ count
      long ps some =
          let was : length ps ≡ pages = same_Some (length ps) pages (sym (ap (option_map length) some) ∙ size) in
          omega (arith, was, more, length-append ps (replicate (count - length ps) zero_page), length-replicate (count - length ps) zero_page)

      by : (ps : List (List ℕ)) → finite.get image table ≡ Some ps → (t ≡ table) ⊎ (t ≢ table) → page_count (finite.insert image table (extended count ps)) t ≡ set_at table (Some count) (contents_of image).size t
      by ps some (inl same) =
          ap (page_count (finite.insert image table (extended count ps))) same ∙ ap (option_map length) (get-put_same image table (extended count ps)) ∙ ap (λ n. Some n) (long ps some)
          ∙ sym (set_at-same table t (Some count) (contents_of image).size same)
      by ps some (inr other) = ap (option_map length) (get-put_other image table t (extended count ps) other) ∙ sym (set_at-other table t (Some count) (contents_of image).size other)

      at : (o : Option (List (List ℕ))) → finite.get image table ≡ o → page_count new t ≡ set_at table (Some count) (contents_of image).size t
      at None none = absurd (let e = sym size ∙ ap (option_map length) none in cc)
      at (Some ps) some = ap (λ (o : Option (List (List ℕ))). page_count (with_pages image table (option_map (extended count) o)) t) some ∙ by ps some (cases_eq t table)

  gets : GetsZeros image new
  gets = record {
    formed = formed;
    system = size_is 0 ∙ set_at-other table 0 (Some count) (contents_of image).size (λ zero. in_table (sym zero));
    pages = λ t n. elim (pages_come t n) [
      | inl same ↦ inl same
      | inr comes ↦ inr (λ zero. in_table (sym comes.0 ∙ zero), comes.1, comes.2)
    ];
  }

  pub space_longer : HasContents new (record (contents_of image) { size = set_at table (Some count) (contents_of image).size })
  space_longer = zeros_come image new gets (set_at table (Some count) (contents_of image).size) size_is

  -- a page that was there stays
  pub page_stays : (n : ℕ) (page : List ℕ) → page_of image table n ≡ Some page → page_of new table n ≡ Some page
  page_stays n page is = elim (pages_come table n) [ inl same ↦ same ∙ is | inr comes ↦ absurd (none_is comes.1 is) ]

  -- and behind the last one the pages are zero
  pub page_comes : (n : ℕ) → pages ≤ n → n < count → page_of new table n ≡ Some zero_page
  page_comes n past low =
      let found = there new table n count (size_is table ∙ set_at-same table table (Some count) (contents_of image).size refl) low in
      elim (pages_come table n) [
        | inl same ↦ absurd (let inside = within_space image table n pages found.0 size (sym same ∙ found.1) in omega (arith, inside, past))
        | inr comes ↦ found.1 ∙ ap (λ p. Some p) (comes.2 found.0 found.1)
      ]
