-- The files: a file that gets longer on the disk, and how long each is then.
use Rattle.std.proofs.Common.{◌≡◌, ◌≢◌, ◌+◌, ◌-◌, ◌<◌, ◌≤◌, ◌&&◌, ◌⊎◌, inl, inr, ℕ, Bool, true, false, List, length, replicate, slice_get, nat_le, refl, sym, ap, subst, ◌∙◌, arith, Option, Some, None, IsSome, option_map, option_and_then}
use Rattle.std.specs.FinMap as finite
use Rattle.std.proofs.lemmas.Option.{slice_get_past}
use Rattle.std.proofs.lemmas.Bool.{cases_eq, cases_lt, and_parts, lt-ltb, leb-true, true≢false}
use Rattle.std.proofs.lemmas.List.{length-append, length-replicate}
use Rattle.clone_base.proofs.Lists.{slice_get-some}
use Rattle.clone_image.proofs.Images.{get-put_same, get-put_other}
use Rattle.clone_model.specs.declared.line.TheConstants.{MOST_PAGES}
use Rattle.clone_outside.specs.Disk.{DiskImage, ForTold, changed, extended, page_count, page_of, with_extended, zero_page}
use Rattle.clone_outside.specs.declared.disk.Held.{Held}
use Rattle.clone_pool.specs.declared.frame.PageName.{PageName}
use Rattle.clone_flush.specs.Flights.{Files, Flights, HasFiles, ends_before, is_short}
use Rattle.clone_flush.specs.Calls.{Lengthens, ends_short, lengthened, reaching}
use Rattle.clone_flush.proofs.FlightLemmas.{told_stepped}

-- a page below the count of its space is there
pub page_there : (m : DiskImage) (space number count : ℕ) → page_count m space ≡ Some count → number < count → IsSome (page_of m space number)
page_there m space number count is low = by (finite.get m.spaces space) refl
  where
    by : (o : Option (List Held)) → finite.get m.spaces space ≡ o → IsSome (page_of m space number)
    by None none = absurd (let e = sym (ap (option_map length) none) ∙ is in cc)
    by (Some pages) some =
        let same : Some (length pages) ≡ Some count = sym (ap (option_map length) some) ∙ is in
        let long : length pages ≡ count = cc in
        let found = slice_get-some pages number (omega (arith, long, low)) in
        subst IsSome (sym (ap (λ (o : Option (List Held)). option_and_then (λ ps. slice_get ps number) o) some ∙ found.1)) refl

-- each space that is there has no fewer pages than before, and the one that got longer so many
pub record Longer (m : DiskImage) (space pages s count : ℕ) : Type 0 where
  pub now : ℕ
  pub is : page_count (with_extended m space pages) s ≡ Some now
  pub more : count ≤ now
  pub reached : s ≡ space → pages ≤ now

pub extended_count : (m : DiskImage) (space pages s count : ℕ) → page_count m s ≡ Some count → Longer m space pages s count
extended_count m space pages s count is = by (cases_eq s space) (finite.get m.spaces space) refl
  where
    by : (s ≡ space) ⊎ (s ≢ space) → (o : Option (List Held)) → finite.get m.spaces space ≡ o → Longer m space pages s count
    by (inl same) None none = absurd (let e = sym (ap (option_map length) (ap (finite.get m.spaces) same ∙ none)) ∙ is in cc)
    by (inl same) (Some ps) some =
        let had : Some (length ps) ≡ Some count = sym (ap (option_map length) (ap (finite.get m.spaces) same ∙ some)) ∙ is in
        let long : length ps ≡ count = cc in
        let after : length (extended pages ps) ≡ length ps + (pages - length ps) = length-append ps (replicate (pages - length ps) zero_page) ∙ ap (λ (n : ℕ). length ps + n) (length-replicate (pages - length ps) zero_page) in
        record {
          now = length (extended pages ps);
          is = ap (λ (o : Option (List Held)). option_map length (finite.get (changed m.spaces space (extended pages) o) s)) some ∙ ap (λ (n : ℕ). option_map length (finite.get (finite.insert m.spaces space (extended pages ps)) n)) same ∙ ap (option_map length) (get-put_same m.spaces space (extended pages ps));
          more = omega (arith, after, long);
          reached = λ _. omega (arith, after);
        }
    by (inr other) None none = record { now = count; is = ap (λ (o : Option (List Held)). option_map length (finite.get (changed m.spaces space (extended pages) o) s)) none ∙ is; more = omega (arith); reached = λ same. absurd (other same) }
    by (inr other) (Some ps) some = record {
      now = count;
      is = ap (λ (o : Option (List Held)). option_map length (finite.get (changed m.spaces space (extended pages) o) s)) some ∙ ap (option_map length) (get-put_other m.spaces space s (extended pages ps) other) ∙ is;
      more = omega (arith);
      reached = λ same. absurd (other same);
    }

-- The files that are known, as the disk has them.
module _ (files : Files) (m : DiskImage) (h : HasFiles files m) (space : ℕ) where
  -- a file that got longer
  pub files_extended : (pages : ℕ) → IsSome (finite.get files space) → HasFiles (finite.insert files space pages) (with_extended m space pages)
  files_extended pages known s count is = by (cases_eq s space)
    where
      had : (o : Option ℕ) → finite.get files space ≡ o → IsSome o → s ≡ space → (now : ℕ) × (page_count (with_extended m space pages) s ≡ Some now) × (count ≤ now)
      had None none some same = absurd (cc)
      had (Some old) there some same =
          let long = h space old there in
          let now = extended_count m space pages s long.0 (ap (page_count m) same ∙ long.1) in
          let value : Some pages ≡ Some count = sym (get-put_same files space pages) ∙ ap (finite.get (finite.insert files space pages)) (sym same) ∙ is in
          let pages_is : pages ≡ count = cc in
          (now.now, now.is, omega (arith, now.reached same, pages_is))

      by : (s ≡ space) ⊎ (s ≢ space) → (now : ℕ) × (page_count (with_extended m space pages) s ≡ Some now) × (count ≤ now)
      by (inl same) = had (finite.get files space) refl known same
      by (inr other) =
          let long = h s count (sym (get-put_other files space s pages other) ∙ is) in
          let now = extended_count m space pages s long.0 long.1 in
          (now.now, now.is, omega (arith, now.more, long.2))

  -- a page that isn't past the end of its file is there
  pub long_enough : (number : ℕ) → IsSome (finite.get files space) → is_short files space number ≡ false → IsSome (page_of m space number)
  long_enough number known is = by (finite.get files space) refl known is
    where
      by : (o : Option ℕ) → finite.get files space ≡ o → IsSome o → ends_before o number ≡ false → IsSome (page_of m space number)
      by None none some e = absurd (cc)
      by (Some pages) there some e =
          let long = h space pages there in
          page_there m space number long.0 long.1 (omega (arith, below e, long.2))
        where
          below : nat_le pages number ≡ false → number < pages
          below e = grind (arith)

  -- a file that has a page is as long as that
  pub files_reached : (number : ℕ) → IsSome (page_of m space number) → HasFiles (finite.insert files space (number + 1)) m
  files_reached number there s count is = by (cases_eq s space)
    where
      long : (o : Option (List Held)) → finite.get m.spaces space ≡ o → IsSome (option_and_then (λ ps. slice_get ps number) o) → (now : ℕ) × (page_count m space ≡ Some now) × (number + 1 ≤ now)
      long None none there = absurd (cc)
      long (Some ps) some there = at (cases_lt number (length ps))
        where
          at : (number < length ps) ⊎ (length ps ≤ number) → (now : ℕ) × (page_count m space ≡ Some now) × (number + 1 ≤ now)
          at (inl low) = (length ps, ap (option_map length) some, omega (arith, low))
          at (inr past) = absurd (let none = slice_get_past ps number past in cc)

      by : (s ≡ space) ⊎ (s ≢ space) → (now : ℕ) × (page_count m s ≡ Some now) × (count ≤ now)
      by (inl same) =
          let now = long (finite.get m.spaces space) refl there in
          let value : Some (number + 1) ≡ Some count = sym (get-put_same files space (number + 1)) ∙ ap (finite.get (finite.insert files space (number + 1))) (sym same) ∙ is in
          let count_is : number + 1 ≡ count = cc in
          (now.0, ap (page_count m) same ∙ now.1, omega (arith, count_is, now.2))
      by (inr other) = h s count (sym (get-put_other files space s (number + 1) other) ∙ is)

-- a file is known that is too short for a page
pub short_known : (files : Files) (space number : ℕ) → is_short files space number ≡ true → (pages : ℕ) × (finite.get files space ≡ Some pages) × (pages ≤ number)
short_known files space number is = by (finite.get files space) refl is
  where
    by : (o : Option ℕ) → finite.get files space ≡ o → ends_before o number ≡ true → (pages : ℕ) × (finite.get files space ≡ Some pages) × (pages ≤ number)
    by None none e = absurd (true≢false (sym e))
    by (Some pages) there e = (pages, there, leb-true pages number e)

-- Files that a flush lengthens, where it begins.
module _ (page : PageName) (f : Flights) where
  pub short_is : ends_short page f ≡ true → is_short f.files page.space page.number ≡ true
  short_is e = (and_parts _ _ e).0

  pub known_is : ends_short page f ≡ true → IsSome (finite.get f.files page.space)
  known_is e = let known = short_known f.files page.space page.number (short_is e) in subst IsSome (sym known.1) refl

  pub long_is : page.number < MOST_PAGES → ends_short page f ≡ false → is_short f.files page.space page.number ≡ false
  long_is low e = by (is_short f.files page.space page.number) (ap (λ (b : Bool). is_short f.files page.space page.number && b) (sym (lt-ltb page.number MOST_PAGES low)) ∙ e)
    where
      by : (b : Bool) → (b && true) ≡ false → b ≡ false
      by true e = absurd (true≢false e)
      by false e = refl

  pub files_lengthened : (before after : Option DiskImage) → Lengthens (ends_short page f) page before after → ForTold before (HasFiles f.files) → ForTold after (HasFiles (lengthened (ends_short page f) page f).files)
  files_lengthened before after = by (ends_short page f) refl
    where
      by : (b : Bool) → ends_short page f ≡ b → Lengthens b page before after → ForTold before (HasFiles f.files) → ForTold after (HasFiles (lengthened b page f).files)
      by false e same h = subst (λ (t : Option DiskImage). ForTold t (HasFiles f.files)) (sym same) h
      by true e step h = told_stepped (HasFiles f.files) (HasFiles (finite.insert f.files page.space (page.number + 1))) before after (reaching page) step (λ m had. files_extended f.files m had page.space (page.number + 1) (known_is e)) h
