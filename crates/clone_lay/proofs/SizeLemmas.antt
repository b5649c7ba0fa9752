-- The sizes that are kept of a disk's spaces, where a space gets room and where a page is written.
use Rattle.std.proofs.Common.{◌≡◌, ◌≢◌, ◌-◌, ◌≤◌, ◌⊎◌, ℕ, List, [], ◌++◌, length, replicate, None, Some, refl, sym, ap, ◌∙◌, subst, arith, inl, inr}
use Rattle.std.specs.Prelude.{IsSomeAnd, option_map, unwrap_or}
use Rattle.std.specs.declared.option.Option.{Option}
use Rattle.std.specs.FinMap as finite
use Rattle.std.specs.FinMap.{get-empty, len-empty, len-entries, same_entries_map}
use Rattle.std.specs.Ordering.{nat_cmp}
use Rattle.std.specs.Cmp.{nat_cmp_total}
use Rattle.std.proofs.lemmas.Bool.{cases_eq, cases_lt}
use Rattle.std.proofs.lemmas.List.{append-nil, length-map, length-set, nil_from_length}
use Rattle.std.proofs.lemmas.Map.Lookups.{exact_unsigned}
use Rattle.std.proofs.lemmas.Option.{same_Some, none-some}
use Rattle.clone_base.proofs.MapEntries.{get-set_same, get-set_other}
use Rattle.clone_base.proofs.OrderedMaps.{inserted_same}
use Rattle.clone_outside.specs.Disk.{DiskImage, Spaces, ForTold, IsBeforeOrAfter, Steps, changed, edited, extended, page_count, space_numbers, with_page, with_created, with_extended, zero_page, pages_in, with_space}
use Rattle.clone_outside.specs.declared.disk.Held.{Held}
use Rattle.clone_lay.specs.Laid.{with_room}
use Rattle.clone_lay.specs.Sized.{PageCounts, AreSizes}
use Rattle.clone_lay.proofs.LaidLemmas.{length-extended}
use Rattle.clone_outside.proofs.SpaceLemmas.{get_here, get_there}

-- the pages behind a number of pages, if that is known
pages_behind : (o : Option (List Held)) (n : ℕ) → option_map length o ≡ Some n → (pages : List Held) × (o ≡ Some pages) × (length pages ≡ n)
pages_behind None n is = absurd (none-some n is)
pages_behind (Some pages) n is = (pages, refl, same_Some (length pages) n is)

no_pages : (o : Option (List Held)) → option_map length o ≡ None → o ≡ None
no_pages None is = refl
no_pages (Some pages) is = absurd (none-some (length pages) (sym is))

length-pages : (o : Option (List Held)) → length (unwrap_or o []) ≡ unwrap_or (option_map length o) 0
length-pages None = refl
length-pages (Some pages) = refl

module _ (sizes : PageCounts) (s count : ℕ) where
  -- One disk.

  module _ (m : DiskImage) (are : AreSizes sizes m) where
    -- the space has room already
    room_there : (n : ℕ) → finite.get sizes s ≡ Some n → count ≤ n → with_room s count m ≡ m
    room_there n known enough =
        let pages = pages_behind (finite.get m.spaces s) n (are s ∙ known) in
        let none : count - length pages.0 ≡ 0 = omega (arith, pages.2) in
        let same : extended count pages.0 ≡ pages.0 = ap (λ (k : ℕ). pages.0 ++ replicate k zero_page) none ∙ append-nil pages.0 in
        ap (λ (o : Option (List Held)). with_space s (extended count (unwrap_or o [])) m) pages.1
        ∙ ap (λ (x : Spaces). record m { spaces = x })
        (ap (finite.insert m.spaces s) same ∙ sym (inserted_same nat_cmp_total exact_unsigned m.spaces s pages.0 pages.1))

    room_extended : (n : ℕ) → finite.get sizes s ≡ Some n → with_extended m s count ≡ with_room s count m
    room_extended n known =
        let pages = pages_behind (finite.get m.spaces s) n (are s ∙ known) in
        ap (λ (o : Option (List Held)). record m { spaces = changed m.spaces s (extended count) o }) pages.1
        ∙ sym (ap (λ (o : Option (List Held)). with_space s (extended count (unwrap_or o [])) m) pages.1)

    room_created : finite.get sizes s ≡ None → with_created m s count ≡ with_room s count m
    room_created none =
        let all : count ≡ count - 0 = omega arith in
        ap (λ (k : ℕ). with_space s (replicate k zero_page) m) all
        ∙ sym (ap (λ (o : Option (List Held)). with_space s (extended count (unwrap_or o [])) m) (no_pages (finite.get m.spaces s) (are s ∙ none)))

    sizes_roomy : unwrap_or (finite.get sizes s) 0 ≤ count → AreSizes (finite.insert sizes s count) (with_room s count m)
    sizes_roomy less q = at (cases_eq q s)
      where
        old : List Held
        old = pages_in m s

        long : length (extended count old) ≡ count
        long = omega (arith, length-extended count old, length-pages (finite.get m.spaces s) ∙ ap (λ (o : Option ℕ). unwrap_or o 0) (are s), less)

        at : (q ≡ s) ⊎ (q ≢ s) → page_count (with_room s count m) q ≡ finite.get (finite.insert sizes s count) q
        at (inl same) =
            ap (page_count (with_room s count m)) same ∙ ap (option_map length) (get_here m s (extended count old)) ∙ ap (λ (k : ℕ). Some k) long
            ∙ sym (ap (finite.get (finite.insert sizes s count)) same ∙ get-set_same nat_cmp_total exact_unsigned sizes s count)
        at (inr other) =
            ap (option_map length) (get_there m s q (extended count old) other) ∙ are q
            ∙ sym (get-set_other nat_cmp_total exact_unsigned sizes s count q other)

  -- What is told of it.

  pub still_roomy : (told : Option DiskImage) → ForTold told (AreSizes sizes) → IsSomeAnd (finite.get sizes s) (λ n. count ≤ n) → Steps told told (with_room s count)
  still_roomy None are enough = refl
  still_roomy (Some m) are enough = at (finite.get sizes s) refl enough
    where
      at : (o : Option ℕ) → finite.get sizes s ≡ o → IsSomeAnd o (λ n. count ≤ n) → Steps (Some m) (Some m) (with_room s count)
      at None known none = absurd none
      at (Some n) known low = ap (λ (x : DiskImage). Some x) (sym (room_there m are n known low))

  -- without room there are fewer pages
  pub less_room : (IsSomeAnd (finite.get sizes s) (λ n. count ≤ n) → ⊥) → unwrap_or (finite.get sizes s) 0 ≤ count
  less_room short = at (finite.get sizes s) short
    where
      at : (o : Option ℕ) → (IsSomeAnd o (λ n. count ≤ n) → ⊥) → unwrap_or o 0 ≤ count
      at None never = omega arith
      at (Some n) never = elim (cases_lt n count) [ inl low ↦ omega (arith, low) | inr high ↦ absurd (never high) ]

  pub roomy_extended : (told now : Option DiskImage) (n : ℕ) → ForTold told (AreSizes sizes) → finite.get sizes s ≡ Some n → Steps told now (λ m. with_extended m s count) → Steps told now (with_room s count)
  roomy_extended None now n are known steps = steps
  roomy_extended (Some m) now n are known steps = steps ∙ ap (λ (x : DiskImage). Some x) (room_extended m are n known)

  pub roomy_created : (told now : Option DiskImage) → ForTold told (AreSizes sizes) → finite.get sizes s ≡ None → Steps told now (λ m. with_created m s count) → Steps told now (with_room s count)
  roomy_created None now are none steps = steps
  roomy_created (Some m) now are none steps = steps ∙ ap (λ (x : DiskImage). Some x) (room_created m are none)

  pub either_extended : (told now : Option DiskImage) (n : ℕ) → ForTold told (AreSizes sizes) → finite.get sizes s ≡ Some n → IsBeforeOrAfter told now (λ m. with_extended m s count) → IsBeforeOrAfter told now (with_room s count)
  either_extended told now n are known (inl same) = inl same
  either_extended told now n are known (inr steps) = inr (roomy_extended told now n are known steps)

  pub either_created : (told now : Option DiskImage) → ForTold told (AreSizes sizes) → finite.get sizes s ≡ None → IsBeforeOrAfter told now (λ m. with_created m s count) → IsBeforeOrAfter told now (with_room s count)
  either_created told now are none (inl same) = inl same
  either_created told now are none (inr steps) = inr (roomy_created told now are none steps)

  pub sizes_made : (new : PageCounts) (told now : Option DiskImage) → ForTold told (AreSizes sizes) → unwrap_or (finite.get sizes s) 0 ≤ count → new ≡ finite.insert sizes s count → Steps told now (with_room s count) → ForTold now (AreSizes new)
  sizes_made new None now are less is steps = subst (λ (o : Option DiskImage). ForTold o (AreSizes new)) (sym steps) tt
  sizes_made new (Some m) now are less is steps =
      subst (λ (o : Option DiskImage). ForTold o (AreSizes new)) (sym steps)
      (subst (λ (x : PageCounts). AreSizes x (with_room s count m)) (sym is) (sizes_roomy m are less))

-- a write of a page leaves the sizes
pub sizes_kept : (sizes : PageCounts) (told now : Option DiskImage) (s n : ℕ) (edit : Held → Held) → ForTold told (AreSizes sizes) → Steps told now (λ m. with_page m s n edit) → ForTold now (AreSizes sizes)
sizes_kept sizes None now s n edit are steps = subst (λ (o : Option DiskImage). ForTold o (AreSizes sizes)) (sym steps) tt
sizes_kept sizes (Some m) now s n edit are steps = subst (λ (o : Option DiskImage). ForTold o (AreSizes sizes)) (sym steps) (λ q. at q (finite.get m.spaces s) refl ∙ are q)
  where
    at : (q : ℕ) (o : Option (List Held)) → finite.get m.spaces s ≡ o → page_count (record m { spaces = changed m.spaces s (edited n edit) o }) q ≡ page_count m q
    at q None is = refl
    at q (Some pages) is = here (cases_eq q s)
      where
        after : List Held
        after = edited n edit pages

        here : (q ≡ s) ⊎ (q ≢ s) → page_count (with_space s after m) q ≡ page_count m q
        here (inl same) =
            ap (page_count (with_space s after m)) same ∙ ap (option_map length) (get_here m s after)
            ∙ ap (λ (k : ℕ). Some k) (length-set pages n _)
            ∙ sym (ap (page_count m) same ∙ ap (option_map length) is)
        here (inr other) = ap (option_map length) (get_there m s q after other)

-- a disk without spaces has no sizes
pub no_sizes : (m : DiskImage) → m.spaces ≡ finite.empty → AreSizes finite.empty m
no_sizes m blank q = ap (λ (x : Spaces). option_map length (finite.get x q)) blank ∙ ap (option_map length) (get-empty nat_cmp q) ∙ sym (get-empty nat_cmp q)

pub none_listed : (m : DiskImage) → space_numbers m ≡ [] → m.spaces ≡ finite.empty
none_listed m none =
    same_entries_map m.spaces finite.empty
    (nil_from_length (finite.entries m.spaces) (sym (length-map (finite.entries m.spaces) (λ e. e.0)) ∙ ap length none) ∙ sym no_entries)
  where
    no_entries : finite.entries (finite.empty {X = List Held} {R = nat_cmp}) ≡ []
    no_entries = nil_from_length _ (sym (len-entries (finite.empty {X = List Held} {R = nat_cmp})) ∙ len-empty nat_cmp (List Held))
