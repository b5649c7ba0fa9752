-- An overlay of all spaces of a disk shows the disk.
use Rattle.std.proofs.Common.{◌≡◌, ◌==◌, ℕ, List, [], ◌∷◌, length, get_or, refl, sym, ap, subst, ◌∙◌, arith, Bool, true, false, cond, Some, None, is_some, inl, inr, ◌⊎◌, ◌||◌}
use Rattle.std.specs.Prelude.{nat_lt, option_map, unwrap_or, slice_get, IfSome}
use Rattle.std.specs.declared.option.Option.{Option}
use Rattle.std.specs.FinMap as finite
use Rattle.std.specs.FinMap.{get-empty, contains_key-keys}
use Rattle.std.specs.List.{list_any}
use Rattle.std.specs.Ordering.{nat_cmp, eq_by_cmp}
use Rattle.std.proofs.lemmas.Bool.{cases_lt, lt-ltb, le-ltb}
use Rattle.std.proofs.lemmas.Bool.Decides.{eqb_tells}
use Rattle.std.proofs.lemmas.List.{length-map}
use Rattle.std.proofs.lemmas.Option.{slice_get-get_or, slice_get_past}
use Rattle.clone_page.specs.Header.{zero_page}
use Rattle.clone_outside.specs.Disk.{DiskImage, ForTold, page_count, space_numbers}
use Rattle.clone_outside.specs.declared.disk.Held.{Held}
use Rattle.clone_image.specs.Redone.{past_end, stands, standing_at, standing_in}
use Rattle.clone_overlay.specs.Covers.{Cover, Overlay}
use Rattle.clone_overlay.specs.Images.{redo_space, bytes_of, image_of}
use Rattle.clone_overlay.specs.Opened.{whole, added, with_space, with_spaces}
use Rattle.clone_overlay.specs.Shown.{standing_over, leaf_over, Fits, Shows}
use Rattle.clone_overlay.proofs.Bases.{get_image}
use Rattle.clone_overlay.proofs.Entries.{tied, get_here, get_there}

-- what an overlay of the whole disk has at a space
abbrev cover_on : DiskImage → ℕ → Option Cover
cover_on m q = cond (nat_lt q redo_space) (option_map whole (page_count m q)) None

abbrev IsOn : DiskImage → ℕ → Overlay → Type 0
IsOn m q overlay = finite.get overlay q ≡ cover_on m q

-- the space itself is added
own_added : (m : DiskImage) (q : ℕ) (overlay : Overlay) (o : Option ℕ) → page_count m q ≡ o → finite.get (added overlay q o) q ≡ option_map whole o ⊎ (o ≡ None)
own_added m q overlay None is = inr refl
own_added m q overlay (Some count) is = inl (get_here overlay q (whole count))

stays_on : (m : DiskImage) (q s : ℕ) (overlay : Overlay) → IsOn m q overlay → IsOn m q (with_space m overlay s)
stays_on m q s overlay on = at (nat_lt s redo_space) refl (page_count m s) refl
  where
    at : (b : Bool) → nat_lt s redo_space ≡ b → (o : Option ℕ) → page_count m s ≡ o → finite.get (cond (nat_lt s redo_space) (added overlay s (page_count m s)) overlay) q ≡ cover_on m q
    at false low o is = ap (λ (b : Bool). finite.get (cond b (added overlay s (page_count m s)) overlay) q) low ∙ on
    at true low None is = ap (λ (b : Bool). finite.get (cond b (added overlay s (page_count m s)) overlay) q) low ∙ ap (λ (o : Option ℕ). finite.get (added overlay s o) q) is ∙ on
    at true low (Some count) is =
        ap (λ (b : Bool). finite.get (cond b (added overlay s (page_count m s)) overlay) q) low ∙ ap (λ (o : Option ℕ). finite.get (added overlay s o) q) is
        ∙ elim (eqb_tells s q) [
          | inl same ↦
              ap (finite.get (finite.insert overlay s (whole count))) (sym same.1) ∙ get_here overlay s (whole count)
              ∙ sym (ap (λ (k : ℕ). cond (nat_lt k redo_space) (option_map whole (page_count m k)) None) (sym same.1) ∙ ap (λ (b : Bool). cond b (option_map whole (page_count m s)) None) low ∙ ap (option_map whole) is)
          | inr other ↦ get_there overlay s (whole count) q other.0 ∙ on
        ]

all_stay : (m : DiskImage) (q : ℕ) (ss : List ℕ) (overlay : Overlay) → IsOn m q overlay → IsOn m q (with_spaces m overlay ss)
all_stay m q [] overlay on = on
all_stay m q (s ∷ ss) overlay on = all_stay m q ss (with_space m overlay s) (stays_on m q s overlay on)

-- a space that is added, or isn't below the redo's and isn't there
comes_on : (m : DiskImage) (q count : ℕ) (overlay : Overlay) → page_count m q ≡ Some count → (nat_lt q redo_space ≡ false → finite.get overlay q ≡ None) → IsOn m q (with_space m overlay q)
comes_on m q count overlay is high = at (nat_lt q redo_space) refl
  where
    at : (b : Bool) → nat_lt q redo_space ≡ b → IsOn m q (with_space m overlay q)
    at true low =
        ap (λ (b : Bool). finite.get (cond b (added overlay q (page_count m q)) overlay) q) low ∙ ap (λ (o : Option ℕ). finite.get (added overlay q o) q) is ∙ get_here overlay q (whole count)
        ∙ sym (ap (λ (b : Bool). cond b (option_map whole (page_count m q)) None) low ∙ ap (option_map whole) is)
    at false low =
        ap (λ (b : Bool). finite.get (cond b (added overlay q (page_count m q)) overlay) q) low ∙ high low
        ∙ sym (ap (λ (b : Bool). cond b (option_map whole (page_count m q)) None) low)

-- no space from the redo's on comes in
stays_low : (m : DiskImage) (q s : ℕ) (overlay : Overlay) → (nat_lt q redo_space ≡ false → finite.get overlay q ≡ None) → nat_lt q redo_space ≡ false → finite.get (with_space m overlay s) q ≡ None
stays_low m q s overlay high above = at (nat_lt s redo_space) refl (page_count m s)
  where
    other : nat_lt s redo_space ≡ true → (s == q) ≡ false
    other low = elim (eqb_tells s q) [ inl same ↦ absurd (let e : true ≡ false = sym low ∙ ap (λ (k : ℕ). nat_lt k redo_space) same.1 ∙ above in cc) | inr apart ↦ apart.0 ]

    put : nat_lt s redo_space ≡ true → (o : Option ℕ) → finite.get (added overlay s o) q ≡ None
    put low None = high above
    put low (Some count) = get_there overlay s (whole count) q (other low) ∙ high above

    at : (b : Bool) → nat_lt s redo_space ≡ b → (o : Option ℕ) → finite.get (with_space m overlay s) q ≡ None
    at false low o = ap (λ (b : Bool). finite.get (cond b (added overlay s (page_count m s)) overlay) q) low ∙ high above
    at true low o = ap (λ (b : Bool). finite.get (cond b (added overlay s (page_count m s)) overlay) q) low ∙ put low (page_count m s)

all_come : (m : DiskImage) (q count : ℕ) (ss : List ℕ) (overlay : Overlay) → page_count m q ≡ Some count → list_any (eq_by_cmp nat_cmp q) ss ≡ true → (nat_lt q redo_space ≡ false → finite.get overlay q ≡ None)
    → IsOn m q (with_spaces m overlay ss)
all_come m q count [] overlay is any high = absurd (let e : false ≡ true = any in cc)
all_come m q count (s ∷ ss) overlay is any high = elim (eqb_tells s q) [
  | inl same ↦ all_stay m q ss (with_space m overlay s) (subst (λ (k : ℕ). IsOn m q (with_space m overlay k)) (sym same.1) (comes_on m q count overlay is high))
  | inr other ↦ all_come m q count ss (with_space m overlay s) is (sym (ap (λ (b : Bool). b || list_any (eq_by_cmp nat_cmp q) ss) (tied s q ∙ other.0)) ∙ any) (stays_low m q s overlay high)
]

-- all spaces are added
pub all_on : (m : DiskImage) (q : ℕ) → finite.get (with_spaces m finite.empty (space_numbers m)) q ≡ cover_on m q
all_on m q = at (finite.get m.spaces q) refl
  where
    same_none : (b : Bool) → ◌≡◌ {A = Option Cover} None (cond b None None)
    same_none true = refl
    same_none false = refl

    at : (o : Option (List Held)) → finite.get m.spaces q ≡ o → IsOn m q (with_spaces m finite.empty (space_numbers m))
    at None is = all_stay m q (space_numbers m) finite.empty (get-empty nat_cmp q ∙ same_none (nat_lt q redo_space) ∙ sym (ap (λ o. cond (nat_lt q redo_space) (option_map whole (option_map length o)) None) is))
    at (Some pages) is = all_come m q (length pages) (space_numbers m) finite.empty (ap (option_map length) is) (sym (contains_key-keys m.spaces q) ∙ ap is_some is) (λ _. get-empty nat_cmp q)

at_whole : (pages : List (List ℕ)) (n : ℕ) → standing_at (slice_get pages n) ≡ standing_over pages (Some (whole (length pages))) n
at_whole pages n = elim (cases_lt n (length pages)) [
  | inl low ↦
      ap standing_at (slice_get-get_or pages n [] low)
      ∙ sym (ap (λ (b : Bool). cond b (stands (leaf_over pages (whole (length pages)) n)) past_end) (lt-ltb n (length pages) low)
      ∙ ap (λ (o : Option (List ℕ)). stands (unwrap_or o (cond (nat_lt n (length pages)) (get_or pages n []) zero_page))) (get-empty nat_cmp n)
      ∙ ap (λ (b : Bool). stands (cond b (get_or pages n []) zero_page)) (lt-ltb n (length pages) low))
  | inr past ↦ ap standing_at (slice_get_past pages n past) ∙ sym (ap (λ (b : Bool). cond b (stands (leaf_over pages (whole (length pages)) n)) past_end) (le-ltb n (length pages) past))
]

-- how it stands in both
record IsSeen (image : Option (List (List ℕ))) (cover : Option Cover) : Type 0 where
  standings : (n : ℕ) → standing_in image n ≡ standing_over (unwrap_or image []) cover n
  fits : IfSome cover (Fits (unwrap_or image []))

seen : (b : Bool) (o : Option (List Held)) → IsSeen (cond b (option_map bytes_of o) None) (cond b (option_map whole (option_map length o)) None)
seen false o = record { standings = λ n. refl; fits = tt }
seen true None = record { standings = λ n. refl; fits = tt }
seen true (Some pages) =
    let long : length (bytes_of pages) ≡ length pages = length-map pages (λ (h : Held). h.bytes) in
    record {
      standings = λ n. at_whole (bytes_of pages) n ∙ ap (λ (k : ℕ). standing_over (bytes_of pages) (Some (whole k)) n) long;
      fits = record { kept = inr (sym long); low = omega arith; within = λ n past. get-empty nat_cmp n };
    }

pub opened_shows : (m : DiskImage) (overlay : Overlay) → overlay ≡ with_spaces m finite.empty (space_numbers m) → Shows (image_of m) (image_of m) overlay
opened_shows m overlay is =
    let has = λ (q : ℕ). ap (λ (o : Overlay). finite.get o q) is ∙ all_on m q in
    let both = λ (q : ℕ). subst (λ i. IsSeen i (finite.get overlay q)) (sym (get_image m q)) (subst (IsSeen (cond (nat_lt q redo_space) (option_map bytes_of (finite.get m.spaces q)) None)) (sym (has q)) (seen (nat_lt q redo_space) (finite.get m.spaces q))) in
    record { standings = λ q n. (both q).standings n; fits = λ q. (both q).fits }

pub opened_told : (told mid : Option DiskImage) (overlay : Overlay) (numbers all : List ℕ) → mid ≡ told → numbers ≡ all → ForTold told (λ m. all ≡ space_numbers m) → ForTold mid (λ m. overlay ≡ with_spaces m finite.empty numbers)
    → ForTold told (λ m. Shows (image_of m) (image_of m) overlay)
opened_told told mid overlay numbers all same is = at told mid (sym same)
  where
    for_one : (m : DiskImage) → all ≡ space_numbers m → overlay ≡ with_spaces m finite.empty numbers → Shows (image_of m) (image_of m) overlay
    for_one m each made = opened_shows m overlay (made ∙ ap (with_spaces m finite.empty) (is ∙ each))

    from : (o : Option DiskImage) → ForTold o (λ m. all ≡ space_numbers m) → ForTold o (λ m. overlay ≡ with_spaces m finite.empty numbers) → ForTold o (λ m. Shows (image_of m) (image_of m) overlay)
    from None each made = tt
    from (Some m) each made = for_one m each made

    at : (o p : Option DiskImage) → o ≡ p → ForTold o (λ m. all ≡ space_numbers m) → ForTold p (λ m. overlay ≡ with_spaces m finite.empty numbers) → ForTold o (λ m. Shows (image_of m) (image_of m) overlay)
    at o p e each made = from o each (subst (λ x. ForTold x (λ m. overlay ≡ with_spaces m finite.empty numbers)) (sym e) made)
