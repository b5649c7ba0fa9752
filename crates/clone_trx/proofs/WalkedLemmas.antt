-- Where a walk comes to, where all that was read is right: to THE slot of the key.
use Rattle.std.proofs.lemmas.Map.Steps.{length-le_from_distinct_below}
use Rattle.std.specs.List.{AllByRecursion}
use Rattle.std.specs.FinMap as finite
use Rattle.clone_page.specs.Header.{zero_page}
use Rattle.clone_row.proofs.Rows.{slots-zero}
use Rattle.clone_contents.specs.Finding.{FindsFreeIn}
use Rattle.clone_contents.specs.Formed.{IsRowsOrUnused}
use Rattle.clone_trx.proofs.Common.{◌≡◌, ◌≢◌, ◌<◌, ◌≤◌, ◌-◌, ◌%◌, ◌==◌, ◌&&◌, ◌⊎◌, inl, inr, ℕ, Bool, true, false, List, [], ◌∷◌, length, refl, sym, ap, subst, ◌∙◌, arith, Option, Some, None, IsTrue, IfSome, MatchOption, Result, Ok, Err, ◌||◌, unwrap_or, eqb-true, mod-lt, false≢true, list_any, MOST_PAGES, behind, IsChain, replayed, key_found, free_found, next_on, slot_on, Buffered, image_of, EngineRefusal, Course, Spot, all_pages-is, same_Some, none-some, unused, Finds, FindsFree, slots, slot_in, kind_of, is_unused, Image, page_of, page_there, Contents, contents_of, HasPage, Donor, page_number, IsBound, IsNowhere, IsRowSlot, OnChain, HasChain, IsKept, row_walk, IsFullAt, HasSize, goes_on, begins, FindsRoom, FindsWanted, Holds, Walks, WalksAll, misses, finds, keeps, passes, returns, arrives, chain_page, onward, page_in}
use Rattle.clone_trx.proofs.CauseLemmas.{not_equal}
use Rattle.clone_trx.proofs.ChainLemmas.{all_on, on_there}
use Rattle.clone_trx.proofs.HeldPageLemmas.{held_right}
use Rattle.clone_trx.proofs.WalkLemmas.{Stays, walk_stays, held_stays, released_stays, kept_stays, room_free, onward_is, onward_none}

-- Over the pages of one image. `On` holds of the pages that a walk may come to.
module _ (course : Course) (image : Image) (used : course.table ≢ 0) (On : ℕ → Type 0) (closed : (p q : ℕ) → On p → (contents_of image).next course.table p ≡ Some q → On q) where
  abbrev c : Contents
  c = contents_of image

  abbrev t : ℕ
  t = course.table

  -- no slot of a page is bound to the key
  abbrev Without : ℕ → Type 0
  Without page = (slot_number : ℕ) → ¬ IsBound c.slot t page slot_number course.key

  -- the chain ends at a page, and a walk that is for room found none there
  abbrev IsEnd : ℕ → Type 0
  IsEnd page = (c.next t page ≡ None) × (course.for_room ≡ true → FindsFreeIn c t page None)

  -- the slot is bound to the key, or it was never used and the key is bound on none of these pages,
  -- of which this is the last where there is no slot
  abbrev pub ComesTo : List ℕ → ℕ → Option ℕ → Type 0
  ComesTo pages page None = AllByRecursion Without pages × IsEnd page
  ComesTo pages page (Some slot_number) = IsBound c.slot t page slot_number course.key ⊎ ((c.slot t page slot_number ≡ unused) × AllByRecursion Without pages)

  abbrev pub Came : List ℕ → Result Spot EngineRefusal → Type 0
  Came pages (Ok spot) = On spot.page × ComesTo pages spot.page spot.slot
  Came pages (Err refusal) = Unit {0}

  with_page : (pages : List ℕ) (one page : ℕ) (slot : Option ℕ) → Without one → ComesTo pages page slot → ComesTo (one ∷ pages) page slot
  with_page pages one page None lacks all = ((lacks, all.0), all.1)
  with_page pages one page (Some slot_number) lacks (inl bound) = inl bound
  with_page pages one page (Some slot_number) lacks (inr new) = inr (new.0, (lacks, new.1))

  came_with : (pages : List ℕ) (one : ℕ) (result : Result Spot EngineRefusal) → Without one → Came pages result → Came (one ∷ pages) result
  came_with pages one (Ok spot) lacks is = (is.0, with_page pages one spot.page spot.slot lacks is.1)
  came_with pages one (Err refusal) lacks is = tt

  -- a spot that was kept is one that was never used
  abbrev IsFree : ℕ → Option ℕ → Type 0
  IsFree page slot = MatchOption slot ⊥ (λ slot_number. c.slot t page slot_number ≡ unused)

  abbrev pub IsKeptSpot : Option Spot → Type 0
  IsKeptSpot kept = IfSome kept (λ spot. On spot.page × IsFree spot.page spot.slot)

  free_comes : (pages : List ℕ) (page : ℕ) (slot : Option ℕ) → IsFree page slot → AllByRecursion Without pages → ComesTo pages page slot
  free_comes pages page None free all = absurd free
  free_comes pages page (Some slot_number) free all = inr (free, all)

  -- no slot of a page was free for a walk for room
  all_used : (bytes : List ℕ) → FindsRoom course None bytes None → course.for_room ≡ true → FindsFree (slots bytes) None
  all_used bytes room for_room = subst (λ (b : Bool). FindsWanted (b && true) bytes None) for_room room

  abbrev AreSmall : List ℕ → Type 0
  AreSmall pages = AllByRecursion (λ (p : ℕ). p < MOST_PAGES) pages

  -- the pages behind a page from which the walk goes on
  further : (page next left : ℕ) (rest : List ℕ) → c.next t page ≡ Some next → IsChain (c.next t) page rest → length rest ≤ left → AreSmall rest
      → (more : List ℕ) × (rest ≡ next ∷ more) × IsChain (c.next t) next more × (length more ≤ left - 1) × AreSmall more
  further page next left [] is none few small = absurd (none-some next (sym none ∙ is))
  further page next left (q ∷ more) is linked few small =
      let same : q ≡ next = same_Some q next (sym linked.0 ∙ is) in
      (more, ap (λ (n : ℕ). n ∷ more) same, subst (λ (n : ℕ). IsChain (c.next t) n more) same linked.1, omega (arith, few), small.1)

  -- behind the page where it ends there are none
  none_behind : (page left : ℕ) (bytes rest : List ℕ) → c.next t page ≡ behind bytes → onward left bytes ≡ None → IsChain (c.next t) page rest → length rest ≤ left → AreSmall rest → rest ≡ []
  none_behind page left bytes [] is end none few small = refl
  none_behind page left bytes (q ∷ more) is end linked few small = absurd (onward_none left q bytes end (sym is ∙ linked.0) (omega (arith, few)) small.0)

  -- what a page that was held tells
  module _ (page at : ℕ) (old mid : Buffered) (h : Holds (chain_page course page) at old mid) (same : image_of old ≡ image) (right : IsTrue mid.right) where
    shown : page_of image t page ≡ Some (page_in at mid)
    shown = ap (λ (m : Image). page_of m t page) (sym same) ∙ (held_right (chain_page course page) at old mid h right).1

    lacks_key : Finds course.key (slots (page_in at mid)) None → Without page
    lacks_key none = key_found image t page (page_in at mid) used shown course.key None none

    has_key : (slot_number : ℕ) → Finds course.key (slots (page_in at mid)) (Some slot_number) → IsBound c.slot t page slot_number course.key
    has_key slot_number found = (key_found image t page (page_in at mid) used shown course.key (Some slot_number) found).1

    behind_is : c.next t page ≡ behind (page_in at mid)
    behind_is = next_on image t page (page_in at mid) used shown

    next_is : (left next : ℕ) → onward left (page_in at mid) ≡ Some next → c.next t page ≡ Some next
    next_is left next on = behind_is ∙ (onward_is left next (page_in at mid) on).0

  still : (old new : Buffered) → Stays old new → image_of old ≡ image → image_of new ≡ image
  still old new s same = ap replayed s.log ∙ same

  pub came : (left page : ℕ) (kept : Option Spot) (old new : Buffered) (result : Result Spot EngineRefusal) → Walks course left page kept old new result → image_of old ≡ image → IsTrue new.right
      → (rest : List ℕ) → IsChain (c.next t) page rest → length rest ≤ left → AreSmall rest → On page → IsKeptSpot kept → Came (page ∷ rest) result
  came l p k o n r (misses left page kept old mid new refusal m is) same right rest chain few small on had = tt
  came l p k o n r (finds left page at slot kept old mid new h found is) same right rest chain few small on had =
      (on, inl (has_key page at old mid h same ((kept_stays kept mid new is).before right) slot found))
  came l p k o n r (keeps left page at slot next old mid new result x room goes walked) same right rest chain few small on had =
      let here : IsTrue mid.right = (walk_stays course (left - 1) next _ mid new result walked).before right in
      let free = free_found image t page (page_in at mid) used (shown page at old mid x.holds same here) (Some slot) (room_free course None (page_in at mid) (Some slot) slot room refl) in
      let is = next_is page at old mid x.holds same here left next goes in
      let more = further page next left rest is chain few small in
      let came_on = came (left - 1) next (Some (record { page = page; at = at; slot = Some slot })) mid new result walked (still old mid (held_stays (chain_page course page) at old mid x.holds) same) right more.0 more.2 more.3 more.4 (closed page next on is) (on, free.1) in
      subst (λ (pages : List ℕ). Came (page ∷ pages) result) (sym more.1) (came_with (next ∷ more.0) page result (lacks_key page at old mid x.holds same here x.lacks) came_on)
  came l p k o n r (passes left page at next kept old mid passed new result x room goes off walked) same right rest chain few small on had =
      let here : IsTrue mid.right = (released_stays at mid passed off).before ((walk_stays course (left - 1) next kept passed new result walked).before right) in
      let is = next_is page at old mid x.holds same here left next goes in
      let more = further page next left rest is chain few small in
      let same_mid = still old mid (held_stays (chain_page course page) at old mid x.holds) same in
      let came_on = came (left - 1) next kept passed new result walked (still mid passed (released_stays at mid passed off) same_mid) right more.0 more.2 more.3 more.4 (closed page next on is) had in
      subst (λ (pages : List ℕ). Came (page ∷ pages) result) (sym more.1) (came_with (next ∷ more.0) page result (lacks_key page at old mid x.holds same here x.lacks) came_on)
  came l p k o n r (returns left page at spot old mid new x goes off) same right rest chain few small on had =
      let here : IsTrue mid.right = (released_stays at mid new off).before right in
      let none = none_behind page left (page_in at mid) rest (behind_is page at old mid x.holds same here) goes chain few small in
      (had.0, free_comes (page ∷ rest) spot.page spot.slot had.1 (subst (λ (pages : List ℕ). AllByRecursion Without (page ∷ pages)) (sym none) (lacks_key page at old mid x.holds same here x.lacks, tt)))
  came l p k o n r (arrives left page at slot old new x room goes) same right rest chain few small on had =
      let none = none_behind page left (page_in at new) rest (behind_is page at old new x.holds same right) goes chain few small in
      let all = subst (λ (pages : List ℕ). AllByRecursion Without (page ∷ pages)) (sym none) (lacks_key page at old new x.holds same right x.lacks, tt) in
      (on, comes slot room all)
    where
      there : page_of image t page ≡ Some (page_in at new)
      there = shown page at old new x.holds same right

      comes : (found : Option ℕ) → FindsRoom course None (page_in at new) found → AllByRecursion Without (page ∷ rest) → ComesTo (page ∷ rest) page found
      comes None full all = (
        all,
        (
          subst (IsChain (c.next t) page) (none_behind page left (page_in at new) rest (behind_is page at old new x.holds same right) goes chain few small) chain,
          λ for_room. free_found image t page (page_in at new) used there None (all_used (page_in at new) full for_room),
        ),
      )
      comes (Some slot_number) free all = inr ((free_found image t page (page_in at new) used there (Some slot_number) (room_free course None (page_in at new) (Some slot_number) slot_number free refl)).1, all)

-- what is in a list of numbers below a count is below it
below_one : (count p q : ℕ) (more : Bool) → p < count → (more ≡ true → q < count) → (b : Bool) → (q == p) ≡ b → (b || more) ≡ true → q < count
below_one count p q more low behind_it true same has = subst (λ (n : ℕ). n < count) (sym (eqb-true q p same)) low
below_one count p q more low behind_it false other has = behind_it has

member : (count : ℕ) (pages : List ℕ) (q : ℕ) → AllByRecursion (λ (p : ℕ). p < count) pages → list_any (λ p. q == p) pages ≡ true → q < count
member count [] q all has = absurd (false≢true has)
member count (p ∷ pages) q all has = below_one count p q (list_any (λ x. q == x) pages) all.0 (λ more. member count pages q all.1 more) (q == p) refl has

-- a page with slots isn't an unused one
rows_kind : (page : List ℕ) → IsRowsOrUnused page → (page ≡ zero_page → ⊥) → kind_of page ≢ 0
rows_kind page (inl (inl bucket)) some zero = omega (arith, bucket, zero)
rows_kind page (inl (inr overflow)) some zero = omega (arith, overflow, zero)
rows_kind page (inr zeros) some zero = some zeros

-- The walk along the chain of a row's bucket.
module _ (d : Donor) (image : Image) (t key count : ℕ) (is : IsKept d image) (there : finite.get d.tables t ≡ Some count) where
  abbrev contents : Contents
  contents = contents_of image

  first_is : page_number d t key ≡ key % count
  first_is = ap (λ (o : Option ℕ). key % unwrap_or o 0) there

  sizes : HasSize contents t count × (1 ≤ t) × (t ≤ 1000000) × (1 ≤ count) × (count ≤ 1024)
  sizes = is.sound.tables.sizes t count there

  first_low : key % count < count
  first_low = mod-lt key (omega (arith, sizes.3))

  -- the chain of the bucket
  pub chain : HasChain contents t (page_number d t key)
  chain = subst (HasChain contents t) (sym first_is) (is.sound.chains.buckets t count (key % count) there first_low)

  below_size : (pages : List ℕ) → AllByRecursion (HasPage contents t) pages → AllByRecursion (λ (p : ℕ). p < sizes.0.pages) pages
  below_size [] all = tt
  below_size (p ∷ pages) all = (subst (λ (n : ℕ). p < n) (same_Some all.0.0 sizes.0.pages (sym all.0.1 ∙ sizes.0.size)) all.0.2, below_size pages all.1)

  low : AllByRecursion (λ (p : ℕ). p < sizes.0.pages) (page_number d t key ∷ chain.behind)
  low = below_size (page_number d t key ∷ chain.behind) chain.there

  -- it has no more pages than the space
  few : length chain.behind ≤ MOST_PAGES - 1
  few =
      let long = length-le_from_distinct_below (page_number d t key ∷ chain.behind) sizes.0.pages chain.once (λ q has. member sizes.0.pages (page_number d t key ∷ chain.behind) q low has) in
      omega (arith, long, sizes.0.most)

  small : (pages : List ℕ) → AllByRecursion (λ (p : ℕ). p < sizes.0.pages) pages → AllByRecursion (λ (p : ℕ). p < MOST_PAGES) pages
  small [] all = tt
  small (p ∷ pages) all = (omega (arith, all.0, sizes.0.most), small pages all.1)

  -- a key that is bound on no page of its chain is bound nowhere
  nowhere : AllByRecursion (λ (page : ℕ). (slot_number : ℕ) → ¬ IsBound contents.slot t page slot_number key) (page_number d t key ∷ chain.behind) → IsNowhere contents.slot t key
  nowhere all page slot_number bound =
      let own = is.sound.rows.own t page slot_number key bound in
      let same : own.0 ≡ count = same_Some own.0 count (sym own.1 ∙ there) in
      let on : OnChain (contents.next t) (page_number d t key) page = subst (λ (n : ℕ). OnChain (contents.next t) n page) (ap (λ (n : ℕ). key % n) same ∙ sym first_is) own.2 in
      all_on (contents.next t) (λ (p : ℕ). (j : ℕ) → ¬ IsBound contents.slot t p j key) (page_number d t key) chain.behind chain.chain all page on slot_number bound

  used : t ≢ 0
  used zero = omega (arith, zero, sizes.1)

  -- the pages of the chain
  abbrev IsOn : ℕ → Type 0
  IsOn page = OnChain (contents.next t) (page_number d t key) page

  closed : (p q : ℕ) → IsOn p → contents.next t p ≡ Some q → IsOn q
  closed p q on one = goes_on p q on one

  -- the slot is THE one for the key, and where there is none, the key is bound nowhere
  abbrev pub IsFoundSlot : ℕ → Option ℕ → Type 0
  IsFoundSlot page slot = MatchOption slot (IsNowhere contents.slot t key) (λ slot_number. IsRowSlot d contents t page slot_number key)

  -- what a walk comes to on the row's chain
  comes_to : (for_room : Bool) (old new : Buffered) (spot : Spot) → image_of old ≡ image → WalksAll (row_walk d t key for_room) old new (Ok spot) → IsTrue new.right → IsOn spot.page × ComesTo (row_walk d t key for_room) image used IsOn closed (page_number d t key ∷ chain.behind) spot.page spot.slot
  comes_to for_room old new spot same walked right = came (row_walk d t key for_room) image used IsOn closed (MOST_PAGES - 1) (page_number d t key) None old new (Ok spot) walked same right chain.behind chain.chain few (small chain.behind low.1) begins tt

  pub walk_slot : (for_room : Bool) (old new : Buffered) (spot : Spot) → image_of old ≡ image → WalksAll (row_walk d t key for_room) old new (Ok spot) → IsTrue new.right → IsFoundSlot spot.page spot.slot
  walk_slot for_room old new spot same walked right =
      found spot.page spot.slot (comes_to for_room old new spot same walked right)
    where
      found : (page : ℕ) (slot : Option ℕ) → IsOn page × ComesTo (row_walk d t key for_room) image used IsOn closed (page_number d t key ∷ chain.behind) page slot → IsFoundSlot page slot
      found page None is = nowhere is.1.0
      found page (Some slot_number) is = record {
        count = count;
        there = there;
        chain = subst (λ (n : ℕ). OnChain (contents.next t) n page) first_is is.0;
        may = elim is.1 [
          | inl bound ↦ inl bound
          | inr new ↦ inr (new.0, nowhere new.1)
        ];
      }

  -- a page of the chain each slot of which was used isn't an unused one
  used_page : (page : ℕ) → IsOn page → FindsFreeIn contents t page None → is_unused image t page ≡ false
  used_page page on full =
      let here = page_there image t page (on_there is.sound.chains t count (key % count) page there first_low (subst (λ (n : ℕ). OnChain (contents.next t) n page) first_is on)) in
      let kind = rows_kind here.0 (is.formed.tables t page here.0 used here.1) (λ zeros. full 0 (omega arith) (slot_on image t page here.0 used here.1 0 ∙ ap (λ (p : List ℕ). slot_in (slots p) 0) zeros ∙ ap (λ ss. slot_in ss 0) slots-zero)) in
      ap (λ (p : List ℕ). kind_of p == 0) (all_pages-is image t page here.0 here.1) ∙ not_equal (kind_of here.0) 0 kind

  -- where a walk for room comes to no slot, the chain is full
  pub walk_full : (old new : Buffered) (spot : Spot) → image_of old ≡ image → WalksAll (row_walk d t key true) old new (Ok spot) → IsTrue new.right → spot.slot ≡ None → IsFullAt d image t spot.page key
  walk_full old new spot same walked right none =
      let is = comes_to true old new spot same walked right in
      let end = subst (ComesTo (row_walk d t key true) image used IsOn closed (page_number d t key ∷ chain.behind) spot.page) none is.1 in
      record {
        count = count;
        there = there;
        chain = subst (λ (n : ℕ). OnChain (contents.next t) n spot.page) first_is is.0;
        last = end.1.0;
        used = used_page spot.page is.0 (end.1.1 refl);
        nowhere = nowhere end.0;
      }
