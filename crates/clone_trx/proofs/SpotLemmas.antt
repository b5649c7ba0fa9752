-- The spot that a walk along a row's chain comes to, and what is kept meanwhile.
use Rattle.std.specs.FinMap as finite
use Rattle.clone_trx.proofs.Common.{◌≡◌, ◌-◌, ℕ, Bool, true, List, refl, sym, subst, Option, Some, None, IsSome, IsTrue, IfSome, Result, Ok, MOST_PAGES, replayed, Buffered, IsBuffer, image_of, EngineRefusal, Course, Spot, Record, Image, page_of, contents_of, Donor, page_number, Has, HasChain, IsRowSlot, IsSafe, IsSpot, IsKept, row_walk, IsFullAt, WalksAll, page_in}
use Rattle.clone_trx.proofs.FoundSlotLemmas.{held_page}
use Rattle.clone_trx.proofs.KeySlotLemmas.{in_ranges}
use Rattle.clone_trx.proofs.WalkLemmas.{Stays, walk_stays, walk_range}
use Rattle.clone_trx.proofs.WalkedLemmas.{IsFoundSlot, chain, walk_slot, walk_full}

-- what a walk leaves
pub all_stays : (course : Course) (old new : Buffered) (result : Result Spot EngineRefusal) → WalksAll course old new result → Stays old new
all_stays course old new result walked = walk_stays course (MOST_PAGES - 1) course.first None old new result walked

-- the page that it came to is the one of the image, if it is there
pub walked_page : (t : ℕ) (old new : Buffered) (spot : Spot) → Stays old new → IsBuffer new → Has (record { space = t; number = spot.page }) spot.at new.pool.frames → IsTrue new.right → IsSome (page_of (image_of old) t spot.page) → page_of (image_of old) t spot.page ≡ Some (page_in spot.at new)
walked_page t old new spot s is has right =
    subst (λ (log : List (List Record)). IsSome (page_of (replayed log) t spot.page) → page_of (replayed log) t spot.page ≡ Some (page_in spot.at new)) s.log (held_page new (record { space = t; number = spot.page }) spot.at is has right)

module _ (d : Donor) (t key count first : ℕ) (there : finite.get d.tables t ≡ Some count) (is_first : first ≡ page_number d t key) where
  -- the chain that is walked
  pub chain_there : (image : Image) → IsKept d image → HasChain (contents_of image) t first
  chain_there image kept = subst (HasChain (contents_of image) t) (sym is_first) (chain d image t key count kept there)

  -- the walk is that along the row's chain
  pub of_row : (for_room : Bool) (old new : Buffered) (result : Result Spot EngineRefusal) → WalksAll (record { table = t; first = first; key = key; for_room = for_room }) old new result → WalksAll (row_walk d t key for_room) old new result
  of_row for_room old new result walked = subst (λ (n : ℕ). WalksAll (record { table = t; first = n; key = key; for_room = for_room }) old new result) is_first walked

  pub found_slot : (for_room : Bool) (old new : Buffered) (spot : Spot) → WalksAll (row_walk d t key for_room) old new (Ok spot) → (kept : IsKept d (image_of old)) → IsTrue new.right → IsFoundSlot d (image_of old) t key count kept there spot.page spot.slot
  found_slot for_room old new spot walked kept right = walk_slot d (image_of old) t key count kept there for_room old new spot refl walked right

  pub spot_is : (old new : Buffered) (spot : Spot) → IsSafe d → WalksAll (row_walk d t key true) old new (Ok spot) → (IsTrue old.right → IsKept d (image_of old)) → Has (record { space = t; number = spot.page }) spot.at new.pool.frames → IsSpot d t key new spot
  spot_is old new spot safe walked kept has =
      let course : Course = row_walk d t key true in
      let s = all_stays course old new (Ok spot) walked in
      record {
        in_range = walk_range course (MOST_PAGES - 1) course.first None old new (Ok spot) walked (in_ranges d t key count safe.tables there).2 tt;
        has = has;
        row_slot = λ right. subst (λ (log : List (List Record)). IfSome spot.slot (λ slot_number. IsRowSlot d (contents_of (replayed log)) t spot.page slot_number key)) (sym s.log) (if_found spot.slot (kept (s.before right)) (found_slot true old new spot walked (kept (s.before right)) right));
        full = λ right none. subst (λ (log : List (List Record)). IsFullAt d (replayed log) t spot.page key) (sym s.log) (walk_full d (image_of old) t key count (kept (s.before right)) there old new spot refl walked right none);
      }
    where
      if_found : (slot : Option ℕ) (k : IsKept d (image_of old)) → IsFoundSlot d (image_of old) t key count k there spot.page slot → IfSome slot (λ slot_number. IsRowSlot d (contents_of (image_of old)) t spot.page slot_number key)
      if_found None k found = tt
      if_found (Some slot_number) k found = found
