-- An increment makes of a copy of a disk a copy of what the disk is now, and two increments as one
-- do what the two do.
use Rattle.std.proofs.Common.{◌≡◌, ◌<◌, ℕ, List, [], ◌∷◌, Bool, true, false, cond, ◌&&◌, ◌⊎◌, Some, None, is_some, IsSome, unwrap_or, option_map, refl, sym, ap, ◌∙◌, inl, inr, arith}
use Rattle.std.specs.Option.{option_or}
use Rattle.std.specs.declared.option.Option.{Option}
use Rattle.std.specs.FinMap as finite
use Rattle.std.specs.FinMap.{get-empty, same_map}
use Rattle.std.specs.FinSet as set
use Rattle.std.proofs.lemmas.Bool.{le-ltb}
use Rattle.clone_base.specs.Counted.{Counted}
use Rattle.clone_model.specs.Keys.{row_cmp}
use Rattle.clone_model.proofs.RowMaps.{row_cmp_exact, row_cmp_total}
use Rattle.clone_outside.specs.Disk.{DiskImage, page_count}
use Rattle.clone_page.specs.Header.{zero_page}
use Rattle.clone_increment.specs.Copies.{Copy, IsImageOf, PagesByPlace, bytes_at, is_within, laid}
use Rattle.clone_increment.specs.Histories.{ChangedOnly, IsHistory, Round, all_applied, last_image}
use Rattle.clone_increment.specs.Increments.{AreSame, Delta, IsMerged, applied}
use Rattle.clone_increment.specs.Tracked.{Changed, IsTaken}
use Rattle.clone_increment.proofs.ImageLemmas.{is_below, kept_bytes, there_below, there_within}
use Rattle.clone_increment.proofs.SlotLemmas.{get-laid, get-staying}

-- what an increment leaves at a place
pub get-applied : (copy : Copy) (delta : Delta) (place : ℕ × ℕ)
    → finite.get (applied copy delta).pages place ≡ option_or (finite.get delta.pages place) (cond (is_within delta.stay place) (finite.get copy.pages place) None)
get-applied copy delta place =
    get-laid delta.pages (finite.retain_keys copy.pages (is_within delta.stay)) place ∙ ap (option_or (finite.get delta.pages place)) (get-staying copy.pages (is_within delta.stay) place)

stays_below : (n : ℕ) (made : Bool) (count : Option ℕ) → is_below n (option_map (λ size. cond made 0 size) count) ≡ cond made false (is_below n count)
stays_below n true None = refl
stays_below n false None = refl
stays_below n true (Some size) = le-ltb n 0 (omega arith)
stays_below n false (Some size) = refl

module _ (copy : Copy) (old new : DiskImage) (changed : Changed) (delta : Delta) (is : IsImageOf copy old) (only : ChangedOnly changed old new) (taken : IsTaken changed new delta) where
  -- which places stay
  stays : (place : ℕ × ℕ) → is_within delta.stay place ≡ cond (set.contains changed.made place.0) false (is_some (bytes_at new place))
  stays place =
      ap (is_below place.1) (taken.stay place.0) ∙ stays_below place.1 (set.contains changed.made place.0) (page_count new place.0)
      ∙ ap (cond (set.contains changed.made place.0) false) (sym (there_below new place))

  -- a page that wasn't written
  before : (place : ℕ × ℕ) (made : Bool) → IsSome (bytes_at new place) → is_within delta.stay place ≡ cond made false (is_some (bytes_at new place))
      → unwrap_or (cond (is_within delta.stay place) (finite.get copy.pages place) None) zero_page ≡ cond made zero_page (unwrap_or (bytes_at old place) zero_page)
  before place true there left = ap (λ (b : Bool). unwrap_or (cond b (finite.get copy.pages place) None) zero_page) left
  before place false there left =
      ap (λ (b : Bool). unwrap_or (cond b (finite.get copy.pages place) None) zero_page) (left ∙ there) ∙ sym (kept_bytes copy is.bounded place) ∙ ap (λ (o : Option (List ℕ)). unwrap_or o zero_page) (is.pages place)

  -- a page that is there
  now : (place : ℕ × ℕ) (bytes : List ℕ) (w : Bool) → set.contains changed.written place ≡ w → bytes_at new place ≡ Some bytes → ◌≡◌ {A = Option (List ℕ)} (Some (unwrap_or (finite.get (applied copy delta).pages place) zero_page)) (Some bytes)
  now place bytes true written there =
      ap (λ (o : Option (List ℕ)). Some (unwrap_or o zero_page)) (get-applied copy delta place ∙ ap (λ (o : Option (List ℕ)). option_or o (cond (is_within delta.stay place) (finite.get copy.pages place) None))
      (taken.pages place ∙ ap (λ (b : Bool). cond b (bytes_at new place) None) written ∙ there))
  now place bytes false written there =
      ap (λ (o : Option (List ℕ)). Some (unwrap_or o zero_page)) (get-applied copy delta place ∙ ap (λ (o : Option (List ℕ)). option_or o (cond (is_within delta.stay place) (finite.get copy.pages place) None))
      (taken.pages place ∙ ap (λ (b : Bool). cond b (bytes_at new place) None) written))
      ∙ ap (λ (b : List ℕ). Some b) (before place (set.contains changed.made place.0) (ap is_some there) (stays place))
      ∙ sym (only place (ap is_some there) written) ∙ there

  whole : (place : ℕ × ℕ) (o : Option (List ℕ)) → bytes_at new place ≡ o → cond (is_some o) (Some (unwrap_or (finite.get (applied copy delta).pages place) zero_page)) None ≡ o
  whole place None there = refl
  whole place (Some bytes) there = now place bytes (set.contains changed.written place) refl there

  -- a page that is kept is there
  kept_there : (place : ℕ × ℕ) (w made : Bool) (o : Option (List ℕ)) → finite.get delta.pages place ≡ cond w o None → is_within delta.stay place ≡ cond made false (is_some o)
      → IsSome (option_or (finite.get delta.pages place) (cond (is_within delta.stay place) (finite.get copy.pages place) None)) → is_some o ≡ true
  kept_there place w made (Some bytes) mine left some = refl
  kept_there place w made None mine left some = absurd (let e : false ≡ true = sym (nothing w made mine left) ∙ some in cc)
    where
      nothing : (w made : Bool) → finite.get delta.pages place ≡ cond w None None → is_within delta.stay place ≡ cond made false false
          → is_some (option_or (finite.get delta.pages place) (cond (is_within delta.stay place) (finite.get copy.pages place) None)) ≡ false
      nothing true true mine left = λ i. is_some (option_or (mine i) (cond (left i) (finite.get copy.pages place) None))
      nothing true false mine left = λ i. is_some (option_or (mine i) (cond (left i) (finite.get copy.pages place) None))
      nothing false true mine left = λ i. is_some (option_or (mine i) (cond (left i) (finite.get copy.pages place) None))
      nothing false false mine left = λ i. is_some (option_or (mine i) (cond (left i) (finite.get copy.pages place) None))

  pub image_applied : IsImageOf (applied copy delta) new
  image_applied = record {
    sizes = taken.sizes;
    pages = λ place. ap (λ (b : Bool). cond b (Some (unwrap_or (finite.get (applied copy delta).pages place) zero_page)) None) (there_within new delta.sizes place taken.sizes) ∙ whole place (bytes_at new place) refl;
    bounded = λ place some. there_within new delta.sizes place taken.sizes
        ∙ kept_there place (set.contains changed.written place) (set.contains changed.made place.0) (bytes_at new place) (taken.pages place) (stays place) (sym (ap is_some (get-applied copy delta place)) ∙ some);
  }

-- all increments of a history
pub all_restored : (copy : Copy) (image : DiskImage) (rounds : List Round) → IsImageOf copy image → IsHistory image rounds → IsImageOf (all_applied copy rounds) (last_image image rounds)
all_restored copy image [] is history = is
all_restored copy image (round ∷ rounds) is history =
    all_restored (applied copy round.delta) round.image rounds (image_applied copy image round.image round.changed round.delta is history.0 history.1) history.2

-- ---- two increments as one

combined : (second first kept : Option (List ℕ)) (a b : Bool) → option_or (option_or second (cond b first None)) (cond (a && b) kept None) ≡ option_or second (cond b (option_or first (cond a kept None)) None)
combined (Some page) first kept a b = refl
combined None first kept true true = refl
combined None first kept true false = refl
combined None first kept false true = refl
combined None first kept false false = refl

pub merged_same : (copy : Copy) (first second both : Delta) → IsMerged first second both → AreSame (applied copy both) (applied (applied copy first) second)
merged_same copy first second both is = record {
  sizes = is.sizes;
  pages = λ place i. cond (is_within (is.sizes i) place) (Some (unwrap_or (same place i) zero_page)) None;
}
  where
    same : (place : ℕ × ℕ) → finite.get (applied copy both).pages place ≡ finite.get (applied (applied copy first) second).pages place
    same place =
        let a = is_within first.stay place in
        let b = is_within second.stay place in
        let s = finite.get second.pages place in
        let f = finite.get first.pages place in
        let k = finite.get copy.pages place in
        let mine : finite.get both.pages place ≡ option_or s (cond b f None) =
        ap (λ (m : PagesByPlace). finite.get m place) is.pages ∙ get-laid second.pages (finite.retain_keys first.pages (is_within second.stay)) place ∙ ap (option_or s) (get-staying first.pages (is_within second.stay) place) in
        get-applied copy both place ∙ (λ i. option_or (mine i) (cond (is.stay place i) k None)) ∙ combined s f k a b
        ∙ sym (get-applied (applied copy first) second place ∙ ap (λ (o : Option (List ℕ)). option_or s (cond b o None)) (get-applied copy first place))

-- pages that are laid over none
laid_first : (pages none : PagesByPlace) (stays : ℕ × ℕ → Bool) → none ≡ finite.empty → laid pages (finite.retain_keys none stays) ≡ pages
laid_first pages none stays is =
    same_map row_cmp_total row_cmp_exact (laid pages (finite.retain_keys none stays)) pages (λ q.
    get-laid pages (finite.retain_keys none stays) q ∙ ap (option_or (finite.get pages q)) (get-staying none stays q ∙ ap (λ (m : PagesByPlace). cond (stays q) (finite.get m q) None) is ∙ ap (λ (o : Option (List ℕ)). cond (stays q) o None) (get-empty row_cmp q) ∙ still_none (stays q))
    ∙ over_none (finite.get pages q))
  where
    still_none : (b : Bool) → ◌≡◌ {A = Option (List ℕ)} (cond b None None) None
    still_none true = refl
    still_none false = refl

    over_none : (o : Option (List ℕ)) → option_or o None ≡ o
    over_none None = refl
    over_none (Some page) = refl

-- the first's pages are laid over none, and the second's over those that stay
pub is_merged : (first second : Delta) (none mid pages : PagesByPlace) (sizes stay : Counted) → none ≡ finite.empty → mid ≡ laid first.pages (finite.retain_keys none (is_within first.stay))
    → pages ≡ laid second.pages (finite.retain_keys mid (is_within second.stay)) → sizes ≡ second.sizes → ((place : ℕ × ℕ) → is_within stay place ≡ (is_within first.stay place && is_within second.stay place))
    → IsMerged first second (record { number = first.number; next = second.next; sizes = sizes; stay = stay; pages = pages })
is_merged first second none mid pages sizes stay empty one two same stays = record {
  number = refl;
  next = refl;
  sizes = same;
  stay = stays;
  pages = two ∙ ap (λ (m : PagesByPlace). laid second.pages (finite.retain_keys m (is_within second.stay))) (one ∙ laid_first first.pages none (is_within first.stay) empty);
}
