-- What a disk has at a place, its sizes, and copies of it.
use Rattle.std.proofs.Common.{◌≡◌, ◌<◌, ◌≤◌, ℕ, List, length, get_or, Bool, true, false, cond, Some, None, is_some, IsSome, unwrap_or, option_map, refl, sym, ap, subst, ◌∙◌, inl, inr, arith}
use Rattle.std.specs.Prelude.{nat_lt, slice_get, option_and_then}
use Rattle.std.specs.Option.{option_map_or}
use Rattle.std.specs.declared.option.Option.{Option}
use Rattle.std.specs.FinMap as finite
use Rattle.std.proofs.lemmas.Bool.{cases_lt, lt-ltb, le-ltb}
use Rattle.std.proofs.lemmas.Option.{slice_get-get_or, slice_get_past}
use Rattle.clone_base.specs.Counted.{Counted}
use Rattle.clone_outside.specs.Disk as disk
use Rattle.clone_outside.specs.Disk.{DiskImage, page_count}
use Rattle.clone_outside.specs.declared.disk.Held.{Held}
use Rattle.clone_page.specs.Header.{zero_page}
use Rattle.clone_increment.specs.Copies.{Copy, IsBounded, IsImageOf, PagesByPlace, bytes_at, is_within, page_at}
use Rattle.clone_increment.specs.Readings.{AreSizesOf}

-- the number is below a count
abbrev pub is_below : ℕ → Option ℕ → Bool
is_below n count = option_map_or (λ c. nat_lt n c) count false

there_in : (pages : List Held) (n : ℕ) → is_some (option_map (λ (h : Held). h.bytes) (slice_get pages n)) ≡ nat_lt n (length pages)
there_in pages n = elim (cases_lt n (length pages)) [
  | inl low ↦ ap (λ (o : Option Held). is_some (option_map (λ (h : Held). h.bytes) o)) (slice_get-get_or pages n disk.zero_page low) ∙ sym (lt-ltb n (length pages) low)
  | inr high ↦ ap (λ (o : Option Held). is_some (option_map (λ (h : Held). h.bytes) o)) (slice_get_past pages n high) ∙ sym (le-ltb n (length pages) high)
]

-- a place that is there is below the count of its space
pub there_below : (image : DiskImage) (place : ℕ × ℕ) → is_some (bytes_at image place) ≡ is_below place.1 (page_count image place.0)
there_below image place = at (finite.get image.spaces place.0)
  where
    at : (o : Option (List Held))
        → is_some (option_map (λ (h : Held). h.bytes) (option_and_then (λ (pages : List Held). slice_get pages place.1) o)) ≡ is_below place.1 (option_map length o)
    at None = refl
    at (Some pages) = there_in pages place.1

pub there_within : (image : DiskImage) (sizes : Counted) (place : ℕ × ℕ) → AreSizesOf sizes image → is_within sizes place ≡ is_some (bytes_at image place)
there_within image sizes place same = ap (λ (o : Option ℕ). is_below place.1 o) (same place.0) ∙ sym (there_below image place)

none_there : {X : Type 0} (o : Option X) → is_some o ≡ false → o ≡ None
none_there None e = refl
none_there (Some x) e = cc

-- a place beyond the sizes
pub absent : (image : DiskImage) (sizes : Counted) (place : ℕ × ℕ) → AreSizesOf sizes image → is_within sizes place ≡ false → bytes_at image place ≡ None
absent image sizes place same beyond = none_there (bytes_at image place) (sym (there_within image sizes place same) ∙ beyond)

-- every page that is there was copied
pub copied_image : (image : DiskImage) (sizes : Counted) (pages : PagesByPlace) → AreSizesOf sizes image → ((place : ℕ × ℕ) → finite.get pages place ≡ bytes_at image place)
    → IsImageOf (record { sizes = sizes; pages = pages }) image
copied_image image sizes pages same all = record {
  sizes = same;
  pages = λ place. ap (λ (b : Bool). cond b (Some (unwrap_or (finite.get pages place) zero_page)) None) (there_within image sizes place same)
      ∙ ap (λ (o : Option (List ℕ)). cond (is_some (bytes_at image place)) (Some (unwrap_or o zero_page)) None) (all place) ∙ itself (bytes_at image place);
  bounded = λ place some. there_within image sizes place same ∙ sym (ap is_some (all place)) ∙ some;
}
  where
    itself : (o : Option (List ℕ)) → cond (is_some o) (Some (unwrap_or o zero_page)) None ≡ o
    itself None = refl
    itself (Some bytes) = refl

-- the bytes of a copy's page, which are zero where none is kept
pub kept_bytes : (copy : Copy) → IsBounded copy.sizes copy.pages → (place : ℕ × ℕ) → unwrap_or (page_at copy place) zero_page ≡ unwrap_or (finite.get copy.pages place) zero_page
kept_bytes copy bounded place = at (is_within copy.sizes place) (finite.get copy.pages place) (λ some. bounded place some)
  where
    at : (b : Bool) (o : Option (List ℕ)) → (IsSome o → b ≡ true) → unwrap_or (cond b (Some (unwrap_or o zero_page)) None) zero_page ≡ unwrap_or o zero_page
    at true o h = refl
    at false None h = refl
    at false (Some bytes) h = absurd (let e : false ≡ true = h refl in cc)
