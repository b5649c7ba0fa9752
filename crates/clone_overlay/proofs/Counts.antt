-- A space has as many pages as its cover says.
use Rattle.std.proofs.Common.{◌≡◌, ◌≤◌, ℕ, List, [], length, refl, sym, ap, ◌∙◌, arith, Bool, true, false, cond, Some, None, inl, inr}
use Rattle.std.specs.Prelude.{nat_lt, option_map, slice_get}
use Rattle.std.specs.declared.option.Option.{Option}
use Rattle.std.specs.FinMap as finite
use Rattle.std.proofs.lemmas.Bool.{cases_lt, lt-ltb}
use Rattle.std.proofs.lemmas.Option.{slice_get-get_or, slice_get_past}
use Rattle.clone_image.specs.Image.{Image, page_count}
use Rattle.clone_image.specs.Redone.{Standing, no_space, past_end, stands, standing_at, standing_in}
use Rattle.clone_overlay.specs.Covers.{Cover, Overlay}
use Rattle.clone_overlay.specs.Images.{pages_in}
use Rattle.clone_overlay.specs.Shown.{standing_over, leaf_over, Shows}
use Rattle.clone_overlay.proofs.CoverLemmas.{standing_past}

tag : Standing → ℕ
tag no_space = 0
tag past_end = 1
tag (stands page) = 2

tag_at : (o : Option (List ℕ)) → 1 ≤ tag (standing_at o)
unfolding tag
tag_at None = omega arith
tag_at (Some page) = omega arith

tag_over : (base : List (List ℕ)) (cover : Cover) (n : ℕ) → 1 ≤ tag (standing_over base (Some cover) n)
unfolding tag
tag_over base cover n = at (nat_lt n cover.count)
  where
    at : (b : Bool) → 1 ≤ tag (cond b (stands (leaf_over base cover n)) past_end)
    at true = omega arith
    at false = omega arith

same_count : (base pages : List (List ℕ)) (cover : Cover) → ((n : ℕ) → standing_in (Some pages) n ≡ standing_over base (Some cover) n) → cover.count ≡ length pages
unfolding tag
same_count base pages cover same = elim (cases_lt cover.count (length pages)) [
  | inl low ↦
      absurd (omega (arith, ap tag (sym (ap standing_at (slice_get-get_or pages cover.count [] low)) ∙ same cover.count ∙ standing_past base cover cover.count (omega arith))))
  | inr le ↦ elim (cases_lt (length pages) cover.count) [
    | inl high ↦
        absurd (omega (arith, ap tag (sym (ap standing_at (slice_get_past pages (length pages) (omega arith))) ∙ same (length pages) ∙ ap (λ (b : Bool). cond b (stands (leaf_over base cover (length pages))) past_end) (lt-ltb (length pages) cover.count high))))
    | inr ge ↦ omega (arith, le, ge)
  ]
]

pub counts_shown : (base image : Image) (overlay : Overlay) (s : ℕ) → Shows base image overlay → option_map (λ c. c.count) (finite.get overlay s) ≡ page_count image s
unfolding tag
counts_shown base image overlay s shows = at (finite.get image s) (finite.get overlay s) (shows.standings s)
  where
    at : (i : Option (List (List ℕ))) (o : Option Cover) → ((n : ℕ) → standing_in i n ≡ standing_over (pages_in base s) o n) → option_map (λ (c : Cover). c.count) o ≡ option_map length i
    at None None same = refl
    at (Some pages) None same = absurd (omega (arith, tag_at (slice_get pages 0), ap tag (same 0)))
    at None (Some cover) same = absurd (omega (arith, tag_over (pages_in base s) cover 0, ap tag (same 0)))
    at (Some pages) (Some cover) same = ap (λ (k : ℕ). Some k) (same_count (pages_in base s) pages cover same)
