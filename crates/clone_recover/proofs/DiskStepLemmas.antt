-- Steps of a disk that follow one another.
use Rattle.std.proofs.Common.{◌≡◌, ℕ, List, refl, sym, ap, ◌∙◌, Bool, cond, Some, None, inl, inr}
use Rattle.std.specs.Prelude.{option_map, OnOk, Result, Ok, Err}
use Rattle.std.specs.declared.option.Option.{Option}
use Rattle.std.specs.FinMap as finite
use Rattle.std.proofs.lemmas.Bool.Decides.{eqb_tells}
use Rattle.clone_outside.specs.Disk.{DiskImage, ForTold, with_created, with_extended, with_mark, space_numbers}
use Rattle.clone_overlay.specs.Covers.{Cover, Overlay}
use Rattle.clone_recover.specs.Written.{with_count, with_sheets, without_spaces, written_out}

twice : (f g : DiskImage → DiskImage) (o : Option DiskImage) → option_map g (option_map f o) ≡ option_map (λ m. g (f m)) o
twice f g None = refl
twice f g (Some m) = refl

-- two steps
pub then_step : (first mid last : Option DiskImage) (f g : DiskImage → DiskImage) → mid ≡ option_map f first → last ≡ option_map g mid → last ≡ option_map (λ m. g (f m)) first
then_step first mid last f g one two = two ∙ ap (option_map g) one ∙ twice f g first

-- spaces that are gone leave, and then the others are written
pub all_written : (first mid left last : Option DiskImage) (overlay covers : Overlay) (spaces : List ℕ) → mid ≡ first → covers ≡ overlay → ForTold first (λ m. spaces ≡ space_numbers m)
    → left ≡ option_map (λ m. without_spaces covers m spaces) mid → last ≡ option_map (λ m. with_sheets m (finite.entries covers)) left → last ≡ option_map (written_out overlay) first
all_written first mid left last overlay covers spaces same is all removed sheets =
    sheets ∙ ap (option_map (λ m. with_sheets m (finite.entries covers))) (removed ∙ ap (option_map (λ m. without_spaces covers m spaces)) same) ∙ at first all
  where
    at : (o : Option DiskImage) → ForTold o (λ m. spaces ≡ space_numbers m) → option_map (λ m. with_sheets m (finite.entries covers)) (option_map (λ m. without_spaces covers m spaces) o) ≡ option_map (written_out overlay) o
    at None told = refl
    at (Some m) told = λ i. Some (with_sheets (without_spaces (is i) m (told i)) (finite.entries (is i)))

-- the pages are written, and then the mark
pub then_marked : (first written synced marked last : Option DiskImage) (f : DiskImage → DiskImage) (bytes mark : List ℕ) → bytes ≡ mark → written ≡ option_map f first → synced ≡ written
    → marked ≡ option_map (λ m. with_mark m bytes) synced → last ≡ marked → last ≡ option_map (λ m. with_mark (f m) mark) first
then_marked first written synced marked last f bytes mark is pages same sets behind =
    behind ∙ sets ∙ (λ i. option_map (λ m. with_mark m (is i)) (same i)) ∙ ap (option_map (λ m. with_mark m mark)) pages ∙ twice f (λ m. with_mark m mark) first

-- a fact that an answer doesn't bear on
pub on_ok_known : {T E P : Type 0} (r : Result T E) → P → OnOk r P
on_ok_known (Ok x) known = known
on_ok_known (Err e) known = tt

-- a space is made anew, or keeps its pages and gets more
pub made_anew : (told now : Option DiskImage) (space count : ℕ) (cover : Cover) → count ≡ cover.count → cover.kept ≡ 0 → now ≡ option_map (λ m. with_created m space count) told → now ≡ option_map (λ m. with_count space m cover) told
made_anew told now space count cover is none made = elim (eqb_tells cover.kept 0) [
  | inl same ↦ made ∙ ap (λ (n : ℕ). option_map (λ m. with_created m space n) told) is ∙ ap (λ (b : Bool). option_map (λ m. cond b (with_created m space cover.count) (with_extended m space cover.count)) told) (sym same.0)
  | inr apart ↦ absurd (apart.1 none)
]

pub made_longer : (told now : Option DiskImage) (space count : ℕ) (cover : Cover) → count ≡ cover.count → (cover.kept ≡ 0 → ⊥) → now ≡ option_map (λ m. with_extended m space count) told → now ≡ option_map (λ m. with_count space m cover) told
made_longer told now space count cover is some made = elim (eqb_tells cover.kept 0) [
  | inl same ↦ absurd (some same.1)
  | inr apart ↦ made ∙ ap (λ (n : ℕ). option_map (λ m. with_extended m space n) told) is ∙ ap (λ (b : Bool). option_map (λ m. cond b (with_created m space cover.count) (with_extended m space cover.count)) told) (sym apart.0)
]
