-- The records of a mini-transaction are carried out one after the other.
use Rattle.std.proofs.Common.{◌≡◌, ℕ, List, [], ◌∷◌, ap, subst, ◌∙◌, Some, None}
use Rattle.std.specs.declared.option.Option.{Option}
use Rattle.clone_mtr.specs.declared.record.Record.{Record}
use Rattle.clone_outside.specs.Disk.{DiskImage, ForTold}
use Rattle.clone_image.specs.Image.{Image}
use Rattle.clone_image.specs.Redone.{Redoing, redone_records, standing_of}
use Rattle.clone_overlay.specs.Covers.{Overlay}
use Rattle.clone_overlay.specs.Images.{image_of, IsQuiet}
use Rattle.clone_overlay.specs.Shown.{Shows}
use Rattle.clone_recover.specs.Damage.{HeaderOn}
use Rattle.clone_recover.specs.Redo.{redoing, StepsOn, Steps, RedoesOn}
use Rattle.clone_recover.specs.declared.redo.Meeting.{Meeting}
use Rattle.clone_recover.specs.declared.refusal.RecoverRefusal.{RecoverRefusal}

-- a page as the first record of a mini-transaction finds it
abbrev pub fresh : Image → ℕ → ℕ → Redoing
fresh image s n = record { standing = standing_of image s n; counts = None }

-- what is left makes of each page what all records make of it from the beginning
pub record Halfway (m : DiskImage) (end : ℕ) (image : Image) (overlay : Overlay) (meetings : List Meeting) (rest all : List Record) : Type 0 where
  pub next : Image
  pub shows : Shows (image_of m) next overlay
  pub each : (s n : ℕ) → redone_records end s n (redoing next meetings s n) rest ≡ redone_records end s n (fresh image s n) all

abbrev pub HalfwayOn : Option DiskImage → ℕ → Overlay → Overlay → List Meeting → List Record → List Record → Type 0
HalfwayOn told end first overlay meetings rest all = ForTold told (λ m. IsQuiet m → (image : Image) → Shows (image_of m) image first → Halfway m end image overlay meetings rest all)

pub begins : (told : Option DiskImage) (end : ℕ) (first : Overlay) (meetings : List Meeting) (all : List Record) → meetings ≡ [] → HalfwayOn told end first first meetings all all
begins None end first meetings all none = tt
begins (Some m) end first meetings all none = λ quiet image shows.
    record { next = image; shows = shows; each = λ s n. ap (λ ms. redone_records end s n (redoing image ms s n) all) none }

goes_over : (m : DiskImage) (end : ℕ) (image : Image) (new : Overlay) (before after : List Meeting) (r : Record) (rest all : List Record) (next : Image) → Steps m end next before after new r
    → ((s n : ℕ) → redone_records end s n (redoing next before s n) (r ∷ rest) ≡ redone_records end s n (fresh image s n) all) → Halfway m end image new after rest all
goes_over m end image new before after r rest all next steps each = record {
  next = steps.next;
  shows = steps.shows;
  each = λ s n. ap (λ p. redone_records end s n p rest) (steps.each s n) ∙ each s n;
}

pub goes_on : (told mid : Option DiskImage) (end : ℕ) (first old new : Overlay) (before after : List Meeting) (r : Record) (left rest all : List Record) → mid ≡ told → left ≡ r ∷ rest
    → HalfwayOn told end first old before left all → StepsOn mid end old new before after r → HalfwayOn told end first new after rest all
goes_on told mid end first old new before after r left rest all same is half steps = at told half (subst (λ t. StepsOn t end old new before after r) same steps)
  where
    at : (t : Option DiskImage) → HalfwayOn t end first old before left all → StepsOn t end old new before after r → HalfwayOn t end first new after rest all
    at None h s = tt
    at (Some m) h s = λ quiet image shows.
        let now = h quiet image shows in
        goes_over m end image new before after r rest all now.next (s quiet now.next now.shows) (subst (λ (rs : List Record). (p q : ℕ) → redone_records end p q (redoing now.next before p q) rs ≡ redone_records end p q (fresh image p q) all) is now.each)

pub ends : (told : Option DiskImage) (end : ℕ) (first new : Overlay) (meetings : List Meeting) (left all : List Record) → left ≡ [] → HalfwayOn told end first new meetings left all → RedoesOn told end first new all
ends None end first new meetings left all none half = tt
ends (Some m) end first new meetings left all none half = λ quiet image shows.
    let now = half quiet image shows in
    record {
      next = now.next;
      shows = now.shows;
      each = λ s n. ap (λ p. p.standing) (subst (λ (rs : List Record). redone_records end s n (redoing now.next meetings s n) rs ≡ redone_records end s n (fresh image s n) all) none (now.each s n));
    }

-- a page that is misplaced, whichever record came to it
pub half_header : (told mid : Option DiskImage) (end : ℕ) (first overlay : Overlay) (meetings : List Meeting) (rest all : List Record) (e : RecoverRefusal) → mid ≡ told → HalfwayOn told end first overlay meetings rest all → HeaderOn mid overlay e → HeaderOn told first e
half_header told mid end first overlay meetings rest all e same half header = at told half (subst (λ t. HeaderOn t overlay e) same header)
  where
    at : (t : Option DiskImage) → HalfwayOn t end first overlay meetings rest all → HeaderOn t overlay e → HeaderOn t first e
    at None h s = tt
    at (Some m) h s = λ quiet image shows. let now = h quiet image shows in s quiet now.next now.shows
