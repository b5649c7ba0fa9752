-- A record comes to a page.
use Rattle.std.proofs.Common.{◌≡◌, ◌==◌, ◌&&◌, ℕ, List, [], ◌∷◌, ◌++◌, refl, sym, ap, subst, ◌∙◌, Bool, true, false, cond, Some, None, inl, inr}
use Rattle.std.specs.Prelude.{nat_lt, unwrap_or}
use Rattle.std.specs.declared.option.Option.{Option}
use Rattle.std.proofs.lemmas.Bool.Decides.{eqb_tells}
use Rattle.clone_page.specs.Header.{lsn_of}
use Rattle.clone_outside.specs.Disk.{DiskImage}
use Rattle.clone_image.specs.Image.{Image, page_of}
use Rattle.clone_image.specs.Redone.{Standing, no_space, past_end, stands, settled, standing_of}
use Rattle.clone_overlay.specs.Covers.{Overlay}
use Rattle.clone_overlay.specs.Images.{image_of}
use Rattle.clone_overlay.specs.Shown.{Shows, ShowsSame}
use Rattle.clone_overlay.proofs.OverlayImageLemmas.{page_standing, page_stands}
use Rattle.clone_recover.specs.Meetings.{met, counts_now, counts_after, Meets}
use Rattle.clone_recover.specs.Redo.{MeetsOn}
use Rattle.clone_recover.specs.declared.redo.Meeting.{Meeting}

stands_so : (p : Standing) (page : List ℕ) → page_standing p ≡ Some page → p ≡ stands page
stands_so no_space page is = absurd (let e = is in cc)
stands_so past_end page is = absurd (let e = is in cc)
stands_so (stands other) page is = ap stands (let e = is in cc)

absent_now : (end : ℕ) (o : Option Bool) (p : Standing) → page_standing p ≡ None → false ≡ counts_now end o p
absent_now end o no_space is = refl
absent_now end o past_end is = refl
absent_now end o (stands page) is = absurd (let e = is in cc)

absent_after : (end : ℕ) (o : Option Bool) (p : Standing) → page_standing p ≡ None → o ≡ counts_after end o p
absent_after end o no_space is = refl
absent_after end o past_end is = refl
absent_after end o (stands page) is = absurd (let e = is in cc)

-- what holds of the page itself
own : (s k q n : ℕ) (X Y : ℕ → ℕ → Option Bool) (M : Option Bool) → X s k ≡ Y s k → cond ((s == q) && (k == n)) (X q n) M ≡ cond ((s == q) && (k == n)) (Y q n) M
own s k q n X Y M same = elim (eqb_tells s q) [
  | inr apart ↦ ap (λ (b : Bool). cond (b && (k == n)) (X q n) M) apart.0 ∙ sym (ap (λ (b : Bool). cond (b && (k == n)) (Y q n) M) apart.0)
  | inl space ↦ elim (eqb_tells k n) [
    | inr other ↦
        ap (λ (b : Bool). cond (b && (k == n)) (X q n) M) space.0 ∙ ap (λ (b : Bool). cond b (X q n) M) other.0
        ∙ sym (ap (λ (b : Bool). cond (b && (k == n)) (Y q n) M) space.0 ∙ ap (λ (b : Bool). cond b (Y q n) M) other.0)
    | inl number ↦ ap (λ x. cond ((s == q) && (k == n)) x M) (subst (λ (j : ℕ). X q j ≡ Y q j) number.1 (subst (λ (j : ℕ). X j k ≡ Y j k) space.1 same))
  ]
]

same_either : (b : Bool) (o : Option Bool) → o ≡ cond b o o
same_either true o = refl
same_either false o = refl

-- no such page stands
pub meets_none : (end s k : ℕ) (image : Image) (meetings : List Meeting) → None ≡ page_of image s k → Meets end s k image meetings meetings false
meets_none end s k image meetings none =
    let absent = sym (page_stands image s k) ∙ sym none in
    record {
      each = λ q n. same_either ((s == q) && (k == n)) (met meetings q n)
          ∙ own s k q n (λ a b. met meetings a b) (λ a b. counts_after end (met meetings a b) (standing_of image a b)) (met meetings q n) (absent_after end (met meetings s k) (standing_of image s k) absent);
      now = absent_now end (met meetings s k) (standing_of image s k) absent;
    }

settled_so : (end : ℕ) (o : Option Bool) (page : List ℕ) (older : Bool) → older ≡ nat_lt (lsn_of page) end → unwrap_or o older ≡ settled end o page
settled_so end None page older is = is
settled_so end (Some counts) page older is = refl

-- the page stands
pub meets_page : (end s k : ℕ) (image : Image) (old new : List Meeting) (page : List ℕ) (older counts : Bool) → Some page ≡ page_of image s k → older ≡ nat_lt (lsn_of page) end → counts ≡ unwrap_or (met old s k) older
    → ((q n : ℕ) → met new q n ≡ cond ((s == q) && (k == n)) (Some (unwrap_or (met old q n) older)) (met old q n)) → Meets end s k image old new counts
meets_page end s k image old new page older counts there is counted set =
    let stood = stands_so (standing_of image s k) page (sym (page_stands image s k) ∙ sym there) in
    let so = settled_so end (met old s k) page older is in
    record {
      each = λ q n. set q n
          ∙ own s k q n (λ a b. Some (unwrap_or (met old a b) older)) (λ a b. counts_after end (met old a b) (standing_of image a b)) (met old q n)
          (ap (λ (b : Bool). Some b) so ∙ sym (ap (counts_after end (met old s k)) stood));
      now = counted ∙ so ∙ sym (ap (counts_now end (met old s k)) stood);
    }

pub meets_on : (told : Option DiskImage) (end s k : ℕ) (old new : Overlay) (before after : List Meeting) (counts : Bool) → ShowsSame told old new
    → ((base image : Image) → Shows base image new → Meets end s k image before after counts) → MeetsOn told end s k old new before after counts
meets_on None end s k old new before after counts same meets = tt
meets_on (Some m) end s k old new before after counts same meets = λ quiet image shows. let now = same quiet image shows in (now, meets (image_of m) image now)

-- What is settled of the pages once one of them is.

abbrev first_of : Option Bool → Option Bool → Option Bool
first_of None other = other
first_of (Some counts) other = Some counts

met_pushed : (ms : List Meeting) (m : Meeting) (q n : ℕ) → met (ms ++ m ∷ []) q n ≡ first_of (met ms q n) (cond ((m.space == q) && (m.number == n)) (Some m.counts) None)
met_pushed [] m q n = refl
met_pushed (x ∷ ms) m q n = ap (cond ((x.space == q) && (x.number == n)) (Some x.counts)) (met_pushed ms m q n) ∙ at ((x.space == q) && (x.number == n)) (met ms q n)
  where
    at : (b : Bool) (o : Option Bool) → cond b (Some x.counts) (first_of o (cond ((m.space == q) && (m.number == n)) (Some m.counts) None)) ≡ first_of (cond b (Some x.counts) o) (cond ((m.space == q) && (m.number == n)) (Some m.counts) None)
    at true o = refl
    at false o = refl

-- it is settled now
pub settled_now : (s k : ℕ) (old new : List Meeting) (older : Bool) → new ≡ old ++ record { space = s; number = k; counts = older } ∷ [] → (q n : ℕ) → met new q n ≡ cond ((s == q) && (k == n)) (Some (unwrap_or (met old q n) older)) (met old q n)
settled_now s k old new older is q n =
    ap (λ (ms : List Meeting). met ms q n) is ∙ met_pushed old (record { space = s; number = k; counts = older }) q n ∙ first ((s == q) && (k == n)) (met old q n)
  where
    first : (b : Bool) (o : Option Bool) → first_of o (cond b (Some older) None) ≡ cond b (Some (unwrap_or o older)) o
    first b (Some counts) = same_either b (Some counts)
    first b None = refl
