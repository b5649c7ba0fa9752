-- A record of a mini-transaction makes of each page what the rule of redo makes of it.
use Rattle.std.proofs.Common.{◌≡◌, ◌==◌, ◌&&◌, ◌⊎◌, ℕ, List, refl, sym, ap, subst, ◌∙◌, Bool, true, false, cond, Some, None, inl, inr}
use Rattle.std.specs.declared.option.Option.{Option}
use Rattle.std.proofs.lemmas.Bool.Decides.{eqb_tells}
use Rattle.clone_page.specs.declared.kind.PageKind.{PageKind}
use Rattle.clone_mtr.specs.Effects.{effect}
use Rattle.clone_mtr.specs.Patches.{Patched}
use Rattle.clone_mtr.specs.declared.record.Record.{Record}
use Rattle.clone_mtr.specs.declared.record.Record.TheVariants.{Init, Write, Extend, Create, Drop}
use Rattle.clone_mtr.specs.declared.reference.RecordRef.{RecordRef}
use Rattle.clone_mtr.specs.declared.reference.RecordRef.TheVariants as lent
use Rattle.clone_mtr.specs.References.{record_of}
use Rattle.clone_outside.specs.Disk.{DiskImage}
use Rattle.clone_image.specs.Image.{Image, after_record}
use Rattle.clone_image.specs.Redone.{Standing, no_space, past_end, stands, Redoing, settled, named_on, redone_by, standing_of, made, stretched}
use Rattle.clone_image.proofs.Standings.{edited_standing, after_standing, after_record-standing}
use Rattle.clone_overlay.specs.Covers.{Overlay}
use Rattle.clone_overlay.specs.Images.{image_of}
use Rattle.clone_overlay.specs.Shown.{Shows, IsReady, IsReadyFor}
use Rattle.clone_recover.specs.Meetings.{met, counts_now, counts_after, Meets}
use Rattle.clone_recover.specs.Redo.{redoing, MeetsOn, StepsOn}
use Rattle.clone_recover.specs.declared.redo.Meeting.{Meeting}

same : (c : Bool) (p : Standing) → cond c p p ≡ p
same true p = refl
same false p = refl

chosen : (c : Bool) (x y : List ℕ) → cond c (stands x) (stands y) ≡ stands (cond c x y)
chosen true x y = refl
chosen false x y = refl

own_standing : (end : ℕ) (r : Record) (o : Option Bool) (p : Standing) → cond (counts_now end o p) (edited_standing (effect end r) p) p ≡ (named_on end r o p).standing
own_standing end r o no_space = refl
own_standing end r o past_end = refl
own_standing end r o (stands page) = chosen (settled end o page) (effect end r page) page

own_counts : (end : ℕ) (r : Record) (o : Option Bool) (p : Standing) → counts_after end o p ≡ (named_on end r o p).counts
own_counts end r o no_space = refl
own_counts end r o past_end = refl
own_counts end r o (stands page) = refl

-- the page that the record names, or another
at_page : (end : ℕ) (r : Record) (b c : Bool) (o after : Option Bool) (p next : Standing) → next ≡ cond c (cond b (edited_standing (effect end r) p) p) p → after ≡ cond b (counts_after end o p) o → (b ≡ true → c ≡ counts_now end o p)
    → ◌≡◌ {A = Redoing} (record { standing = next; counts = after }) (cond b (named_on end r o p) (record { standing = p; counts = o }))
at_page end r true c o after p next stood counted now =
    λ i. record { standing = (stood ∙ ap (λ (x : Bool). cond x (edited_standing (effect end r) p) p) (now refl) ∙ own_standing end r o p) i; counts = (counted ∙ own_counts end r o p) i }
at_page end r false c o after p next stood counted now = λ i. record { standing = (stood ∙ same c p) i; counts = counted i }

-- where the record names the page, what is settled of its page is settled of this one
own_now : (end s k q n : ℕ) (image : Image) (old : List Meeting) (c : Bool) → c ≡ counts_now end (met old s k) (standing_of image s k) → ((s == q) && (k == n)) ≡ true → c ≡ counts_now end (met old q n) (standing_of image q n)
own_now end s k q n image old c now is = elim (eqb_tells s q) [
  | inr apart ↦ absurd (let e : false ≡ true = sym (ap (λ (b : Bool). b && (k == n)) apart.0) ∙ is in cc)
  | inl space ↦ elim (eqb_tells k n) [
    | inr other ↦ absurd (let e : false ≡ true = sym (ap (λ (b : Bool). b && (k == n)) space.0 ∙ other.0) ∙ is in cc)
    | inl number ↦ subst (λ (j : ℕ). c ≡ counts_now end (met old q j) (standing_of image q j)) number.1 (subst (λ (j : ℕ). c ≡ counts_now end (met old j k) (standing_of image j k)) space.1 now)
  ]
]

-- the image after a record that counts or doesn't
stepped : (end s k : ℕ) (r : Record) (image next : Image) (old new : List Meeting) (c : Bool) → Meets end s k image old new c
    → ((q n : ℕ) → standing_of next q n ≡ cond c (cond ((s == q) && (k == n)) (edited_standing (effect end r) (standing_of image q n)) (standing_of image q n)) (standing_of image q n))
    → (q n : ℕ) → redoing next new q n ≡ cond ((s == q) && (k == n)) (named_on end r (met old q n) (standing_of image q n)) (redoing image old q n)
stepped end s k r image next old new c meets stood q n =
    at_page end r ((s == q) && (k == n)) c (met old q n) (met new q n) (standing_of image q n) (standing_of next q n) (stood q n) (meets.each q n) (own_now end s k q n image old c meets.now)

abbrev pub NamesPage : ℕ → ℕ → Record → Type 0
NamesPage s k r = ((kind : PageKind) × (r ≡ Init s k kind)) ⊎ ((patch : Patched) × (r ≡ Write s k patch))

-- a record that names a page, as far as it counts
named_step : (end s k : ℕ) (r : Record) (image next : Image) (old new : List Meeting) (c : Bool) → NamesPage s k r → Meets end s k image old new c
    → ((q n : ℕ) → standing_of next q n ≡ cond c (after_standing end q n (standing_of image q n) r) (standing_of image q n))
    → (q n : ℕ) → redoing next new q n ≡ redone_by end q n (redoing image old q n) r
named_step end s k r image next old new c is meets stood =
    let P : Record → Type 0 = λ x. ((q n : ℕ) → standing_of next q n ≡ cond c (after_standing end q n (standing_of image q n) x) (standing_of image q n)) → (q n : ℕ) → redoing next new q n ≡ redone_by end q n (redoing image old q n) x in
    elim is [
      | inl w ↦ subst P (sym w.1) (λ now. stepped end s k (Init s k w.0) image next old new c meets now) stood
      | inr w ↦ subst P (sym w.1) (λ now. stepped end s k (Write s k w.0) image next old new c meets now) stood
    ]

pub steps_counted : (told : Option DiskImage) (end s k : ℕ) (old mid new : Overlay) (before after : List Meeting) (r : Record) → NamesPage s k r → MeetsOn told end s k old mid before after true
    → ((base image : Image) → Shows base image mid → Shows base (after_record end image r) new) → StepsOn told end old new before after r
steps_counted None end s k old mid new before after r is meets applied = tt
steps_counted (Some m) end s k old mid new before after r is meets applied = λ quiet image shows.
    let now = meets quiet image shows in
    record {
      next = after_record end image r;
      shows = applied (image_of m) image now.0;
      each = named_step end s k r image (after_record end image r) before after true is now.1 (λ q n. after_record-standing end image r q n);
    }

pub steps_passed : (told : Option DiskImage) (end s k : ℕ) (old new : Overlay) (before after : List Meeting) (r : Record) → NamesPage s k r → MeetsOn told end s k old new before after false → StepsOn told end old new before after r
steps_passed None end s k old new before after r is meets = tt
steps_passed (Some m) end s k old new before after r is meets = λ quiet image shows.
    let now = meets quiet image shows in
    record { next = image; shows = now.0; each = named_step end s k r image image before after false is now.1 (λ q n. refl) }

-- a record of a space
abbrev pub NamesSpace : Record → Type 0
NamesSpace (Init s k kind) = ⊥
NamesSpace (Write s k patch) = ⊥
NamesSpace (Extend s count) = Unit {0}
NamesSpace (Create s count) = Unit {0}
NamesSpace (Drop s) = Unit {0}

either : (b : Bool) (p q : Standing) (o : Option Bool) → ◌≡◌ {A = Redoing} (record { standing = cond b p q; counts = o }) (cond b (record { standing = p; counts = o }) (record { standing = q; counts = o }))
either true p q o = refl
either false p q o = refl

space_step : (end : ℕ) (r : Record) (q n : ℕ) (p : Redoing) → NamesSpace r → ◌≡◌ {A = Redoing} (record { standing = after_standing end q n p.standing r; counts = p.counts }) (redone_by end q n p r)
space_step end (Init s k kind) q n p names = absurd names
space_step end (Write s k patch) q n p names = absurd names
space_step end (Extend s count) q n p names = either (s == q) (stretched n count p.standing) p.standing p.counts
space_step end (Create s count) q n p names = either (s == q) (made n count) p.standing p.counts
space_step end (Drop s) q n p names = either (s == q) no_space p.standing p.counts

pub steps_space : (told : Option DiskImage) (end : ℕ) (old new : Overlay) (meetings : List Meeting) (r : Record) → NamesSpace r
    → ((base image : Image) → Shows base image old → Shows base (after_record end image r) new) → StepsOn told end old new meetings meetings r
steps_space None end old new meetings r names applied = tt
steps_space (Some m) end old new meetings r names applied = λ quiet image shows. record {
  next = after_record end image r;
  shows = applied (image_of m) image shows;
  each = λ q n. (λ i. record { standing = after_record-standing end image r q n i; counts = met meetings q n }) ∙ space_step end r q n (redoing image meetings q n) names;
}

-- the page that a record names is ready
pub ready_for : (overlay : Overlay) (s k : ℕ) (r : Record) → NamesPage s k r → IsReady overlay s k → IsReadyFor overlay r
ready_for overlay s k r is ready = elim is [ inl w ↦ subst (IsReadyFor overlay) (sym w.1) ready | inr w ↦ subst (IsReadyFor overlay) (sym w.1) ready ]

-- the page that a record names, by its kind
pub names_page : (entry : RecordRef) (s k : ℕ) → ((kind : PageKind) × (entry ≡ lent.Init s k kind)) ⊎ ((patch : Patched) × (entry ≡ lent.Write s k patch)) → NamesPage s k (record_of entry)
names_page entry s k is = elim is [ inl w ↦ inl (w.0, ap record_of w.1) | inr w ↦ inr (w.0, ap record_of w.1) ]

-- a record of a space, by its kind
pub names_space : (entry : RecordRef) → ((s : ℕ) × (count : ℕ) × (entry ≡ lent.Extend s count)) ⊎ (((s : ℕ) × (count : ℕ) × (entry ≡ lent.Create s count)) ⊎ ((s : ℕ) × (entry ≡ lent.Drop s))) → NamesSpace (record_of entry)
names_space entry (inl w) = subst NamesSpace (sym (ap record_of w.2)) tt
names_space entry (inr (inl w)) = subst NamesSpace (sym (ap record_of w.2)) tt
names_space entry (inr (inr w)) = subst NamesSpace (sym (ap record_of w.1)) tt

pub space_ready : (overlay : Overlay) (r : Record) → NamesSpace r → IsReadyFor overlay r
space_ready overlay (Init s k kind) names = absurd names
space_ready overlay (Write s k patch) names = absurd names
space_ready overlay (Extend s count) names = tt
space_ready overlay (Create s count) names = tt
space_ready overlay (Drop s) names = tt
