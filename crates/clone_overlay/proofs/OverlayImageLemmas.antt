-- What an overlay shows once the cover of one space has changed.
use Rattle.std.proofs.Common.{◌≡◌, ◌==◌, ◌&&◌, ◌<◌, ◌≤◌, ℕ, List, refl, sym, ap, subst, ◌∙◌, Bool, true, false, cond, Some, None, IsSome, inl, inr}
use Rattle.std.specs.Prelude.{IfSome, option_map, option_and_then, slice_get}
use Rattle.std.specs.declared.option.Option.{Option}
use Rattle.std.specs.FinMap as finite
use Rattle.std.proofs.lemmas.Bool.Decides.{eqb_tells}
use Rattle.clone_page.specs.Bytes.{put_at}
use Rattle.clone_mtr.specs.Effects.{effect}
use Rattle.clone_mtr.specs.declared.record.Record.TheVariants.{Init, Write, Extend, Create, Drop}
use Rattle.clone_image.specs.Image.{Image, page_of, with_edit, edited, after_record}
use Rattle.clone_image.specs.Redone.{Standing, no_space, past_end, stands, made, stretched, standing_at, standing_in, standing_of}
use Rattle.clone_image.proofs.Standings.{edited_standing, after_record-standing, edited_is}
use Rattle.clone_overlay.specs.Covers.{Cover, Overlay, with_cover, with_leaf, stretched_to, unused}
use Rattle.clone_overlay.specs.Images.{pages_in}
use Rattle.clone_overlay.specs.Shown.{standing_over, Fits, Shows, IsReady}
use Rattle.clone_overlay.proofs.Entries.{get_set, get_taken, get_changed}
use Rattle.clone_overlay.proofs.CoverLemmas.{standing_held, standing_past, standing_edited, standing_stretched, standing_unused, fits_leaf, fits_stretched, fits_unused}

-- one space has another cover, and its pages stand accordingly
pub shows_by : (base image new : Image) (old next : Overlay) (s : ℕ) (o : Option Cover) (stand : ℕ → ℕ → Standing)
    → ((q : ℕ) → finite.get next q ≡ cond (s == q) o (finite.get old q))
    → ((q n : ℕ) → standing_of new q n ≡ cond (s == q) (stand q n) (standing_of image q n))
    → ((n : ℕ) → stand s n ≡ standing_over (pages_in base s) o n) → IfSome o (Fits (pages_in base s))
    → Shows base image old → Shows base new next
shows_by base image new old next s o stand has stood own fits shows = record {
  standings = λ q n. elim (eqb_tells s q) [
    | inl same ↦
        stood q n ∙ ap (λ (b : Bool). cond b (stand q n) (standing_of image q n)) same.0
        ∙ subst (λ (k : ℕ). stand k n ≡ standing_over (pages_in base k) o n) same.1 (own n)
        ∙ sym (ap (λ x. standing_over (pages_in base q) x n) (has q ∙ ap (λ (b : Bool). cond b o (finite.get old q)) same.0))
    | inr other ↦
        stood q n ∙ ap (λ (b : Bool). cond b (stand q n) (standing_of image q n)) other.0 ∙ shows.standings q n
        ∙ sym (ap (λ x. standing_over (pages_in base q) x n) (has q ∙ ap (λ (b : Bool). cond b o (finite.get old q)) other.0))
  ];
  fits = λ q. elim (eqb_tells s q) [
    | inl same ↦
        subst (λ x. IfSome x (Fits (pages_in base q))) (sym (has q ∙ ap (λ (b : Bool). cond b o (finite.get old q)) same.0))
        (subst (λ (k : ℕ). IfSome o (Fits (pages_in base k))) same.1 fits)
    | inr other ↦ subst (λ x. IfSome x (Fits (pages_in base q))) (sym (has q ∙ ap (λ (b : Bool). cond b o (finite.get old q)) other.0)) (shows.fits q)
  ];
}

both : (a b : Bool) (x y : Standing) → cond (a && b) x y ≡ cond a (cond b x y) y
both true b x y = refl
both false b x y = refl

mapped_fits : (base : List (List ℕ)) (change : Cover → Cover) (o : Option Cover) → ((cover : Cover) → Fits base cover → Fits base (change cover)) → IfSome o (Fits base) → IfSome (option_map change o) (Fits base)
mapped_fits base change None keeps fits = tt
mapped_fits base change (Some cover) keeps fits = keeps cover fits

-- a page is edited
pub shows_edited : (base image new : Image) (overlay : Overlay) (s k : ℕ) (edit : List ℕ → List ℕ)
    → ((q n : ℕ) → standing_of new q n ≡ cond ((s == q) && (k == n)) (edited_standing edit (standing_of image q n)) (standing_of image q n))
    → IsReady overlay s k → Shows base image overlay → Shows base new (with_cover overlay s (with_leaf k edit))
shows_edited base image new overlay s k edit stood ready shows =
    shows_by base image new overlay (with_cover overlay s (with_leaf k edit)) s (option_map (with_leaf k edit) (finite.get overlay s))
    (λ q n. cond (k == n) (edited_standing edit (standing_of image q n)) (standing_of image q n))
    (get_changed overlay s (with_leaf k edit))
    (λ q n. stood q n ∙ both (s == q) (k == n) (edited_standing edit (standing_of image q n)) (standing_of image q n))
    (λ n. ap (λ p. cond (k == n) (edited_standing edit p) p) (shows.standings s n) ∙ sym (standing_edited (pages_in base s) (finite.get overlay s) k n edit ready))
    (mapped_fits (pages_in base s) (with_leaf k edit) (finite.get overlay s) (λ cover fits. fits_leaf (pages_in base s) cover k edit fits) (shows.fits s))
    shows

pub shows_laid : (base image : Image) (overlay : Overlay) (s k at : ℕ) (piece : List ℕ) → IsReady overlay s k → Shows base image overlay
    → Shows base (with_edit image s (edited k (put_at at piece))) (with_cover overlay s (with_leaf k (put_at at piece)))
shows_laid base image overlay s k at piece ready shows =
    shows_edited base image (with_edit image s (edited k (put_at at piece))) overlay s k (put_at at piece) (λ q n. edited_is image s k q n (put_at at piece)) ready shows

pub shows_init : (base image : Image) (overlay : Overlay) (lsn s k : ℕ) (kind : _) → IsReady overlay s k → Shows base image overlay
    → Shows base (after_record lsn image (Init s k kind)) (with_cover overlay s (with_leaf k (effect lsn (Init s k kind))))
shows_init base image overlay lsn s k kind ready shows =
    shows_edited base image (after_record lsn image (Init s k kind)) overlay s k (effect lsn (Init s k kind)) (λ q n. after_record-standing lsn image (Init s k kind) q n) ready shows

pub shows_write : (base image : Image) (overlay : Overlay) (lsn s k : ℕ) (patch : _) → IsReady overlay s k → Shows base image overlay
    → Shows base (after_record lsn image (Write s k patch)) (with_cover overlay s (with_leaf k (effect lsn (Write s k patch))))
shows_write base image overlay lsn s k patch ready shows =
    shows_edited base image (after_record lsn image (Write s k patch)) overlay s k (effect lsn (Write s k patch)) (λ q n. after_record-standing lsn image (Write s k patch) q n) ready shows

pub shows_extended : (base image : Image) (overlay : Overlay) (lsn s count : ℕ) → Shows base image overlay → Shows base (after_record lsn image (Extend s count)) (with_cover overlay s (stretched_to count))
shows_extended base image overlay lsn s count shows =
    shows_by base image (after_record lsn image (Extend s count)) overlay (with_cover overlay s (stretched_to count)) s (option_map (stretched_to count) (finite.get overlay s))
    (λ q n. stretched n count (standing_of image q n))
    (get_changed overlay s (stretched_to count))
    (λ q n. after_record-standing lsn image (Extend s count) q n)
    (λ n. ap (stretched n count) (shows.standings s n) ∙ sym (standing_stretched (pages_in base s) (finite.get overlay s) count n (shows.fits s)))
    (mapped_fits (pages_in base s) (stretched_to count) (finite.get overlay s) (λ cover fits. fits_stretched (pages_in base s) cover count fits) (shows.fits s))
    shows

pub shows_created : (base image : Image) (overlay : Overlay) (lsn s count : ℕ) → Shows base image overlay → Shows base (after_record lsn image (Create s count)) (finite.insert overlay s (unused count))
shows_created base image overlay lsn s count shows =
    shows_by base image (after_record lsn image (Create s count)) overlay (finite.insert overlay s (unused count)) s (Some (unused count))
    (λ q n. made n count)
    (get_set overlay s (unused count))
    (λ q n. after_record-standing lsn image (Create s count) q n)
    (λ n. sym (standing_unused (pages_in base s) count n))
    (fits_unused (pages_in base s) count)
    shows

pub shows_dropped : (base image : Image) (overlay : Overlay) (lsn s : ℕ) → Shows base image overlay → Shows base (after_record lsn image (Drop s)) (finite.remove overlay s)
shows_dropped base image overlay lsn s shows =
    shows_by base image (after_record lsn image (Drop s)) overlay (finite.remove overlay s) s None (λ q n. no_space)
    (get_taken overlay s)
    (λ q n. after_record-standing lsn image (Drop s) q n)
    (λ n. refl)
    tt
    shows

-- The page of an image by how it stands.

abbrev pub page_standing : Standing → Option (List ℕ)
page_standing no_space = None
page_standing past_end = None
page_standing (stands page) = Some page

pub page_stands : (image : Image) (s n : ℕ) → page_of image s n ≡ page_standing (standing_of image s n)
page_stands image s n = at (finite.get image s)
  where
    found : (o : Option (List ℕ)) → o ≡ page_standing (standing_at o)
    found None = refl
    found (Some page) = refl

    at : (o : Option (List (List ℕ))) → option_and_then (λ ps. slice_get ps n) o ≡ page_standing (standing_in o n)
    at None = refl
    at (Some pages) = found (slice_get pages n)

-- where the page is ready, it is what is held
pub page_ready : (base image : Image) (overlay : Overlay) (s n : ℕ) (cover : Cover) → finite.get overlay s ≡ Some cover → n < cover.count → IsReady overlay s n → Shows base image overlay → finite.get cover.leaves n ≡ page_of image s n
page_ready base image overlay s n cover is lt ready shows = at (finite.get cover.leaves n) refl
  where
    at : (o : Option (List ℕ)) → finite.get cover.leaves n ≡ o → o ≡ page_of image s n
    at None free = absurd (let e = subst (λ (o : Option Cover). IfSome o (λ c. n < c.count → IsSome (finite.get c.leaves n))) is ready lt in let f : IsSome {T = List ℕ} None = subst (λ (o : Option (List ℕ)). IsSome o) free e in cc)
    at (Some page) held =
        sym (page_stands image s n ∙ ap page_standing (shows.standings s n ∙ ap (λ o. standing_over (pages_in base s) o n) is ∙ standing_held (pages_in base s) cover n page lt held))

pub page_past : (base image : Image) (overlay : Overlay) (s n : ℕ) (cover : Cover) → finite.get overlay s ≡ Some cover → cover.count ≤ n → Shows base image overlay → None ≡ page_of image s n
page_past base image overlay s n cover is past shows =
    sym (page_stands image s n ∙ ap page_standing (shows.standings s n ∙ ap (λ o. standing_over (pages_in base s) o n) is ∙ standing_past (pages_in base s) cover n past))

pub page_nowhere : (base image : Image) (overlay : Overlay) (s n : ℕ) → finite.get overlay s ≡ None → Shows base image overlay → None ≡ page_of image s n
page_nowhere base image overlay s n is shows = sym (page_stands image s n ∙ ap page_standing (shows.standings s n ∙ ap (λ o. standing_over (pages_in base s) o n) is))
