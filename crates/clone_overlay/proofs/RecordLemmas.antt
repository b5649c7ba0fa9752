-- A record is carried out on an overlay as on the image that it shows.
use Rattle.std.proofs.Common.{◌≡◌, ℕ, ◌⊎◌, inl, inr, sym, subst}
use Rattle.std.specs.FinMap as finite
use Rattle.clone_page.specs.declared.kind.PageKind.{PageKind}
use Rattle.clone_mtr.specs.declared.reference.RecordRef.{RecordRef}
use Rattle.clone_mtr.specs.declared.reference.RecordRef.TheVariants.{Init, Write, Extend, Create, Drop}
use Rattle.clone_mtr.specs.Effects.{effect}
use Rattle.clone_mtr.specs.Patches.{Patched}
use Rattle.clone_mtr.specs.References.{record_of}
use Rattle.clone_image.specs.Image.{Image, after_record}
use Rattle.clone_overlay.specs.Covers.{Overlay, with_cover, with_leaf, stretched_to, unused}
use Rattle.clone_overlay.specs.Shown.{Shows, IsReadyFor}
use Rattle.clone_overlay.proofs.OverlayImageLemmas.{shows_init, shows_write, shows_extended, shows_created, shows_dropped}

pub applied_change : (base image : Image) (old new : Overlay) (lsn s k : ℕ) (r : RecordRef) → ((kind : PageKind) × (r ≡ Init s k kind)) ⊎ ((patch : Patched) × (r ≡ Write s k patch))
    → new ≡ with_cover old s (with_leaf k (effect lsn (record_of r))) → IsReadyFor old (record_of r) → Shows base image old → Shows base (after_record lsn image (record_of r)) new
applied_change base image old new lsn s k r is made ready shows =
    let P : RecordRef → Type 0 = λ x. IsReadyFor old (record_of x) → Shows base (after_record lsn image (record_of x)) (with_cover old s (with_leaf k (effect lsn (record_of x)))) in
    subst (Shows base (after_record lsn image (record_of r))) (sym made)
    (elim is [
      | inl w ↦ subst P (sym w.1) (λ held. shows_init base image old lsn s k w.0 held shows) ready
      | inr w ↦ subst P (sym w.1) (λ held. shows_write base image old lsn s k w.0 held shows) ready
    ])

pub applied_extend : (base image : Image) (old new : Overlay) (lsn s count : ℕ) (r : RecordRef) → r ≡ Extend s count → new ≡ with_cover old s (stretched_to count) → Shows base image old → Shows base (after_record lsn image (record_of r)) new
applied_extend base image old new lsn s count r is made shows =
    subst (λ (x : RecordRef). Shows base (after_record lsn image (record_of x)) new) (sym is) (subst (Shows base (after_record lsn image (record_of (Extend s count)))) (sym made) (shows_extended base image old lsn s count shows))

pub applied_create : (base image : Image) (old new : Overlay) (lsn s count : ℕ) (r : RecordRef) → r ≡ Create s count → new ≡ finite.insert old s (unused count) → Shows base image old → Shows base (after_record lsn image (record_of r)) new
applied_create base image old new lsn s count r is made shows =
    subst (λ (x : RecordRef). Shows base (after_record lsn image (record_of x)) new) (sym is) (subst (Shows base (after_record lsn image (record_of (Create s count)))) (sym made) (shows_created base image old lsn s count shows))

pub applied_drop : (base image : Image) (old new : Overlay) (lsn s : ℕ) (r : RecordRef) → r ≡ Drop s → new ≡ finite.remove old s → Shows base image old → Shows base (after_record lsn image (record_of r)) new
applied_drop base image old new lsn s r is made shows =
    subst (λ (x : RecordRef). Shows base (after_record lsn image (record_of x)) new) (sym is) (subst (Shows base (after_record lsn image (record_of (Drop s)))) (sym made) (shows_dropped base image old lsn s shows))
