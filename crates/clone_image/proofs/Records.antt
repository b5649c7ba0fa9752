-- What records do to an image.
use Rattle.std.proofs.Common.{◌≡◌, ℕ, ◌⊎◌, inl, inr, refl, sym, subst}
use Rattle.clone_page.specs.declared.kind.PageKind.{PageKind}
use Rattle.clone_mtr.specs.declared.record.Record.{Record}
use Rattle.clone_mtr.specs.declared.record.Record.TheVariants.{Init, Write}
use Rattle.clone_mtr.specs.Effects.{effect}
use Rattle.clone_mtr.specs.Patches.{Patched}
use Rattle.clone_image.specs.Image.{Image, with_edit, edited, after_record}

-- an INIT and a WRITE edit the page that they name
pub edits_page : (lsn : ℕ) (image : Image) (r : Record) (space number : ℕ) → ((kind : PageKind) × (r ≡ Init space number kind)) ⊎ ((patch : Patched) × (r ≡ Write space number patch))
    → with_edit image space (edited number (effect lsn r)) ≡ after_record lsn image r
edits_page lsn image r space number is =
    let P : Record → Type 0 = λ x. with_edit image space (edited number (effect lsn x)) ≡ after_record lsn image x in
    elim is [ inl w ↦ subst P (sym w.1) refl | inr w ↦ subst P (sym w.1) refl ]
